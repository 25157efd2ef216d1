use Rattle.std.proofs.Common.{◌≡◌, List, true, false, sym, ap, ◌∙◌, subst}
use Rattle.std.specs.Prelude.{is_ok}
use Rattle.sm_io.specs.Written.{WritesText}
use Rattle.stream_core.specs.Eval.{trigger, observer}
use Rattle.stream_core.specs.declared.spec.TriggerItem.{TriggerItem}
use Rattle.stream_core.specs.declared.spec.ObserverItem.{ObserverItem}
use Rattle.stream_interp.specs.declared.events.Who.{Who}
use Rattle.stream_core.specs.Term.{trees}
use Rattle.stream_core.specs.EventWords.{AreWordsOf}
use Rattle.extern_rows.specs.declared.event.Piece.{Piece}
use Rattle.extern_rows.specs.Events.{Fits, event_text}
use Rattle.stream_interp.specs.EventLog.{who_of}
use Rattle.interpreter.specs.Interpreted.{line_of_event}
use Rattle.interpreter.proofs.EventLines.{got, observer_line, observer_shape_at, picked, trigger_line, trigger_shape_at, within}
use Rattle.interpreter.proofs.lines.write_event.Goals as goal

pub event_line-requires : goal.event_line-requires
event_line-requires g c =
    let s = c.args.spec.now in
    let ws = c.args.words.now in
    let w = subst (λ q. AreWordsOf s (who_of q) ws) c.in-Trigger.is c.requires.words in
    let shape = c.as_slice-shape.ensures ∙ picked _ _ c.in-Trigger.i _ _ c.as_slice.ensures (trigger_shape_at s _ c.in-Trigger.i w.0 (c.shapes.view_is ∙ c.requires.shapes) w.1) c.index-as_slice-i.is in
    subst (λ (ps : List Piece). Fits ps ws) (sym shape) (trigger_line s c.args.step c.in-Trigger.i ws w.0 w.1 w.2).0

pub bounds-observers-i : goal.bounds-observers-i
bounds-observers-i g c =
    let s = c.args.spec.now in
    let w = subst (λ q. AreWordsOf s (who_of q) c.args.words.now) c.in-Observer.is c.requires.words in
    within s.observers c.observers.result.now c.in-Observer.i w.0 c.observers.ensures w.1

pub bounds-as_slice-i-in-Observer : goal.bounds-as_slice-i-in-Observer
bounds-as_slice-i-in-Observer g c =
    let s = c.args.spec.now in
    let w = subst (λ q. AreWordsOf s (who_of q) c.args.words.now) c.in-Observer.is c.requires.words in
    within c.shapes.inside.observers c.as_slice-in-Observer.result.now c.in-Observer.i _ c.as_slice-in-Observer.ensures
    (observer_shape_at s _ c.in-Observer.i w.0 (c.shapes.view_is ∙ c.requires.shapes) w.1)

pub event_line-requires-in-Observer : goal.event_line-requires-in-Observer
event_line-requires-in-Observer g c =
    let s = c.args.spec.now in
    let ws = c.args.words.now in
    let w = subst (λ q. AreWordsOf s (who_of q) ws) c.in-Observer.is c.requires.words in
    let shape = c.as_slice-shape-in-Observer.ensures ∙ picked _ _ c.in-Observer.i _ _ c.as_slice-in-Observer.ensures (observer_shape_at s _ c.in-Observer.i w.0 (c.shapes.view_is ∙ c.requires.shapes) w.1) c.index-as_slice-i-in-Observer.is in
    subst (λ (ps : List Piece). Fits ps ws) (sym shape) (observer_line s c.args.step c.in-Observer.i ws w.0 w.1 w.2).0

pub returns-in-Trigger : goal.returns-in-Trigger
returns-in-Trigger g c =
    let s = c.args.spec.now in
    let i = c.in-Trigger.i in
    let ws = c.args.words.now in
    let n = c.args.step in
    let w = subst (λ q. AreWordsOf s (who_of q) ws) c.in-Trigger.is c.requires.words in
    let shape = c.as_slice-shape.ensures ∙ picked _ _ i _ _ c.as_slice.ensures (trigger_shape_at s _ i w.0 (c.shapes.view_is ∙ c.requires.shapes) w.1) c.index-as_slice-i.is in
    let name = c.bytes-name.ensures.bytes ∙ ap (λ (x : TriggerItem). x.name) (got s.triggers c.triggers.result.now i w.0 c.index-triggers-i.result c.triggers.ensures w.1) in
    let line = (trigger_line s n i ws w.0 w.1 w.2).1 in
    let who : line_of_event (trees s) n (record { who = who_of c.args.who; words = ws }) ≡ line_of_event (trees s) n (record { who = trigger i; words = ws }) =
    ap (λ (q : Who). line_of_event (trees s) n (record { who = who_of q; words = ws })) c.in-Trigger.is in
    subst (WritesText (g.K.Sink.taken c.args.out.now) (g.K.Sink.taken c.event_line.new.sink) (g.K.Sink.faults c.args.out.now) (g.K.Sink.faults c.event_line.new.sink) (is_ok c.event_line.result))
    ((λ j. event_text n false (name j) (shape j) ws) ∙ line ∙ sym who) c.event_line.ensures

pub returns-in-Observer : goal.returns-in-Observer
returns-in-Observer g c =
    let s = c.args.spec.now in
    let i = c.in-Observer.i in
    let ws = c.args.words.now in
    let n = c.args.step in
    let w = subst (λ q. AreWordsOf s (who_of q) ws) c.in-Observer.is c.requires.words in
    let shape = c.as_slice-shape-in-Observer.ensures ∙ picked _ _ i _ _ c.as_slice-in-Observer.ensures (observer_shape_at s _ i w.0 (c.shapes.view_is ∙ c.requires.shapes) w.1) c.index-as_slice-i-in-Observer.is in
    let name = c.bytes-name-in-Observer.ensures.bytes ∙ ap (λ (x : ObserverItem). x.name) (got s.observers c.observers.result.now i w.0 c.index-observers-i.result c.observers.ensures w.1) in
    let line = (observer_line s n i ws w.0 w.1 w.2).1 in
    let who : line_of_event (trees s) n (record { who = who_of c.args.who; words = ws }) ≡ line_of_event (trees s) n (record { who = observer i; words = ws }) =
    ap (λ (q : Who). line_of_event (trees s) n (record { who = who_of q; words = ws })) c.in-Observer.is in
    subst (WritesText (g.K.Sink.taken c.args.out.now) (g.K.Sink.taken c.event_line-in-Observer.new.sink) (g.K.Sink.faults c.args.out.now) (g.K.Sink.faults c.event_line-in-Observer.new.sink) (is_ok c.event_line-in-Observer.result))
    ((λ j. event_text n true (name j) (shape j) ws) ∙ line ∙ sym who) c.event_line-in-Observer.ensures
