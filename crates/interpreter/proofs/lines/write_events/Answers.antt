use Rattle.std.proofs.Common.{◌<◌, ◌+◌, ℕ, List, [], length, get_or, true, false, refl, sym, subst, arith}
use Rattle.std.proofs.lemmas.Option.{slice_get-get_or}
use Rattle.std.proofs.lemmas.Result.{err_from_is_err_and}
use Rattle.sm_io.specs.Written.{WritesText}
use Rattle.sm_io.proofs.Written.{next_line, stop_lines}
use Rattle.stream_core.specs.Eval.{Event, Who}
use Rattle.stream_core.specs.Term.{trees}
use Rattle.stream_core.specs.EventWords.{AreWordsOf}
use Rattle.stream_interp.specs.EventLog.{who_of}
use Rattle.interpreter.specs.Interpreted.{line_of_event}
use Rattle.interpreter.proofs.EventLines.{event_is}
use Rattle.interpreter.proofs.RootsStand.{at_place}
use Rattle.interpreter.proofs.lines.write_events.Goals as goal

pub write_event-requires-clause-words : goal.write_event-requires-clause-words
write_event-requires-clause-words g c =
    let s = c.args.spec.now in
    let events = c.args.events.now in
    let i = c.loop-i.i in
    let less : i < length events = omega (arith, c.loop-i-test.true, c.len.ensures) in
    let out : Event = record { who = who_of c.who.result; words = [] } in
    let there = slice_get-get_or events i out less in
    let e = get_or events i out in
    let w = at_place (λ (f : Event). AreWordsOf s f.who f.words) events c.requires.words i e there in
    subst (λ (q : Who). AreWordsOf s q c.words.result.now) (sym (c.who.ensures e there))
    (subst (λ (ws : List ℕ). AreWordsOf s e.who ws) (sym (c.words.ensures e there)) w)

pub returns-in_err-write_event : goal.returns-in_err-write_event
returns-in_err-write_event g c =
    let p = err_from_is_err_and c.from_residual.result c.from_residual.ensures.1 in
    let line = line_of_event (trees c.args.spec.now) c.args.step in
    let events = c.args.events.now in
    let i = c.loop-i.i in
    let less : i < length events = omega (arith, c.loop-i-test.true, c.len.ensures) in
    let out : Event = record { who = who_of c.who.result; words = [] } in
    let there = slice_get-get_or events i out less in
    let e = get_or events i out in
    let is = event_is e (who_of c.who.result) c.words.result.now (c.who.ensures e there) (c.words.ensures e there) in
    rw p.1 (stop_lines [] line events (i + 1)
    (next_line {whole = false} [] line events i e out c.loop-i.invariant.1
    (subst (λ (f : Event). WritesText (g.K.Sink.taken c.loop-i.out) (g.K.Sink.taken c.write_event.new.out) (g.K.Sink.faults c.loop-i.out) (g.K.Sink.faults c.write_event.new.out) false (line f)) is c.in_err-write_event.ensures) less refl))

pub loop-i-preserved : goal.loop-i-preserved
loop-i-preserved g c =
    let line = line_of_event (trees c.args.spec.now) c.args.step in
    let events = c.args.events.now in
    let i = c.loop-i.i in
    let less : i < length events = omega (arith, c.loop-i-test.true, c.len.ensures) in
    let out : Event = record { who = who_of c.who.result; words = [] } in
    let there = slice_get-get_or events i out less in
    let e = get_or events i out in
    let is = event_is e (who_of c.who.result) c.words.result.now (c.who.ensures e there) (c.words.ensures e there) in (
      omega (arith, less),
      next_line {whole = true} [] line events i e out c.loop-i.invariant.1
          (subst (λ (f : Event). WritesText (g.K.Sink.taken c.loop-i.out) (g.K.Sink.taken c.write_event.new.out) (g.K.Sink.faults c.loop-i.out) (g.K.Sink.faults c.write_event.new.out) true (line f)) is c.in_ok-write_event.ensures) less refl,
    )
