use Rattle.std.proofs.Common.{List, refl, sym, ap, ◌∙◌, subst, false}
use Rattle.std.specs.Prelude.{is_ok}
use Rattle.sm_io.specs.Written.{WritesText}
use Rattle.c99_tree.specs.declared.types.CProto.{CProto}
use Rattle.c99_tree.specs.Step.{Called}
use Rattle.extern_rows.specs.declared.event.Piece.{Piece}
use Rattle.extern_rows.specs.Events.{Fits, event_text}
use Rattle.c_runner.proofs.CallLines.{call_line, got, picked, shape_at, within}
use Rattle.c_runner.proofs.lines.write_call.Goals as goal

pub bounds-as_slice-handler : goal.bounds-as_slice-handler
bounds-as_slice-handler g c =
    let k = c.requires.call in
    within c.args.unit.now.handlers c.as_slice.result.now c.args.handler k.handler c.as_slice.ensures k.is

pub bounds-shapes-handler : goal.bounds-shapes-handler
bounds-shapes-handler g c =
    let k = c.requires.call in
    within c.args.shapes.now c.args.shapes.now c.args.handler _ refl
    (shape_at c.args.unit.now c.args.shapes.now c.args.handler k.handler c.requires.shapes k.is)

pub event_line-requires : goal.event_line-requires
event_line-requires g c =
    let u = c.args.unit.now in
    let ws = c.args.words.now in
    let k = c.requires.call in
    let call : Called = record { handler = c.args.handler; words = ws } in
    let at = shape_at u c.args.shapes.now c.args.handler k.handler c.requires.shapes k.is in
    let shape = c.as_slice-2.ensures ∙ picked _ _ c.args.handler _ _ refl at c.index-shapes-handler.is in
    subst (λ (ps : List Piece). Fits ps ws) (sym shape) (call_line u c.requires.well_formed c.args.step call k).0

pub returns : goal.returns
returns g c =
    let u = c.args.unit.now in
    let ws = c.args.words.now in
    let n = c.args.step in
    let k = c.requires.call in
    let call : Called = record { handler = c.args.handler; words = ws } in
    let at = shape_at u c.args.shapes.now c.args.handler k.handler c.requires.shapes k.is in
    let shape = c.as_slice-2.ensures ∙ picked _ _ c.args.handler _ _ refl at c.index-shapes-handler.is in
    let handler = got u.handlers c.as_slice.result.now c.args.handler k.handler c.index-as_slice-handler.result c.as_slice.ensures k.is in
    let name = c.bytes-name.ensures.bytes ∙ ap (λ (h : CProto). h.name) handler in
    let line = (call_line u c.requires.well_formed n call k).1 in
    let taken = g.K.Sink.taken in
    let faults = g.K.Sink.faults in
    let before = c.args.out.now in
    let after = c.event_line.new.sink in
    subst (WritesText (taken before) (taken after) (faults before) (faults after) (is_ok c.event_line.result))
    ((λ j. event_text n false (name j) (shape j) ws) ∙ line) c.event_line.ensures
