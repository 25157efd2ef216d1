use Rattle.std.proofs.Common.{◌≤◌, length, vec_len, ap, arith}
use Rattle.stream_interp.specs.declared.steps.Work.{Work}
use Rattle.stream_interp.specs.Buffers.{FitsSpec}
use Rattle.stream_interp.specs.EventLog.{LogValue}
use Rattle.stream_interp.specs.Room.{spec_room}
use Rattle.stream_interp.proofs.ReadyRoots.{spec_ready}
use Rattle.stream_interp.proofs.Stepping.{running_first, stands_first}
use Rattle.stream_interp.proofs.monitor.Monitor.start.Goals as goal

pub invariant_of-result : goal.invariant_of-result
invariant_of-result c =
    let s = c.spec-spec.result.now in
    let log = c.in_ok-new-2.field-0 in
    let rows = c.in_ok-from_elem.field-0 in
    let scratch = c.in_ok-from_elem-2.field-0 in
    let work : Work = record { log = log; rows = rows; scratch = scratch } in
    let words = ap (λ (v : LogValue). v.words) c.in_ok-new-2.ensures in
    let marks = ap (λ (v : LogValue). v.marks) c.in_ok-new-2.ensures in
    let enough : spec_room s ≤ vec_len scratch = omega (arith, c.in_ok-from_elem-2.ensures.len, scratch.ok.0, c.in_ok-room.ensures) in
    let fits : FitsSpec s work = record {
      words = omega (arith, words, c.in_ok-event_words.ensures);
      marks = omega (arith, marks, ap length c.triggers.ensures, ap length c.observers.ensures);
      rows = omega (arith, c.in_ok-from_elem.ensures.len, rows.ok.0, c.in_ok-row_words.ensures);
      scratch = spec_ready s c.spec-spec.ensures.plain (vec_len scratch) enough;
    } in
    running_first s c.spec-spec.ensures.plain c.in_ok-first_rings.field-0 c.in_ok-first_rings.ensures work c.in_ok-new.field-0 c.in_ok-new.ensures fits

pub returns : goal.returns
returns c =
    let s = c.spec-spec.result.now in
    let log = c.in_ok-new-2.field-0 in
    let rows = c.in_ok-from_elem.field-0 in
    let scratch = c.in_ok-from_elem-2.field-0 in
    let work : Work = record { log = log; rows = rows; scratch = scratch } in (
      c.spec-spec.ensures.spec,
      stands_first s c.spec-spec.ensures.plain c.in_ok-first_rings.field-0 c.in_ok-first_rings.ensures work,
      ap (λ (v : LogValue). v.events) c.in_ok-new-2.ensures,
    )
