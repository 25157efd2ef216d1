use Rattle.std.proofs.Common.{◌<◌, ◌+◌, [], length, true, false, refl, sym, subst, arith}
use Rattle.std.proofs.lemmas.Result.{err_from_is_err_and}
use Rattle.sm_io.specs.Written.{WritesText}
use Rattle.sm_io.proofs.Written.{next_line, stop_lines}
use Rattle.c99_tree.specs.Step.{Called}
use Rattle.c99_tree.specs.Typed.{IsCallOf}
use Rattle.c_exec.specs.Called.{call_at}
use Rattle.c_runner.specs.Executed.{line_of_call}
use Rattle.c_runner.proofs.CallLines.{call_is}
use Rattle.c_runner.proofs.lines.write_calls.Goals as goal

pub write_call-requires-clause-call : goal.write_call-requires-clause-call
write_call-requires-clause-call g c =
    let calls = c.args.calls.now in
    let i = c.loop-i.i in
    let less : i < length calls = omega (arith, c.loop-i-test.true, c.len.ensures) in
    let e = call_at calls i in
    let is = call_is e c.handler.result c.words.result.now c.handler.ensures c.words.ensures in
    subst (IsCallOf c.args.unit.now) (sym is) (c.requires.calls i (record { handler = 0; words = [] }) less)

pub returns-in_err-write_call : goal.returns-in_err-write_call
returns-in_err-write_call g c =
    let p = err_from_is_err_and c.from_residual.result c.from_residual.ensures.1 in
    let taken = g.K.Sink.taken in
    let faults = g.K.Sink.faults in
    let before = c.loop-i.out in
    let after = c.write_call.new.out in
    let line = line_of_call c.args.unit.now c.args.step in
    let calls = c.args.calls.now in
    let i = c.loop-i.i in
    let less : i < length calls = omega (arith, c.loop-i-test.true, c.len.ensures) in
    let out : Called = record { handler = 0; words = [] } in
    let e = call_at calls i in
    let is = call_is e c.handler.result c.words.result.now c.handler.ensures c.words.ensures in
    rw p.1 (stop_lines [] line calls (i + 1)
    (next_line {whole = false} [] line calls i e out c.loop-i.invariant.1
    (subst (λ (f : Called). WritesText (taken before) (taken after) (faults before) (faults after) false (line f)) is c.in_err-write_call.ensures) less refl))

pub loop-i-preserved : goal.loop-i-preserved
loop-i-preserved g c =
    let taken = g.K.Sink.taken in
    let faults = g.K.Sink.faults in
    let before = c.loop-i.out in
    let after = c.write_call.new.out in
    let line = line_of_call c.args.unit.now c.args.step in
    let calls = c.args.calls.now in
    let i = c.loop-i.i in
    let less : i < length calls = omega (arith, c.loop-i-test.true, c.len.ensures) in
    let out : Called = record { handler = 0; words = [] } in
    let e = call_at calls i in
    let is = call_is e c.handler.result c.words.result.now c.handler.ensures c.words.ensures in (
      omega (arith, less),
      next_line {whole = true} [] line calls i e out c.loop-i.invariant.1
          (subst (λ (f : Called). WritesText (taken before) (taken after) (faults before) (faults after) true (line f))
          is c.in_ok-write_call.ensures) less refl,
    )
