use Rattle.std.proofs.Common.{◌+◌, [], refl}
use Rattle.std.proofs.lemmas.Result.{err_from_is_err_and}
use Rattle.sm_io.proofs.Written.{no_text, next_line, stop_lines}
use Rattle.sm_io.proofs.outside.write_parts.Goals as goal

pub loop-part-init : goal.loop-part-init
loop-part-init g c = no_text

pub returns-in_err-write_all : goal.returns-in_err-write_all
returns-in_err-write_all g c =
    let p = err_from_is_err_and c.from_residual.result c.from_residual.ensures.1 in
    rw p.1 (stop_lines [] (λ part. part.now) c.args.parts.now (c.loop-part.part-index + 1)
    (next_line [] (λ part. part.now) _ _ _ (record { ref_ptr = (0, 0); now = [] }) c.loop-part.invariant c.in_err-write_all.ensures c.loop-part-test.true refl))

pub loop-part-preserved : goal.loop-part-preserved
loop-part-preserved g c =
    next_line [] (λ part. part.now) c.args.parts.now c.loop-part.part-index _ (record { ref_ptr = (0, 0); now = [] }) c.loop-part.invariant c.in_ok-write_all.ensures c.loop-part-test.true refl
