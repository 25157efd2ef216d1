use Rattle.std.proofs.lemmas.Result.{err_from_is_err_and}
use Rattle.c99_read.proofs.Behind.{behind_both, behind_fail}
use Rattle.c99_read.proofs.front.behind_two.Goals as goal

pub returns-in_err-rest : goal.returns-in_err-rest
returns-in_err-rest c =
    let failed = behind_fail c.in_err-rest.field-0.0 c.args.a.now c.args.b.now c.args.bytes.now c.in_err-rest.ensures in
    let p = err_from_is_err_and c.from_residual.result c.from_residual.ensures.1 in
    rw p.1 (rw p.2 failed)

pub returns : goal.returns
returns c = rw (behind_both c.args.a.now c.args.b.now c.args.bytes.now c.in_ok-rest.rest.now c.in_ok-rest.ensures) c.behind-2.ensures
