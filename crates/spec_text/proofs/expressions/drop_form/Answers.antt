use Rattle.std.proofs.Common.{◌≡◌, true, refl, arith}
use Rattle.std.specs.Prelude.{nat_le}
use Rattle.std.proofs.lemmas.Bool.Decides.{nat_tests}
use Rattle.spec_text.specs.Form.{expr_step, form_of_expr}
use Rattle.spec_text.specs.KeepsTable.{keeps_expr_step, keeps_expr}
use Rattle.spec_text.specs.FoldRows.{expr-Drop}
use Rattle.spec_text.proofs.expressions.drop_form.Goals as goal

pub returns : goal.returns
unfolding form_of_expr keeps_expr
returns c =
    let n = c.in_ok-k-2.ensures in
    let x = c.in_ok-name.ensures in
    let within : nat_le c.in_ok-k-2.k 4294967295 ≡ true = grind (arith, nat_tests, n.1.2) in
    rw (c.in_ok-k.ensures, expr-Drop expr_step, expr-Drop keeps_expr_step) (
      rw (n.0, x.0) refl,
      ((refl, refl, (n.1.0, (x.1.0, tt))), rw (within, x.1.1) refl),
    )
