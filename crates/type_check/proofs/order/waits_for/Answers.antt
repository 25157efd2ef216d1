use Rattle.std.proofs.Common.{◌≡◌, true, false, nat_le, sym, ap, ◌∙◌, arith}
use Rattle.std.specs.Prelude.{if◌then◌else◌, Some, None}
use Rattle.std.proofs.lemmas.Bool.Decides.{nat_tests}
use Rattle.type_check.specs.Standing.{waiting_for}
use Rattle.type_check.proofs.order.waits_for.Goals as goal

pub returns-in-Scalar : goal.returns-in-Scalar
returns-in-Scalar c = sym (ap (waiting_for c.args.closed) c.in-Scalar.is)

pub returns-then-closed-number : goal.returns-then-closed-number
returns-then-closed-number c =
    let i = c.in-Struct.number in
    let e : nat_le c.args.closed i ≡ true = grind (arith, nat_tests, c.if-closed-number.true) in
    sym (ap (waiting_for c.args.closed) c.in-Struct.is ∙ ap (λ b. if b then Some i else None) e)

pub returns-else-closed-number : goal.returns-else-closed-number
returns-else-closed-number c =
    let i = c.in-Struct.number in
    let e : nat_le c.args.closed i ≡ false = grind (arith, nat_tests, c.if-closed-number.false) in
    sym (ap (waiting_for c.args.closed) c.in-Struct.is ∙ ap (λ b. if b then Some i else None) e)
