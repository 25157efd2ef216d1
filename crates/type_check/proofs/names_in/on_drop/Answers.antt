use Rattle.std.proofs.Common.{◌≡◌, true, false, nat_lt, sym, ap, ◌∙◌, arith}
use Rattle.std.proofs.lemmas.Bool.Decides.{nat_tests}
use Rattle.type_check.specs.declared.fault.TypeFault.TheVariants.{DropTooFar, DropOfNoBuffer}
use Rattle.type_check.specs.Judged.{has, lacks, if_so}
use Rattle.type_check.specs.Standing.{is_type, is_fault}
use Rattle.type_check.proofs.Reasons.{verdict_is, drop_kept, drop_unkept}
use Rattle.type_check.proofs.names_in.on_drop.Goals as goal

pub returns-then-k-n : goal.returns-then-k-n
returns-then-k-n c = λ names n t e m.
    let at = c.args.at in
    let b : nat_lt c.args.k c.in-Kept.n ≡ true = grind (arith, nat_tests) in
    verdict_is names (has t) _ _ (is_type m) (sym (drop_kept at c.args.k c.in-Kept.n n t (sym c.in-Kept.is ∙ e) ∙ ap (λ x. if_so x t (DropTooFar at)) b))

pub returns-else-k-n : goal.returns-else-k-n
returns-else-k-n c = λ names n t e m.
    let at = c.args.at in
    let b : nat_lt c.args.k c.in-Kept.n ≡ false = grind (arith, nat_tests) in
    verdict_is names (lacks (DropTooFar at)) _ _ is_fault (sym (drop_kept at c.args.k c.in-Kept.n n t (sym c.in-Kept.is ∙ e) ∙ ap (λ x. if_so x t (DropTooFar at)) b))

pub returns-in-Unkept : goal.returns-in-Unkept
returns-in-Unkept c = λ names n t e m.
    verdict_is names (lacks (DropOfNoBuffer c.args.at)) _ _ is_fault (sym (drop_unkept c.args.at c.args.k n t (sym c.in-Unkept.is ∙ e)))
