use Rattle.std.proofs.Common.{rules, ◌≡◌, Bool, true, false, refl, ap, ◌∙◌}
use Rattle.std.specs.Prelude.{if◌then◌else◌, not}
use Rattle.stream_types.specs.declared.scalar.Scalar.TheVariants as scalar
use Rattle.stream_core.specs.Term.{Term, lit}
use Rattle.stream_lib.specs.Built.{both, idle, tree_at}
use Rattle.stream_lib.proofs.AddedParts.{both_second}
use Rattle.stream_lib.proofs.PlacedTrees.{makes_as, makes_over}
use Rattle.stream_lib.proofs.forms.idle.Goals as goal

idle_is : (all : Bool) (p : Term) → both (not all) p (lit scalar.Bool (if all then 1 else 0)) ≡ idle all p
idle_is true p = refl
idle_is false p = refl

pub returns-clause-made : goal.returns-clause-made
returns-clause-made c =
    let P = tree_at c.args.spec.now c.args.p in
    let w : c.from.result ≡ (if c.args.all then 1 else 0) = search (rules) in
    let k = makes_as _ _ _ _ (lit scalar.Bool (if c.args.all then 1 else 0)) (ap (lit scalar.Bool) w) c.in_ok-constant.ensures.made in
    makes_as _ _ _ _ _ (idle_is c.args.all P)
    (makes_over _ _ _ _ _ _ _ (both (not c.args.all) P (lit scalar.Bool (if c.args.all then 1 else 0))) k c.in_ok-id.ensures.made
    (ap (λ x. both (not c.args.all) x (tree_at c.put.new.spec c.in_ok-constant.constant)) (k.grows.trees c.args.p c.requires) ∙ ap (both (not c.args.all) P) k.is)
    (both_second _ _ _))
