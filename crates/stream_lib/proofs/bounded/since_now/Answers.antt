use Rattle.std.proofs.Common.{refl, arith}
use Rattle.stream_core.specs.Term.{and}
use Rattle.stream_core.specs.Lower.{no}
use Rattle.stream_lib.specs.Built.{tree_at}
use Rattle.stream_lib.proofs.AddedParts.{is_child}
use Rattle.stream_lib.proofs.PlacedTrees.{makes_as, makes_over}
use Rattle.stream_lib.proofs.Distances.{now_far}
use Rattle.stream_lib.proofs.bounded.since_now.Goals as goal

pub returns-clause-made : goal.returns-clause-made
returns-clause-made c =
    let n = c.in_ok-no.ensures.made in
    let p = n.is in
    let r = n.grows.trees c.args.q c.requires in
    makes_as _ _ _ _ _ (now_far c.args.low (tree_at c.args.spec.now c.args.q) (omega (arith, c.if-low-eq0.false)))
    (makes_over _ _ _ _ _ _ _ (and (tree_at c.args.spec.now c.args.q) no) n c.in_ok-id.ensures.made (cc) (is_child _ _ 1 refl))
