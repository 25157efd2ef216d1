use Rattle.std.proofs.Common.{refl}
use Rattle.stream_core.specs.Term.{choose, or, stream}
use Rattle.stream_lib.specs.Built.{tree_at}
use Rattle.stream_lib.proofs.AddedParts.{is_child}
use Rattle.stream_lib.proofs.PlacedTrees.{makes_over}
use Rattle.stream_lib.proofs.forms.since.Goals as goal

pub returns-clause-made : goal.returns-clause-made
returns-clause-made c =
    let h = c.in_ok-held.ensures.made in
    let e = h.is in
    let p = h.grows.trees c.args.p c.requires.p in
    let q = h.grows.trees c.args.q c.requires.q in
    makes_over _ _ _ _ _ _ _ (choose (tree_at c.args.spec.now c.args.p) (or (tree_at c.args.spec.now c.args.q) (stream c.args.b)) (tree_at c.args.spec.now c.args.q)) h c.in_ok-id.ensures.made (cc) (is_child _ _ 1 refl)
