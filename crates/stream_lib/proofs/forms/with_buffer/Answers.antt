use Rattle.std.proofs.Common.{ap, ◌∙◌}
use Rattle.stream_core.specs.Term.{stream}
use Rattle.stream_lib.specs.Built.{both, tree_at}
use Rattle.stream_lib.proofs.AddedParts.{both_second}
use Rattle.stream_lib.proofs.PlacedTrees.{makes_over}
use Rattle.stream_lib.proofs.forms.with_buffer.Goals as goal

pub returns-clause-made : goal.returns-clause-made
returns-clause-made c =
    let b = c.in_ok-buffer.ensures.made in
    makes_over _ _ _ _ _ _ _ (both c.args.all (tree_at c.args.spec.now c.args.p) (stream c.args.b)) b c.in_ok-id.ensures.made
    (ap (λ x. both c.args.all x (tree_at c.put.new.spec c.in_ok-buffer.buffer)) (b.grows.trees c.args.p c.requires) ∙ ap (both c.args.all (tree_at c.args.spec.now c.args.p)) b.is)
    (both_second _ _ _)
