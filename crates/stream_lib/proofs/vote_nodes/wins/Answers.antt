use Rattle.std.proofs.Common.{refl, ap, sym, ◌∙◌}
use Rattle.std.specs.Prelude.{◌/◌, Some}
use Rattle.std.proofs.lemmas.List.{length-map}
use Rattle.stream_types.specs.declared.scalar.Scalar.TheVariants as scalar
use Rattle.stream_types.specs.declared.scalar.Op2.TheVariants as op2
use Rattle.stream_core.specs.Term.{bin, lit}
use Rattle.stream_core.specs.Lower.{count_of, wins}
use Rattle.stream_lib.specs.Built.{tree_at, trees_at}
use Rattle.stream_lib.proofs.AddedParts.{adds_first, adds_more, is_child}
use Rattle.stream_lib.proofs.PlacedTrees.{grows_then, makes_after, makes_as}
use Rattle.stream_lib.proofs.vote_nodes.wins.Goals as goal

pub returns-clause-made : goal.returns-clause-made
returns-clause-made c =
    let k = c.in_ok-count.ensures.made in
    let h = c.in_ok-half.ensures.made in
    let m = c.in_ok-id.ensures.made in
    let len = length-map c.args.votes.now (tree_at c.args.spec.now) in
    let f = wins c.args.s (trees_at c.args.spec.now c.args.votes.now) (tree_at c.args.spec.now c.args.a) in
    let a1 = adds_first _ _ f _ _ k (is_child _ _ 0 refl) in
    let a2 = adds_more _ _ _ f _ _ a1 h (is_child _ _ 1 (ap (λ n. Some (lit scalar.Word8 (n / 2))) len)) in
    let same =
    ap (λ x. bin op2.Gt scalar.Word8 x (tree_at c.put.new.spec c.in_ok-half.half)) (h.grows.trees c.in_ok-count.count k.there ∙ k.is)
    ∙ ap (bin op2.Gt scalar.Word8 (count_of c.args.s (trees_at c.args.spec.now c.args.votes.now) (tree_at c.args.spec.now c.args.a))) (h.is ∙ ap (λ n. lit scalar.Word8 (n / 2)) (sym len)) in
    makes_after _ _ _ _ f (grows_then _ _ _ k.grows h.grows) a2 (makes_as _ _ _ _ f same m)
