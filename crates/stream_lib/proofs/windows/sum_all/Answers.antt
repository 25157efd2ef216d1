use Rattle.std.proofs.Common.{refl, ◌≡◌, ◌+◌, ◌∙◌, ap, arith}
use Rattle.stream_types.specs.declared.scalar.Op2.TheVariants as op2
use Rattle.stream_core.specs.Term.{bin}
use Rattle.stream_core.specs.Lower.{ago, agos, sum_all}
use Rattle.stream_lib.specs.Built.{tree_at}
use Rattle.stream_lib.proofs.PlacedTrees.{grows_then, makes_by}
use Rattle.stream_lib.proofs.AddedParts.{adds_over, is_child}
use Rattle.stream_lib.proofs.Distances.{sum_more}
use Rattle.stream_lib.proofs.windows.sum_all.Goals as goal

pub loop-i-preserved : goal.loop-i-preserved
loop-i-preserved c =
    let l = c.loop-i.invariant in
    let m = c.in_ok-sum.ensures.made in
    record {
      grows = grows_then _ _ _ l.grows m.grows;
      size = let a = l.size in let b = m.grows.size in omega (arith, a, b);
      sum_there = m.there;
      same = m.is
          ∙ ap (λ x. bin op2.Add c.args.s x (ago c.args.b c.args.m (1 + c.loop-i.i))) l.same
          ∙ sum_more c.args.s (tree_at c.args.spec.now c.args.first) c.args.b c.args.m 1 c.loop-i.i;
      adds = adds_over _ _ _ _ _ _ l.adds m (is_child _ _ 0 refl);
    }

pub returns-clause-made : goal.returns-clause-made
returns-clause-made c =
    let l = c.loop-i.invariant in
    let first = tree_at c.args.spec.now c.args.first in
    let z : c.loop-i.i ≡ c.args.n = omega (arith, c.loop-i-test.false, c.loop-i.auto.i-end) in
    makes_by c.args.spec.now c.loop-i.spec c.loop-i.sum (sum_all c.args.s first (agos c.args.b c.args.m 1 c.args.n)) l.grows l.sum_there
    (l.same ∙ ap (λ k. sum_all c.args.s first (agos c.args.b c.args.m 1 k)) z)
    l.adds
