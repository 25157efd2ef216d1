use Rattle.std.proofs.Common.{◌+◌, ◌++◌, ◌∷◌, [], List, ℕ, sym, subst, arith}
use Rattle.stream_core.specs.Term.{Term}
use Rattle.stream_core.specs.Lower.{agos}
use Rattle.stream_lib.specs.Built.{MakesAll, tree_at}
use Rattle.stream_lib.proofs.PlacedTrees.{makes_more}
use Rattle.stream_lib.proofs.Distances.{agos_more}
use Rattle.stream_lib.proofs.windows.window.Goals as goal

pub loop-i-preserved : goal.loop-i-preserved
loop-i-preserved c =
    let s = c.args.spec.now in
    let l = c.loop-i.invariant in
    let i = c.loop-i.i in
    let m = c.in_ok-ago.ensures.made in
    let first = tree_at s c.args.first in
    record {
      made = subst
          (λ (is : List ℕ). MakesAll s c.ago.new.spec is (first ∷ agos c.args.b c.args.m c.args.from (i + 1)))
          (sym c.in_ok-push-2.ensures.items)
          (subst (λ (es : List Term). MakesAll s c.ago.new.spec (c.loop-i.ids.items ++ c.in_ok-ago.field-0 ∷ []) (first ∷ es)) (agos_more c.args.b c.args.m c.args.from i) (makes_more _ _ _ _ _ _ _ l.made m));
      size = let a = l.size in let b = m.grows.size in omega (arith, a, b);
    }
