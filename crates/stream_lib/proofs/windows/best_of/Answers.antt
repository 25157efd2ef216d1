use Rattle.std.proofs.Common.{refl, ◌≡◌, ◌-◌, ◌<◌, length, ap, ◌∙◌, arith}
use Rattle.std.specs.Prelude.{slice_index_or}
use Rattle.stream_core.specs.Lower.{best}
use Rattle.stream_lib.specs.Built.{tree_at}
use Rattle.stream_core.specs.Term.{bin}
use Rattle.stream_lib.proofs.PlacedTrees.{grows_then, makes_by}
use Rattle.stream_lib.proofs.AddedParts.{adds_over, is_child}
use Rattle.stream_lib.proofs.WindowSamples.{best_makes}
use Rattle.stream_lib.proofs.windows.best_of.Goals as goal

pub loop-i-preserved : goal.loop-i-preserved
loop-i-preserved c =
    let l = c.loop-i.invariant in
    let m = c.in_ok-rest.ensures.made in
    let some : 0 < c.loop-i.i = omega (arith, c.loop-i-test.true) in
    record {
      grows = grows_then _ _ _ l.grows m.grows;
      size = let a = l.size in let b = m.grows.size in omega (arith, a, b);
      rest_there = m.there;
      same = best_makes (bin c.args.op c.args.s) c.args.spec.now c.loop-i.spec c.better.new.spec c.args.samples.now c.args.last c.loop-i.i c.loop-i.rest c.in_ok-rest.rest l.grows c.requires.there c.requires.last some c.loop-i.auto.i l.same m;
      adds = adds_over _ _ _ _ _ _ l.adds m (is_child _ _ 2 refl);
    }

pub returns-clause-made : goal.returns-clause-made
returns-clause-made c =
    let l = c.loop-i.invariant in
    let samples = c.args.samples.now in
    let z : c.loop-i.i ≡ 0 = omega (arith, c.loop-i-test.false) in
    let y : c.args.last - 0 ≡ c.args.last = omega arith in
    makes_by c.args.spec.now c.loop-i.spec c.loop-i.rest (best (bin c.args.op c.args.s) (λ k. tree_at c.args.spec.now (slice_index_or samples k 0)) (length samples) 0 c.args.last) l.grows l.rest_there
    (l.same
    ∙ ap (λ j. best (bin c.args.op c.args.s) (λ k. tree_at c.args.spec.now (slice_index_or samples k 0)) (length samples) j (c.args.last - j)) z
    ∙ ap (best (bin c.args.op c.args.s) (λ k. tree_at c.args.spec.now (slice_index_or samples k 0)) (length samples) 0) y)
    l.adds
