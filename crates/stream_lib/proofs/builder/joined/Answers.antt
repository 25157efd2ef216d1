use Rattle.std.proofs.Common.{◌≡◌, ◌<◌, drop, ap, ◌∙◌, arith}
use Rattle.stream_lib.specs.Built.{joined, trees_at}
use Rattle.stream_lib.proofs.AddedParts.{adds_over, both_second}
use Rattle.stream_lib.proofs.PlacedTrees.{grows_then, makes_by}
use Rattle.stream_lib.proofs.Nested.{joined_back}
use Rattle.stream_lib.proofs.builder.joined.Goals as goal

pub loop-i-preserved : goal.loop-i-preserved
loop-i-preserved c =
    let l = c.loop-i.invariant in
    let m = c.in_ok-rest.ensures.made in
    let more : 0 < c.loop-i.i = omega (arith, c.loop-i-test.true) in
    record {
      grows = grows_then _ _ _ l.grows m.grows;
      size = let a = l.size in let b = m.grows.size in omega (arith, a, b);
      rest_there = m.there;
      within = let w = l.within in omega (arith, w);
      same = joined_back c.args.all _ _ _ c.args.ids.now _ _ c.loop-i.i _ l.grows c.requires more l.within c.index-ids-i.is l.same m;
      adds = adds_over _ _ _ _ _ _ l.adds m (both_second _ _ _);
    }

pub returns-clause-made : goal.returns-clause-made
returns-clause-made c =
    let l = c.loop-i.invariant in
    let z : c.loop-i.i ≡ 0 = omega (arith, c.loop-i-test.false) in
    makes_by c.args.spec.now c.loop-i.spec c.loop-i.rest (joined c.args.all (trees_at c.args.spec.now c.args.ids.now)) l.grows l.rest_there
    (l.same ∙ ap (λ k. joined c.args.all (trees_at c.args.spec.now (drop k c.args.ids.now))) z)
    l.adds
