use Rattle.std.proofs.Common.{◌<◌, ◌-◌, drop, take, length, refl, arith}
use Rattle.stream_lib.specs.Built.{AreThere}
use Rattle.stream_lib.proofs.AddedParts.{adds_over, is_child}
use Rattle.stream_lib.proofs.PlacedTrees.{grows_then}
use Rattle.stream_lib.proofs.Nested.{count_more, rest_length, rest_there}
use Rattle.stream_lib.proofs.vote_nodes.count_of.Goals as goal

pub loop-b-preserved : goal.loop-b-preserved
loop-b-preserved c =
    let l = c.loop-b.invariant in
    let s = c.args.spec.now in
    let m = c.in_ok-sum-2.ensures.made in
    let votes = c.args.votes.now in
    let others = take (length votes - 1) (drop 1 votes) in
    let within : c.loop-b.b-index < length others = let r = rest_length votes in omega (arith, c.loop-b-test.true, r) in
    let there : AreThere s others = rest_there s (length votes - 1) votes c.requires.votes in
    record {
      grows = grows_then _ _ _ l.grows m.grows;
      size = let a = l.size in let b = m.grows.size in omega (arith, a, b);
      sum_there = m.there;
      same = count_more c.args.s s _ _ votes others c.args.a _ _ c.loop-b.b-index _ l.grows there c.requires.a within c.b-item.is l.same m;
      adds = adds_over _ _ _ _ _ _ l.adds m (is_child _ _ 0 refl);
    }
