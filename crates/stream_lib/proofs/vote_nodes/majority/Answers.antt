use Rattle.std.proofs.Common.{refl, ◌≡◌, ◌<◌, drop, get_or, ap, ◌∙◌, arith}
use Rattle.stream_core.specs.Lower.{majority_from, majority_term}
use Rattle.stream_lib.specs.Built.{tree_at, trees_at}
use Rattle.stream_lib.proofs.AddedParts.{adds_over, is_child}
use Rattle.stream_lib.proofs.PlacedTrees.{grows_then, makes_by}
use Rattle.stream_lib.proofs.Nested.{majority_back, majority_whole}
use Rattle.stream_lib.proofs.vote_nodes.majority.Goals as goal

pub loop-i-preserved : goal.loop-i-preserved
loop-i-preserved c =
    let l = c.loop-i.invariant in
    let m = c.in_ok-rest.ensures.made in
    let more : 0 < c.loop-i.i = omega (arith, c.loop-i-test.true) in
    record {
      grows = grows_then _ _ _ l.grows m.grows;
      size = let a = l.size in let b = m.grows.size in omega (arith, a, b);
      rest_there = m.there;
      within = let w = l.within in omega (arith, w);
      same = majority_back c.args.s _ _ _ c.args.votes.now _ _ _ c.loop-i.i _ l.grows c.requires more l.within c.index-votes-i.is l.same m;
      adds = adds_over _ _ _ _ _ _ l.adds m (is_child _ _ 2 refl);
    }

pub returns-clause-made : goal.returns-clause-made
returns-clause-made c =
    let l = c.loop-i.invariant in
    let s = c.args.spec.now in
    let votes = c.args.votes.now in
    let z : c.loop-i.i ≡ 0 = omega (arith, c.loop-i-test.false) in
    makes_by s c.loop-i.spec c.loop-i.rest (majority_term c.args.s (trees_at s votes)) l.grows l.rest_there
    (l.same ∙ ap (λ k. majority_from c.args.s (trees_at s votes) (tree_at s (get_or votes 0 0)) (trees_at s (drop k votes))) z ∙ majority_whole c.args.s s votes c.in-len1-up.len_at_least)
    l.adds
