use Rattle.std.proofs.Common.{◌≡◌, ◌+◌, ◌-◌, ◌<◌, ◌≤◌, ◌∙◌, ap, arith}
use Rattle.stream_core.specs.Lower.{since_from}
use Rattle.stream_lib.specs.Built.{since_step}
use Rattle.stream_lib.proofs.PlacedTrees.{grows_then, makes_by}
use Rattle.stream_lib.proofs.AddedParts.{adds_over}
use Rattle.stream_lib.proofs.Distances.{since_back, step_part}
use Rattle.stream_lib.proofs.bounded.since_from.Goals as goal

pub loop-more-preserved : goal.loop-more-preserved
loop-more-preserved c =
    let l = c.loop-more.invariant in
    let m = c.in_ok-rest-2.ensures.made in
    let i = c.loop-more.more in
    let some : 0 < i = omega (arith, c.loop-more-test.true) in
    let most : i ≤ c.args.n = c.loop-more.auto.more in
    record {
      grows = grows_then _ _ _ l.grows m.grows;
      size = let a = l.size in let b = m.grows.size in omega (arith, a, b);
      rest_there = m.there;
      same = m.is
          ∙ ap (since_step c.args.low c.args.p c.args.q c.args.m (1 + (i - 1))) l.same
          ∙ since_back c.args.low c.args.p c.args.q c.args.m c.args.n i some most;
      adds = adds_over _ _ _ _ _ _ l.adds m (step_part c.args.low c.args.p c.args.q c.args.m (1 + (i - 1)) _);
    }

pub returns-clause-made : goal.returns-clause-made
returns-clause-made c =
    let l = c.loop-more.invariant in
    let z : c.loop-more.more ≡ 0 = omega (arith, c.loop-more-test.false) in
    let y : c.args.n - 0 ≡ c.args.n = omega arith in
    makes_by c.args.spec.now c.loop-more.spec c.loop-more.rest (since_from c.args.low c.args.p c.args.q c.args.m 1 c.args.n) l.grows l.rest_there
    (l.same
    ∙ ap (λ k. since_from c.args.low c.args.p c.args.q c.args.m (1 + k) (c.args.n - k)) z
    ∙ ap (λ k. since_from c.args.low c.args.p c.args.q c.args.m 1 k) y)
    l.adds
