use Rattle.std.proofs.Common.{◌<◌, ◌+◌, length, take, map, sym, subst, arith, List, ℕ}
use Rattle.stream_core.specs.Lower.{wins}
use Rattle.stream_lib.specs.Built.{MakesAll, trees_at}
use Rattle.stream_lib.proofs.Nested.{wins_more}
use Rattle.stream_lib.proofs.vote_nodes.all_wins.Goals as goal

pub loop-a-preserved : goal.loop-a-preserved
loop-a-preserved c =
    let s = c.args.spec.now in
    let votes = c.args.votes.now in
    let l = c.loop-a.invariant in
    let m = c.in_ok-wins.ensures.made in
    let within : c.loop-a.a-index < length votes = omega (arith, c.loop-a-test.true) in
    record {
      made = subst
          (λ (is : List ℕ). MakesAll s c.wins.new.spec is (map (wins c.args.s (trees_at s votes)) (trees_at s (take (c.loop-a.a-index + 1) votes))))
          (sym c.in_ok-push.ensures.items)
          (wins_more c.args.s _ _ _ votes _ _ c.loop-a.a-index _ c.requires within c.a-item.is l.made m);
      size = let a = l.size in let b = m.grows.size in omega (arith, a, b);
    }
