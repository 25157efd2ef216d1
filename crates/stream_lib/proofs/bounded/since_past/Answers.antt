use Rattle.std.proofs.Common.{◌+◌, ◌-◌, refl}
use Rattle.stream_core.specs.Term.{choose, or}
use Rattle.stream_core.specs.Lower.{since_from}
use Rattle.stream_core.specs.PartOf.{within}
use Rattle.stream_lib.specs.Built.{since_now, tree_at}
use Rattle.stream_lib.proofs.AddedParts.{adds_first, adds_more, is_child}
use Rattle.stream_lib.proofs.PlacedTrees.{grows_then, makes_after, makes_as}
use Rattle.stream_lib.proofs.Distances.{since_in_past}
use Rattle.stream_lib.proofs.bounded.since_past.Goals as goal

pub returns-clause-made : goal.returns-clause-made
returns-clause-made c =
    let past = c.in_ok-past.ensures.made in
    let now = c.in_ok-now.ensures.made in
    let some = c.in_ok-some.ensures.made in
    let m = c.in_ok-id.ensures.made in
    let P = tree_at c.args.spec.now c.args.p in
    let Q = tree_at c.args.spec.now c.args.q in
    let pn = grows_then _ _ _ past.grows now.grows in
    let pns = grows_then _ _ _ pn some.grows in
    let e1 = past.is in
    let e2 = now.is in
    let e3 = some.is in
    let q1 = past.grows.trees c.args.q c.requires.q in
    let p3 = pns.trees c.args.p c.requires.p in
    let past2 = now.grows.trees c.in_ok-past.past past.there in
    let now3 = some.grows.trees c.in_ok-now.now now.there in
    let f = choose P (or (since_now c.args.low Q) (since_from c.args.low c.args.b (c.args.b + 1) c.args.high 1 (c.args.high - 1))) (since_now c.args.low Q) in
    let a1 = adds_first _ _ f _ _ past (within 1 refl (is_child _ _ 1 refl)) in
    let a2 = adds_more _ _ _ f _ _ a1 now (is_child _ _ 2 (cc)) in
    let a3 = adds_more _ _ _ f _ _ a2 some (is_child _ _ 1 (cc)) in
    makes_as _ _ _ _ _ (since_in_past c.args.b c.args.low c.args.high P Q c.requires.high) (makes_after _ _ _ _ f pns a3 (makes_as _ _ _ _ f (cc) m))
