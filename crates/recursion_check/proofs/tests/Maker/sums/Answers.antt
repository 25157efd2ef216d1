use Rattle.std.proofs.Common.{◌+◌, ◌*◌, ◌<◌, length, ap, arith}
use Rattle.stream_core.specs.Value.{SpecValue}
use Rattle.recursion_check.proofs.Grows.{nodes_length, defs_length}
use Rattle.recursion_check.proofs.tests.Maker.sums.Goals as goal

pub put-requires-in-loop-k : goal.put-requires-in-loop-k
put-requires-in-loop-k g c =
    let k = c.loop-k.k in
    let e = ap (λ (s : SpecValue). length s.nodes) c.loop-k.invariant in
    let n = nodes_length k in
    let b : 2 * k + 1 < length c.loop-k.spec.nodes = omega (arith, e, n) in
    (b, (b, tt))

pub add-requires-in-loop-k : goal.add-requires-in-loop-k
add-requires-in-loop-k g c =
    let e = ap (λ (s : SpecValue). length s.defs) (c.put-in-loop-k-2.ensures) in
    let f = ap (λ (s : SpecValue). length s.defs) (c.put-in-loop-k.ensures) in
    let h = ap (λ (s : SpecValue). length s.defs) c.loop-k.invariant in
    let n = defs_length c.loop-k.k in
    omega (arith, e, f, h, n)
