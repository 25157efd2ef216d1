use Rattle.std.proofs.Common.{◌≡◌, ◌+◌, min, suc, length, map, drop, ap, subst, arith}
use Rattle.std.specs.Prelude.{IfSome}
use Rattle.stream_core.specs.declared.spec.LibItem.{LibItem}
use Rattle.stream_core.specs.Weights.{buffers_weight, heavy, libs_weight}
use Rattle.recursion_check.proofs.FormsKnown.{args_known}
use Rattle.recursion_check.proofs.ListElements.{drop_get}
use Rattle.recursion_check.proofs.roots.weigh_forms.Goals as goal
use Rattle.sm_io.proofs.Elements.{get_within}

pub buffers_by-requires-clause-known : goal.buffers_by-requires-clause-known
buffers_by-requires-clause-known c =
    let s = c.args.spec.now in
    args_known s c.requires.typed c.args.weights.now c.requires.weights c.loop-k.k (omega (arith, c.loop-k-test.true, ap length c.libs-k-end.ensures))

pub loop-k-preserved : goal.loop-k-preserved
loop-k-preserved c =
    let s = c.args.spec.now in
    let k = c.loop-k.k in
    let r = get_within s.libs k (omega (arith, c.loop-k-test.true, ap length c.libs-k-end.ensures)) in
    let x = r.0 in
    let w : c.buffers_by.result ≡ min (buffers_weight x.form (map (heavy s) x.args)) 262145 = subst (λ o. IfSome o (λ (y : LibItem). c.buffers_by.result ≡ min (buffers_weight y.form (map (heavy s) y.args)) 262145)) r.1 c.buffers_by.ensures in
    let d = ap (libs_weight s) (drop_get k s.libs x r.1) in
    let next = ap (λ n. libs_weight s (drop n s.libs)) (let q : k + 1 ≡ suc k = omega arith in q) in
    let i = c.loop-k.invariant.rest in
    record {
      bounded = omega (arith, c.sum-total.ensures);
      rest = omega (arith, c.sum-total.ensures, w, d, next, i);
    }
