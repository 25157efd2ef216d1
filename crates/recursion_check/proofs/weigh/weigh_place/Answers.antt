use Rattle.std.proofs.Common.{◌-◌, length, set, sym, ap, ◌∙◌, subst, arith}
use Rattle.std.specs.Prelude.{slice_get}
use Rattle.stream_core.specs.KnownWeights.{AreKnown, IsKnown, made_at}
use Rattle.recursion_check.proofs.PlaceWeights.{def_known, made_known_at, node_past, set_kept, set_known}
use Rattle.recursion_check.proofs.weigh.weigh_place.Goals as goal
use Rattle.sm_io.proofs.Elements.{get_within}

pub returns-then-v-defs-clause-known : goal.returns-then-v-defs-clause-known
returns-then-v-defs-clause-known c =
    let s = c.args.spec.now in
    let x = get_within s.defs c.args.v (omega (arith, c.if-v-defs.true, ap length c.defs-defs.ensures)) in
    def_known s c.args.weights.now.items c.args.v x.0 x.1 c.requires.next

pub weight_by-weight-requires-clause-known : goal.weight_by-weight-requires-clause-known
weight_by-weight-requires-clause-known c =
    let s = c.args.spec.now in
    let v = c.args.v in
    let l = ap length c.defs-defs.ensures in
    let k = made_known_at s c.args.weights.now.items v c.requires.typed (omega (arith, c.if-v-defs.false, l)) (omega (arith, c.requires.there, c.if-v-defs.false, l)) c.requires.next in
    subst (λ ws. AreKnown s ws (made_at s (slice_get s.nodes (v - length c.defs-defs.result.now)))) (sym c.as_slice.ensures.value) (subst (λ n. AreKnown s c.args.weights.now.items (made_at s (slice_get s.nodes (v - n)))) (sym l) k)

pub returns-clause-known : goal.returns-clause-known
returns-clause-known c =
    let s = c.args.spec.now in
    let v = c.args.v in
    let n = length c.defs-defs.result.now in
    let l = ap length c.defs-defs.ensures in
    let k = set_known s c.args.weights.now.items (v - n) c.weight_by-weight.result (omega (arith, c.requires.there, c.requires.count, c.if-v-defs.false, l)) c.weight_by-weight.ensures in
    subst (IsKnown s (set c.args.weights.now.items (v - n) c.weight_by-weight.result)) (ap (λ m. v - m) l ∙ sym (node_past s v (omega (arith, c.if-v-defs.false, l)))) k

pub returns-clause-kept : goal.returns-clause-kept
returns-clause-kept c = set_kept c.args.spec.now c.args.weights.now.items (c.args.v - length c.defs-defs.result.now) c.weight_by-weight.result c.weight_by-weight.ensures
