use Rattle.std.proofs.Common.{length, replicate, refl, sym, ap, subst, arith}
use Rattle.std.specs.List.{sum_by}
use Rattle.recursion_check.specs.Weighed.{KeepsWeights, all_steps, tos, unmet}
use Rattle.recursion_check.proofs.Settling.{all_known, opened_unmet, start_keeps}
use Rattle.recursion_check.proofs.weigh.node_weights.Goals as goal

pub loop-v-init : goal.loop-v-init
loop-v-init c =
    let s = c.args.spec.now in
    let w = c.in_ok-weighing.weighing in
    let e = c.in_ok-weighing.ensures in
    let k = start_keeps s c.in-Some.count (length s.nodes) (omega (arith, c.in-Some.ensures, c.nodes.ensures.value, ap length c.defs.ensures)) refl in
    let a = subst (λ xs. KeepsWeights s xs (replicate (length s.nodes) 0) (tos (all_steps c.in-Some.count))) (sym e.stages) k in
    let b = subst (λ xs. KeepsWeights s w.stages.items xs (tos (all_steps c.in-Some.count))) (sym e.weights) a in
    subst (λ xs. KeepsWeights s w.stages.items w.weights.items (tos xs)) (sym e.todo) b

pub loop-v-smaller : goal.loop-v-smaller
loop-v-smaller c =
    let a = c.advance.new.self in
    let f = opened_unmet a.stages.items c.in-Some-advance.v c.in-Some-advance.ensures.is_new in
    omega (arith, f, ap (sum_by unmet) c.in_ok-open.ensures.stages, c.advance.ensures.unmet)

pub returns : goal.returns
returns c = all_known c.args.spec.now c.advance.new.self.stages.items c.advance.new.self.weights.items (subst (λ es. KeepsWeights c.args.spec.now c.advance.new.self.stages.items c.advance.new.self.weights.items (tos es)) c.in_default-advance.ensures.weighed c.advance.ensures.weighing)
