use Rattle.std.proofs.Common.{set, arith, subst}
use Rattle.recursion_check.specs.declared.weigh.Stage.TheVariants as stage
use Rattle.recursion_check.specs.Weighed.{KeepsWeights, tos}
use Rattle.recursion_check.proofs.ListElements.{set_same}
use Rattle.recursion_check.proofs.Settling.{all_weighed, last_there, last_tos, popped, skip_keeps, weigh_keeps, weighed_unmet}
use Rattle.recursion_check.proofs.weigh.Weighing.weigh.Goals as goal

pub weigh_place-requires-clause-next : goal.weigh_place-requires-clause-next
weigh_place-requires-clause-next c =
    let s = c.args.self.now in
    all_weighed c.args.spec.now s.stages.items s.weights.items (tos s.todo.items) c.requires.weighing c.args.v (last_tos s.todo.items c.args.v c.requires.last) c.requires.is_open

pub index_mut-requires : goal.index_mut-requires
index_mut-requires c =
    let s = c.args.self.now in
    let b = last_there c.args.spec.now s.stages.items s.weights.items (tos s.todo.items) c.args.v c.requires.weighing (last_tos s.todo.items c.args.v c.requires.last) in
    omega (arith, b, s.stages.ok.0)

pub returns-clause-weighing : goal.returns-clause-weighing
returns-clause-weighing c =
    let z = c.args.spec.now in
    let s = c.args.self.now in
    let v = c.args.v in
    let new = c.weigh_place.new.weights.items in
    let b = last_there z s.stages.items s.weights.items (tos s.todo.items) v c.requires.weighing (last_tos s.todo.items v c.requires.last) in
    let k = weigh_keeps z s.stages.items s.weights.items (tos s.todo.items) c.requires.weighing v new b c.weigh_place.ensures.count c.weigh_place.ensures.known c.weigh_place.ensures.kept in
    let e = popped s.todo.items c.pop.new.self.items c.pop.result s.todo.len v c.pop.ensures.items (omega (arith, s.todo.ok.0)) c.pop.ensures.value c.requires.last in
    skip_keeps z (set s.stages.items v stage.Known) new (tos c.pop.new.self.items) v (subst (KeepsWeights z (set s.stages.items v stage.Known) new) e k) (set_same s.stages.items v stage.Known b)

pub returns-clause-unmet : goal.returns-clause-unmet
returns-clause-unmet c = weighed_unmet c.args.self.now.stages.items c.args.v c.requires.is_open
