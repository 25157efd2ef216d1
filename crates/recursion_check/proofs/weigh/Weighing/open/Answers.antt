use Rattle.std.proofs.Common.{set, sym, subst, ap, ◌∙◌}
use Rattle.std.proofs.lemmas.Result.{on_ok_weaker}
use Rattle.stream_core.proofs.Roots.{founded}
use Rattle.recursion_check.specs.declared.weigh.Stage.TheVariants as stage
use Rattle.recursion_check.specs.Graph.{next}
use Rattle.recursion_check.specs.Weighed.{KeepsWeights, tos}
use Rattle.recursion_check.proofs.Settling.{last_tos, open_keeps, tos_pushed}
use Rattle.recursion_check.proofs.weigh.Weighing.open.Goals as goal

pub returns-clause-weighing : goal.returns-clause-weighing
returns-clause-weighing c =
    let z = c.args.spec.now in
    let s = c.args.self.now in
    let v = c.args.v in
    let k = open_keeps z c.requires.typed (founded z c.requires.typed c.requires.no_cycle) s.stages.items s.weights.items (tos s.todo.items) c.requires.weighing v (last_tos s.todo.items v c.requires.last) c.requires.is_new in
    on_ok_weaker c.push_edges.result (λ e. subst (KeepsWeights z (set s.stages.items v stage.Open) s.weights.items) (sym (ap tos e ∙ tos_pushed s.todo.items 0 (next z v))) k) c.push_edges.ensures
