use Rattle.std.proofs.Common.{◌≡◌, ◌+◌, ◌*◌, ◌<◌, ◌≤◌, length, map, take, drop}
use Rattle.std.specs.List.{AllByRecursion}
use Rattle.stream_core.proofs.NodeSizes.{all_sizes, node_size, size}
use Rattle.ring_codegen.specs.Items.{expression_of}
use Rattle.ring_codegen.proofs.expressions.+translating.Given as goal

abbrev pub decreases-expression : goal.decreases-expression
decreases-expression l = 8 * size l.spec.now l.id + 1

abbrev pub decreases-form : goal.decreases-form
decreases-form l = 8 * node_size l.spec.now l.node.now

abbrev pub decreases-operation : goal.decreases-operation
decreases-operation l = 8 * (size l.spec.now l.a + size l.spec.now l.b) + 2

abbrev pub decreases-moved : goal.decreases-moved
decreases-moved l = 8 * (size l.spec.now l.a + size l.spec.now l.count) + 2

abbrev pub decreases-joined : goal.decreases-joined
decreases-joined l = 8 * (size l.spec.now l.a + size l.spec.now l.b) + 2

abbrev pub decreases-implied : goal.decreases-implied
decreases-implied l = 8 * (size l.spec.now l.a + size l.spec.now l.b) + 2

abbrev pub decreases-chosen : goal.decreases-chosen
decreases-chosen l = 8 * (size l.spec.now l.p + size l.spec.now l.a + size l.spec.now l.b) + 2

abbrev pub decreases-element : goal.decreases-element
decreases-element l = 8 * (size l.spec.now l.a + size l.spec.now l.i) + 2

abbrev pub decreases-part : goal.decreases-part
decreases-part l = 8 * size l.spec.now l.a + 2

abbrev pub decreases-expressions : goal.decreases-expressions
decreases-expressions l = 8 * all_sizes l.spec.now l.ids.now + 2

abbrev pub invariant-expressions-loop-id : goal.invariant-expressions-loop-id
invariant-expressions-loop-id l = record {
  done : l.all ≡ map (expression_of l.spec) (take l.id-index l.ids);
  there : AllByRecursion (λ j. j < length l.spec.nodes) (drop l.id-index l.ids);
  smaller : all_sizes l.spec (drop l.id-index l.ids) ≤ all_sizes l.spec l.ids;
}
