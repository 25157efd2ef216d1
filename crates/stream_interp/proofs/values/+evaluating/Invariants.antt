use Rattle.std.proofs.Common.{◌+◌, ◌*◌}
use Rattle.stream_core.proofs.NodeSizes.{all_sizes, node_size, size}
use Rattle.stream_interp.proofs.BranchSizes.{branch_size}
use Rattle.stream_interp.proofs.values.+evaluating.Given as goal

abbrev pub decreases-word : goal.decreases-word
decreases-word g l = 8 * size l.sight.now.spec.now l.id + 1

abbrev pub decreases-word_of : goal.decreases-word_of
decreases-word_of g l = 8 * node_size l.sight.now.spec.now l.node.now

abbrev pub decreases-chosen : goal.decreases-chosen
decreases-chosen g l = 8 * (size l.sight.now.spec.now l.test + branch_size l.sight.now.spec.now l.yes + branch_size l.sight.now.spec.now l.no) + 4

abbrev pub decreases-taken : goal.decreases-taken
decreases-taken g l = 8 * branch_size l.sight.now.spec.now l.of + 2

abbrev pub decreases-fill : goal.decreases-fill
decreases-fill g l = 8 * size l.sight.now.spec.now l.id + 3

abbrev pub decreases-fill_of : goal.decreases-fill_of
decreases-fill_of g l = 8 * node_size l.sight.now.spec.now l.node.now + 1

abbrev pub decreases-element_into : goal.decreases-element_into
decreases-element_into g l = 8 * (size l.sight.now.spec.now l.a + size l.sight.now.spec.now l.i) + 5

abbrev pub decreases-member_into : goal.decreases-member_into
decreases-member_into g l = 8 * size l.sight.now.spec.now l.a + 5

abbrev pub decreases-fill_parts : goal.decreases-fill_parts
decreases-fill_parts g l = 8 * all_sizes l.sight.now.spec.now l.ids.now + 5

abbrev pub decreases-chosen_into : goal.decreases-chosen_into
decreases-chosen_into g l = 8 * (size l.sight.now.spec.now l.test + size l.sight.now.spec.now l.yes + size l.sight.now.spec.now l.no) + 5
