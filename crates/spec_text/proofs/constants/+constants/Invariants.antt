use Rattle.std.proofs.Common.{◌+◌, map}
use Rattle.spec_forest.specs.Node.{node, nodes}
use Rattle.spec_text.specs.Form.{form_of_const}
use Rattle.spec_text.specs.KeepsTable.{keeps_const}
use Rattle.spec_text.specs.Shape.{constant}
use Rattle.spec_text.proofs.Along.{Along}
use Rattle.spec_text.proofs.Measures.{size, sizes}
use Rattle.spec_text.proofs.constants.+constants.Given as goal

abbrev pub decreases-read_constant : goal.decreases-read_constant
decreases-read_constant l = size (node l.tree.now)

abbrev pub decreases-const_list : goal.decreases-const_list
decreases-const_list l = sizes (nodes (map node l.items.now)) + 4

abbrev pub decreases-const_form : goal.decreases-const_form
decreases-const_form l = sizes (nodes (map node l.parts.now)) + 3

abbrev pub decreases-array_const : goal.decreases-array_const
decreases-array_const l = sizes (nodes (map node l.parts.now)) + 2

abbrev pub decreases-record_const : goal.decreases-record_const
decreases-record_const l = sizes (nodes (map node l.parts.now)) + 2

abbrev pub decreases-read_constants : goal.decreases-read_constants
decreases-read_constants l = sizes (nodes (map node l.trees.now))

abbrev pub invariant-read_constants-loop-tree : goal.invariant-read_constants-loop-tree
invariant-read_constants-loop-tree l = Along form_of_const keeps_const constant l.trees l.tree-index l.all.items
