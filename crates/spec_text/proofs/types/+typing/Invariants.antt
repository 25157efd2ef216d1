use Rattle.std.proofs.Common.{◌+◌, map}
use Rattle.spec_forest.specs.Node.{node, nodes}
use Rattle.spec_text.proofs.Measures.{size, sizes}
use Rattle.spec_text.proofs.types.+typing.Given as goal

abbrev pub decreases-read_type : goal.decreases-read_type
decreases-read_type l = size (node l.tree.now)

abbrev pub decreases-type_list : goal.decreases-type_list
decreases-type_list l = sizes (nodes (map node l.items.now)) + 4

abbrev pub decreases-array_type : goal.decreases-array_type
decreases-array_type l = sizes (nodes (map node l.parts.now)) + 3
