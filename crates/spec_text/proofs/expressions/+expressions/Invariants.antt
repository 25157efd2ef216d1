use Rattle.std.proofs.Common.{◌+◌, map}
use Rattle.spec_forest.specs.Node.{node, nodes}
use Rattle.spec_text.specs.Form.{form_of_expr}
use Rattle.spec_text.specs.KeepsTable.{keeps_expr}
use Rattle.spec_text.specs.Shape.{expression}
use Rattle.spec_text.proofs.Along.{Along}
use Rattle.spec_text.proofs.Measures.{size, sizes}
use Rattle.spec_text.proofs.expressions.+expressions.Given as goal

abbrev pub decreases-read_expr : goal.decreases-read_expr
decreases-read_expr l = size (node l.tree.now)

abbrev pub decreases-read_boxed : goal.decreases-read_boxed
decreases-read_boxed l = size (node l.tree.now) + 1

abbrev pub decreases-expr_list : goal.decreases-expr_list
decreases-expr_list l = sizes (nodes (map node l.items.now)) + 4

abbrev pub decreases-expr_form : goal.decreases-expr_form
decreases-expr_form l = sizes (nodes (map node l.parts.now)) + 3

abbrev pub decreases-read_exprs : goal.decreases-read_exprs
decreases-read_exprs l = sizes (nodes (map node l.trees.now))

abbrev pub decreases-single_form : goal.decreases-single_form
decreases-single_form l = sizes (nodes (map node l.parts.now)) + 2

abbrev pub decreases-pair_form : goal.decreases-pair_form
decreases-pair_form l = sizes (nodes (map node l.parts.now)) + 2

abbrev pub decreases-if_form : goal.decreases-if_form
decreases-if_form l = sizes (nodes (map node l.parts.now)) + 2

abbrev pub decreases-cast_form : goal.decreases-cast_form
decreases-cast_form l = sizes (nodes (map node l.parts.now)) + 2

abbrev pub decreases-field_form : goal.decreases-field_form
decreases-field_form l = sizes (nodes (map node l.parts.now)) + 2

abbrev pub decreases-array_form : goal.decreases-array_form
decreases-array_form l = sizes (nodes (map node l.parts.now)) + 2

abbrev pub decreases-record_form : goal.decreases-record_form
decreases-record_form l = sizes (nodes (map node l.parts.now)) + 2

abbrev pub decreases-bounded_form : goal.decreases-bounded_form
decreases-bounded_form l = sizes (nodes (map node l.parts.now)) + 2

abbrev pub decreases-since_in_form : goal.decreases-since_in_form
decreases-since_in_form l = sizes (nodes (map node l.parts.now)) + 2

abbrev pub decreases-vote_form : goal.decreases-vote_form
decreases-vote_form l = sizes (nodes (map node l.parts.now)) + 2

abbrev pub decreases-window_form : goal.decreases-window_form
decreases-window_form l = sizes (nodes (map node l.parts.now)) + 2

abbrev pub invariant-read_exprs-loop-tree : goal.invariant-read_exprs-loop-tree
invariant-read_exprs-loop-tree l = Along form_of_expr keeps_expr expression l.trees l.tree-index l.all.items
