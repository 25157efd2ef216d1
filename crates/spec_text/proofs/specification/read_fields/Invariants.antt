use Rattle.spec_text.specs.Form.{form_of_field}
use Rattle.spec_text.specs.KeepsTable.{keeps_field}
use Rattle.spec_text.specs.Shape.{field}
use Rattle.spec_text.proofs.Along.{Along}
use Rattle.spec_text.proofs.specification.read_fields.Given as goal

abbrev pub invariant-loop-tree : goal.invariant-loop-tree
invariant-loop-tree l = Along form_of_field keeps_field field l.trees l.tree-index l.all.items
