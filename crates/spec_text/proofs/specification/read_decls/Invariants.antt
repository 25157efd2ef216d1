use Rattle.spec_text.specs.Form.{form_of_decl}
use Rattle.spec_text.specs.KeepsTable.{keeps_decl}
use Rattle.spec_text.specs.Shape.{declaration}
use Rattle.spec_text.proofs.Along.{Along}
use Rattle.spec_text.proofs.specification.read_decls.Given as goal

abbrev pub invariant-loop-tree : goal.invariant-loop-tree
invariant-loop-tree l = Along form_of_decl (keeps_decl l.version) (declaration l.version) l.trees l.tree-index l.all.items
