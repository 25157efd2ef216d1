use Rattle.spec_text.specs.Form.{form_of_decl}
use Rattle.spec_text.specs.KeepsTable.{keeps_decl}
use Rattle.spec_text.specs.Shape.{declaration}
use Rattle.spec_text.proofs.Along.{step}
use Rattle.spec_text.proofs.specification.read_decls.Goals as goal

pub loop-tree-preserved : goal.loop-tree-preserved
loop-tree-preserved c =
    rw c.in_ok-push.ensures.items (
    step form_of_decl (keeps_decl c.args.version) (declaration c.args.version) c.args.trees.now c.loop-tree.tree-index c.loop-tree.all.items c.tree-item.result c.tree-item.result c.in_ok-item.item
    c.loop-tree-test.true c.tree-item.is c.loop-tree.invariant c.in_ok-item.ensures.0 c.in_ok-item.ensures.1)
