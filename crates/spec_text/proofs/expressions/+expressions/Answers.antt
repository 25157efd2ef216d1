use Rattle.std.proofs.Common.{sym, ap, arith, map}
use Rattle.std.specs.Option.{option_map}
use Rattle.spec_forest.specs.Node.{node, nodes}
use Rattle.spec_text.specs.Form.{form_of_expr}
use Rattle.spec_text.specs.KeepsTable.{keeps_expr}
use Rattle.spec_text.specs.Shape.{expression, expr_items}
use Rattle.spec_words.specs.Words.{head_word}
use Rattle.spec_text.proofs.Along.{step}
use Rattle.spec_words.proofs.WordLaws.{found_head}
use Rattle.spec_text.proofs.Heads.{whole_expr}
use Rattle.spec_text.proofs.Measures.{size-part}
use Rattle.spec_text.proofs.expressions.+expressions.Goals as goal

pub expr_list-returns : goal.expr_list-returns
expr_list-returns t c =
    let head = c.in-Some-head_of.head in
    let parts = nodes (map node c.in-Some.parts.now) in
    whole_expr form_of_expr keeps_expr c.args.at (nodes (map node c.args.items.now)) parts c.in-Some.word.now (head_word head) (expr_items head parts) c.expr_form.result
    (sym c.in-Some.ensures)
    (ap (option_map (λ h. expr_items h parts)) (sym c.in-Some-head_of.ensures))
    (found_head c.in-Some.word.now head (sym c.in-Some-head_of.ensures))
    c.expr_form.ensures

pub read_exprs-read_expr-requires : goal.read_exprs-read_expr-requires
read_exprs-read_expr-requires t c =
    (omega (arith, size-part c.args.trees.now c.loop-tree.tree-index c.tree-item.result c.tree-item.result c.loop-tree-test.true c.tree-item.is, c.decreases), tt)

pub read_exprs-loop-tree-preserved : goal.read_exprs-loop-tree-preserved
read_exprs-loop-tree-preserved t c =
    rw c.in_ok-push.ensures.items (
    step form_of_expr keeps_expr expression c.args.trees.now c.loop-tree.tree-index c.loop-tree.all.items c.tree-item.result c.tree-item.result c.in_ok-item.item
    c.loop-tree-test.true c.tree-item.is c.loop-tree.invariant c.in_ok-item.ensures.0 c.in_ok-item.ensures.1)
