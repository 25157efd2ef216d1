use Rattle.std.proofs.Common.{sym, ap, arith, map}
use Rattle.std.specs.Option.{option_map}
use Rattle.spec_forest.specs.Node.{node, nodes}
use Rattle.spec_text.specs.Form.{form_of_const}
use Rattle.spec_text.specs.KeepsTable.{keeps_const}
use Rattle.spec_text.specs.Shape.{constant, const_items}
use Rattle.spec_words.specs.Words.{const_word}
use Rattle.spec_text.proofs.Along.{step}
use Rattle.spec_words.proofs.WordLaws.{found_const}
use Rattle.spec_text.proofs.Heads.{whole_const}
use Rattle.spec_text.proofs.Measures.{size-part}
use Rattle.spec_text.proofs.constants.+constants.Goals as goal

pub const_list-returns : goal.const_list-returns
const_list-returns t c =
    let head = c.in-Some-const_head.head in
    whole_const form_of_const keeps_const c.args.at (nodes (map node c.args.items.now)) (nodes (map node c.in-Some.parts.now)) c.in-Some.word.now (const_word head) (const_items head) c.const_form.result
    (sym c.in-Some.ensures)
    (ap (option_map const_items) (sym c.in-Some-const_head.ensures))
    (found_const c.in-Some.word.now head (sym c.in-Some-const_head.ensures))
    c.const_form.ensures

pub read_constants-read_constant-requires : goal.read_constants-read_constant-requires
read_constants-read_constant-requires t c =
    (omega (arith, size-part c.args.trees.now c.loop-tree.tree-index c.tree-item.result c.tree-item.result c.loop-tree-test.true c.tree-item.is, c.decreases), tt)

pub read_constants-loop-tree-preserved : goal.read_constants-loop-tree-preserved
read_constants-loop-tree-preserved t c =
    rw c.in_ok-push.ensures.items (
    step form_of_const keeps_const constant c.args.trees.now c.loop-tree.tree-index c.loop-tree.all.items c.tree-item.result c.tree-item.result c.in_ok-item.item
    c.loop-tree-test.true c.tree-item.is c.loop-tree.invariant c.in_ok-item.ensures.0 c.in_ok-item.ensures.1)
