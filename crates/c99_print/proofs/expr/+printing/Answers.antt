use Rattle.std.proofs.Common.{[], codes, sym}
use Rattle.c99_tree.specs.Tree.{tree}
use Rattle.c99_tree.specs.Spelling.{text, operator}
use Rattle.c99_tree.specs.TreeLaws.{tree-Lit, tree-True, tree-False, tree-Copy, tree-Head, tree-Cell, tree-RingAt, tree-Un, tree-Cast, tree-Field, tree-Arr, tree-Rec, tree-Bin, tree-Cond, tree-Pick}
use Rattle.sm_print.proofs.Printing.{◌⨾◌, Prints-is, Prints-two, Prints-three, parted-none, parted-more, parted-all}
use Rattle.c99_print.proofs.Commas.{parted-separated}
use Rattle.c99_print.proofs.expr.+printing.Goals as goal

pub expr-returns-in-Lit : goal.expr-returns-in-Lit
expr-returns-in-Lit g t c = Prints-is (rw (c.in-Lit.is, tree-Lit)) c.literal.ensures

pub expr-returns-in-True : goal.expr-returns-in-True
expr-returns-in-True g t c = Prints-is (rw (c.in-True.is, tree-True)) c.put.ensures

pub expr-returns-in-False : goal.expr-returns-in-False
expr-returns-in-False g t c = Prints-is (rw (c.in-False.is, tree-False)) c.put-in-False.ensures

pub expr-returns-in-Copy : goal.expr-returns-in-Copy
expr-returns-in-Copy g t c = Prints-is (rw (c.in-Copy.is, tree-Copy)) c.named.ensures

pub expr-returns-in-Head : goal.expr-returns-in-Head
expr-returns-in-Head g t c = Prints-is (rw (c.in-Head.is, tree-Head)) c.named-in-Head.ensures

pub expr-returns-in-Cell : goal.expr-returns-in-Cell
expr-returns-in-Cell g t c = Prints-is (rw (c.in-Cell.is, tree-Cell)) c.named-in-Cell.ensures

pub expr-returns-in-RingAt : goal.expr-returns-in-RingAt
expr-returns-in-RingAt g t c = Prints-is (rw (c.get.ensures, c.in-RingAt.is, tree-RingAt)) c.ring_element.ensures

pub expr-returns-in-Un : goal.expr-returns-in-Un
expr-returns-in-Un g t c = Prints-is (rw (c.get-in-Un.ensures, c.in-Un.is, tree-Un)) c.unary.ensures

pub expr-returns-in-Cast : goal.expr-returns-in-Cast
expr-returns-in-Cast g t c = Prints-is (rw (c.get-in-Cast.ensures, c.in-Cast.is, tree-Cast)) c.cast.ensures

pub expr-returns-in-Field : goal.expr-returns-in-Field
expr-returns-in-Field g t c = Prints-is (rw (c.get-in-Field.ensures, c.in-Field.is, tree-Field)) c.member.ensures

pub expr-returns-in-Arr : goal.expr-returns-in-Arr
expr-returns-in-Arr g t c = Prints-is (rw (c.as_slice.ensures, c.in-Arr.is, tree-Arr)) c.array_literal.ensures

pub expr-returns-in-Rec : goal.expr-returns-in-Rec
expr-returns-in-Rec g t c = Prints-is (rw (c.as_slice-in-Rec.ensures, c.in-Rec.is, tree-Rec)) c.struct_literal.ensures

pub expr-returns-in-Bin : goal.expr-returns-in-Bin
expr-returns-in-Bin g t c =
    Prints-is (rw (c.get-in-Bin.ensures, c.get-in-Bin-2.ensures, c.in-Bin.is, tree-Bin))
    (Prints-three (codes " ") (operator c.in-Bin.op) (codes " ") c.behind.ensures c.spaced_operator.ensures ⨾ c.expr.ensures ⨾ c.put-in-Bin.ensures)

pub expr-returns-in-Cond : goal.expr-returns-in-Cond
expr-returns-in-Cond g t c =
    Prints-is (rw (c.get-in-Cond.ensures, c.get-in-Cond-2.ensures, c.get-in-Cond-3.ensures, c.in-Cond.is, tree-Cond))
    (Prints-two (codes " : ") (text (tree c.get-in-Cond-3.result.now)) (Prints-two (codes " ? ") (text (tree c.get-in-Cond-2.result.now)) c.behind-in-Cond.ensures c.behind-in-Cond-2.ensures) c.behind-in-Cond-3.ensures ⨾ c.put-in-Cond.ensures)

pub expr-returns-in-Pick : goal.expr-returns-in-Pick
expr-returns-in-Pick g t c =
    Prints-is (rw (c.get-in-Pick.ensures, c.get-in-Pick-2.ensures, c.in-Pick.is, tree-Pick))
    (Prints-two (codes ", ") (text (tree c.get-in-Pick-2.result.now)) (Prints-two (codes "(") (text (tree c.get-in-Pick.result.now)) c.pick_name.ensures c.behind-in-Pick.ensures) c.behind-in-Pick-2.ensures ⨾ c.put-in-Pick.ensures)

pub behind-returns : goal.behind-returns
behind-returns g t c = c.put.ensures ⨾ c.expr.ensures

pub ring_element-returns : goal.ring_element-returns
ring_element-returns g t c = c.named.ensures ⨾ c.put.ensures ⨾ c.expr.ensures ⨾ c.put-2.ensures

pub unary-returns : goal.unary-returns
unary-returns g t c = Prints-is (rw (c.sign.ensures)) (c.put.ensures ⨾ c.put-2.ensures ⨾ c.expr.ensures ⨾ c.put-3.ensures)

pub cast-returns : goal.cast-returns
cast-returns g t c = Prints-is (rw (c.scalar_name.ensures)) (c.put.ensures ⨾ c.put-2.ensures ⨾ c.put-3.ensures ⨾ c.expr.ensures ⨾ c.put-4.ensures)

pub member-returns : goal.member-returns
member-returns g t c = Prints-is (rw (c.bytes.ensures.bytes)) (c.put.ensures ⨾ c.expr.ensures ⨾ c.put-2.ensures ⨾ c.put-3.ensures ⨾ c.put-4.ensures)

pub array_literal-returns : goal.array_literal-returns
array_literal-returns g t c = c.put.ensures ⨾ c.array_name.ensures ⨾ c.put-2.ensures ⨾ c.listed.ensures ⨾ c.put-3.ensures

pub struct_literal-returns : goal.struct_literal-returns
struct_literal-returns g t c = c.named.ensures ⨾ c.put.ensures ⨾ c.listed.ensures ⨾ c.put-2.ensures

pub listed-loop-e-init : goal.listed-loop-e-init
listed-loop-e-init g t c = parted-none

pub listed-loop-e-preserved : goal.listed-loop-e-preserved
listed-loop-e-preserved g t c = parted-more c.loop-e-test.true c.e-item.is c.loop-e.invariant c.put.ensures c.expr.ensures

pub listed-returns : goal.listed-returns
listed-returns g t c = Prints-is (sym (parted-separated [] c.args.all.now)) (parted-all c.loop-e-test.false c.loop-e.invariant)
