use Rattle.std.proofs.Common.{codes, None, ◌∙◌}
use Rattle.spec_text.specs.Form.{form_of_expr, form_of_type, number, word}
use Rattle.spec_text.specs.FoldRows.{expr-Lit, expr-Name, expr-Drop, expr-Un, expr-Bin, expr-Shift, expr-And, expr-Or, expr-Implies, expr-If, expr-Cast, expr-Abs, expr-Sign, expr-Index, expr-Field, expr-Array, expr-Record, expr-Once, expr-Historically, expr-Yesterday, expr-WeaklyYesterday, expr-Since, expr-OnceIn, expr-HistoricallyIn, expr-SinceIn, expr-Clock, expr-Majority, expr-Agreed, expr-WindowMax, expr-WindowMin, expr-WindowSum}
use Rattle.sm_print.proofs.Printing.{◌⨾◌, first-none, Prints-is, first-more, first-all}
use Rattle.spec_print.proofs.Items.{one-text, two-text, two-closed, three-closed, four-closed, items-text, one-items-text}
use Rattle.spec_print.proofs.expressions.+printing.Goals as goal

pub expr-returns-in-Lit : goal.expr-returns-in-Lit
unfolding form_of_expr
expr-returns-in-Lit g t c = Prints-is (rw (c.in-Lit.is, expr-Lit)) c.literal.ensures

pub expr-returns-in-Name : goal.expr-returns-in-Name
unfolding form_of_expr
expr-returns-in-Name g t c = Prints-is (rw (c.bytes.ensures.bytes, c.in-Name.is, expr-Name)) c.put.ensures

pub expr-returns-in-Drop : goal.expr-returns-in-Drop
unfolding form_of_expr
expr-returns-in-Drop g t c = Prints-is (rw (c.in-Drop.is, expr-Drop)) c.drop_form.ensures

pub expr-returns-in-Un : goal.expr-returns-in-Un
unfolding form_of_expr
expr-returns-in-Un g t c = Prints-is (rw (c.get.ensures, c.op1_word.ensures, c.in-Un.is, expr-Un)) c.form_one.ensures

pub expr-returns-in-Bin : goal.expr-returns-in-Bin
unfolding form_of_expr
expr-returns-in-Bin g t c = Prints-is (two-closed c.op2_word.result.now (form_of_expr c.get-in-Bin.result.now) (form_of_expr c.get-in-Bin-2.result.now) ∙ rw (c.get-in-Bin.ensures, c.get-in-Bin-2.ensures, c.op2_word.ensures, c.in-Bin.is, expr-Bin)) (c.headed.ensures ⨾ c.closing.ensures)

pub expr-returns-in-Shift : goal.expr-returns-in-Shift
unfolding form_of_expr
expr-returns-in-Shift g t c = Prints-is (two-closed c.dir_word.result.now (form_of_expr c.get-in-Shift.result.now) (form_of_expr c.get-in-Shift-2.result.now) ∙ rw (c.get-in-Shift.ensures, c.get-in-Shift-2.ensures, c.dir_word.ensures, c.in-Shift.is, expr-Shift)) (c.headed-in-Shift.ensures ⨾ c.closing-in-Shift.ensures)

pub expr-returns-in-And : goal.expr-returns-in-And
unfolding form_of_expr
expr-returns-in-And g t c = Prints-is (two-closed (codes "and") (form_of_expr c.get-in-And.result.now) (form_of_expr c.get-in-And-2.result.now) ∙ rw (c.get-in-And.ensures, c.get-in-And-2.ensures, c.in-And.is, expr-And)) (c.headed-in-And.ensures ⨾ c.closing-in-And.ensures)

pub expr-returns-in-Or : goal.expr-returns-in-Or
unfolding form_of_expr
expr-returns-in-Or g t c = Prints-is (two-closed (codes "or") (form_of_expr c.get-in-Or.result.now) (form_of_expr c.get-in-Or-2.result.now) ∙ rw (c.get-in-Or.ensures, c.get-in-Or-2.ensures, c.in-Or.is, expr-Or)) (c.headed-in-Or.ensures ⨾ c.closing-in-Or.ensures)

pub expr-returns-in-Implies : goal.expr-returns-in-Implies
unfolding form_of_expr
expr-returns-in-Implies g t c = Prints-is (two-closed (codes "implies") (form_of_expr c.get-in-Implies.result.now) (form_of_expr c.get-in-Implies-2.result.now) ∙ rw (c.get-in-Implies.ensures, c.get-in-Implies-2.ensures, c.in-Implies.is, expr-Implies)) (c.headed-in-Implies.ensures ⨾ c.closing-in-Implies.ensures)

pub expr-returns-in-If : goal.expr-returns-in-If
unfolding form_of_expr
expr-returns-in-If g t c = Prints-is (three-closed (codes "if") (form_of_expr c.get-in-If.result.now) (form_of_expr c.get-in-If-2.result.now) (form_of_expr c.get-in-If-3.result.now) ∙ rw (c.get-in-If.ensures, c.get-in-If-2.ensures, c.get-in-If-3.ensures, c.in-If.is, expr-If)) (c.headed-in-If.ensures ⨾ c.part.ensures ⨾ c.closing-in-If.ensures)

pub expr-returns-in-Cast : goal.expr-returns-in-Cast
unfolding form_of_expr
expr-returns-in-Cast g t c = Prints-is (rw (c.get-in-Cast.ensures, c.in-Cast.is, expr-Cast)) c.cast_form.ensures

pub expr-returns-in-Abs : goal.expr-returns-in-Abs
unfolding form_of_expr
expr-returns-in-Abs g t c = Prints-is (rw (c.get-in-Abs.ensures, c.in-Abs.is, expr-Abs)) c.form_one-in-Abs.ensures

pub expr-returns-in-Sign : goal.expr-returns-in-Sign
unfolding form_of_expr
expr-returns-in-Sign g t c = Prints-is (rw (c.get-in-Sign.ensures, c.in-Sign.is, expr-Sign)) c.form_one-in-Sign.ensures

pub expr-returns-in-Index : goal.expr-returns-in-Index
unfolding form_of_expr
expr-returns-in-Index g t c = Prints-is (two-closed (codes "index") (form_of_expr c.get-in-Index.result.now) (form_of_expr c.get-in-Index-2.result.now) ∙ rw (c.get-in-Index.ensures, c.get-in-Index-2.ensures, c.in-Index.is, expr-Index)) (c.headed-in-Index.ensures ⨾ c.closing-in-Index.ensures)

pub expr-returns-in-Field : goal.expr-returns-in-Field
unfolding form_of_expr
expr-returns-in-Field g t c = Prints-is (rw (c.get-in-Field.ensures, c.in-Field.is, expr-Field)) c.field_form.ensures

pub expr-returns-in-Array : goal.expr-returns-in-Array
unfolding form_of_expr
expr-returns-in-Array g t c = Prints-is (rw (c.as_slice.ensures, c.in-Array.is, expr-Array)) c.items_form.ensures

pub expr-returns-in-Record : goal.expr-returns-in-Record
unfolding form_of_expr
expr-returns-in-Record g t c = Prints-is (rw (c.as_slice-in-Record.ensures, c.in-Record.is, expr-Record)) c.record_form.ensures

pub expr-returns-in-Once : goal.expr-returns-in-Once
unfolding form_of_expr
expr-returns-in-Once g t c = Prints-is (rw (c.get-in-Once.ensures, c.in-Once.is, expr-Once)) c.form_one-in-Once.ensures

pub expr-returns-in-Historically : goal.expr-returns-in-Historically
unfolding form_of_expr
expr-returns-in-Historically g t c = Prints-is (rw (c.get-in-Historically.ensures, c.in-Historically.is, expr-Historically)) c.form_one-in-Historically.ensures

pub expr-returns-in-Yesterday : goal.expr-returns-in-Yesterday
unfolding form_of_expr
expr-returns-in-Yesterday g t c = Prints-is (rw (c.get-in-Yesterday.ensures, c.in-Yesterday.is, expr-Yesterday)) c.form_one-in-Yesterday.ensures

pub expr-returns-in-WeaklyYesterday : goal.expr-returns-in-WeaklyYesterday
unfolding form_of_expr
expr-returns-in-WeaklyYesterday g t c = Prints-is (rw (c.get-in-WeaklyYesterday.ensures, c.in-WeaklyYesterday.is, expr-WeaklyYesterday)) c.form_one-in-WeaklyYesterday.ensures

pub expr-returns-in-Since : goal.expr-returns-in-Since
unfolding form_of_expr
expr-returns-in-Since g t c = Prints-is (two-closed (codes "since") (form_of_expr c.get-in-Since.result.now) (form_of_expr c.get-in-Since-2.result.now) ∙ rw (c.get-in-Since.ensures, c.get-in-Since-2.ensures, c.in-Since.is, expr-Since)) (c.headed-in-Since.ensures ⨾ c.closing-in-Since.ensures)

pub expr-returns-in-OnceIn : goal.expr-returns-in-OnceIn
unfolding form_of_expr
expr-returns-in-OnceIn g t c = Prints-is (rw (c.get-in-OnceIn.ensures, c.in-OnceIn.is, expr-OnceIn)) c.bounded_form.ensures

pub expr-returns-in-HistoricallyIn : goal.expr-returns-in-HistoricallyIn
unfolding form_of_expr
expr-returns-in-HistoricallyIn g t c = Prints-is (rw (c.get-in-HistoricallyIn.ensures, c.in-HistoricallyIn.is, expr-HistoricallyIn)) c.bounded_form-in-HistoricallyIn.ensures

pub expr-returns-in-SinceIn : goal.expr-returns-in-SinceIn
unfolding form_of_expr
expr-returns-in-SinceIn g t c = Prints-is (four-closed (codes "since-in") (number c.in-SinceIn.low) (number c.in-SinceIn.high) (form_of_expr c.get-in-SinceIn.result.now) (form_of_expr c.get-in-SinceIn-2.result.now) ∙ rw (c.get-in-SinceIn.ensures, c.get-in-SinceIn-2.ensures, c.in-SinceIn.is, expr-SinceIn)) (c.bounds.ensures ⨾ c.part-in-SinceIn.ensures ⨾ c.closing-in-SinceIn.ensures)

pub expr-returns-in-Clock : goal.expr-returns-in-Clock
unfolding form_of_expr
expr-returns-in-Clock g t c = Prints-is (rw (c.in-Clock.is, expr-Clock)) c.clock_form.ensures

pub expr-returns-in-Majority : goal.expr-returns-in-Majority
unfolding form_of_expr
expr-returns-in-Majority g t c = Prints-is (rw (c.as_slice-in-Majority.ensures, c.in-Majority.is, expr-Majority)) c.items_form-in-Majority.ensures

pub expr-returns-in-Agreed : goal.expr-returns-in-Agreed
unfolding form_of_expr
expr-returns-in-Agreed g t c = Prints-is (rw (c.as_slice-in-Agreed.ensures, c.in-Agreed.is, expr-Agreed)) c.items_form-in-Agreed.ensures

pub expr-returns-in-WindowMax : goal.expr-returns-in-WindowMax
unfolding form_of_expr
expr-returns-in-WindowMax g t c = Prints-is (rw (c.get-in-WindowMax.ensures, c.in-WindowMax.is, expr-WindowMax)) c.window_form.ensures

pub expr-returns-in-WindowMin : goal.expr-returns-in-WindowMin
unfolding form_of_expr
expr-returns-in-WindowMin g t c = Prints-is (rw (c.get-in-WindowMin.ensures, c.in-WindowMin.is, expr-WindowMin)) c.window_form-in-WindowMin.ensures

pub expr-returns-in-WindowSum : goal.expr-returns-in-WindowSum
unfolding form_of_expr
expr-returns-in-WindowSum g t c = Prints-is (rw (c.get-in-WindowSum.ensures, c.in-WindowSum.is, expr-WindowSum)) c.window_form-in-WindowSum.ensures

pub headed-returns : goal.headed-returns
headed-returns g t c = c.opened.ensures ⨾ c.part.ensures

pub closing-returns : goal.closing-returns
closing-returns g t c = c.part.ensures ⨾ c.put.ensures

pub form_one-returns : goal.form_one-returns
form_one-returns g t c = Prints-is (one-text c.args.head.now (form_of_expr c.args.a.now)) (c.headed.ensures ⨾ c.put.ensures)

pub cast_form-returns : goal.cast_form-returns
cast_form-returns g t c = Prints-is (two-closed (codes "cast") (form_of_type c.args.to.now) (form_of_expr c.args.a.now)) (c.opened.ensures ⨾ c.spaced_type.ensures ⨾ c.closing.ensures)

pub field_form-returns : goal.field_form-returns
field_form-returns g t c = Prints-is (rw (c.bytes.ensures.bytes) (two-text (codes "field") (form_of_expr c.args.a.now) (word None c.args.member.now))) (c.headed.ensures ⨾ c.spaced.ensures ⨾ c.put.ensures)

pub items_form-returns : goal.items_form-returns
items_form-returns g t c = Prints-is (items-text form_of_expr c.args.head.now c.args.all.now) (c.opened.ensures ⨾ c.parts.ensures ⨾ c.put.ensures)

pub record_form-returns : goal.record_form-returns
record_form-returns g t c = Prints-is (rw (c.bytes.ensures.bytes) (one-items-text form_of_expr (codes "record") (word None c.args.name.now) c.args.all.now)) (c.opened.ensures ⨾ c.spaced.ensures ⨾ c.parts.ensures ⨾ c.put.ensures)

pub bounded_form-returns : goal.bounded_form-returns
bounded_form-returns g t c = Prints-is (three-closed c.args.head.now (number c.args.low) (number c.args.high) (form_of_expr c.args.p.now)) (c.bounds.ensures ⨾ c.closing.ensures)

pub window_form-returns : goal.window_form-returns
window_form-returns g t c = Prints-is (two-closed c.args.head.now (number c.args.n) (form_of_expr c.args.e.now)) (c.opened.ensures ⨾ c.spaced_number.ensures ⨾ c.closing.ensures)

pub part-returns : goal.part-returns
part-returns g t c = c.put.ensures ⨾ c.expr.ensures

pub parts-loop-e-init : goal.parts-loop-e-init
parts-loop-e-init g t c = first-none

pub parts-loop-e-preserved : goal.parts-loop-e-preserved
parts-loop-e-preserved g t c =
    first-more c.loop-e-test.true c.e-item.is c.loop-e.invariant c.part.ensures

pub parts-returns : goal.parts-returns
parts-returns g t c = first-all c.loop-e-test.false c.loop-e.invariant
