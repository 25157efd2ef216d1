use Rattle.std.proofs.Common.{codes, None}
use Rattle.spec_text.specs.Form.{form_of_const, word}
use Rattle.spec_text.specs.FoldRows.{const-Lit, const-Array, const-Record}
use Rattle.sm_print.proofs.Printing.{◌⨾◌, first-none, Prints-is, first-more, first-all}
use Rattle.spec_print.proofs.Items.{items-text, one-items-text}
use Rattle.spec_print.proofs.constants.+constants.Goals as goal

pub constant-returns-in-Lit : goal.constant-returns-in-Lit
unfolding form_of_const
constant-returns-in-Lit g t c = Prints-is (rw (c.in-Lit.is, const-Lit)) c.literal.ensures

pub constant-returns-in-Array : goal.constant-returns-in-Array
unfolding form_of_const
constant-returns-in-Array g t c = Prints-is (rw (c.as_slice.ensures, c.in-Array.is, const-Array)) c.constant_array.ensures

pub constant-returns-in-Record : goal.constant-returns-in-Record
unfolding form_of_const
constant-returns-in-Record g t c = Prints-is (rw (c.as_slice-in-Record.ensures, c.in-Record.is, const-Record)) c.constant_record.ensures

pub spaced_constants-loop-value-init : goal.spaced_constants-loop-value-init
spaced_constants-loop-value-init g t c = first-none

pub spaced_constants-loop-value-preserved : goal.spaced_constants-loop-value-preserved
spaced_constants-loop-value-preserved g t c =
    first-more c.loop-value-test.true c.value-item.is c.loop-value.invariant (c.put.ensures ⨾ c.constant.ensures)

pub spaced_constants-returns : goal.spaced_constants-returns
spaced_constants-returns g t c = first-all c.loop-value-test.false c.loop-value.invariant

pub constant_array-returns : goal.constant_array-returns
constant_array-returns g t c = Prints-is (items-text form_of_const (codes "array") c.args.all.now) (c.opened.ensures ⨾ c.spaced_constants.ensures ⨾ c.put.ensures)

pub constant_record-returns : goal.constant_record-returns
constant_record-returns g t c = Prints-is (rw (c.bytes.ensures.bytes) (one-items-text form_of_const (codes "record") (word None c.args.name.now) c.args.all.now)) (c.opened.ensures ⨾ c.spaced.ensures ⨾ c.spaced_constants.ensures ⨾ c.put.ensures)
