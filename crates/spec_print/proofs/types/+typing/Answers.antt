use Rattle.spec_text.specs.Form.{form_of_type, number}
use Rattle.spec_text.specs.FoldRows.{type-Scalar, type-Named, type-Array}
use Rattle.std.proofs.Common.{codes}
use Rattle.sm_print.proofs.Printing.{◌⨾◌, Prints-is}
use Rattle.spec_print.proofs.Items.{two-text}
use Rattle.spec_print.proofs.types.+typing.Goals as goal

pub type_form-returns-in-Scalar : goal.type_form-returns-in-Scalar
unfolding form_of_type
type_form-returns-in-Scalar g t c = Prints-is (rw (c.scalar_word.ensures, c.in-Scalar.is, type-Scalar)) c.put.ensures

pub type_form-returns-in-Named : goal.type_form-returns-in-Named
unfolding form_of_type
type_form-returns-in-Named g t c = Prints-is (rw (c.bytes.ensures.bytes, c.in-Named.is, type-Named)) c.put-in-Named.ensures

pub type_form-returns-in-Array : goal.type_form-returns-in-Array
unfolding form_of_type
type_form-returns-in-Array g t c = Prints-is (rw (c.get.ensures, c.in-Array.is, type-Array)) c.array_type.ensures

pub array_type-returns : goal.array_type-returns
array_type-returns g t c = Prints-is (two-text (codes "array") (form_of_type c.args.elem.now) (number c.args.n)) (c.opened.ensures ⨾ c.spaced_type.ensures ⨾ c.spaced_number.ensures ⨾ c.put.ensures)

pub spaced_type-returns : goal.spaced_type-returns
spaced_type-returns g t c = c.put.ensures ⨾ c.type_form.ensures
