use Rattle.std.proofs.Common.{codes, None}
use Rattle.spec_text.specs.Form.{number, word}
use Rattle.sm_print.proofs.Printing.{◌⨾◌, Prints-is}
use Rattle.spec_print.proofs.Items.{two-text}
use Rattle.spec_print.proofs.expressions.drop_form.Goals as goal

pub returns : goal.returns
returns g c = Prints-is (rw (c.bytes.ensures.bytes) (two-text (codes "drop") (number c.args.k) (word None c.args.name.now))) (c.opened.ensures ⨾ c.spaced_number.ensures ⨾ c.spaced.ensures ⨾ c.put.ensures)
