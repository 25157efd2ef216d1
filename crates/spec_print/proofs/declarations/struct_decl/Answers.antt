use Rattle.std.proofs.Common.{codes, None}
use Rattle.spec_text.specs.Form.{form_of_field, word}
use Rattle.sm_print.proofs.Printing.{◌⨾◌, Prints-is}
use Rattle.spec_print.proofs.Items.{one-items-text}
use Rattle.spec_print.proofs.declarations.struct_decl.Goals as goal

pub returns : goal.returns
returns g c = Prints-is (rw (c.bytes.ensures.bytes) (one-items-text form_of_field (codes "struct") (word None c.args.name.now) c.args.all.now)) (c.opened.ensures ⨾ c.spaced.ensures ⨾ c.fields.ensures ⨾ c.put.ensures)
