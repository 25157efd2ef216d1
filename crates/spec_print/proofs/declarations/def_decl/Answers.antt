use Rattle.std.proofs.Common.{codes, None}
use Rattle.spec_text.specs.Form.{form_of_type, form_of_expr, word}
use Rattle.sm_print.proofs.Printing.{◌⨾◌, Prints-is}
use Rattle.spec_print.proofs.Items.{three-text}
use Rattle.spec_print.proofs.declarations.def_decl.Goals as goal

pub returns : goal.returns
returns g c = Prints-is (rw (c.bytes.ensures.bytes) (three-text (codes "def") (word None c.args.name.now) (form_of_type c.args.ty.now) (form_of_expr c.args.e.now))) (c.opened.ensures ⨾ c.spaced.ensures ⨾ c.spaced_type.ensures ⨾ c.part.ensures ⨾ c.put.ensures)
