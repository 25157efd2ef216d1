use Rattle.std.proofs.Common.{codes, map, None}
use Rattle.spec_text.specs.Form.{form_of_type, form_of_const, form_of_expr, word, form, forms}
use Rattle.sm_print.proofs.Printing.{◌⨾◌, Prints-is}
use Rattle.spec_print.proofs.Items.{four-text}
use Rattle.spec_print.proofs.declarations.stream_decl.Goals as goal

pub returns : goal.returns
returns g c = Prints-is (rw (c.bytes.ensures.bytes) (four-text (codes "stream") (word None c.args.name.now) (form_of_type c.args.ty.now) (form None (forms (map form_of_const c.args.init.now))) (form_of_expr c.args.e.now))) (c.opened.ensures ⨾ c.spaced.ensures ⨾ c.spaced_type.ensures ⨾ c.initial.ensures ⨾ c.part.ensures ⨾ c.put.ensures)
