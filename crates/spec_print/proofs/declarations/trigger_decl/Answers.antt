use Rattle.std.proofs.Common.{codes, None}
use Rattle.spec_text.specs.Form.{form_of_expr, word}
use Rattle.sm_print.proofs.Printing.{◌⨾◌, Prints-is}
use Rattle.spec_print.proofs.Items.{two-items-text}
use Rattle.spec_print.proofs.declarations.trigger_decl.Goals as goal

pub returns : goal.returns
returns g c = Prints-is (rw (c.bytes.ensures.bytes) (two-items-text form_of_expr (codes "trigger") (word None c.args.name.now) (form_of_expr c.args.guard.now) c.args.args.now)) (c.opened.ensures ⨾ c.spaced.ensures ⨾ c.part.ensures ⨾ c.parts.ensures ⨾ c.put.ensures)
