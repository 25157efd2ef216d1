use Rattle.sm_print.proofs.Printing.{◌⨾◌, Prints-is}
use Rattle.spec_print.proofs.Items.{surface-text}
use Rattle.spec_print.proofs.surface.print_surface.Goals as goal

pub returns : goal.returns
returns g c = Prints-is (rw (c.spec_word.ensures, c.bytes.ensures.bytes, c.as_slice.ensures) (surface-text c.args.s.now)) (c.opened.ensures ⨾ c.spaced.ensures ⨾ c.decl_lines.ensures ⨾ c.put.ensures)
