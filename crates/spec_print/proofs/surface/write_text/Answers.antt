use Rattle.std.proofs.Common.{rules}
use Rattle.sm_print.proofs.Printing.{Prints-written}
use Rattle.spec_print.proofs.surface.write_text.Goals as goal

pub returns : goal.returns
returns g c =
    let h = Prints-written c.new-printer.ensures.starts c.print_surface.ensures c.outcome.ensures in
    let same = c.print_surface.ensures.same in
    record { text = search (rules, h) }
