use Rattle.std.proofs.Common.{rules}
use Rattle.sm_print.proofs.Printing.{Prints-written}
use Rattle.c99_print.proofs.source.print_source.Goals as goal

pub returns : goal.returns
returns g c =
    let h = Prints-written c.new-printer.ensures.starts c.source_lines.ensures c.outcome.ensures in
    let same = c.source_lines.ensures.same in
    record { text = search (rules, h) }
