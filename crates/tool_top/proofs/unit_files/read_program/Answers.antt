use Rattle.std.proofs.Common.{Err, subst, sym}
use Rattle.tool_top.specs.Programs.{ReadsTo}
use Rattle.tool_top.proofs.ReadPrograms.{refused_reading}
use Rattle.tool_top.proofs.unit_files.read_program.Goals as goal

pub returns-in-Err : goal.returns-in-Err
returns-in-Err c =
    subst (λ stop. ReadsTo c.args.header.now c.args.source.now (Err stop)) (sym c.stop_of_reading.ensures)
    (refused_reading c.args.header.now c.args.source.now c.in-Err.fault c.in-Err.ensures)
