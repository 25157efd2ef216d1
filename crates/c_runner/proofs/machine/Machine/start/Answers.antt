use Rattle.std.proofs.Common.{refl}
use Rattle.c_runner.proofs.Started.{first_stands}
use Rattle.c_runner.proofs.machine.Machine.start.Goals as goal

pub returns : goal.returns
returns g c =
    (refl, first_stands c.args.unit.now c.in_ok-start.field-0 c.in_ok-shapes.field-0 c.requires c.in_ok-start.ensures c.in_ok-shapes.ensures)
