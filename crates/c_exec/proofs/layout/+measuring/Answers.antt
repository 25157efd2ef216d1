use Rattle.std.proofs.Common.{◌≡◌, arith}
use Rattle.c_exec.proofs.Widths.{no_depth}
use Rattle.c_exec.proofs.layout.+measuring.Goals as goal

pub width_within-returns-in_default : goal.width_within-returns-in_default
width_within-returns-in_default t c =
    let none : c.args.depth ≡ 0 = omega arith in
    no_depth c.args.depth c.args.types.now c.args.ty.now none
