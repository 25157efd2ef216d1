use Rattle.std.proofs.Common.{sym, subst}
use Rattle.stream_core.specs.WellTyped.{WellTyped}
use Rattle.recursion_check.proofs.FourDefs.{four_typed}
use Rattle.recursion_check.proofs.tests.Maker.judged.Goals as goal

pub sound-requires : goal.sound-requires
sound-requires g c = subst WellTyped (sym c.four_defs.ensures) (four_typed c.args.a c.args.b c.args.c c.args.d c.requires.a c.requires.b c.requires.c c.requires.d)
