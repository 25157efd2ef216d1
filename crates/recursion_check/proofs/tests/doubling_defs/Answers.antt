use Rattle.std.proofs.Common.{sym, subst}
use Rattle.stream_core.specs.WellTyped.{WellTyped}
use Rattle.recursion_check.proofs.Doubled.{ten, eleven}
use Rattle.recursion_check.proofs.tests.doubling_defs.Goals as goal

pub sound-requires : goal.sound-requires
sound-requires g c = subst WellTyped (sym c.doubled.ensures) ten

pub sound-requires-2 : goal.sound-requires-2
sound-requires-2 g c = subst WellTyped (sym c.doubled-2.ensures) eleven
