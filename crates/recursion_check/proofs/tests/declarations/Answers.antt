use Rattle.std.proofs.Common.{sym, subst}
use Rattle.stream_core.specs.WellTyped.{WellTyped}
use Rattle.recursion_check.proofs.Many.{many_typed}
use Rattle.recursion_check.proofs.tests.declarations.Goals as goal

pub sound-requires : goal.sound-requires
sound-requires g c = subst WellTyped (sym c.many.ensures) (many_typed 4096)

pub sound-requires-2 : goal.sound-requires-2
sound-requires-2 g c = subst WellTyped (sym c.many-2.ensures) (many_typed 4097)
