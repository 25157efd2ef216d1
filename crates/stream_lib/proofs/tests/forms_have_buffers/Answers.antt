use Rattle.std.proofs.Common.{sym, subst}
use Rattle.stream_core.specs.WellTyped.{WellTyped}
use Rattle.stream_lib.proofs.WorkedFormsTyped.{yesterdays_typed}
use Rattle.stream_lib.proofs.tests.forms_have_buffers.Goals as goal

pub sound-requires : goal.sound-requires
sound-requires g c = subst WellTyped (sym c.yesterdays.ensures) yesterdays_typed
