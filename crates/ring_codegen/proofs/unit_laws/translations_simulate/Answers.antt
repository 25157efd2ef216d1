use Rattle.ring_codegen.proofs.SoundUnits.{simulates}
use Rattle.ring_codegen.proofs.unit_laws.translations_simulate.Goals as goal

pub returns : goal.returns
returns c = simulates
