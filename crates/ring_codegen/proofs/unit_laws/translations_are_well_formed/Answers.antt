use Rattle.ring_codegen.proofs.SoundUnits.{well_formed}
use Rattle.ring_codegen.proofs.unit_laws.translations_are_well_formed.Goals as goal

pub returns : goal.returns
returns c = well_formed
