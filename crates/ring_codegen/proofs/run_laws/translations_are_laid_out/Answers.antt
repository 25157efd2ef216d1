use Rattle.ring_codegen.proofs.LaidOut.{storage_kept, copied_first}
use Rattle.ring_codegen.proofs.run_laws.translations_are_laid_out.Goals as goal

pub returns-clause-storage : goal.returns-clause-storage
returns-clause-storage c = λ s name w none plain. storage_kept s w plain none name

pub returns-clause-copied : goal.returns-clause-copied
returns-clause-copied c = λ s name w none plain. copied_first s w plain none name
