use Rattle.type_check.proofs.PlacelessTexts.{never-memory}
use Rattle.type_check.proofs.laws.memory_is_no_fault_of_a_text.Goals as goal

pub returns : goal.returns
returns c = λ s. never-memory s
