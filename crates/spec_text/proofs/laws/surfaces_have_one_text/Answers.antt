use Rattle.spec_text.proofs.Bares.{same_forms, one_text}
use Rattle.spec_text.proofs.laws.surfaces_have_one_text.Goals as goal

pub returns-clause-form : goal.returns-clause-form
returns-clause-form c = λ forest s t h k. same_forms forest s t h k

pub returns-clause-text : goal.returns-clause-text
returns-clause-text c = λ forest s t h k. one_text forest s t h k
