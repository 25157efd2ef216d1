use Rattle.form_laws.proofs.LoweredMeaning.{values_go}
use Rattle.form_laws.proofs.lowered_meaning.lowered_expressions_keep_their_values.Goals as goal

pub returns : goal.returns
returns c = λ s h t lists low e u w none history b is f g o. values_go s w none h history t lists low is f b e u g o
