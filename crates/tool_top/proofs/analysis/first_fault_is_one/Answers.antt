use Rattle.tool_top.proofs.OneFault.{one_fault, one_typed, sound_texts}
use Rattle.tool_top.proofs.analysis.first_fault_is_one.Goals as goal

pub returns-clause-sound : goal.returns-clause-sound
returns-clause-sound c = sound_texts c.text_has_one_forest.ensures c.forest_has_one_surface.ensures

pub returns-clause-one : goal.returns-clause-one
returns-clause-one c = one_fault c.text_has_one_forest.ensures c.forest_has_one_surface.ensures

pub returns-clause-meaning : goal.returns-clause-meaning
returns-clause-meaning c = λ text s t a b. one_typed c.text_has_one_forest.ensures c.forest_has_one_surface.ensures text s t a.typed b.typed
