use Rattle.tool_top.proofs.OneOutcome.{one_outcome}
use Rattle.tool_top.proofs.top.outcome_is_one.Goals as goal

pub returns : goal.returns
returns c = one_outcome c.first_fault_is_one.ensures.sound c.first_fault_is_one.ensures.one c.first_fault_is_one.ensures.meaning c.texts_spell_one_unit.ensures
