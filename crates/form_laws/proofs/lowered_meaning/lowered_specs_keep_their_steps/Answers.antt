use Rattle.form_laws.proofs.LoweredMeaning.{step_same, plain_step_same, plain_log_same}
use Rattle.form_laws.proofs.lowered_meaning.lowered_specs_keep_their_steps.Goals as goal

pub returns-clause-closed : goal.returns-clause-closed
returns-clause-closed c = λ s h t w none history b. step_same s w none h history t b

pub returns-clause-plain : goal.returns-clause-plain
returns-clause-plain c = λ s h t w none history b. plain_step_same s w none h history t b

pub returns-clause-log : goal.returns-clause-log
returns-clause-log c = λ s h n w none history b. plain_log_same s w none h history n b
