use Rattle.form_laws.proofs.LoweredCalls.{plain_handlers, plain_calls, plain_clean}
use Rattle.form_laws.proofs.lowered_meaning.lowered_specs_keep_their_calls.Goals as goal

pub returns-clause-handlers : goal.returns-clause-handlers
returns-clause-handlers c = plain_handlers

pub returns-clause-calls : goal.returns-clause-calls
returns-clause-calls c = λ s h n w none history b. plain_calls s w none h history n b

pub returns-clause-clean : goal.returns-clause-clean
returns-clause-clean c = λ s h n w none history. plain_clean s w none h history n
