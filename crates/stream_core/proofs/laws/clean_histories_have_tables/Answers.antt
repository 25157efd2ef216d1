use Rattle.stream_core.specs.Meaning.{closed_spec}
use Rattle.stream_core.proofs.CleanSteps.{table_ok, steps_ok}
use Rattle.stream_core.proofs.laws.clean_histories_have_tables.Goals as goal

pub returns : goal.returns
returns c = λ s h n. (λ clean. (clean.within, table_ok (closed_spec s) h n clean.ok), λ p. record { within = p.0; ok = steps_ok (closed_spec s) h n p.1 })
