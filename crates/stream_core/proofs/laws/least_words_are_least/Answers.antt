use Rattle.stream_core.proofs.Windows.{least_is_sample, none_less}
use Rattle.stream_core.proofs.laws.least_words_are_least.Goals as goal

pub returns-clause-sample : goal.returns-clause-sample
returns-clause-sample c = λ s first rest. least_is_sample s first rest

pub returns-clause-least : goal.returns-clause-least
returns-clause-least c = λ s first rest. none_less s first rest
