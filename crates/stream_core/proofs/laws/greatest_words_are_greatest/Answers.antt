use Rattle.stream_core.proofs.Windows.{greatest_is_sample, none_greater}
use Rattle.stream_core.proofs.laws.greatest_words_are_greatest.Goals as goal

pub returns-clause-sample : goal.returns-clause-sample
returns-clause-sample c = λ s first rest. greatest_is_sample s first rest

pub returns-clause-greatest : goal.returns-clause-greatest
returns-clause-greatest c = λ s first rest. none_greater s first rest
