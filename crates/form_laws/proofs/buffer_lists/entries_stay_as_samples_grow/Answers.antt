use Rattle.form_laws.proofs.BufferLists.{entry_stays}
use Rattle.form_laws.proofs.buffer_lists.entries_stay_as_samples_grow.Goals as goal

pub returns : goal.returns
returns c = λ f t p now k i h. entry_stays t p now f k i h
