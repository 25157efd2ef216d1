use Rattle.stream_core.specs.Term.{trees}
use Rattle.stream_core.proofs.Limited.{within, without}
use Rattle.stream_core.proofs.typed.sound_specs_keep_limits.Goals as goal

pub returns : goal.returns
returns c = λ s. (λ none. let w = within (trees s) none.1 in (none.0, w.0, w.1), λ kept. (kept.0, without (trees s) kept.1 kept.2))
