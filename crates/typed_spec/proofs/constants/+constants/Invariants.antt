use Rattle.std.proofs.Common.{◌≡◌, ◌++◌, take}
use Rattle.std.specs.List.{flat_map}
use Rattle.typed_text.specs.ReadSpec.{const_words}
use Rattle.typed_spec.proofs.constants.+constants.Given as goal

abbrev pub invariant-constants-loop-form : goal.invariant-constants-loop-form
invariant-constants-loop-form l = l.words.items ≡ l.fn.words.items ++ flat_map const_words (take l.form-index l.forms)
