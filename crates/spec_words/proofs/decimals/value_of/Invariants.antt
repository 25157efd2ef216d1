use Rattle.std.proofs.Common.{◌≡◌, take}
use Rattle.spec_words.specs.Decimals.{value_of}
use Rattle.spec_words.specs.Magnitudes.{magnitude_of}
use Rattle.spec_words.proofs.decimals.value_of.Given as goal

abbrev pub invariant-loop-digit : goal.invariant-loop-digit
invariant-loop-digit l = l.value ≡ magnitude_of (value_of (take l.digit-index l.digits))
