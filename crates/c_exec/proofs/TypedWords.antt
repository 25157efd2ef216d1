-- The number that a word of a type stands for is of that type.
use Rattle.std.proofs.Common.{◌≡◌, ℕ, ◌^◌, Bool, true, false, ◌&&◌, refl}
use Rattle.std.specs.Prelude.{ℤ, pos, ◌-ℤ◌, nat_le, if◌then◌else◌}
use Rattle.c99_tree.specs.declared.types.CScalar.{CScalar}
use Rattle.c99_tree.specs.CTypes.{num, is_signed}
use Rattle.c99_tree.specs.Values.{number_of_word}

either_typed : (t : CScalar) (c : Bool) (a b : ℤ) → (if c then num t a else num t b).ty ≡ t
either_typed t true a b = refl
either_typed t false a b = refl

pub number_typed : (t : CScalar) (w : ℕ) → (number_of_word t w).ty ≡ t
number_typed t w = either_typed t (is_signed t && nat_le (2 ^ 63) w) (pos w -ℤ pos (2 ^ 64)) (pos w)
