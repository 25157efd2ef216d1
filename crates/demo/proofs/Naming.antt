-- A letter and a number are the bytes of a name.
use Rattle.std.proofs.Common.{◌≡◌, ℕ, ◌<◌, ◌≤◌, ◌^◌, Bool, true, false, ◌∷◌, refl, arith}
use Rattle.std.specs.Prelude.{IsTrue, decimal, length, nat_le, ◌&&◌}
use Rattle.std.specs.List.{list_all}
use Rattle.std.proofs.lemmas.Bool.Decides.{nat_tests}
use Rattle.std.proofs.lemmas.Fmt.{length-decimal-le}
use Rattle.sm_io.specs.Names.{IsNameBytes, is_name_byte}
use Rattle.stream_lib.proofs.DecimalNames.{decimal_is_name}

last_true : (a b c : Bool) → IsTrue (a && b && c) → c ≡ true
last_true true true true h = refl
last_true true true false h = absurd (cc)
last_true true false c h = absurd (cc)
last_true false b c h = absurd (cc)

pub numbered_name : (a n : ℕ) → 97 ≤ a → a ≤ 122 → n < 2 ^ 32 → IsNameBytes (a ∷ decimal n)
numbered_name a n low high fits =
    let short = length-decimal-le 20 n (omega arith) (omega (arith, fits)) (omega (arith, fits)) in
    let digits : list_all is_name_byte (decimal n) ≡ true = last_true (nat_le 1 (length (decimal n))) (nat_le (length (decimal n)) 31) (list_all is_name_byte (decimal n)) (decimal_is_name n fits) in
    grind (arith, nat_tests, low, high, short, digits)
