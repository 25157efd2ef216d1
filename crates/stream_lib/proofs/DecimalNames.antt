-- A number's decimal is a name of bytes.
use Rattle.std.proofs.Common.{◌≡◌, ℕ, ◌<◌, ◌+◌, ◌%◌, ◌^◌, List, [], ◌∷◌, ◌++◌, Bool, true, ap, ◌∙◌, arith}
use Rattle.std.specs.Prelude.{decimal, ◌&&◌}
use Rattle.std.specs.List.{list_all}
use Rattle.std.proofs.lemmas.Bool.Decides.{nat_tests}
use Rattle.std.proofs.lemmas.Fmt.{decimal_by_steps, decimal_nonempty, length-decimal-le}
use Rattle.std.proofs.lemmas.List.Folds.{list_all-append}
use Rattle.sm_io.specs.Names.{IsNameBytes, is_name_byte}

digit_is_name_byte : (d : ℕ) → d < 10 → is_name_byte (48 + d) ≡ true
digit_is_name_byte d h = grind (arith, nat_tests)

one_more : (p : ℕ → Bool) (ds : List ℕ) (d : ℕ) → list_all p ds ≡ true → p d ≡ true → list_all p (ds ++ d ∷ []) ≡ true
one_more p ds d h e = list_all-append p ds (d ∷ []) ∙ ap (λ b. b && (p d && true)) h ∙ ap (λ b. b && true) e

digits_are_name_bytes : (n : ℕ) → n < 2 ^ 64 → list_all is_name_byte (decimal n) ≡ true
digits_are_name_bytes n h = decimal_by_steps (λ k ds. list_all is_name_byte ds ≡ true) (λ k small. grind (arith, digit_is_name_byte)) (λ k ds big all. one_more is_name_byte ds (48 + k % 10) all (digit_is_name_byte (k % 10) (omega arith))) n h

pub decimal_is_name : (n : ℕ) → n < 2 ^ 32 → IsNameBytes (decimal n)
decimal_is_name n h =
    let a = decimal_nonempty n (omega (arith, h)) in
    let b = length-decimal-le 20 n (omega arith) (omega (arith, h)) (omega (arith, h)) in
    let c = digits_are_name_bytes n (omega (arith, h)) in
    grind (arith, nat_tests, a, b, c)
