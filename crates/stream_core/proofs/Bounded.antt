-- The bounded forms: what a buffer of operands holds, and a chain of its reads.
use Rattle.std.proofs.Common.{◌≡◌, ℕ, zero, suc, ◌+◌, ◌-◌, ◌<◌, ◌≤◌, [], ◌∷◌, refl, sym, ap, ◌∙◌, ⊎_elim, arith, Bool, true, false, Ok}
use Rattle.std.specs.Prelude.{nat_le, ◌&&◌, ◌||◌}
use Rattle.std.proofs.lemmas.Bool.Decides.{nat_tests}
use Rattle.std.proofs.lemmas.Bool.{cases_lt}
use Rattle.stream_core.specs.Library.{some_below, bool_word}
use Rattle.stream_core.specs.Term.{Term}
use Rattle.stream_core.specs.Lower.{or_all, ago, agos}
use Rattle.stream_core.specs.Eval.{Moment, value, on_test, entry_at}
use Rattle.std.proofs.Math.Bool.{or-false}

abbrev some_from : (ℕ → Bool) → ℕ → ℕ → Bool
some_from f i zero = false
some_from f i (suc n) = f i || some_from f (i + 1) n

or_assoc : (x y z : Bool) → ((x || y) || z) ≡ (x || (y || z))
or_assoc true y z = refl
or_assoc false y z = refl

from_last : (f : ℕ → Bool) (i n : ℕ) → some_from f i (suc n) ≡ (some_from f i n || f (i + n))
from_last f i zero = or-false (f i) ∙ ap f (let e : i ≡ i + 0 = omega arith in e)
from_last f i (suc n) =
    ap (λ x. f i || x) (from_last f (i + 1) n)
    ∙ sym (or_assoc (f i) (some_from f (i + 1) n) (f (i + 1 + n)))
    ∙ ap (λ m. (f i || some_from f (i + 1) n) || f m) (let e : i + 1 + n ≡ i + suc n = omega arith in e)

below_is : (f : ℕ → Bool) (n : ℕ) → some_below n f ≡ some_from f 0 n
below_is f zero = refl
below_is f (suc n) = ap (λ x. x || f n) (below_is f n) ∙ sym (from_last f 0 n ∙ ap (λ m. some_from f 0 n || f m) (let e : 0 + n ≡ n = omega arith in e))

or_values : (c d : Bool) → on_test (Ok (bool_word c ∷ [])) (Ok (1 ∷ [])) (Ok (bool_word d ∷ [])) ≡ Ok (bool_word (c || d) ∷ [])
or_values true d = refl
or_values false d = refl

module _ (m : Moment) (b depth : ℕ) (P : ℕ → Bool) (early : (i : ℕ) → i < depth → entry_at m.table b i ≡ bool_word false ∷ []) (late : (i : ℕ) → i < m.time → entry_at m.table b (depth + i) ≡ bool_word (P i) ∷ []) where
  -- whether the operand held i steps ago
  ago_is : (i : ℕ) → 1 ≤ i → i ≤ depth → value m (ago b depth i) ≡ Ok (bool_word (nat_le i m.time && P (m.time - i)) ∷ [])
  ago_is i p q = ⊎_elim before after (cases_lt m.time i)
    where
      before : m.time < i → value m (ago b depth i) ≡ Ok (bool_word (nat_le i m.time && P (m.time - i)) ∷ [])
      before h =
          let e : nat_le i m.time ≡ false = grind (arith, nat_tests, h) in
          ap Ok (early (m.time + (depth - i)) (omega (arith, p, q, h))) ∙ ap (λ c. Ok (bool_word (c && P (m.time - i)) ∷ [])) (sym e)

      after : i ≤ m.time → value m (ago b depth i) ≡ Ok (bool_word (nat_le i m.time && P (m.time - i)) ∷ [])
      after h =
          let e : nat_le i m.time ≡ true = grind (arith, nat_tests, h) in
          let at : m.time + (depth - i) ≡ depth + (m.time - i) = omega (arith, q, h) in
          ap (λ j. Ok (entry_at m.table b j)) at ∙ ap Ok (late (m.time - i) (omega (arith, p, h))) ∙ ap (λ c. Ok (bool_word (c && P (m.time - i)) ∷ [])) (sym e)

  pub or_chain : (n i : ℕ) (e : Term) (c : Bool) → 1 ≤ i → i + n ≤ depth + 1 → value m e ≡ Ok (bool_word c ∷ []) → value m (or_all e (agos b depth i n)) ≡ Ok (bool_word (c || some_from (λ j. nat_le j m.time && P (m.time - j)) i n) ∷ [])
  or_chain zero i e c p q h = h ∙ ap (λ x. Ok (bool_word x ∷ [])) (sym (or-false c))
  or_chain (suc n) i e c p q h =
      let rest = or_chain n (i + 1) (ago b depth i) (nat_le i m.time && P (m.time - i)) (omega arith) (omega (arith, q)) (ago_is i p (omega (arith, q))) in
      ap (λ v. on_test v (Ok (1 ∷ [])) (value m (or_all (ago b depth i) (agos b depth (i + 1) n)))) h
      ∙ ap (λ v. on_test (Ok (bool_word c ∷ [])) (Ok (1 ∷ [])) v) rest
      ∙ or_values c _
