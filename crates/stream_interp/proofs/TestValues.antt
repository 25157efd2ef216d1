-- What a test chooses, by its word.
use Rattle.std.proofs.Common.{◌≡◌, ℕ, ◌<◌, [], ◌∷◌, Ok, Err, ap, ◌∙◌, arith}
use Rattle.std.specs.Prelude.{if◌then◌else◌}
use Rattle.std.proofs.lemmas.Bool.Decides.{nat_tests}
use Rattle.stream_types.specs.declared.scalar.Hazard.{Hazard}
use Rattle.stream_core.specs.Eval.{Value, on_test}
use Rattle.stream_core.specs.Library.{is_true_word}

pub true_is : {A : Type 0} (a b : A) (w : ℕ) → 0 < w → (if is_true_word w then a else b) ≡ a
true_is a b w h = grind (arith, nat_tests)

pub false_is : {A : Type 0} (a b : A) (w : ℕ) → w ≡ 0 → (if is_true_word w then a else b) ≡ b
false_is a b w h = grind (arith, nat_tests)

pub test_true : (v a b : Value) (w : ℕ) → v ≡ Ok (w ∷ []) → 0 < w → on_test v a b ≡ a
test_true v a b w e h = ap (λ (u : Value). on_test u a b) e ∙ true_is a b w h

pub test_false : (v a b : Value) (w : ℕ) → v ≡ Ok (w ∷ []) → w ≡ 0 → on_test v a b ≡ b
test_false v a b w e h = ap (λ (u : Value). on_test u a b) e ∙ false_is a b w h

pub test_err : (v a b : Value) (z : Hazard) → v ≡ Err z → on_test v a b ≡ Err z
test_err v a b z e = ap (λ (u : Value). on_test u a b) e
