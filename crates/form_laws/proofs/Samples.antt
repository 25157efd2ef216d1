-- Operands of a form, their samples, and the entries of a buffer of samples.
use Rattle.std.proofs.Common.{◌≡◌, ◌+◌, ◌-◌, ◌<◌, ◌≤◌, ℕ, zero, suc, List, [], ◌∷◌, refl, ap, ◌∙◌, arith, true, false, nat_lt, Ok, Err}
use Rattle.std.specs.Prelude.{if◌then◌else◌, slice_index, Result}
use Rattle.std.proofs.lemmas.Bool.Decides.{nat_tests}
use Rattle.stream_types.specs.declared.scalar.Hazard.{Hazard}
use Rattle.stream_core.specs.Library.{bind, bool_word, is_true_word}
use Rattle.stream_core.specs.Eval.{Value}
use Rattle.form_laws.specs.Buffers.{Samples, with_now, taken}

-- ---- words of tests

pub small_word : (x : ℕ) → nat_lt x 2 ≡ true → x ≡ bool_word (is_true_word x)
small_word zero h = refl
small_word (suc zero) h = refl
small_word (suc (suc x)) h = let e : nat_lt (suc (suc x)) 2 ≡ false = grind (arith, nat_tests) in absurd (cc)

-- ---- values of operands

-- the value of the first expression, and those of the others
pub first_value : (v : Value) (rest : Result (List (List ℕ)) Hazard) (w : List ℕ) (ws : List (List ℕ)) → bind v (λ x. bind rest (λ xs. Ok (x ∷ xs))) ≡ Ok (w ∷ ws) → (v ≡ Ok w) × (rest ≡ Ok ws)
first_value (Ok x) (Ok xs) w ws h = (cc, cc)
first_value (Ok x) (Err e) w ws h = absurd (cc)
first_value (Err e) rest w ws h = absurd (cc)

abbrev pub no_values : Result (List (List ℕ)) Hazard
no_values = Ok []

-- no expressions have no values
pub no_value : {w : List ℕ} {ws : List (List ℕ)} → no_values ≡ Ok (w ∷ ws) → ⊥
no_value h = absurd (cc)

-- the hazard of an expression that stands alone
pub only_hazard : (v : Value) (h : Hazard) → bind v (λ x. bind (Ok []) (λ (xs : List (List ℕ)). Ok (x ∷ xs))) ≡ Err h → v ≡ Err h
only_hazard (Ok x) h e = absurd (cc)
only_hazard (Err g) h e = cc

-- ---- samples

pub now_is : (t : ℕ) (p : Samples) (now : List ℕ) (j : ℕ) → with_now t p now j t ≡ slice_index now j
now_is t p now j =
    let e : nat_lt t t ≡ false = grind (arith, nat_tests) in
    ap (λ b. if b then p j t else slice_index now j) e

pub earlier_is : (t : ℕ) (p : Samples) (now : List ℕ) (j i : ℕ) → i < t → with_now t p now j i ≡ p j i
earlier_is t p now j i h =
    let e : nat_lt i t ≡ true = grind (arith, nat_tests, h) in
    ap (λ b. if b then p j i else slice_index now j) e

-- ---- entries of buffers

pub first_entries : (d w : ℕ) (p : ℕ → ℕ) (i : ℕ) → i < d → taken d w p i ≡ w
first_entries d w p i h =
    let e : nat_lt i d ≡ true = grind (arith, nat_tests, h) in
    ap (λ b. if b then w else p (i - d)) e

pub later_entries : (d w : ℕ) (p : ℕ → ℕ) (i : ℕ) → taken d w p (d + i) ≡ p i
later_entries d w p i =
    let e : nat_lt (d + i) d ≡ false = grind (arith, nat_tests) in
    ap (λ b. if b then w else p (d + i - d)) e ∙ ap p (omega arith)

-- the entry that is read i steps ago
pub entry_ago : (d w : ℕ) (p : ℕ → ℕ) (t i : ℕ) → i ≤ d → i ≤ t → taken d w p (t + (d - i)) ≡ p (t - i)
entry_ago d w p t i h g =
    let e : t + (d - i) ≡ d + (t - i) = omega (arith, h, g) in
    ap (taken d w p) e ∙ later_entries d w p (t - i)

pub entry_before : (d w : ℕ) (p : ℕ → ℕ) (t i : ℕ) → t < i → i ≤ d → taken d w p (t + (d - i)) ≡ w
entry_before d w p t i h g = first_entries d w p (t + (d - i)) (omega (arith, h, g))
