-- The choice of one word of a window, and its value from a buffer that begins with words that are never better.
use Rattle.std.proofs.Common.{◌≡◌, ℕ, zero, suc, ◌-◌, ◌<◌, ◌≤◌, List, [], ◌∷◌, refl, sym, ap, ◌∙◌, arith, Bool, true, false, Ok}
use Rattle.std.specs.Prelude.{IsTrue, if◌then◌else◌, max, Contains}
use Rattle.std.specs.List.{AllByRecursion}
use Rattle.stream_types.specs.declared.scalar.Scalar.{Scalar}
use Rattle.stream_types.specs.Numbers.{is_word}
use Rattle.stream_core.specs.Term.{Term}
use Rattle.stream_core.specs.Library.{back}
use Rattle.stream_core.specs.Eval.{Moment, value}
use Rattle.stream_core.specs.Lower.{sample, best}
use Rattle.form_laws.specs.Buffers.{Samples, with_now}
use Rattle.form_laws.proofs.WindowParts.{padded, IsWindow, back_same, earlier, at_this}
use Rattle.form_laws.proofs.WindowBests.{IsTest, padded_all, window_best}

-- A choice of one of some words of a scalar: it is as good as each, two words as good as each other are one, and a word w
-- behind the others doesn't change it.
pub record IsChoice (s : Scalar) (w : ℕ) (test : Term → Term → Term) (ge : ℕ → ℕ → Bool) (pick : ℕ → List ℕ → ℕ) : Type 0 where
  pub tested : (m : Moment) → IsTest m test ge
  pub alike : (y z : ℕ) → IsTrue (is_word s y) → IsTrue (is_word s z) → ge y z ≡ true → ge z y ≡ true → y ≡ z
  pub filler : IsTrue (is_word s w)
  pub one_of : (x : ℕ) (xs : List ℕ) → Contains (x ∷ xs) (pick x xs)
  pub beats : (x : ℕ) (xs : List ℕ) → AllByRecursion (λ y. ge (pick x xs) y ≡ true) (x ∷ xs)
  pub unmoved : (a : ℕ) (p : ℕ → ℕ) (t n : ℕ) → IsTrue (is_word s a) → ((i : ℕ) → i < t → IsTrue (is_word s (p i))) → pick a (padded w p t n) ≡ pick a (back p t n)

pub choice_value : (s : Scalar) (w : ℕ) (test : Term → Term → Term) (ge : ℕ → ℕ → Bool) (pick : ℕ → List ℕ → ℕ) → IsChoice s w test ge pick
    → (m : Moment) (b n : ℕ) (e : Term) (x : ℕ) (p : Samples) → 1 ≤ n → IsWindow b (max (n - 1) 1) w m.table m.time (p 0)
    → IsTrue (is_word s x) → ((i : ℕ) → i < m.time → IsTrue (is_word s (p 0 i))) → value m e ≡ Ok (x ∷ [])
    → value m (best test (sample b (max (n - 1) 1) e) n 0 (n - 1)) ≡ Ok (pick (with_now m.time p (x ∷ []) 0 m.time) (back (with_now m.time p (x ∷ []) 0) m.time (n - 1)) ∷ [])
choice_value s w test ge pick c m b n e x p some hold word all is =
    let t = m.time in
    let now = x ∷ [] in
    let q = with_now t p now 0 in
    let xs = padded w (p 0) t (n - 1) in
    let words = padded_all (λ y. IsTrue (is_word s y)) w (p 0) t (n - 1) c.filler all in
    let room : n - 1 ≤ max (n - 1) 1 = omega arith in
    let counted : n ≡ suc (n - 1) = omega (arith, some) in
    window_best m test ge (λ y. IsTrue (is_word s y)) b (max (n - 1) 1) w n (n - 1) (p 0) e x (pick x xs)
    (c.tested m) hold is room counted c.alike (word, words) (c.one_of x xs) (c.beats x xs)
    ∙ ap (λ g. Ok (g ∷ [])) (c.unmoved x (p 0) t (n - 1) word all
    ∙ ap (pick x) (back_same (p 0) q t (n - 1) (λ i h. sym (earlier t p now 0 i h)))
    ∙ ap (λ a. pick a (back q t (n - 1))) (sym (at_this t p now 0 t refl)))

-- ---- a choice by turns

turned : (c : Bool) (x a : ℕ) (P : ℕ → Type 0) → P x → P a → P (if c then x else a)
turned true x a P h g = h
turned false x a P h g = g

-- A choice that goes from sample to sample, taking the next one where it is its turn, never takes a word whose turn it never is.
module _ (pick : ℕ → List ℕ → ℕ) (turn : ℕ → ℕ → Bool) (P : ℕ → Type 0) (w : ℕ)
    (none_left : (a : ℕ) → pick a [] ≡ a) (next : (a x : ℕ) (xs : List ℕ) → pick a (x ∷ xs) ≡ pick (if turn a x then x else a) xs) (never : (a : ℕ) → P a → turn a w ≡ false) where
  only_filler : (a : ℕ) (p : ℕ → ℕ) (n : ℕ) → P a → pick a (padded w p zero n) ≡ a
  only_filler a p zero h = none_left a
  only_filler a p (suc n) h = next a w (padded w p zero n) ∙ ap (λ c. pick (if c then w else a) (padded w p zero n)) (never a h) ∙ only_filler a p n h

  pub filler_ignored : (a : ℕ) (p : ℕ → ℕ) (t n : ℕ) → P a → ((i : ℕ) → i < t → P (p i)) → pick a (padded w p t n) ≡ pick a (back p t n)
  filler_ignored a p t zero h all = refl
  filler_ignored a p zero (suc n) h all = only_filler a p (suc n) h ∙ sym (none_left a)
  filler_ignored a p (suc t) (suc n) h all =
      next a (p t) (padded w p t n)
      ∙ filler_ignored (if turn a (p t) then p t else a) p t n (turned (turn a (p t)) (p t) a P (all t (omega arith)) h) (λ i b. all i (omega (arith, b)))
      ∙ sym (next a (p t) (back p t n))
