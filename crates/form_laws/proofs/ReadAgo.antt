-- What a buffer of a test's samples gives some steps ago.
use Rattle.std.proofs.Common.{◌≡◌, ◌+◌, ◌-◌, ◌<◌, ◌≤◌, ℕ, zero, suc, List, [], ◌∷◌, replicate, refl, sym, ap, ◌∙◌, arith, Bool, true, false, nat_lt, Some, Ok}
use Rattle.std.specs.Prelude.{nat_le, ◌&&◌, ◌||◌, not, if◌then◌else◌, slice_get, slice_index}
use Rattle.std.proofs.lemmas.Bool.Decides.{nat_tests}
use Rattle.stream_core.specs.Library.{bool_word, is_true_word, within}
use Rattle.stream_core.specs.Eval.{Moment, value, entry_at}
use Rattle.stream_core.specs.Lower.{ago}
use Rattle.form_laws.specs.Buffers.{Samples, with_now, truths, taken}
use Rattle.form_laws.proofs.Samples.{small_word, now_is, earlier_is, entry_ago, entry_before}

-- a test's samples before step t are words of tests
abbrev pub AreTests : ℕ → (ℕ → ℕ) → Type 0
AreTests t p = (i : ℕ) → i < t → nat_lt (p i) 2 ≡ true

-- a list of the table holds the samples of a test, behind d times a word
abbrev pub HoldsTest : Moment → ℕ → ℕ → Bool → (ℕ → ℕ) → Type 0
HoldsTest m b d w p = (i : ℕ) → i < d + m.time → entry_at m.table b i ≡ taken d (bool_word w) p i ∷ []

-- what the test was i steps ago, or w where there was no such step
abbrev pub at_ago : Bool → ℕ → (ℕ → Bool) → ℕ → Bool
at_ago w t r i = if nat_le i t then r (t - i) else w

ago_by : (b : Bool) (w : Bool) (d t i : ℕ) (p : ℕ → ℕ) → nat_le i t ≡ b → 1 ≤ i → i ≤ d → AreTests t p → taken d (bool_word w) p (t + (d - i)) ≡ bool_word (if b then is_true_word (p (t - i)) else w)
ago_by true w d t i p e l u tests = let g : i ≤ t = grind (arith, nat_tests, e) in entry_ago d (bool_word w) p t i u g ∙ small_word (p (t - i)) (tests (t - i) (omega (arith, l, g)))
ago_by false w d t i p e l u tests = let g : t < i = grind (arith, nat_tests, e) in entry_before d (bool_word w) p t i g u

pub ago_is : (m : Moment) (b d : ℕ) (w : Bool) (p : ℕ → ℕ) (i : ℕ) → HoldsTest m b d w p → AreTests m.time p → 1 ≤ i → i ≤ d → value m (ago b d i) ≡ Ok (bool_word (at_ago w m.time (λ k. is_true_word (p k)) i) ∷ [])
ago_is m b d w p i hold tests l u =
    ap Ok (hold (m.time + (d - i)) (omega (arith, l, u)) ∙ ap (λ x. x ∷ []) (ago_by (nat_le i m.time) w d m.time i p refl l u tests))

-- a buffer's test is that of a sentence, within the steps that there were

true_le : (low i : ℕ) → low ≤ i → nat_le low i ≡ true
true_le low i h = grind (arith, nat_tests, h)

once_by : (b : Bool) (x y : Bool) → (b ≡ true → x ≡ y) → (if b then x else false) ≡ ((true && b) && y)
once_by true x y h = h refl
once_by false x y h = refl

historically_by : (b : Bool) (x y : Bool) → (b ≡ true → x ≡ y) → (if b then x else true) ≡ (not (true && b) || y)
historically_by true x y h = h refl
historically_by false x y h = refl

same_sample : (t : ℕ) (p : Samples) (now : List ℕ) (j i : ℕ) → 1 ≤ i → nat_le i t ≡ true → is_true_word (p j (t - i)) ≡ truths (with_now t p now) j (t - i)
same_sample t p now j i l e = let g : i ≤ t = grind (arith, nat_tests, e) in ap is_true_word (sym (earlier_is t p now j (t - i) (omega (arith, l, g))))

pub ago_once : (low t : ℕ) (p : Samples) (now : List ℕ) (j i : ℕ) → 1 ≤ i → low ≤ i → at_ago false t (λ k. is_true_word (p j k)) i ≡ (within low t i && truths (with_now t p now) j (t - i))
ago_once low t p now j i l h =
    once_by (nat_le i t) (is_true_word (p j (t - i))) (truths (with_now t p now) j (t - i)) (same_sample t p now j i l)
    ∙ ap (λ b. (b && nat_le i t) && truths (with_now t p now) j (t - i)) (sym (true_le low i h))

pub ago_historically : (low t : ℕ) (p : Samples) (now : List ℕ) (j i : ℕ) → 1 ≤ i → low ≤ i → at_ago true t (λ k. is_true_word (p j k)) i ≡ (not (within low t i) || truths (with_now t p now) j (t - i))
ago_historically low t p now j i l h =
    historically_by (nat_le i t) (is_true_word (p j (t - i))) (truths (with_now t p now) j (t - i)) (same_sample t p now j i l)
    ∙ ap (λ b. not (b && nat_le i t) || truths (with_now t p now) j (t - i)) (sym (true_le low i h))

-- ---- this step

pub back_none : (t : ℕ) (p : Samples) (now : List ℕ) (j : ℕ) → truths (with_now t p now) j (t - 0) ≡ is_true_word (slice_index now j)
back_none t p now j = let e : t - 0 ≡ t = omega arith in ap (truths (with_now t p now) j) e ∙ ap is_true_word (now_is t p now j)

pub within_now : (t : ℕ) → within 0 t 0 ≡ true
within_now t = grind (arith, nat_tests)

pub not_within : (low t i : ℕ) → i < low → within low t i ≡ false
not_within low t i h = let e : nat_le low i ≡ false = grind (arith, nat_tests, h) in ap (λ b. b && nat_le i t) e

-- ---- buffers at first

pub replicated_at : {X : Type 0} (n : ℕ) (x : X) (i : ℕ) → i < n → slice_get (replicate n x) i ≡ Some x
replicated_at zero x i h = absurd (omega (arith, h))
replicated_at (suc n) x zero h = refl
replicated_at (suc n) x (suc i) h = replicated_at n x i (omega (arith, h))
