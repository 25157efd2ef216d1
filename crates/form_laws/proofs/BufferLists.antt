-- The buffers of any form.
use Rattle.std.proofs.Common.{◌≡◌, ℕ, zero, suc, ◌+◌, ◌-◌, ◌<◌, List, [], ◌∷◌, refl, ap, arith, Bool, true, false, nat_lt, length, max}
use Rattle.std.specs.Prelude.{if◌then◌else◌}
use Rattle.std.proofs.lemmas.Bool.Decides.{nat_tests}
use Rattle.stream_types.specs.Scalars.{bits, signed}
use Rattle.stream_types.specs.Numbers.{word, least, greatest}
use Rattle.stream_core.specs.declared.node.LibForm.{LibForm}
use Rattle.stream_core.specs.declared.node.LibForm.TheVariants as form
use Rattle.stream_core.specs.Term.{Term}
use Rattle.stream_core.specs.Library.{once, historically, since, bool_word, is_true_word}
use Rattle.stream_core.specs.Lower.{buffers, buffers_of, depth}
use Rattle.stream_core.specs.WellTyped.{operand_types}
use Rattle.form_laws.specs.Buffers.{Samples, buffer_entry, with_now, truths, taken, followed}
use Rattle.form_laws.proofs.FormSteps.{before_now}
use Rattle.form_laws.proofs.KeptSentences.{some_same, each_same, same_since}

pub as_many : (f : LibForm) (number b at : ℕ) (ps : List Term) → length ps ≡ length (operand_types f) → length (buffers_of f number b at ps) ≡ buffers f
as_many form.Once number b at ps h = refl
as_many form.Historically number b at ps h = refl
as_many form.Yesterday number b at [] h = absurd (omega (arith, h))
as_many form.Yesterday number b at (p ∷ ps) h = refl
as_many form.WeaklyYesterday number b at [] h = absurd (omega (arith, h))
as_many form.WeaklyYesterday number b at (p ∷ ps) h = refl
as_many form.Since number b at ps h = refl
as_many (form.OnceIn low high) number b at [] h = absurd (omega (arith, h))
as_many (form.OnceIn low high) number b at (p ∷ ps) h = refl
as_many (form.HistoricallyIn low high) number b at [] h = absurd (omega (arith, h))
as_many (form.HistoricallyIn low high) number b at (p ∷ ps) h = refl
as_many (form.SinceIn low high) number b at [] h = absurd (omega (arith, h))
as_many (form.SinceIn low high) number b at (p ∷ []) h = absurd (omega (arith, h))
as_many (form.SinceIn low high) number b at (p ∷ q ∷ ps) h = refl
as_many (form.Clock period phase) number b at ps h = refl
as_many (form.WindowMax n s) number b at [] h = absurd (omega (arith, h))
as_many (form.WindowMax n s) number b at (e ∷ ps) h = refl
as_many (form.WindowMin n s) number b at [] h = absurd (omega (arith, h))
as_many (form.WindowMin n s) number b at (e ∷ ps) h = refl
as_many (form.WindowSum n s) number b at [] h = absurd (omega (arith, h))
as_many (form.WindowSum n s) number b at (e ∷ ps) h = refl

cond_same : (c : Bool) (w x y : ℕ) → (c ≡ false → x ≡ y) → (if c then w else x) ≡ (if c then w else y)
cond_same true w x y h = refl
cond_same false w x y h = h refl

module _ (t : ℕ) (p : Samples) (now : List ℕ) where
  taken_stays : (m w j i : ℕ) → i < m + t → taken m w (with_now t p now j) i ≡ taken m w (p j) i
  taken_stays m w j i h =
      cond_same (nat_lt i m) w (with_now t p now j (i - m)) (p j (i - m)) (λ e.
      let a : m < i + 1 = grind (arith, nat_tests, e) in
      before_now t p now j (i - m) (omega (arith, a, h)))

  truth_stays : (j i : ℕ) → i < t → truths (with_now t p now) j i ≡ truths p j i
  truth_stays j i h = ap is_true_word (before_now t p now j i h)

  once_stays : (i : ℕ) → i < 1 + t → followed 0 (once (truths (with_now t p now) 0)) i ≡ followed 0 (once (truths p 0)) i
  once_stays zero h = refl
  once_stays (suc i) h = ap bool_word (some_same (i + 1) (truths (with_now t p now) 0) (truths p 0) (λ j b. truth_stays 0 j (omega (arith, b, h))))

  historically_stays : (i : ℕ) → i < 1 + t → followed 1 (historically (truths (with_now t p now) 0)) i ≡ followed 1 (historically (truths p 0)) i
  historically_stays zero h = refl
  historically_stays (suc i) h = ap bool_word (each_same (i + 1) (truths (with_now t p now) 0) (truths p 0) (λ j b. truth_stays 0 j (omega (arith, b, h))))

  since_stays : (i : ℕ) → i < 1 + t → followed 0 (since (truths (with_now t p now) 0) (truths (with_now t p now) 1)) i ≡ followed 0 (since (truths p 0) (truths p 1)) i
  since_stays zero h = refl
  since_stays (suc i) h = ap bool_word (same_since (i + 1) (truths (with_now t p now) 0) (truths p 0) (truths (with_now t p now) 1) (truths p 1) (λ j b. truth_stays 0 j (omega (arith, b, h))) (λ j b. truth_stays 1 j (omega (arith, b, h))))

  pub entry_stays : (f : LibForm) (k i : ℕ) → i < depth f + t → buffer_entry f (with_now t p now) k i ≡ buffer_entry f p k i
  entry_stays form.Once k i h = once_stays i h
  entry_stays form.Historically k i h = historically_stays i h
  entry_stays form.Yesterday k i h = taken_stays 1 0 0 i h
  entry_stays form.WeaklyYesterday k i h = taken_stays 1 1 0 i h
  entry_stays form.Since k i h = since_stays i h
  entry_stays (form.OnceIn low high) k i h = taken_stays (max high 1) 0 0 i h
  entry_stays (form.HistoricallyIn low high) k i h = taken_stays (max high 1) 1 0 i h
  entry_stays (form.SinceIn low high) zero i h = taken_stays (max high 1) 1 0 i h
  entry_stays (form.SinceIn low high) (suc k) i h = taken_stays (max high 1) 0 1 i h
  entry_stays (form.Clock period phase) k i h = refl
  entry_stays (form.WindowMax n s) k i h = taken_stays (max (n - 1) 1) (word (least (bits s) (signed s))) 0 i h
  entry_stays (form.WindowMin n s) k i h = taken_stays (max (n - 1) 1) (word (greatest (bits s) (signed s))) 0 i h
  entry_stays (form.WindowSum n s) k i h = taken_stays (max (n - 1) 1) 0 0 i h
