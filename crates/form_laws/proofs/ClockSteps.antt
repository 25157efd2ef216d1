-- The clock over its buffer, which holds the step's number modulo the period.
use Rattle.std.proofs.Common.{◌≡◌, ℕ, suc, ◌+◌, ◌-◌, ◌%◌, ◌<◌, ◌≤◌, List, [], ◌∷◌, refl, sym, ap, ◌∙◌, arith, Bool, true, false, nat_eq, Some, Ok, Err, length}
use Rattle.std.specs.Prelude.{slice_get, if◌then◌else◌, pos}
use Rattle.std.specs.Ordering.{int_eq}
use Rattle.std.proofs.lemmas.Bool.Decides.{nat_tests}
use Rattle.std.proofs.Math.Nat.{mod-eq_of_lt, mod-lt, mod_self, suc-mod}
use Rattle.stream_types.specs.declared.scalar.Hazard.{Hazard}
use Rattle.stream_types.specs.declared.scalar.Scalar.TheVariants as scalar
use Rattle.stream_types.specs.declared.scalar.Op2.TheVariants as op2
use Rattle.stream_types.specs.Numbers.{word, of_test, op2_word}
use Rattle.stream_core.specs.declared.node.LibForm.TheVariants as form
use Rattle.stream_core.specs.Term.{Term, TreeStream, choose, bin, lit, stream}
use Rattle.stream_core.specs.Eval.{Moment, value, values, entry_at, one, on_test, on_two}
use Rattle.stream_core.specs.Library.{bool_word, form_value}
use Rattle.stream_core.specs.Lower.{depth, form_term, buffers_of, word_buffer}
use Rattle.stream_core.specs.WellTyped.{IsGoodForm}
use Rattle.form_laws.specs.Buffers.{Samples, IsFormStep, StopsForm, FormIsKept, buffer_entry, with_now}
use Rattle.form_laws.proofs.FormSteps.{only_buffer, first_buffer, first_entry}

-- ---- words of Word32

same_numbers : (x y : ℕ) → int_eq (pos x) (pos y) ≡ nat_eq x y
same_numbers x y = grind (arith, nat_tests)

test_is : (b : Bool) → word (of_test b) ≡ bool_word b
test_is true = refl
test_is false = refl

pub eq_word : (x y : ℕ) → op2_word op2.Eq scalar.Word32 x y ≡ Ok (bool_word (nat_eq x y))
eq_word x y = ap Ok (test_is (int_eq (pos x) (pos y)) ∙ ap bool_word (same_numbers x y))

add_word : (x : ℕ) → x + 1 < 4294967296 → op2_word op2.Add scalar.Word32 x 1 ≡ Ok (x + 1)
add_word x h = ap Ok (mod-eq_of_lt h)

-- ---- the next step's number modulo the period

abbrev next_of : Bool → ℕ → ℕ
next_of last r = if last then 0 else r + 1

next_is : (period r : ℕ) → 1 ≤ period → r < period → suc r % period ≡ next_of (nat_eq r (period - 1)) r
next_is period r a h = by_test (nat_eq r (period - 1)) refl
  where
    by_test : (b : Bool) → nat_eq r (period - 1) ≡ b → suc r % period ≡ next_of b r
    by_test true e =
        let p : r ≡ period - 1 = grind (arith, nat_tests, e) in
        let q : suc r ≡ period = omega (arith, p, a) in
        ap (λ n. n % period) q ∙ mod_self period
    by_test false e =
        let p : suc r < period = grind (arith, nat_tests, e, h) in
        let q : suc r ≡ r + 1 = omega arith in
        mod-eq_of_lt p ∙ q

next_mod : (period t : ℕ) → 1 ≤ period → next_of (nat_eq (t % period) (period - 1)) (t % period) ≡ (1 + t) % period
next_mod period t a =
    let s : suc t ≡ 1 + t = omega arith in
    sym (next_is period (t % period) a (mod-lt t a)) ∙ sym (suc-mod t period) ∙ ap (λ n. n % period) s

module _ (period phase : ℕ) (good : IsGoodForm (form.Clock period phase)) where
  clock_held : (m : Moment) (b : ℕ) (ps : List Term) (p : Samples) (now : List ℕ) → IsFormStep (form.Clock period phase) m b ps p now → entry_at m.table b m.time ≡ (m.time % period) ∷ []
  clock_held m b ps p now h = first_buffer m.table b m.time _ (h.hold 0 m.time (omega arith) (omega arith))

  clock_given : (m : Moment) (b : ℕ) (ps : List Term) (p : Samples) (now : List ℕ) → IsFormStep (form.Clock period phase) m b ps p now → value m (form_term (form.Clock period phase) b ps) ≡ one (form_value (form.Clock period phase) m.time (with_now m.time p now))
  clock_given m b ps p now h =
      ap (λ v. on_two (Ok v) (Ok (phase ∷ [])) (λ x y. one (op2_word op2.Eq scalar.Word32 x y))) (clock_held m b ps p now h)
      ∙ ap one (eq_word (m.time % period) phase)

  clock_stops : (m : Moment) (ps : List Term) (h : Hazard) → StopsForm (form.Clock period phase) m ps h → ⊥
  clock_stops m ps h s = by_count ps s.count s.met
    where
      by_count : (ps : List Term) → length ps ≡ 0 → values m ps ≡ Err h → ⊥
      by_count [] count met = absurd (cc)
      by_count (e ∷ ps) count met = absurd (omega (arith, count))

  abbrev next_term : ℕ → Term
  next_term b = choose (bin op2.Eq scalar.Word32 (stream b) (lit scalar.Word32 (period - 1))) (lit scalar.Word32 0) (bin op2.Add scalar.Word32 (stream b) (lit scalar.Word32 1))

  next_value : (r : ℕ) (b : Bool) → r < period → on_test (Ok (bool_word b ∷ [])) (Ok (0 ∷ [])) (one (op2_word op2.Add scalar.Word32 r 1)) ≡ Ok (next_of b r ∷ [])
  next_value r true h = refl
  next_value r false h = ap one (add_word r (omega (arith, h, good.1)))

  next_found : (m : Moment) (b r : ℕ) → entry_at m.table b m.time ≡ r ∷ [] → r < period → value m (next_term b) ≡ Ok (next_of (nat_eq r (period - 1)) r ∷ [])
  next_found m b r is h =
      ap (λ v. on_test (on_two (Ok v) (Ok ((period - 1) ∷ [])) (λ x y. one (op2_word op2.Eq scalar.Word32 x y))) (Ok (0 ∷ [])) (on_two (Ok v) (Ok (1 ∷ [])) (λ x y. one (op2_word op2.Add scalar.Word32 x y)))) is
      ∙ ap (λ w. on_test (one w) (Ok (0 ∷ [])) (one (op2_word op2.Add scalar.Word32 r 1))) (eq_word r (period - 1))
      ∙ next_value r (nat_eq r (period - 1)) h

  clock_moves : (m : Moment) (number b at : ℕ) (ps : List Term) (p : Samples) (now : List ℕ) → IsFormStep (form.Clock period phase) m b ps p now → (k : ℕ) (x : TreeStream) → slice_get (buffers_of (form.Clock period phase) number b at ps) k ≡ Some x → value m x.expr ≡ Ok (buffer_entry (form.Clock period phase) (with_now m.time p now) k (depth (form.Clock period phase) + m.time) ∷ [])
  clock_moves m number b at ps p now h k x is =
      ap (λ (y : TreeStream). value m y.expr) (sym (only_buffer (word_buffer number scalar.Word32 1 0 (next_term b) at) k x is))
      ∙ next_found m b (m.time % period) (clock_held m b ps p now h) (mod-lt m.time good.0)
      ∙ ap (λ w. Ok (w ∷ [])) (next_mod period m.time good.0)

  clock_begins : (number b at : ℕ) (ps : List Term) (p : Samples) (k : ℕ) (x : TreeStream) → slice_get (buffers_of (form.Clock period phase) number b at ps) k ≡ Some x → (length x.init ≡ 1) × ((i : ℕ) → i < 1 → slice_get x.init i ≡ Some (buffer_entry (form.Clock period phase) p k i))
  clock_begins number b at ps p k x is =
      let same = ap (λ (y : TreeStream). y.init) (sym (only_buffer (word_buffer number scalar.Word32 1 0 (next_term b) at) k x is)) in
      (ap length same, λ i below. ap (λ xs. slice_get xs i) same ∙ first_entry 0 (λ i. i % period) (mod-eq_of_lt good.0) i below)

  pub clock_kept : FormIsKept (form.Clock period phase)
  clock_kept = record {
    given = clock_given;
    stops = λ m b ps h s. absurd (clock_stops m ps h s);
    moves = clock_moves;
    halts = λ m number b at ps h s. absurd (clock_stops m ps h s);
    begins = λ number b at ps p count. clock_begins number b at ps p;
  }
