-- `historically` within bounds, over its buffer.
use Rattle.std.proofs.Common.{◌≡◌, ◌+◌, ◌-◌, ◌<◌, ◌≤◌, ℕ, zero, suc, List, [], ◌∷◌, length, refl, sym, ap, ◌∙◌, arith, Bool, true, Some, Ok, Err}
use Rattle.std.specs.Prelude.{◌&&◌, ◌||◌, not, slice_get, slice_index, max, map}
use Rattle.std.proofs.Math.Bool.{or-true}
use Rattle.std.proofs.Math.Nat.{le-max_left}
use Rattle.stream_types.specs.declared.scalar.Scalar.TheVariants as scalar
use Rattle.stream_types.specs.declared.scalar.Hazard.{Hazard}
use Rattle.stream_core.specs.declared.node.LibForm.TheVariants as form
use Rattle.stream_core.specs.Library.{bool_word, is_true_word, within, each_below, form_value}
use Rattle.stream_core.specs.Term.{Term, TreeStream, or}
use Rattle.stream_core.specs.Eval.{Moment, value, values, entry_at, one, on_test}
use Rattle.stream_core.specs.Lower.{form_term, buffers_of, ago, yes, depth, bool_buffer}
use Rattle.stream_core.specs.WellTyped.{operand_types}
use Rattle.form_laws.specs.Buffers.{Samples, with_now, truths, singles, buffer_entry, IsFormStep, StopsForm, FormIsKept}
use Rattle.form_laws.proofs.TestBuffers.{buffer_moves, buffer_begins, only_one}
use Rattle.std.proofs.lemmas.Option.{none-some}
use Rattle.form_laws.proofs.Samples.{small_word, no_value, first_value, only_hazard, now_is}
use Rattle.form_laws.proofs.Chains.{each_from, each_in_two, all_below, on_or, and_chain, and_stops}
use Rattle.form_laws.proofs.ReadAgo.{AreTests, HoldsTest, ago_is, ago_historically, back_none, within_now, not_within}

-- the sentence at a distance
abbrev held_ago : ℕ → ℕ → (ℕ → Bool) → ℕ → Bool
held_ago low t r i = not (within low t i) || r (t - i)

module _ (low high : ℕ) (ends : low ≤ high) (m : Moment) (b : ℕ) (ps : List Term) (p : Samples) (now : List ℕ) (step : IsFormStep (form.HistoricallyIn low high) m b ps p now) where
  held : (i : ℕ) → 1 ≤ i → low ≤ i → i ≤ high → value m (ago b (max high 1) i) ≡ Ok (bool_word (held_ago low m.time (truths (with_now m.time p now) 0) i) ∷ [])
  held i l g u =
      let hold : HoldsTest m b (max high 1) true (p 0) = λ k below. (let e : b ≡ b + 0 = omega arith in ap (λ n. entry_at m.table n k) e ∙ step.hold 0 k (omega arith) below) in
      let tests : AreTests m.time (p 0) = λ k below. step.samples 0 k scalar.Bool below refl in
      ago_is m b (max high 1) true (p 0) i hold tests l (omega (arith, u, le-max_left high 1))
      ∙ ap (λ x. Ok (bool_word x ∷ [])) (ago_historically low m.time p now 0 i l g)

historically_given : (low high : ℕ) → low ≤ high → (m : Moment) (b : ℕ) (e : Term) (es : List Term) (p : Samples) (now : List ℕ) (step : IsFormStep (form.HistoricallyIn low high) m b (e ∷ es) p now)
    → value m e ≡ Ok (slice_index now 0 ∷ [])
    → value m (form_term (form.HistoricallyIn low high) b (e ∷ es)) ≡ one (form_value (form.HistoricallyIn low high) m.time (with_now m.time p now))
historically_given zero high ends m b e es p now step is =
    let r : ℕ → Bool = truths (with_now m.time p now) 0 in
    let f : ℕ → Bool = held_ago 0 m.time r in
    let first : f 0 ≡ is_true_word (slice_index now 0) = ap (λ x. not x || r (m.time - 0)) (within_now m.time) ∙ back_none m.time p now 0 in
    let small : slice_index now 0 ≡ bool_word (is_true_word (slice_index now 0)) = small_word (slice_index now 0) (step.words.words 0 scalar.Bool refl) in
    let here : value m e ≡ Ok (bool_word (f 0) ∷ []) = is ∙ ap (λ w. Ok (w ∷ [])) small ∙ ap (λ x. Ok (bool_word x ∷ [])) (sym first) in
    let n : high + 1 ≡ 1 + high = omega arith in
    and_chain m b (max high 1) f high 1 e (f 0) here (λ i l u. held 0 high ends m b (e ∷ es) p now step i l (omega arith) (omega (arith, u)))
    ∙ ap (λ x. Ok (bool_word x ∷ [])) (sym (ap (λ k. each_below k f) n ∙ each_in_two f 1 high))
historically_given (suc low) high ends m b e es p now step is =
    let f : ℕ → Bool = held_ago (suc low) m.time (truths (with_now m.time p now) 0) in
    let small : slice_index now 0 ≡ bool_word (is_true_word (slice_index now 0)) = small_word (slice_index now 0) (step.words.words 0 scalar.Bool refl) in
    let here : value m (or e yes) ≡ Ok (bool_word true ∷ []) =
    on_or (is_true_word (slice_index now 0)) true (value m e) (value m yes) (is ∙ ap (λ w. Ok (w ∷ [])) small) refl
    ∙ ap (λ x. Ok (bool_word x ∷ [])) (or-true (is_true_word (slice_index now 0))) in
    let n : high + 1 ≡ suc low + (high - low) = omega (arith, ends) in
    let all : each_below (suc low) f ≡ true = all_below (suc low) f (λ j h. ap (λ x. not x || truths (with_now m.time p now) 0 (m.time - j)) (not_within (suc low) m.time j h)) in
    and_chain m b (max high 1) f (high - low) (suc low) (or e yes) true here (λ i l u. held (suc low) high ends m b (e ∷ es) p now step i (omega (arith, l)) l (omega (arith, u, ends)))
    ∙ ap (λ x. Ok (bool_word x ∷ [])) (sym (ap (λ k. each_below k f) n ∙ each_in_two f (suc low) (high - low) ∙ ap (λ x. x && each_from f (suc low) (high - low)) all))

historically_gives : (low high : ℕ) → low ≤ high → (m : Moment) (b : ℕ) (ps : List Term) (p : Samples) (now : List ℕ) → IsFormStep (form.HistoricallyIn low high) m b ps p now
    → value m (form_term (form.HistoricallyIn low high) b ps) ≡ one (form_value (form.HistoricallyIn low high) m.time (with_now m.time p now))
historically_gives low high ends m b [] p [] step = absurd (omega (arith, step.words.count))
historically_gives low high ends m b [] p (x ∷ xs) step = absurd (no_value step.given)
historically_gives low high ends m b (e ∷ es) p [] step = absurd (omega (arith, step.words.count))
historically_gives low high ends m b (e ∷ es) p (x ∷ xs) step = historically_given low high ends m b e es p (x ∷ xs) step (first_value (value m e) (values m es) (x ∷ []) (singles xs) step.given).0

historically_stops : (low high : ℕ) (m : Moment) (b : ℕ) (ps : List Term) (h : Hazard) → StopsForm (form.HistoricallyIn low high) m ps h → value m (form_term (form.HistoricallyIn low high) b ps) ≡ Err h
historically_stops low high m b [] h s = absurd (omega (arith, s.count))
historically_stops zero high m b (e ∷ []) h s = and_stops m b (max high 1) high 1 e h (only_hazard (value m e) h s.met)
historically_stops (suc low) high m b (e ∷ []) h s = and_stops m b (max high 1) (high - low) (suc low) (or e yes) h (ap (λ v. on_test v (Ok (1 ∷ [])) (value m yes)) (only_hazard (value m e) h s.met))
historically_stops low high m b (e ∷ g ∷ es) h s = absurd (omega (arith, s.count))

historically_moves : (low high : ℕ) (m : Moment) (number b at : ℕ) (ps : List Term) (p : Samples) (now : List ℕ) → IsFormStep (form.HistoricallyIn low high) m b ps p now
    → (k : ℕ) (x : TreeStream) → slice_get (buffers_of (form.HistoricallyIn low high) number b at ps) k ≡ Some x
    → value m x.expr ≡ Ok (buffer_entry (form.HistoricallyIn low high) (with_now m.time p now) k (depth (form.HistoricallyIn low high) + m.time) ∷ [])
historically_moves low high m number b at [] p now step k x h = absurd (none-some x h)
historically_moves low high m number b at (e ∷ es) p [] step k x h = absurd (omega (arith, step.words.count))
historically_moves low high m number b at (e ∷ es) p (y ∷ ys) step k x h =
    buffer_moves m number (max high 1) 1 at e (with_now m.time p (y ∷ ys) 0) x (only_one (bool_buffer number (max high 1) 1 e at) x k h)
    ((first_value (value m e) (values m es) (y ∷ []) (singles ys) step.given).0 ∙ ap (λ w. Ok (w ∷ [])) (sym (now_is m.time p (y ∷ ys) 0)))

historically_halts : (low high : ℕ) (m : Moment) (number b at : ℕ) (ps : List Term) (h : Hazard) → StopsForm (form.HistoricallyIn low high) m ps h
    → values m (map (λ (x : TreeStream). x.expr) (buffers_of (form.HistoricallyIn low high) number b at ps)) ≡ Err h
historically_halts low high m number b at [] h s = absurd (omega (arith, s.count))
historically_halts low high m number b at (e ∷ []) h s = s.met
historically_halts low high m number b at (e ∷ g ∷ es) h s = absurd (omega (arith, s.count))

historically_begins : (low high number b at : ℕ) (ps : List Term) (p : Samples) → length ps ≡ length (operand_types (form.HistoricallyIn low high))
    → (k : ℕ) (x : TreeStream) → slice_get (buffers_of (form.HistoricallyIn low high) number b at ps) k ≡ Some x
    → (length x.init ≡ depth (form.HistoricallyIn low high)) × ((i : ℕ) → i < depth (form.HistoricallyIn low high) → slice_get x.init i ≡ Some (buffer_entry (form.HistoricallyIn low high) p k i))
historically_begins low high number b at [] p count k x h = absurd (none-some x h)
historically_begins low high number b at (e ∷ es) p count k x h = buffer_begins number (max high 1) 1 at e (p 0) x (only_one (bool_buffer number (max high 1) 1 e at) x k h)

pub historically_in_kept : (low high : ℕ) → low ≤ high → FormIsKept (form.HistoricallyIn low high)
historically_in_kept low high ends = record {
  given = historically_gives low high ends;
  stops = historically_stops low high;
  moves = historically_moves low high;
  halts = historically_halts low high;
  begins = historically_begins low high;
}
