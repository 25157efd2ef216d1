-- `once` within bounds, over its buffer.
use Rattle.std.proofs.Common.{◌≡◌, ◌+◌, ◌-◌, ◌<◌, ◌≤◌, ℕ, zero, suc, List, [], ◌∷◌, length, refl, sym, ap, ◌∙◌, arith, Bool, false, Some, Ok, Err}
use Rattle.std.specs.Prelude.{◌&&◌, ◌||◌, slice_get, slice_index, max, map}
use Rattle.std.proofs.Math.Bool.{and-false}
use Rattle.std.proofs.Math.Nat.{le-max_left}
use Rattle.stream_types.specs.declared.scalar.Scalar.TheVariants as scalar
use Rattle.stream_types.specs.declared.scalar.Hazard.{Hazard}
use Rattle.stream_core.specs.declared.node.LibForm.TheVariants as form
use Rattle.stream_core.specs.Library.{bool_word, is_true_word, within, some_below, form_value}
use Rattle.stream_core.specs.Term.{Term, TreeStream, and}
use Rattle.stream_core.specs.Eval.{Moment, value, values, entry_at, one, on_test}
use Rattle.stream_core.specs.Lower.{form_term, buffers_of, ago, no, depth, bool_buffer}
use Rattle.stream_core.specs.WellTyped.{operand_types}
use Rattle.form_laws.specs.Buffers.{Samples, with_now, truths, singles, buffer_entry, IsFormStep, StopsForm, FormIsKept}
use Rattle.form_laws.proofs.TestBuffers.{buffer_moves, buffer_begins, only_one}
use Rattle.std.proofs.lemmas.Option.{none-some}
use Rattle.form_laws.proofs.Samples.{small_word, no_value, first_value, only_hazard, now_is}
use Rattle.form_laws.proofs.Chains.{some_from, some_in_two, none_below, on_and, or_chain, or_stops}
use Rattle.form_laws.proofs.ReadAgo.{AreTests, HoldsTest, ago_is, ago_once, back_none, within_now, not_within}

-- the sentence at a distance
abbrev held_ago : ℕ → ℕ → (ℕ → Bool) → ℕ → Bool
held_ago low t r i = within low t i && r (t - i)

module _ (low high : ℕ) (ends : low ≤ high) (m : Moment) (b : ℕ) (ps : List Term) (p : Samples) (now : List ℕ) (step : IsFormStep (form.OnceIn low high) m b ps p now) where
  held : (i : ℕ) → 1 ≤ i → low ≤ i → i ≤ high → value m (ago b (max high 1) i) ≡ Ok (bool_word (held_ago low m.time (truths (with_now m.time p now) 0) i) ∷ [])
  held i l g u =
      let hold : HoldsTest m b (max high 1) false (p 0) = λ k below. (let e : b ≡ b + 0 = omega arith in ap (λ n. entry_at m.table n k) e ∙ step.hold 0 k (omega arith) below) in
      let tests : AreTests m.time (p 0) = λ k below. step.samples 0 k scalar.Bool below refl in
      ago_is m b (max high 1) false (p 0) i hold tests l (omega (arith, u, le-max_left high 1))
      ∙ ap (λ x. Ok (bool_word x ∷ [])) (ago_once low m.time p now 0 i l g)

once_given : (low high : ℕ) → low ≤ high → (m : Moment) (b : ℕ) (e : Term) (es : List Term) (p : Samples) (now : List ℕ) (step : IsFormStep (form.OnceIn low high) m b (e ∷ es) p now)
    → value m e ≡ Ok (slice_index now 0 ∷ [])
    → value m (form_term (form.OnceIn low high) b (e ∷ es)) ≡ one (form_value (form.OnceIn low high) m.time (with_now m.time p now))
once_given zero high ends m b e es p now step is =
    let r : ℕ → Bool = truths (with_now m.time p now) 0 in
    let f : ℕ → Bool = held_ago 0 m.time r in
    let first : f 0 ≡ is_true_word (slice_index now 0) = ap (λ x. x && r (m.time - 0)) (within_now m.time) ∙ back_none m.time p now 0 in
    let small : slice_index now 0 ≡ bool_word (is_true_word (slice_index now 0)) = small_word (slice_index now 0) (step.words.words 0 scalar.Bool refl) in
    let here : value m e ≡ Ok (bool_word (f 0) ∷ []) = is ∙ ap (λ w. Ok (w ∷ [])) small ∙ ap (λ x. Ok (bool_word x ∷ [])) (sym first) in
    let n : high + 1 ≡ 1 + high = omega arith in
    or_chain m b (max high 1) f high 1 e (f 0) here (λ i l u. held 0 high ends m b (e ∷ es) p now step i l (omega arith) (omega (arith, u)))
    ∙ ap (λ x. Ok (bool_word x ∷ [])) (sym (ap (λ k. some_below k f) n ∙ some_in_two f 1 high))
once_given (suc low) high ends m b e es p now step is =
    let f : ℕ → Bool = held_ago (suc low) m.time (truths (with_now m.time p now) 0) in
    let small : slice_index now 0 ≡ bool_word (is_true_word (slice_index now 0)) = small_word (slice_index now 0) (step.words.words 0 scalar.Bool refl) in
    let here : value m (and e no) ≡ Ok (bool_word false ∷ []) =
    on_and (is_true_word (slice_index now 0)) false (value m e) (value m no) (is ∙ ap (λ w. Ok (w ∷ [])) small) refl
    ∙ ap (λ x. Ok (bool_word x ∷ [])) (and-false (is_true_word (slice_index now 0))) in
    let n : high + 1 ≡ suc low + (high - low) = omega (arith, ends) in
    let none : some_below (suc low) f ≡ false = none_below (suc low) f (λ j h. ap (λ x. x && truths (with_now m.time p now) 0 (m.time - j)) (not_within (suc low) m.time j h)) in
    or_chain m b (max high 1) f (high - low) (suc low) (and e no) false here (λ i l u. held (suc low) high ends m b (e ∷ es) p now step i (omega (arith, l)) l (omega (arith, u, ends)))
    ∙ ap (λ x. Ok (bool_word x ∷ [])) (sym (ap (λ k. some_below k f) n ∙ some_in_two f (suc low) (high - low) ∙ ap (λ x. x || some_from f (suc low) (high - low)) none))

once_gives : (low high : ℕ) → low ≤ high → (m : Moment) (b : ℕ) (ps : List Term) (p : Samples) (now : List ℕ) → IsFormStep (form.OnceIn low high) m b ps p now
    → value m (form_term (form.OnceIn low high) b ps) ≡ one (form_value (form.OnceIn low high) m.time (with_now m.time p now))
once_gives low high ends m b [] p [] step = absurd (omega (arith, step.words.count))
once_gives low high ends m b [] p (x ∷ xs) step = absurd (no_value step.given)
once_gives low high ends m b (e ∷ es) p [] step = absurd (omega (arith, step.words.count))
once_gives low high ends m b (e ∷ es) p (x ∷ xs) step = once_given low high ends m b e es p (x ∷ xs) step (first_value (value m e) (values m es) (x ∷ []) (singles xs) step.given).0

once_stops : (low high : ℕ) (m : Moment) (b : ℕ) (ps : List Term) (h : Hazard) → StopsForm (form.OnceIn low high) m ps h → value m (form_term (form.OnceIn low high) b ps) ≡ Err h
once_stops low high m b [] h s = absurd (omega (arith, s.count))
once_stops zero high m b (e ∷ []) h s = or_stops m b (max high 1) high 1 e h (only_hazard (value m e) h s.met)
once_stops (suc low) high m b (e ∷ []) h s = or_stops m b (max high 1) (high - low) (suc low) (and e no) h (ap (λ v. on_test v (value m no) (Ok (0 ∷ []))) (only_hazard (value m e) h s.met))
once_stops low high m b (e ∷ g ∷ es) h s = absurd (omega (arith, s.count))

once_moves : (low high : ℕ) (m : Moment) (number b at : ℕ) (ps : List Term) (p : Samples) (now : List ℕ) → IsFormStep (form.OnceIn low high) m b ps p now
    → (k : ℕ) (x : TreeStream) → slice_get (buffers_of (form.OnceIn low high) number b at ps) k ≡ Some x
    → value m x.expr ≡ Ok (buffer_entry (form.OnceIn low high) (with_now m.time p now) k (depth (form.OnceIn low high) + m.time) ∷ [])
once_moves low high m number b at [] p now step k x h = absurd (none-some x h)
once_moves low high m number b at (e ∷ es) p [] step k x h = absurd (omega (arith, step.words.count))
once_moves low high m number b at (e ∷ es) p (y ∷ ys) step k x h =
    buffer_moves m number (max high 1) 0 at e (with_now m.time p (y ∷ ys) 0) x (only_one (bool_buffer number (max high 1) 0 e at) x k h)
    ((first_value (value m e) (values m es) (y ∷ []) (singles ys) step.given).0 ∙ ap (λ w. Ok (w ∷ [])) (sym (now_is m.time p (y ∷ ys) 0)))

once_halts : (low high : ℕ) (m : Moment) (number b at : ℕ) (ps : List Term) (h : Hazard) → StopsForm (form.OnceIn low high) m ps h
    → values m (map (λ (x : TreeStream). x.expr) (buffers_of (form.OnceIn low high) number b at ps)) ≡ Err h
once_halts low high m number b at [] h s = absurd (omega (arith, s.count))
once_halts low high m number b at (e ∷ []) h s = s.met
once_halts low high m number b at (e ∷ g ∷ es) h s = absurd (omega (arith, s.count))

once_begins : (low high number b at : ℕ) (ps : List Term) (p : Samples) → length ps ≡ length (operand_types (form.OnceIn low high))
    → (k : ℕ) (x : TreeStream) → slice_get (buffers_of (form.OnceIn low high) number b at ps) k ≡ Some x
    → (length x.init ≡ depth (form.OnceIn low high)) × ((i : ℕ) → i < depth (form.OnceIn low high) → slice_get x.init i ≡ Some (buffer_entry (form.OnceIn low high) p k i))
once_begins low high number b at [] p count k x h = absurd (none-some x h)
once_begins low high number b at (e ∷ es) p count k x h = buffer_begins number (max high 1) 0 at e (p 0) x (only_one (bool_buffer number (max high 1) 0 e at) x k h)

pub once_in_kept : (low high : ℕ) → low ≤ high → FormIsKept (form.OnceIn low high)
once_in_kept low high ends = record {
  given = once_gives low high ends;
  stops = once_stops low high;
  moves = once_moves low high;
  halts = once_halts low high;
  begins = once_begins low high;
}
