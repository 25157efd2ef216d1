-- `since` within bounds, over its buffers.
use Rattle.std.proofs.Common.{◌≡◌, ◌+◌, ◌-◌, ◌<◌, ◌≤◌, ℕ, zero, suc, List, [], ◌∷◌, length, refl, sym, ap, ◌∙◌, arith, Bool, true, false, Some, Ok, Err}
use Rattle.std.specs.Prelude.{◌&&◌, ◌||◌, not, if◌then◌else◌, slice_get, slice_index, max, map}
use Rattle.std.proofs.Math.Bool.{and-false}
use Rattle.std.proofs.Math.Nat.{le-max_left, max-eq_left}
use Rattle.std.proofs.lemmas.Option.{same_Some, none-some}
use Rattle.stream_types.specs.declared.scalar.Scalar.TheVariants as scalar
use Rattle.stream_types.specs.declared.scalar.Hazard.{Hazard}
use Rattle.stream_core.specs.declared.node.LibForm.TheVariants as form
use Rattle.stream_core.specs.Library.{bind, bool_word, is_true_word, some_below, since_in, form_value}
use Rattle.stream_core.specs.Term.{Term, TreeStream, or, and}
use Rattle.stream_core.specs.Eval.{Moment, Value, value, values, entry_at, first_word, one, on_test}
use Rattle.stream_core.specs.Lower.{form_term, buffers_of, since_in_value, since_from, ago, no, depth, bool_buffer}
use Rattle.stream_core.specs.WellTyped.{operand_types}
use Rattle.form_laws.specs.Buffers.{Samples, with_now, truths, singles, buffer_entry, IsFormStep, StopsForm, FormIsKept}
use Rattle.form_laws.proofs.Samples.{small_word, no_value, first_value, now_is}
use Rattle.form_laws.proofs.Chains.{on_and}
use Rattle.form_laws.proofs.ReadAgo.{AreTests, HoldsTest, ago_is, ago_once, ago_historically, back_none, within_now, not_within}
use Rattle.form_laws.proofs.TestBuffers.{buffer_moves, buffer_begins, only_one}
use Rattle.form_laws.proofs.SinceChain.{reached, reached_from, reached_in_two, held_ago, kept_ago, since_is_reached, since_chain, here_and_before, here_alone}

-- the sentence as a chain from this step back
since_is_chain : (low high t : ℕ) (p q : ℕ → Bool) → since_in low high p q t ≡ reached_from (held_ago low t q) (kept_ago t p) 0 high
since_is_chain low high t p q =
    let n : high + 1 ≡ suc (0 + high) = omega arith in
    since_is_reached low high t p q ∙ ap (λ k. some_below k (reached (held_ago low t q) (kept_ago t p))) n
    ∙ reached_in_two (held_ago low t q) (kept_ago t p) high 0

module _ (low high : ℕ) (ends : low ≤ high) (m : Moment) (b : ℕ) (e g : Term) (es : List Term) (p : Samples) (now : List ℕ) (step : IsFormStep (form.SinceIn low high) m b (e ∷ g ∷ es) p now) (first : value m e ≡ Ok (slice_index now 0 ∷ [])) (second : value m g ≡ Ok (slice_index now 1 ∷ [])) where
  abbrev kept : ℕ → Bool
  kept = kept_ago m.time (truths (with_now m.time p now) 0)

  abbrev held : ℕ → Bool
  held = held_ago low m.time (truths (with_now m.time p now) 1)

  kept_back : (i : ℕ) → 1 ≤ i → i ≤ high → value m (ago b (max high 1) i) ≡ Ok (bool_word (kept i) ∷ [])
  kept_back i l u =
      let hold : HoldsTest m b (max high 1) true (p 0) = λ k below. (let n : b ≡ b + 0 = omega arith in ap (λ n. entry_at m.table n k) n ∙ step.hold 0 k (omega arith) below) in
      let tests : AreTests m.time (p 0) = λ k below. step.samples 0 k scalar.Bool below refl in
      ago_is m b (max high 1) true (p 0) i hold tests l (omega (arith, u, le-max_left high 1))
      ∙ ap (λ x. Ok (bool_word x ∷ [])) (ago_historically 0 m.time p now 0 i l (omega arith))

  held_back : (i : ℕ) → 1 ≤ i → low ≤ i → i ≤ high → value m (ago (b + 1) (max high 1) i) ≡ Ok (bool_word (held i) ∷ [])
  held_back i l k u =
      let hold : HoldsTest m (b + 1) (max high 1) false (p 1) = λ j below. step.hold 1 j (omega arith) below in
      let tests : AreTests m.time (p 1) = λ j below. step.samples 1 j scalar.Bool below refl in
      ago_is m (b + 1) (max high 1) false (p 1) i hold tests l (omega (arith, u, le-max_left high 1))
      ∙ ap (λ x. Ok (bool_word x ∷ [])) (ago_once low m.time p now 1 i l k)

  kept_now : value m e ≡ Ok (bool_word (kept 0) ∷ [])
  kept_now =
      let is : kept 0 ≡ is_true_word (slice_index now 0) = ap (λ x. not x || truths (with_now m.time p now) 0 (m.time - 0)) (within_now m.time) ∙ back_none m.time p now 0 in
      first ∙ ap (λ w. Ok (w ∷ [])) (small_word (slice_index now 0) (step.words.words 0 scalar.Bool refl)) ∙ ap (λ x. Ok (bool_word x ∷ [])) (sym is)

  second_is : value m g ≡ Ok (bool_word (is_true_word (slice_index now 1)) ∷ [])
  second_is = second ∙ ap (λ w. Ok (w ∷ [])) (small_word (slice_index now 1) (step.words.words 1 scalar.Bool refl))

  held_before : (j : ℕ) → j < low → held j ≡ false
  held_before j h = ap (λ x. x && truths (with_now m.time p now) 1 (m.time - j)) (not_within low m.time j h)

  -- the second operand, where the nearest distance is this step
  held_now : low ≡ 0 → value m g ≡ Ok (bool_word (held 0) ∷ [])
  held_now z =
      let r : ℕ → Bool = truths (with_now m.time p now) 1 in
      let is : held 0 ≡ is_true_word (slice_index now 1) = ap (λ n. held_ago n m.time r 0) z ∙ ap (λ x. x && r (m.time - 0)) (within_now m.time) ∙ back_none m.time p now 1 in
      second_is ∙ ap (λ x. Ok (bool_word x ∷ [])) (sym is)

  -- and where it is an earlier one
  held_not_now : 1 ≤ low → value m (and g no) ≡ Ok (bool_word (held 0) ∷ [])
  held_not_now l =
      on_and (is_true_word (slice_index now 1)) false (value m g) (value m no) second_is refl
      ∙ ap (λ x. Ok (bool_word x ∷ [])) (and-false (is_true_word (slice_index now 1)) ∙ sym (held_before 0 l))

  earlier : (n d : ℕ) → 1 + n ≡ high → max high 1 ≡ d → value m (since_from low b (b + 1) d 1 n) ≡ Ok (bool_word (reached_from held kept 1 n) ∷ [])
  earlier n d total deep =
      ap (λ x. value m (since_from low b (b + 1) x 1 n)) (sym deep)
      ∙ since_chain m low high b (b + 1) (max high 1) held kept n 1 ends total kept_back held_back held_before

  sentence_is : (v : Value) → v ≡ Ok (bool_word (reached_from held kept 0 high) ∷ []) → v ≡ one (form_value (form.SinceIn low high) m.time (with_now m.time p now))
  sentence_is v is = is ∙ ap (λ x. Ok (bool_word x ∷ [])) (sym (since_is_chain low high m.time (truths (with_now m.time p now) 0) (truths (with_now m.time p now) 1)))

since_given : (low high : ℕ) → low ≤ high → (m : Moment) (b : ℕ) (e g : Term) (es : List Term) (p : Samples) (now : List ℕ) → IsFormStep (form.SinceIn low high) m b (e ∷ g ∷ es) p now
    → value m e ≡ Ok (slice_index now 0 ∷ []) → value m g ≡ Ok (slice_index now 1 ∷ [])
    → value m (since_in_value b low high e g) ≡ one (form_value (form.SinceIn low high) m.time (with_now m.time p now))
since_given zero zero ends m b e g es p now step h k =
    sentence_is 0 0 ends m b e g es p now step h k _
    (here_alone m e g _ _ (kept_now 0 0 ends m b e g es p now step h k) (held_now 0 0 ends m b e g es p now step h k refl))
since_given (suc low) zero ends m b e g es p now step h k = absurd (omega (arith, ends))
since_given zero (suc high) ends m b e g es p now step h k =
    sentence_is 0 (suc high) ends m b e g es p now step h k _
    (here_and_before m e g (since_from 0 b (b + 1) (suc high) 1 high) _ _ _ (kept_now 0 (suc high) ends m b e g es p now step h k) (held_now 0 (suc high) ends m b e g es p now step h k refl) (earlier 0 (suc high) ends m b e g es p now step h k high (suc high) (omega arith) (max-eq_left (omega arith))))
since_given (suc low) (suc high) ends m b e g es p now step h k =
    sentence_is (suc low) (suc high) ends m b e g es p now step h k _
    (here_and_before m e (and g no) (since_from (suc low) b (b + 1) (suc high) 1 high) _ _ _ (kept_now (suc low) (suc high) ends m b e g es p now step h k) (held_not_now (suc low) (suc high) ends m b e g es p now step h k (omega arith)) (earlier (suc low) (suc high) ends m b e g es p now step h k high (suc high) (omega arith) (max-eq_left (omega arith))))

-- ---- the values of two operands

two_values : (m : Moment) (e g : Term) (es : List Term) (x y : ℕ) (ys : List ℕ) → values m (e ∷ g ∷ es) ≡ Ok (singles (x ∷ y ∷ ys)) → (value m e ≡ Ok (x ∷ [])) × (value m g ≡ Ok (y ∷ []))
two_values m e g es x y ys h =
    let a = first_value (value m e) (values m (g ∷ es)) (x ∷ []) (singles (y ∷ ys)) h in
    (a.0, (first_value (value m g) (values m es) (y ∷ []) (singles ys) a.1).0)

since_gives : (low high : ℕ) → low ≤ high → (m : Moment) (b : ℕ) (ps : List Term) (p : Samples) (now : List ℕ) → IsFormStep (form.SinceIn low high) m b ps p now
    → value m (form_term (form.SinceIn low high) b ps) ≡ one (form_value (form.SinceIn low high) m.time (with_now m.time p now))
since_gives low high ends m b ps p [] step = absurd (omega (arith, step.words.count))
since_gives low high ends m b ps p (x ∷ []) step = absurd (omega (arith, step.words.count))
since_gives low high ends m b [] p (x ∷ y ∷ ys) step = absurd (no_value step.given)
since_gives low high ends m b (e ∷ []) p (x ∷ y ∷ ys) step = absurd (no_value (first_value (value m e) (Ok []) (x ∷ []) (singles (y ∷ ys)) step.given).1)
since_gives low high ends m b (e ∷ g ∷ es) p (x ∷ y ∷ ys) step =
    let both = two_values m e g es x y ys step.given in
    since_given low high ends m b e g es p (x ∷ y ∷ ys) step both.0 both.1

-- ---- hazards

-- the first of two operands meets the hazard, or the second after a value of the first
test_stops : (v w a c : Value) (h : Hazard) → bind v (λ x. bind (bind w (λ y. bind (Ok []) (λ (ys : List (List ℕ)). Ok (y ∷ ys)))) (λ xs. Ok (x ∷ xs))) ≡ Err h → (w ≡ Err h → a ≡ Err h) → (w ≡ Err h → c ≡ Err h) → on_test v a c ≡ Err h
test_stops (Err k) w a c h met f g = cc
test_stops (Ok x) (Ok y) a c h met f g = absurd (cc)
test_stops (Ok x) (Err k) a c h met f g = let is : Err k ≡ Err h = cc in either (is_true_word (first_word x)) a c h (f is) (g is)
  where
    either : (b : Bool) (v w : Value) (h : Hazard) → v ≡ Err h → w ≡ Err h → (if b then v else w) ≡ Err h
    either true v w h p q = p
    either false v w h p q = q

since_value_stops : (low high : ℕ) → low ≤ high → (m : Moment) (b : ℕ) (e g : Term) (h : Hazard) → values m (e ∷ g ∷ []) ≡ Err h → value m (since_in_value b low high e g) ≡ Err h
since_value_stops zero zero ends m b e g h met = test_stops (value m e) (value m g) (value m g) (value m g) h met (λ is. is) (λ is. is)
since_value_stops (suc low) zero ends m b e g h met = absurd (omega (arith, ends))
since_value_stops zero (suc high) ends m b e g h met =
    let rest : Term = since_from 0 b (b + 1) (suc high) 1 high in
    test_stops (value m e) (value m g) (value m (or g rest)) (value m g) h met (λ is. ap (λ v. on_test v (Ok (1 ∷ [])) (value m rest)) is) (λ is. is)
since_value_stops (suc low) (suc high) ends m b e g h met =
    let rest : Term = since_from (suc low) b (b + 1) (suc high) 1 high in
    test_stops (value m e) (value m g) (value m (or (and g no) rest)) (value m (and g no)) h met
    (λ is. ap (λ v. on_test (on_test v (value m no) (Ok (0 ∷ []))) (Ok (1 ∷ [])) (value m rest)) is)
    (λ is. ap (λ v. on_test v (value m no) (Ok (0 ∷ []))) is)

since_stops : (low high : ℕ) → low ≤ high → (m : Moment) (b : ℕ) (ps : List Term) (h : Hazard) → StopsForm (form.SinceIn low high) m ps h → value m (form_term (form.SinceIn low high) b ps) ≡ Err h
since_stops low high ends m b [] h s = absurd (omega (arith, s.count))
since_stops low high ends m b (e ∷ []) h s = absurd (omega (arith, s.count))
since_stops low high ends m b (e ∷ g ∷ []) h s = since_value_stops low high ends m b e g h s.met
since_stops low high ends m b (e ∷ g ∷ f ∷ es) h s = absurd (omega (arith, s.count))

since_halts : (low high : ℕ) (m : Moment) (number b at : ℕ) (ps : List Term) (h : Hazard) → StopsForm (form.SinceIn low high) m ps h
    → values m (map (λ (x : TreeStream). x.expr) (buffers_of (form.SinceIn low high) number b at ps)) ≡ Err h
since_halts low high m number b at [] h s = absurd (omega (arith, s.count))
since_halts low high m number b at (e ∷ []) h s = absurd (omega (arith, s.count))
since_halts low high m number b at (e ∷ g ∷ []) h s = s.met
since_halts low high m number b at (e ∷ g ∷ f ∷ es) h s = absurd (omega (arith, s.count))

-- ---- buffers

since_moves : (low high : ℕ) (m : Moment) (number b at : ℕ) (ps : List Term) (p : Samples) (now : List ℕ) → IsFormStep (form.SinceIn low high) m b ps p now
    → (k : ℕ) (x : TreeStream) → slice_get (buffers_of (form.SinceIn low high) number b at ps) k ≡ Some x
    → value m x.expr ≡ Ok (buffer_entry (form.SinceIn low high) (with_now m.time p now) k (depth (form.SinceIn low high) + m.time) ∷ [])
since_moves low high m number b at ps p [] step k x h = absurd (omega (arith, step.words.count))
since_moves low high m number b at ps p (y ∷ []) step k x h = absurd (omega (arith, step.words.count))
since_moves low high m number b at [] p (y ∷ z ∷ zs) step k x h = absurd (none-some x h)
since_moves low high m number b at (e ∷ []) p (y ∷ z ∷ zs) step k x h = absurd (none-some x h)
since_moves low high m number b at (e ∷ g ∷ es) p (y ∷ z ∷ zs) step zero x h =
    buffer_moves m number (max high 1) 1 at e (with_now m.time p (y ∷ z ∷ zs) 0) x (same_Some (bool_buffer number (max high 1) 1 e at) x h)
    ((two_values m e g es y z zs step.given).0 ∙ ap (λ w. Ok (w ∷ [])) (sym (now_is m.time p (y ∷ z ∷ zs) 0)))
since_moves low high m number b at (e ∷ g ∷ es) p (y ∷ z ∷ zs) step (suc k) x h =
    buffer_moves m (number + 1) (max high 1) 0 at g (with_now m.time p (y ∷ z ∷ zs) 1) x (only_one (bool_buffer (number + 1) (max high 1) 0 g at) x k h)
    ((two_values m e g es y z zs step.given).1 ∙ ap (λ w. Ok (w ∷ [])) (sym (now_is m.time p (y ∷ z ∷ zs) 1)))

since_begins : (low high number b at : ℕ) (ps : List Term) (p : Samples) → length ps ≡ length (operand_types (form.SinceIn low high))
    → (k : ℕ) (x : TreeStream) → slice_get (buffers_of (form.SinceIn low high) number b at ps) k ≡ Some x
    → (length x.init ≡ depth (form.SinceIn low high)) × ((i : ℕ) → i < depth (form.SinceIn low high) → slice_get x.init i ≡ Some (buffer_entry (form.SinceIn low high) p k i))
since_begins low high number b at [] p count k x h = absurd (none-some x h)
since_begins low high number b at (e ∷ []) p count k x h = absurd (none-some x h)
since_begins low high number b at (e ∷ g ∷ es) p count zero x h = buffer_begins number (max high 1) 1 at e (p 0) x (same_Some (bool_buffer number (max high 1) 1 e at) x h)
since_begins low high number b at (e ∷ g ∷ es) p count (suc k) x h = buffer_begins (number + 1) (max high 1) 0 at g (p 1) x (only_one (bool_buffer (number + 1) (max high 1) 0 g at) x k h)

pub since_in_kept : (low high : ℕ) → low ≤ high → FormIsKept (form.SinceIn low high)
since_in_kept low high ends = record {
  given = since_gives low high ends;
  stops = since_stops low high ends;
  moves = since_moves low high;
  halts = since_halts low high;
  begins = since_begins low high;
}
