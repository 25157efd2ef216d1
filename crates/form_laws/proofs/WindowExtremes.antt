-- The forms of a window's greatest and least sample, over their buffers.
use Rattle.std.proofs.Common.{arith, ◌≡◌, ℕ, ◌+◌, ◌-◌, ◌<◌, List, [], ◌∷◌, length, ap, refl, Ok, Err}
use Rattle.std.specs.Prelude.{max, map, slice_get, Some}
use Rattle.stream_types.specs.declared.scalar.Scalar.{Scalar}
use Rattle.stream_types.specs.declared.scalar.Op2.{Op2}
use Rattle.stream_types.specs.declared.scalar.Op2.TheVariants as op2
use Rattle.stream_types.specs.declared.scalar.Hazard.{Hazard}
use Rattle.stream_types.specs.Scalars.{bits, signed}
use Rattle.stream_types.specs.Numbers.{word, least, greatest, op2_word}
use Rattle.stream_core.specs.declared.node.LibForm.TheVariants as form
use Rattle.stream_core.specs.Term.{Term, TreeStream, bin}
use Rattle.stream_core.specs.Library.{form_value}
use Rattle.stream_core.specs.Eval.{Moment, value, values, one, on_two}
use Rattle.stream_core.specs.Lower.{sample, best, depth, form_term, buffers_of}
use Rattle.stream_core.specs.WellTyped.{IsGoodForm}
use Rattle.form_laws.specs.Buffers.{Samples, with_now, FormIsKept, IsFormStep, StopsForm, buffer_entry}
use Rattle.form_laws.proofs.FormSteps.{with_one, with_one_stopped, alone}
use Rattle.form_laws.proofs.WindowParts.{IsWindow, first_buffer, window_moves, window_starts}
use Rattle.form_laws.proofs.WindowBests.{best_stops}
use Rattle.form_laws.proofs.WindowChoices.{choice_value}
use Rattle.form_laws.proofs.WindowEnds.{greatest_is_choice, least_is_choice}

-- the choice meets the newest sample's hazard
sample_stops : (m : Moment) (o : Op2) (s : Scalar) (b d n : ℕ) (e : Term) (h : Hazard) → value m e ≡ Err h → value m (best (bin o s) (sample b d e) n 0 (n - 1)) ≡ Err h
sample_stops m o s b d n e h is = best_stops m (bin o s) (sample b d e) h n is (λ x. ap (λ v. on_two v (value m x) (λ k l. one (op2_word o s k l))) is)

-- ---- the greatest sample

greatest_given : (n : ℕ) (s : Scalar) → IsGoodForm (form.WindowMax n s) → (m : Moment) (b : ℕ) (ps : List Term) (p : Samples) (now : List ℕ)
    → IsFormStep (form.WindowMax n s) m b ps p now → value m (form_term (form.WindowMax n s) b ps) ≡ one (form_value (form.WindowMax n s) m.time (with_now m.time p now))
greatest_given n s good m b ps p now step =
    let d = max (n - 1) 1 in
    let w = word (least (bits s) (signed s)) in
    let hold : IsWindow b d w m.table m.time (p 0) = first_buffer d w b m.table m.time (p 0) (λ i h. step.hold 0 i (omega arith) h) in
    with_one m (λ qs xs. IsFormStep (form.WindowMax n s) m b qs p xs → value m (form_term (form.WindowMax n s) b qs) ≡ one (form_value (form.WindowMax n s) m.time (with_now m.time p xs)))
    (λ e x is now_. choice_value s w (bin op2.Ge s) _ _ (greatest_is_choice s good.2) m b n e x p good.0 hold (now_.words.words 0 s refl) (λ i h. step.samples 0 i s h refl) is)
    ps now step.words.count step.given step

greatest_moves : (n : ℕ) (s : Scalar) (m : Moment) (number b at : ℕ) (ps : List Term) (p : Samples) (now : List ℕ) → IsFormStep (form.WindowMax n s) m b ps p now
    → (k : ℕ) (x : TreeStream) → slice_get (buffers_of (form.WindowMax n s) number b at ps) k ≡ Some x
    → value m x.expr ≡ Ok (buffer_entry (form.WindowMax n s) (with_now m.time p now) k (depth (form.WindowMax n s) + m.time) ∷ [])
greatest_moves n s m number b at ps p now step k x q =
    with_one m (λ qs xs. slice_get (buffers_of (form.WindowMax n s) number b at qs) k ≡ Some x → value m x.expr ≡ Ok (buffer_entry (form.WindowMax n s) (with_now m.time p xs) k (depth (form.WindowMax n s) + m.time) ∷ []))
    (λ e y is r. window_moves m number (max (n - 1) 1) (word (least (bits s) (signed s))) at s e p y is k x r)
    ps now step.words.count step.given q

greatest_stops : (n : ℕ) (s : Scalar) (m : Moment) (b : ℕ) (ps : List Term) (h : Hazard) → StopsForm (form.WindowMax n s) m ps h → value m (form_term (form.WindowMax n s) b ps) ≡ Err h
greatest_stops n s m b ps h stop =
    with_one_stopped m h (λ qs. value m (form_term (form.WindowMax n s) b qs) ≡ Err h) (λ e is. sample_stops m op2.Ge s b (max (n - 1) 1) n e h is) ps stop.count stop.met

greatest_halts : (n : ℕ) (s : Scalar) (m : Moment) (number b at : ℕ) (ps : List Term) (h : Hazard) → StopsForm (form.WindowMax n s) m ps h
    → values m (map (λ (x : TreeStream). x.expr) (buffers_of (form.WindowMax n s) number b at ps)) ≡ Err h
greatest_halts n s m number b at ps h stop =
    with_one_stopped m h (λ qs. values m (map (λ (x : TreeStream). x.expr) (buffers_of (form.WindowMax n s) number b at qs)) ≡ Err h) (λ e is. alone m e h is) ps stop.count stop.met

greatest_begins : (n : ℕ) (s : Scalar) (number b at : ℕ) (ps : List Term) (p : Samples) → length ps ≡ 1
    → (k : ℕ) (x : TreeStream) → slice_get (buffers_of (form.WindowMax n s) number b at ps) k ≡ Some x
    → (length x.init ≡ depth (form.WindowMax n s)) × ((i : ℕ) → i < depth (form.WindowMax n s) → slice_get x.init i ≡ Some (buffer_entry (form.WindowMax n s) p k i))
greatest_begins n s number b at [] p count k x q = absurd (omega (arith, count))
greatest_begins n s number b at (e ∷ es) p count k x q = window_starts number (max (n - 1) 1) (word (least (bits s) (signed s))) at s e p k x q

pub greatest_is_kept : (n : ℕ) (s : Scalar) → IsGoodForm (form.WindowMax n s) → FormIsKept (form.WindowMax n s)
greatest_is_kept n s good = record {
  given = greatest_given n s good;
  stops = greatest_stops n s;
  moves = greatest_moves n s;
  halts = greatest_halts n s;
  begins = greatest_begins n s;
}

-- ---- the least sample

least_given : (n : ℕ) (s : Scalar) → IsGoodForm (form.WindowMin n s) → (m : Moment) (b : ℕ) (ps : List Term) (p : Samples) (now : List ℕ)
    → IsFormStep (form.WindowMin n s) m b ps p now → value m (form_term (form.WindowMin n s) b ps) ≡ one (form_value (form.WindowMin n s) m.time (with_now m.time p now))
least_given n s good m b ps p now step =
    let d = max (n - 1) 1 in
    let w = word (greatest (bits s) (signed s)) in
    let hold : IsWindow b d w m.table m.time (p 0) = first_buffer d w b m.table m.time (p 0) (λ i h. step.hold 0 i (omega arith) h) in
    with_one m (λ qs xs. IsFormStep (form.WindowMin n s) m b qs p xs → value m (form_term (form.WindowMin n s) b qs) ≡ one (form_value (form.WindowMin n s) m.time (with_now m.time p xs)))
    (λ e x is now_. choice_value s w (bin op2.Le s) _ _ (least_is_choice s good.2) m b n e x p good.0 hold (now_.words.words 0 s refl) (λ i h. step.samples 0 i s h refl) is)
    ps now step.words.count step.given step

least_moves : (n : ℕ) (s : Scalar) (m : Moment) (number b at : ℕ) (ps : List Term) (p : Samples) (now : List ℕ) → IsFormStep (form.WindowMin n s) m b ps p now
    → (k : ℕ) (x : TreeStream) → slice_get (buffers_of (form.WindowMin n s) number b at ps) k ≡ Some x
    → value m x.expr ≡ Ok (buffer_entry (form.WindowMin n s) (with_now m.time p now) k (depth (form.WindowMin n s) + m.time) ∷ [])
least_moves n s m number b at ps p now step k x q =
    with_one m (λ qs xs. slice_get (buffers_of (form.WindowMin n s) number b at qs) k ≡ Some x → value m x.expr ≡ Ok (buffer_entry (form.WindowMin n s) (with_now m.time p xs) k (depth (form.WindowMin n s) + m.time) ∷ []))
    (λ e y is r. window_moves m number (max (n - 1) 1) (word (greatest (bits s) (signed s))) at s e p y is k x r)
    ps now step.words.count step.given q

least_stops : (n : ℕ) (s : Scalar) (m : Moment) (b : ℕ) (ps : List Term) (h : Hazard) → StopsForm (form.WindowMin n s) m ps h → value m (form_term (form.WindowMin n s) b ps) ≡ Err h
least_stops n s m b ps h stop =
    with_one_stopped m h (λ qs. value m (form_term (form.WindowMin n s) b qs) ≡ Err h) (λ e is. sample_stops m op2.Le s b (max (n - 1) 1) n e h is) ps stop.count stop.met

least_halts : (n : ℕ) (s : Scalar) (m : Moment) (number b at : ℕ) (ps : List Term) (h : Hazard) → StopsForm (form.WindowMin n s) m ps h
    → values m (map (λ (x : TreeStream). x.expr) (buffers_of (form.WindowMin n s) number b at ps)) ≡ Err h
least_halts n s m number b at ps h stop =
    with_one_stopped m h (λ qs. values m (map (λ (x : TreeStream). x.expr) (buffers_of (form.WindowMin n s) number b at qs)) ≡ Err h) (λ e is. alone m e h is) ps stop.count stop.met

least_begins : (n : ℕ) (s : Scalar) (number b at : ℕ) (ps : List Term) (p : Samples) → length ps ≡ 1
    → (k : ℕ) (x : TreeStream) → slice_get (buffers_of (form.WindowMin n s) number b at ps) k ≡ Some x
    → (length x.init ≡ depth (form.WindowMin n s)) × ((i : ℕ) → i < depth (form.WindowMin n s) → slice_get x.init i ≡ Some (buffer_entry (form.WindowMin n s) p k i))
least_begins n s number b at [] p count k x q = absurd (omega (arith, count))
least_begins n s number b at (e ∷ es) p count k x q = window_starts number (max (n - 1) 1) (word (greatest (bits s) (signed s))) at s e p k x q

pub least_is_kept : (n : ℕ) (s : Scalar) → IsGoodForm (form.WindowMin n s) → FormIsKept (form.WindowMin n s)
least_is_kept n s good = record {
  given = least_given n s good;
  stops = least_stops n s;
  moves = least_moves n s;
  halts = least_halts n s;
  begins = least_begins n s;
}
