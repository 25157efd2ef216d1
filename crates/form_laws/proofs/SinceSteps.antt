-- `since` over its buffer.
use Rattle.std.proofs.Common.{◌≡◌, ℕ, ◌+◌, ◌<◌, List, [], ◌∷◌, refl, sym, ap, ◌∙◌, arith, Bool, true, false, nat_lt, Some, Ok, Err, length}
use Rattle.std.specs.Prelude.{slice_get, slice_index, ◌&&◌, ◌||◌, if◌then◌else◌, IsTrue}
use Rattle.stream_types.specs.declared.scalar.Hazard.{Hazard}
use Rattle.stream_types.specs.declared.scalar.Scalar.TheVariants as scalar
use Rattle.stream_core.specs.declared.node.LibForm.TheVariants as form
use Rattle.stream_core.specs.Term.{Term, TreeStream, stream}
use Rattle.stream_core.specs.Eval.{Moment, Value, value, values, entry_at, first_word, one, on_test}
use Rattle.stream_core.specs.Library.{since, bind, bool_word, is_true_word, form_value}
use Rattle.stream_core.specs.Lower.{depth, form_term, buffers_of, bool_buffer}
use Rattle.form_laws.specs.Buffers.{Samples, IsFormStep, StopsForm, FormIsKept, buffer_entry, with_now, truths, followed}
use Rattle.form_laws.proofs.FormSteps.{with_two, only_buffer, alone, before_now, at_now, first_buffer, first_entry, test_word, truth_word}
use Rattle.form_laws.proofs.KeptSentences.{since_below, since_with, since_before, follows}

-- the second operand, and the first with what the buffer holds
abbrev since_test : Value → Value → Value → Value
since_test v u held = on_test v (on_test u (Ok (1 ∷ [])) held) u

since_word : (x y c : Bool) → (if x then test_word y 1 (bool_word c) else Ok (bool_word y ∷ [])) ≡ Ok (bool_word ((c && x) || y) ∷ [])
since_word true true true = refl
since_word true true false = refl
since_word true false true = refl
since_word true false false = refl
since_word false true true = refl
since_word false true false = refl
since_word false false true = refl
since_word false false false = refl

since_value : (v u : Value) (x y : ℕ) (c : Bool) → IsTrue (nat_lt y 2) → v ≡ Ok (x ∷ []) → u ≡ Ok (y ∷ []) → since_test v u (Ok (bool_word c ∷ [])) ≡ Ok (bool_word ((c && is_true_word x) || is_true_word y) ∷ [])
since_value v u x y c small is are =
    ap (λ a. since_test a u (Ok (bool_word c ∷ []))) is
    ∙ ap (λ a. since_test (Ok (x ∷ [])) a (Ok (bool_word c ∷ []))) are
    ∙ ap (λ w. if is_true_word x then test_word (is_true_word y) 1 (bool_word c) else Ok (w ∷ [])) (sym (truth_word y small))
    ∙ since_word (is_true_word x) (is_true_word y) c

-- the sentence with this step's words
since_now : (t : ℕ) (p : Samples) (x y : ℕ) → since (truths (with_now t p (x ∷ y ∷ [])) 0) (truths (with_now t p (x ∷ y ∷ [])) 1) t ≡ ((since_below (truths p 0) (truths p 1) t && is_true_word x) || is_true_word y)
since_now t p x y =
    let before : (j i : ℕ) → i < t → truths (with_now t p (x ∷ y ∷ [])) j i ≡ truths p j i = λ j i b. ap is_true_word (before_now t p (x ∷ y ∷ []) j i b) in
    let at : (j : ℕ) → truths (with_now t p (x ∷ y ∷ [])) j t ≡ is_true_word (slice_index (x ∷ y ∷ []) j) = λ j. ap is_true_word (at_now t p (x ∷ y ∷ []) j) in
    since_with t (truths p 0) (truths (with_now t p (x ∷ y ∷ [])) 0) (truths p 1) (truths (with_now t p (x ∷ y ∷ [])) 1) (is_true_word x) (is_true_word y) (before 0) (before 1) (at 0) (at 1)

since_given : (m : Moment) (b : ℕ) (ps : List Term) (p : Samples) (now : List ℕ) → IsFormStep form.Since m b ps p now → value m (form_term form.Since b ps) ≡ one (form_value form.Since m.time (with_now m.time p now))
since_given m b ps p now h =
    let held : entry_at m.table b m.time ≡ buffer_entry form.Since p 0 m.time ∷ [] = first_buffer m.table b m.time _ (h.hold 0 m.time (omega arith) (omega arith)) in
    with_two m (λ ps now. IsTrue (nat_lt (slice_index now 1) 2) → value m (form_term form.Since b ps) ≡ one (form_value form.Since m.time (with_now m.time p now))) (λ e d x y is are small.
    let old = since_below (truths p 0) (truths p 1) m.time in
    let entry : entry_at m.table b m.time ≡ bool_word old ∷ [] = held ∙ ap (λ w. w ∷ []) (since_before (truths p 0) (truths p 1) m.time) in
    ap (λ w. since_test (value m e) (value m d) (Ok w)) entry
    ∙ since_value (value m e) (value m d) x y old small is are
    ∙ ap (λ c. Ok (bool_word c ∷ [])) (sym (since_now m.time p x y))) ps now h.words.count h.given (h.words.words 1 scalar.Bool refl)

-- ---- hazards

both_same : (b : Bool) (u : Value) → (if b then u else u) ≡ u
both_same true u = refl
both_same false u = refl

second_stops : (v u held : Value) (h : Hazard) → bind v (λ x. bind (bind u (λ y. Ok (y ∷ []))) (λ ys. Ok (x ∷ ys))) ≡ Err h → since_test v u held ≡ Err h
second_stops (Err g) u held h met = cc
second_stops (Ok x) (Err g) held h met = both_same (is_true_word (first_word x)) (Err g) ∙ cc
second_stops (Ok x) (Ok y) held h met = absurd (cc)

since_stops : (m : Moment) (b : ℕ) (ps : List Term) (h : Hazard) → StopsForm form.Since m ps h → value m (form_term form.Since b ps) ≡ Err h
since_stops m b ps h s = by_count ps s.count s.met
  where
    by_count : (ps : List Term) → length ps ≡ 2 → values m ps ≡ Err h → value m (form_term form.Since b ps) ≡ Err h
    by_count [] count met = absurd (omega (arith, count))
    by_count (e ∷ []) count met = absurd (omega (arith, count))
    by_count (e ∷ d ∷ []) count met = second_stops (value m e) (value m d) (value m (stream b)) h met
    by_count (e ∷ d ∷ c ∷ ps) count met = absurd (omega (arith, count))

since_moves : (m : Moment) (number b at : ℕ) (ps : List Term) (p : Samples) (now : List ℕ) → IsFormStep form.Since m b ps p now → (k : ℕ) (x : TreeStream) → slice_get (buffers_of form.Since number b at ps) k ≡ Some x → value m x.expr ≡ Ok (buffer_entry form.Since (with_now m.time p now) k (depth form.Since + m.time) ∷ [])
since_moves m number b at ps p now h k x is =
    ap (λ (y : TreeStream). value m y.expr) (sym (only_buffer (bool_buffer number 1 0 (form_term form.Since b ps) at) k x is))
    ∙ since_given m b ps p now h
    ∙ ap (λ w. Ok (w ∷ [])) (sym (follows 0 (since (truths (with_now m.time p now) 0) (truths (with_now m.time p now) 1)) m.time))

since_begins : (number b at : ℕ) (ps : List Term) (p : Samples) → (k : ℕ) (x : TreeStream) → slice_get (buffers_of form.Since number b at ps) k ≡ Some x → (length x.init ≡ 1) × ((i : ℕ) → i < 1 → slice_get x.init i ≡ Some (buffer_entry form.Since p k i))
since_begins number b at ps p k x is =
    let same = ap (λ (y : TreeStream). y.init) (sym (only_buffer (bool_buffer number 1 0 (form_term form.Since b ps) at) k x is)) in
    (ap length same, λ i below. ap (λ xs. slice_get xs i) same ∙ first_entry 0 (followed 0 (since (truths p 0) (truths p 1))) refl i below)

pub since_kept : FormIsKept form.Since
since_kept = record {
  given = since_given;
  stops = since_stops;
  moves = since_moves;
  halts = λ m number b at ps h s. alone m (form_term form.Since b ps) h (since_stops m b ps h s);
  begins = λ number b at ps p count. since_begins number b at ps p;
}
