-- `once` over its buffer.
use Rattle.std.proofs.Common.{◌≡◌, ℕ, ◌+◌, ◌<◌, List, [], ◌∷◌, refl, sym, ap, ◌∙◌, arith, Bool, true, false, Some, Ok, Err, length}
use Rattle.std.specs.Prelude.{slice_get, ◌||◌}
use Rattle.stream_types.specs.declared.scalar.Hazard.{Hazard}
use Rattle.stream_core.specs.declared.node.LibForm.TheVariants as form
use Rattle.stream_core.specs.Term.{Term, TreeStream, or, stream}
use Rattle.stream_core.specs.Eval.{Moment, Value, value, entry_at, one, on_test}
use Rattle.stream_core.specs.Library.{some_below, once, bool_word, is_true_word, form_value}
use Rattle.stream_core.specs.Lower.{depth, form_term, buffers_of, bool_buffer}
use Rattle.form_laws.specs.Buffers.{Samples, IsFormStep, StopsForm, FormIsKept, buffer_entry, with_now, truths, followed}
use Rattle.form_laws.proofs.FormSteps.{with_one, with_one_stopped, only_buffer, alone, before_now, at_now, first_buffer, first_entry, test_word}
use Rattle.form_laws.proofs.KeptSentences.{once_with, once_before, follows}

or_word : (b c : Bool) → test_word b 1 (bool_word c) ≡ Ok (bool_word (c || b) ∷ [])
or_word true true = refl
or_word true false = refl
or_word false true = refl
or_word false false = refl

-- `or` over a word, and what a buffer holds
or_value : (v : Value) (x : ℕ) (c : Bool) → v ≡ Ok (x ∷ []) → on_test v (Ok (1 ∷ [])) (Ok (bool_word c ∷ [])) ≡ Ok (bool_word (c || is_true_word x) ∷ [])
or_value v x c is = ap (λ u. on_test u (Ok (1 ∷ [])) (Ok (bool_word c ∷ []))) is ∙ or_word (is_true_word x) c

once_given : (m : Moment) (b : ℕ) (ps : List Term) (p : Samples) (now : List ℕ) → IsFormStep form.Once m b ps p now → value m (form_term form.Once b ps) ≡ one (form_value form.Once m.time (with_now m.time p now))
once_given m b ps p now h =
    let held : entry_at m.table b m.time ≡ buffer_entry form.Once p 0 m.time ∷ [] = first_buffer m.table b m.time _ (h.hold 0 m.time (omega arith) (omega arith)) in
    with_one m (λ ps now. value m (form_term form.Once b ps) ≡ one (form_value form.Once m.time (with_now m.time p now))) (λ e x is.
    let t = m.time in
    let old = truths p 0 in
    let new = truths (with_now t p (x ∷ [])) 0 in
    let entry : entry_at m.table b t ≡ bool_word (some_below t old) ∷ [] = held ∙ ap (λ w. w ∷ []) (once_before old t) in
    let left : value m (or e (stream b)) ≡ Ok (bool_word (some_below t old || is_true_word x) ∷ []) = ap (λ w. on_test (value m e) (Ok (1 ∷ [])) (Ok w)) entry ∙ or_value (value m e) x (some_below t old) is in
    let now_is : once new t ≡ (some_below t old || is_true_word x) = once_with t old new (is_true_word x) (λ i b. ap is_true_word (before_now t p (x ∷ []) 0 i b)) (ap is_true_word (at_now t p (x ∷ []) 0)) in
    left ∙ ap (λ c. Ok (bool_word c ∷ [])) (sym now_is)) ps now h.words.count h.given

once_stops : (m : Moment) (b : ℕ) (ps : List Term) (h : Hazard) → StopsForm form.Once m ps h → value m (form_term form.Once b ps) ≡ Err h
once_stops m b ps h s = with_one_stopped m h (λ ps. value m (form_term form.Once b ps) ≡ Err h) (λ e is. ap (λ v. on_test v (Ok (1 ∷ [])) (value m (stream b))) is) ps s.count s.met

once_moves : (m : Moment) (number b at : ℕ) (ps : List Term) (p : Samples) (now : List ℕ) → IsFormStep form.Once m b ps p now → (k : ℕ) (x : TreeStream) → slice_get (buffers_of form.Once number b at ps) k ≡ Some x → value m x.expr ≡ Ok (buffer_entry form.Once (with_now m.time p now) k (depth form.Once + m.time) ∷ [])
once_moves m number b at ps p now h k x is =
    ap (λ (y : TreeStream). value m y.expr) (sym (only_buffer (bool_buffer number 1 0 (form_term form.Once b ps) at) k x is))
    ∙ once_given m b ps p now h
    ∙ ap (λ w. Ok (w ∷ [])) (sym (follows 0 (once (truths (with_now m.time p now) 0)) m.time))

once_begins : (number b at : ℕ) (ps : List Term) (p : Samples) → (k : ℕ) (x : TreeStream) → slice_get (buffers_of form.Once number b at ps) k ≡ Some x → (length x.init ≡ 1) × ((i : ℕ) → i < 1 → slice_get x.init i ≡ Some (buffer_entry form.Once p k i))
once_begins number b at ps p k x is =
    let same = ap (λ (y : TreeStream). y.init) (sym (only_buffer (bool_buffer number 1 0 (form_term form.Once b ps) at) k x is)) in
    (ap length same, λ i below. ap (λ xs. slice_get xs i) same ∙ first_entry 0 (followed 0 (once (truths p 0))) refl i below)

pub once_kept : FormIsKept form.Once
once_kept = record {
  given = once_given;
  stops = once_stops;
  moves = once_moves;
  halts = λ m number b at ps h s. alone m (form_term form.Once b ps) h (once_stops m b ps h s);
  begins = λ number b at ps p count. once_begins number b at ps p;
}
