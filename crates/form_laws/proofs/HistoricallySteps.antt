-- `historically` over its buffer.
use Rattle.std.proofs.Common.{◌≡◌, ℕ, ◌+◌, ◌<◌, List, [], ◌∷◌, refl, sym, ap, ◌∙◌, arith, Bool, true, false, Some, Ok, Err, length}
use Rattle.std.specs.Prelude.{slice_get, ◌&&◌}
use Rattle.stream_types.specs.declared.scalar.Hazard.{Hazard}
use Rattle.stream_core.specs.declared.node.LibForm.TheVariants as form
use Rattle.stream_core.specs.Term.{Term, TreeStream, and, stream}
use Rattle.stream_core.specs.Eval.{Moment, Value, value, entry_at, one, on_test}
use Rattle.stream_core.specs.Library.{each_below, historically, bool_word, is_true_word, form_value}
use Rattle.stream_core.specs.Lower.{depth, form_term, buffers_of, bool_buffer}
use Rattle.form_laws.specs.Buffers.{Samples, IsFormStep, StopsForm, FormIsKept, buffer_entry, with_now, truths, followed}
use Rattle.form_laws.proofs.FormSteps.{with_one, with_one_stopped, only_buffer, alone, before_now, at_now, first_buffer, first_entry, test_word}
use Rattle.form_laws.proofs.KeptSentences.{historically_with, historically_before, follows}

and_word : (b c : Bool) → test_word b (bool_word c) 0 ≡ Ok (bool_word (c && b) ∷ [])
and_word true true = refl
and_word true false = refl
and_word false true = refl
and_word false false = refl

-- `and` over a word, and what a buffer holds
and_value : (v : Value) (x : ℕ) (c : Bool) → v ≡ Ok (x ∷ []) → on_test v (Ok (bool_word c ∷ [])) (Ok (0 ∷ [])) ≡ Ok (bool_word (c && is_true_word x) ∷ [])
and_value v x c is = ap (λ u. on_test u (Ok (bool_word c ∷ [])) (Ok (0 ∷ []))) is ∙ and_word (is_true_word x) c

historically_given : (m : Moment) (b : ℕ) (ps : List Term) (p : Samples) (now : List ℕ) → IsFormStep form.Historically m b ps p now → value m (form_term form.Historically b ps) ≡ one (form_value form.Historically m.time (with_now m.time p now))
historically_given m b ps p now h =
    let held : entry_at m.table b m.time ≡ buffer_entry form.Historically p 0 m.time ∷ [] = first_buffer m.table b m.time _ (h.hold 0 m.time (omega arith) (omega arith)) in
    with_one m (λ ps now. value m (form_term form.Historically b ps) ≡ one (form_value form.Historically m.time (with_now m.time p now))) (λ e x is.
    let t = m.time in
    let old = truths p 0 in
    let new = truths (with_now t p (x ∷ [])) 0 in
    let entry : entry_at m.table b t ≡ bool_word (each_below t old) ∷ [] = held ∙ ap (λ w. w ∷ []) (historically_before old t) in
    let left : value m (and e (stream b)) ≡ Ok (bool_word (each_below t old && is_true_word x) ∷ []) = ap (λ w. on_test (value m e) (Ok w) (Ok (0 ∷ []))) entry ∙ and_value (value m e) x (each_below t old) is in
    let now_is : historically new t ≡ (each_below t old && is_true_word x) = historically_with t old new (is_true_word x) (λ i b. ap is_true_word (before_now t p (x ∷ []) 0 i b)) (ap is_true_word (at_now t p (x ∷ []) 0)) in
    left ∙ ap (λ c. Ok (bool_word c ∷ [])) (sym now_is)) ps now h.words.count h.given

historically_stops : (m : Moment) (b : ℕ) (ps : List Term) (h : Hazard) → StopsForm form.Historically m ps h → value m (form_term form.Historically b ps) ≡ Err h
historically_stops m b ps h s = with_one_stopped m h (λ ps. value m (form_term form.Historically b ps) ≡ Err h) (λ e is. ap (λ v. on_test v (value m (stream b)) (Ok (0 ∷ []))) is) ps s.count s.met

historically_moves : (m : Moment) (number b at : ℕ) (ps : List Term) (p : Samples) (now : List ℕ) → IsFormStep form.Historically m b ps p now → (k : ℕ) (x : TreeStream) → slice_get (buffers_of form.Historically number b at ps) k ≡ Some x → value m x.expr ≡ Ok (buffer_entry form.Historically (with_now m.time p now) k (depth form.Historically + m.time) ∷ [])
historically_moves m number b at ps p now h k x is =
    ap (λ (y : TreeStream). value m y.expr) (sym (only_buffer (bool_buffer number 1 1 (form_term form.Historically b ps) at) k x is))
    ∙ historically_given m b ps p now h
    ∙ ap (λ w. Ok (w ∷ [])) (sym (follows 1 (historically (truths (with_now m.time p now) 0)) m.time))

historically_begins : (number b at : ℕ) (ps : List Term) (p : Samples) → (k : ℕ) (x : TreeStream) → slice_get (buffers_of form.Historically number b at ps) k ≡ Some x → (length x.init ≡ 1) × ((i : ℕ) → i < 1 → slice_get x.init i ≡ Some (buffer_entry form.Historically p k i))
historically_begins number b at ps p k x is =
    let same = ap (λ (y : TreeStream). y.init) (sym (only_buffer (bool_buffer number 1 1 (form_term form.Historically b ps) at) k x is)) in
    (ap length same, λ i below. ap (λ xs. slice_get xs i) same ∙ first_entry 1 (followed 1 (historically (truths p 0))) refl i below)

pub historically_kept : FormIsKept form.Historically
historically_kept = record {
  given = historically_given;
  stops = historically_stops;
  moves = historically_moves;
  halts = λ m number b at ps h s. alone m (form_term form.Historically b ps) h (historically_stops m b ps h s);
  begins = λ number b at ps p count. historically_begins number b at ps p;
}
