-- `yesterday` and `weakly yesterday` over their buffer.
use Rattle.std.proofs.Common.{◌≡◌, ℕ, zero, suc, ◌+◌, ◌-◌, ◌<◌, List, [], ◌∷◌, refl, sym, ap, ◌∙◌, arith, Bool, true, false, nat_lt, nat_eq, Some, Ok, Err, length}
use Rattle.std.specs.Prelude.{slice_get, map, ◌&&◌, ◌||◌, if◌then◌else◌, IsTrue}
use Rattle.std.proofs.lemmas.Bool.Decides.{nat_tests}
use Rattle.stream_types.specs.declared.scalar.Hazard.{Hazard}
use Rattle.stream_types.specs.declared.scalar.Scalar.TheVariants as scalar
use Rattle.stream_core.specs.declared.node.LibForm.TheVariants as form
use Rattle.stream_core.specs.Term.{Term, TreeStream, or, and, stream}
use Rattle.stream_core.specs.Eval.{Moment, value, values, entry_at, one, on_test}
use Rattle.stream_core.specs.Library.{yesterday, weakly_yesterday, bool_word, is_true_word, form_value}
use Rattle.stream_core.specs.Lower.{depth, form_term, buffers_of, bool_buffer, no}
use Rattle.form_laws.specs.Buffers.{Samples, IsFormStep, StopsForm, FormIsKept, buffer_entry, with_now, truths, taken}
use Rattle.form_laws.proofs.FormSteps.{with_one, with_one_stopped, only_buffer, alone, before_now, at_now, first_buffer, first_entry, test_word, truth_word}

-- ---- the operand is met, and the buffer's entry is the value

no_word : (b : Bool) → test_word b 0 0 ≡ Ok (0 ∷ [])
no_word true = refl
no_word false = refl

entry_value : (m : Moment) (b : ℕ) (e : Term) (x : ℕ) → value m e ≡ Ok (x ∷ []) → value m (or (and e no) (stream b)) ≡ Ok (entry_at m.table b m.time)
entry_value m b e x is =
    ap (λ v. on_test (on_test v (Ok (0 ∷ [])) (Ok (0 ∷ []))) (Ok (1 ∷ [])) (value m (stream b))) is
    ∙ ap (λ v. on_test v (Ok (1 ∷ [])) (value m (stream b))) (no_word (is_true_word x))

entry_stops : (m : Moment) (b : ℕ) (h : Hazard) (e : Term) → value m e ≡ Err h → value m (or (and e no) (stream b)) ≡ Err h
entry_stops m b h e is = ap (λ v. on_test (on_test v (Ok (0 ∷ [])) (Ok (0 ∷ []))) (Ok (1 ∷ [])) (value m (stream b))) is

-- ---- what the buffer holds before step t

-- the word of the step before is that of its truth
word_before : (t : ℕ) (p : Samples) (now : List ℕ) → 0 < t → ((i : ℕ) → i < t → IsTrue (nat_lt (p 0 i) 2)) → bool_word (is_true_word (with_now t p now 0 (t - 1))) ≡ p 0 (t - 1)
word_before t p now some words =
    ap (λ w. bool_word (is_true_word w)) (before_now t p now 0 (t - 1) (omega (arith, some)))
    ∙ truth_word (p 0 (t - 1)) (words (t - 1) (omega (arith, some)))

yesterday_before : (t : ℕ) (p : Samples) (now : List ℕ) → ((i : ℕ) → i < t → IsTrue (nat_lt (p 0 i) 2)) → taken 1 0 (p 0) t ≡ bool_word (yesterday (truths (with_now t p now) 0) t)
yesterday_before zero p now words = refl
yesterday_before (suc i) p now words =
    let a : nat_lt (suc i) 1 ≡ false = grind (arith, nat_tests) in
    let c : nat_lt 0 (suc i) ≡ true = grind (arith, nat_tests) in
    ap (λ b. if b then 0 else p 0 (suc i - 1)) a
    ∙ sym (word_before (suc i) p now (omega arith) words)
    ∙ ap (λ b. bool_word (b && truths (with_now (suc i) p now) 0 (suc i - 1))) (sym c)

weakly_before : (t : ℕ) (p : Samples) (now : List ℕ) → ((i : ℕ) → i < t → IsTrue (nat_lt (p 0 i) 2)) → taken 1 1 (p 0) t ≡ bool_word (weakly_yesterday (truths (with_now t p now) 0) t)
weakly_before zero p now words = refl
weakly_before (suc i) p now words =
    let a : nat_lt (suc i) 1 ≡ false = grind (arith, nat_tests) in
    let c : nat_eq (suc i) 0 ≡ false = grind (arith, nat_tests) in
    ap (λ b. if b then 1 else p 0 (suc i - 1)) a
    ∙ sym (word_before (suc i) p now (omega arith) words)
    ∙ ap (λ b. bool_word (b || truths (with_now (suc i) p now) 0 (suc i - 1))) (sym c)

-- what the buffer takes at step t stands at entry 1 + t
takes : (w t : ℕ) (p : Samples) (x : ℕ) → taken 1 w (with_now t p (x ∷ []) 0) (1 + t) ≡ x
takes w t p x =
    let a : nat_lt (1 + t) 1 ≡ false = grind (arith, nat_tests) in
    let c : 1 + t - 1 ≡ t = omega arith in
    ap (λ b. if b then w else with_now t p (x ∷ []) 0 (1 + t - 1)) a
    ∙ ap (with_now t p (x ∷ []) 0) c
    ∙ at_now t p (x ∷ []) 0

-- ---- the two forms

yesterday_given : (m : Moment) (b : ℕ) (ps : List Term) (p : Samples) (now : List ℕ) → IsFormStep form.Yesterday m b ps p now → value m (form_term form.Yesterday b ps) ≡ one (form_value form.Yesterday m.time (with_now m.time p now))
yesterday_given m b ps p now h =
    let held : entry_at m.table b m.time ≡ buffer_entry form.Yesterday p 0 m.time ∷ [] = first_buffer m.table b m.time _ (h.hold 0 m.time (omega arith) (omega arith)) in
    let words : (i : ℕ) → i < m.time → IsTrue (nat_lt (p 0 i) 2) = λ i below. h.samples 0 i scalar.Bool below refl in
    with_one m (λ ps now. value m (form_term form.Yesterday b ps) ≡ one (form_value form.Yesterday m.time (with_now m.time p now))) (λ e x is.
    entry_value m b e x is ∙ ap Ok held ∙ ap (λ w. Ok (w ∷ [])) (yesterday_before m.time p (x ∷ []) words)) ps now h.words.count h.given

yesterday_stops : (m : Moment) (b : ℕ) (ps : List Term) (h : Hazard) → StopsForm form.Yesterday m ps h → value m (form_term form.Yesterday b ps) ≡ Err h
yesterday_stops m b ps h s = with_one_stopped m h (λ ps. value m (form_term form.Yesterday b ps) ≡ Err h) (λ e is. entry_stops m b h e is) ps s.count s.met

yesterday_moves : (m : Moment) (number b at : ℕ) (ps : List Term) (p : Samples) (now : List ℕ) → IsFormStep form.Yesterday m b ps p now → (k : ℕ) (x : TreeStream) → slice_get (buffers_of form.Yesterday number b at ps) k ≡ Some x → value m x.expr ≡ Ok (buffer_entry form.Yesterday (with_now m.time p now) k (depth form.Yesterday + m.time) ∷ [])
yesterday_moves m number b at ps p now h =
    with_one m (λ ps now. (k : ℕ) (x : TreeStream) → slice_get (buffers_of form.Yesterday number b at ps) k ≡ Some x → value m x.expr ≡ Ok (buffer_entry form.Yesterday (with_now m.time p now) k (depth form.Yesterday + m.time) ∷ [])) (λ e v given k x is.
    ap (λ (y : TreeStream). value m y.expr) (sym (only_buffer (bool_buffer number 1 0 e at) k x is))
    ∙ given
    ∙ ap (λ w. Ok (w ∷ [])) (sym (takes 0 m.time p v))) ps now h.words.count h.given

yesterday_halts : (m : Moment) (number b at : ℕ) (ps : List Term) (h : Hazard) → StopsForm form.Yesterday m ps h → values m (map (λ (x : TreeStream). x.expr) (buffers_of form.Yesterday number b at ps)) ≡ Err h
yesterday_halts m number b at ps h s = with_one_stopped m h (λ ps. values m (map (λ (x : TreeStream). x.expr) (buffers_of form.Yesterday number b at ps)) ≡ Err h) (λ e is. alone m e h is) ps s.count s.met

yesterday_begins : (number b at : ℕ) (ps : List Term) (p : Samples) → length ps ≡ 1 → (k : ℕ) (x : TreeStream) → slice_get (buffers_of form.Yesterday number b at ps) k ≡ Some x → (length x.init ≡ 1) × ((i : ℕ) → i < 1 → slice_get x.init i ≡ Some (buffer_entry form.Yesterday p k i))
yesterday_begins number b at [] p count k x is = absurd (omega (arith, count))
yesterday_begins number b at (e ∷ ps) p count k x is =
    let same = ap (λ (y : TreeStream). y.init) (sym (only_buffer (bool_buffer number 1 0 e at) k x is)) in
    (ap length same, λ i below. ap (λ xs. slice_get xs i) same ∙ first_entry 0 (taken 1 0 (p 0)) refl i below)

pub yesterday_kept : FormIsKept form.Yesterday
yesterday_kept = record {
  given = yesterday_given;
  stops = yesterday_stops;
  moves = yesterday_moves;
  halts = yesterday_halts;
  begins = yesterday_begins;
}

weakly_given : (m : Moment) (b : ℕ) (ps : List Term) (p : Samples) (now : List ℕ) → IsFormStep form.WeaklyYesterday m b ps p now → value m (form_term form.WeaklyYesterday b ps) ≡ one (form_value form.WeaklyYesterday m.time (with_now m.time p now))
weakly_given m b ps p now h =
    let held : entry_at m.table b m.time ≡ buffer_entry form.WeaklyYesterday p 0 m.time ∷ [] = first_buffer m.table b m.time _ (h.hold 0 m.time (omega arith) (omega arith)) in
    let words : (i : ℕ) → i < m.time → IsTrue (nat_lt (p 0 i) 2) = λ i below. h.samples 0 i scalar.Bool below refl in
    with_one m (λ ps now. value m (form_term form.WeaklyYesterday b ps) ≡ one (form_value form.WeaklyYesterday m.time (with_now m.time p now))) (λ e x is.
    entry_value m b e x is ∙ ap Ok held ∙ ap (λ w. Ok (w ∷ [])) (weakly_before m.time p (x ∷ []) words)) ps now h.words.count h.given

weakly_stops : (m : Moment) (b : ℕ) (ps : List Term) (h : Hazard) → StopsForm form.WeaklyYesterday m ps h → value m (form_term form.WeaklyYesterday b ps) ≡ Err h
weakly_stops m b ps h s = with_one_stopped m h (λ ps. value m (form_term form.WeaklyYesterday b ps) ≡ Err h) (λ e is. entry_stops m b h e is) ps s.count s.met

weakly_moves : (m : Moment) (number b at : ℕ) (ps : List Term) (p : Samples) (now : List ℕ) → IsFormStep form.WeaklyYesterday m b ps p now → (k : ℕ) (x : TreeStream) → slice_get (buffers_of form.WeaklyYesterday number b at ps) k ≡ Some x → value m x.expr ≡ Ok (buffer_entry form.WeaklyYesterday (with_now m.time p now) k (depth form.WeaklyYesterday + m.time) ∷ [])
weakly_moves m number b at ps p now h =
    with_one m (λ ps now. (k : ℕ) (x : TreeStream) → slice_get (buffers_of form.WeaklyYesterday number b at ps) k ≡ Some x → value m x.expr ≡ Ok (buffer_entry form.WeaklyYesterday (with_now m.time p now) k (depth form.WeaklyYesterday + m.time) ∷ [])) (λ e v given k x is.
    ap (λ (y : TreeStream). value m y.expr) (sym (only_buffer (bool_buffer number 1 1 e at) k x is))
    ∙ given
    ∙ ap (λ w. Ok (w ∷ [])) (sym (takes 1 m.time p v))) ps now h.words.count h.given

weakly_halts : (m : Moment) (number b at : ℕ) (ps : List Term) (h : Hazard) → StopsForm form.WeaklyYesterday m ps h → values m (map (λ (x : TreeStream). x.expr) (buffers_of form.WeaklyYesterday number b at ps)) ≡ Err h
weakly_halts m number b at ps h s = with_one_stopped m h (λ ps. values m (map (λ (x : TreeStream). x.expr) (buffers_of form.WeaklyYesterday number b at ps)) ≡ Err h) (λ e is. alone m e h is) ps s.count s.met

weakly_begins : (number b at : ℕ) (ps : List Term) (p : Samples) → length ps ≡ 1 → (k : ℕ) (x : TreeStream) → slice_get (buffers_of form.WeaklyYesterday number b at ps) k ≡ Some x → (length x.init ≡ 1) × ((i : ℕ) → i < 1 → slice_get x.init i ≡ Some (buffer_entry form.WeaklyYesterday p k i))
weakly_begins number b at [] p count k x is = absurd (omega (arith, count))
weakly_begins number b at (e ∷ ps) p count k x is =
    let same = ap (λ (y : TreeStream). y.init) (sym (only_buffer (bool_buffer number 1 1 e at) k x is)) in
    (ap length same, λ i below. ap (λ xs. slice_get xs i) same ∙ first_entry 1 (taken 1 1 (p 0)) refl i below)

pub weakly_kept : FormIsKept form.WeaklyYesterday
weakly_kept = record {
  given = weakly_given;
  stops = weakly_stops;
  moves = weakly_moves;
  halts = weakly_halts;
  begins = weakly_begins;
}
