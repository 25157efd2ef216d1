-- One form over its buffers: its operands' values, and its buffers' entries.
use Rattle.std.proofs.Common.{◌≡◌, ℕ, zero, suc, ◌+◌, ◌<◌, List, [], ◌∷◌, refl, sym, ap, ◌∙◌, arith, Bool, true, false, nat_lt, Some, Result, Ok, Err, length}
use Rattle.std.specs.Prelude.{slice_get, slice_index, if◌then◌else◌, IsTrue}
use Rattle.std.proofs.lemmas.Bool.Decides.{nat_tests}
use Rattle.stream_types.specs.declared.scalar.Hazard.{Hazard}
use Rattle.stream_core.specs.Term.{Term, TreeStream}
use Rattle.stream_core.specs.Eval.{Moment, Table, Value, value, values, entry_at}
use Rattle.stream_core.specs.Library.{bind, bool_word, is_true_word}
use Rattle.stream_core.proofs.PartsOfSteps.{bind_apart}
use Rattle.form_laws.specs.Buffers.{Samples, singles, with_now}

-- ---- values of operands

pub first_and_rest : (m : Moment) (e : Term) (es : List Term) (y : List ℕ) (ys : List (List ℕ)) → values m (e ∷ es) ≡ Ok (y ∷ ys) → (value m e ≡ Ok y) × (values m es ≡ Ok ys)
first_and_rest m e es y ys h =
    let a = bind_apart (value m e) (λ v. bind (values m es) (λ rest. Ok (v ∷ rest))) (y ∷ ys) h in
    let b = bind_apart (values m es) (λ rest. Ok (a.0 ∷ rest)) (y ∷ ys) a.2 in
    let p = a.1 in
    let q = b.1 in
    (cc, cc)

none_left : (m : Moment) (e : Term) (es : List Term) → values m (e ∷ es) ≡ Ok [] → ⊥
none_left m e es h =
    let a = bind_apart (value m e) (λ v. bind (values m es) (λ rest. Ok (v ∷ rest))) [] h in
    let b = bind_apart (values m es) (λ rest. Ok (a.0 ∷ rest)) [] a.2 in
    let q = b.2 in
    absurd (cc)

-- one operand, which has the value of its word
pub with_one : (m : Moment) (P : List Term → List ℕ → Type 0) → ((e : Term) (x : ℕ) → value m e ≡ Ok (x ∷ []) → P (e ∷ []) (x ∷ [])) → (ps : List Term) (now : List ℕ) → length now ≡ 1 → values m ps ≡ Ok (singles now) → P ps now
with_one m P f ps [] count given = absurd (omega (arith, count))
with_one m P f [] (x ∷ xs) count given = absurd (cc)
with_one m P f (e ∷ []) (x ∷ []) count given = f e x (first_and_rest m e [] (x ∷ []) [] given).0
with_one m P f (e ∷ d ∷ es) (x ∷ []) count given = absurd (none_left m d es (first_and_rest m e (d ∷ es) (x ∷ []) [] given).1)
with_one m P f ps (x ∷ y ∷ xs) count given = absurd (omega (arith, count))

-- two operands
pub with_two : (m : Moment) (P : List Term → List ℕ → Type 0) → ((e d : Term) (x y : ℕ) → value m e ≡ Ok (x ∷ []) → value m d ≡ Ok (y ∷ []) → P (e ∷ d ∷ []) (x ∷ y ∷ [])) → (ps : List Term) (now : List ℕ) → length now ≡ 2 → values m ps ≡ Ok (singles now) → P ps now
with_two m P f ps [] count given = absurd (omega (arith, count))
with_two m P f [] (x ∷ xs) count given = absurd (cc)
with_two m P f (e ∷ es) (x ∷ xs) count given =
    let parts = first_and_rest m e es (x ∷ []) (singles xs) given in
    with_one m (λ qs ys. P (e ∷ qs) (x ∷ ys)) (λ d y is. f e d x y parts.0 is) es xs (omega (arith, count)) parts.1

-- ---- hazards of operands

one_stops' : (m : Moment) (e : Term) (v : Result (List ℕ) Hazard) (h : Hazard) → value m e ≡ v → bind v (λ x. Ok (x ∷ [])) ≡ Err h → value m e ≡ Err h
one_stops' m e (Ok x) h is met = absurd (cc)
one_stops' m e (Err g) h is met = cc

pub with_one_stopped : (m : Moment) (h : Hazard) (P : List Term → Type 0) → ((e : Term) → value m e ≡ Err h → P (e ∷ [])) → (ps : List Term) → length ps ≡ 1 → values m ps ≡ Err h → P ps
with_one_stopped m h P f [] count met = absurd (omega (arith, count))
with_one_stopped m h P f (e ∷ []) count met = f e (one_stops' m e (value m e) h refl met)
with_one_stopped m h P f (e ∷ d ∷ es) count met = absurd (omega (arith, count))

-- ---- buffers

pub only_buffer : (y : TreeStream) (k : ℕ) (x : TreeStream) → slice_get (y ∷ []) k ≡ Some x → y ≡ x
only_buffer y zero x h = cc
only_buffer y (suc k) x h = absurd (cc)

pub alone : (m : Moment) (e : Term) (h : Hazard) → value m e ≡ Err h → values m (e ∷ []) ≡ Err h
alone m e h is = ap (λ v. bind v (λ x. bind (Ok []) (λ xs. Ok (x ∷ xs)))) is

-- the first buffer
pub first_buffer : (table : Table) (b i : ℕ) (v : List ℕ) → entry_at table (b + 0) i ≡ v → entry_at table b i ≡ v
first_buffer table b i v h = let e : b ≡ b + 0 = omega arith in ap (λ k. entry_at table k i) e ∙ h

-- a buffer of one entry
pub first_entry : (w : ℕ) (f : ℕ → ℕ) → f 0 ≡ w → (i : ℕ) → i < 1 → slice_get (w ∷ []) i ≡ Some (f i)
first_entry w f is zero h = ap Some (sym is)
first_entry w f is (suc i) h = absurd (omega (arith, h))

-- a test with words for both answers
abbrev pub test_word : Bool → ℕ → ℕ → Value
test_word b x y = if b then Ok (x ∷ []) else Ok (y ∷ [])

-- ---- samples and truth words

pub before_now : (t : ℕ) (p : Samples) (now : List ℕ) (j i : ℕ) → i < t → with_now t p now j i ≡ p j i
before_now t p now j i h =
    let e : nat_lt i t ≡ true = grind (arith, nat_tests, h) in
    ap (λ b. if b then p j i else slice_index now j) e

pub at_now : (t : ℕ) (p : Samples) (now : List ℕ) (j : ℕ) → with_now t p now j t ≡ slice_index now j
at_now t p now j =
    let e : nat_lt t t ≡ false = grind (arith, nat_tests) in
    ap (λ b. if b then p j t else slice_index now j) e

-- a word of Bool is the word of its truth
pub truth_word : (w : ℕ) → IsTrue (nat_lt w 2) → bool_word (is_true_word w) ≡ w
truth_word zero h = refl
truth_word (suc zero) h = refl
truth_word (suc (suc w)) h = let b : suc (suc w) < 2 = grind (arith, nat_tests, h) in absurd (omega (arith, b))
