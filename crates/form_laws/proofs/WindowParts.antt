-- What the buffer of a window holds, and how it begins and goes on.
use Rattle.std.proofs.Common.{◌≡◌, ℕ, zero, suc, ◌+◌, ◌-◌, ◌<◌, ◌≤◌, List, [], ◌∷◌, length, refl, sym, ap, ◌∙◌, arith, Bool, true, false, nat_lt, Result, Ok, Err}
use Rattle.std.specs.Prelude.{if◌then◌else◌, slice_index, slice_get, Some, replicate}
use Rattle.std.proofs.lemmas.Bool.Decides.{nat_tests}
use Rattle.std.proofs.lemmas.List.{length-replicate}
use Rattle.std.proofs.lemmas.Option.{same_Some, none-some}
use Rattle.stream_types.specs.declared.scalar.Scalar.{Scalar}
use Rattle.stream_types.specs.declared.scalar.Hazard.{Hazard}
use Rattle.stream_core.specs.Term.{Term, TreeStream}
use Rattle.stream_core.specs.Library.{bind, back}
use Rattle.stream_core.specs.Eval.{Table, Moment, entry_at, value, values}
use Rattle.stream_core.specs.Lower.{ago, word_buffer}
use Rattle.form_laws.specs.Buffers.{Samples, with_now, taken}

-- ---- operands

taken_first : (m : Moment) (v w : List ℕ) (vs : List (List ℕ)) (r : Result (List ℕ) Hazard) (rs : Result (List (List ℕ)) Hazard) → bind r (λ x. bind rs (λ xs. Ok (x ∷ xs))) ≡ Ok (v ∷ vs) → r ≡ Ok v
taken_first m v w vs (Ok x) (Ok xs) e = cc
taken_first m v w vs (Ok x) (Err h) e = absurd (cc)
taken_first m v w vs (Err h) rs e = absurd (cc)

pub first_value : (m : Moment) (e : Term) (es : List Term) (v : List ℕ) (vs : List (List ℕ)) → values m (e ∷ es) ≡ Ok (v ∷ vs) → value m e ≡ Ok v
first_value m e es v vs h = taken_first m v v vs (value m e) (values m es) h

first_hazard : (h : Hazard) (r : Result (List ℕ) Hazard) → bind r (λ x. Ok (x ∷ [])) ≡ Err h → r ≡ Err h
first_hazard h (Ok x) e = absurd (cc)
first_hazard h (Err g) e = cc

-- the one operand of a form meets its hazard
pub one_hazard : (m : Moment) (e : Term) (h : Hazard) → values m (e ∷ []) ≡ Err h → value m e ≡ Err h
one_hazard m e h q = first_hazard h (value m e) q

-- ---- samples

-- the word of the sample i steps ago
abbrev pub seen : ℕ → (ℕ → ℕ) → ℕ → ℕ → ℕ
seen w p t i = if nat_lt t i then w else p (t - i)

-- the n samples before step t, the newest first, and a word where there is none
abbrev pub padded : ℕ → (ℕ → ℕ) → ℕ → ℕ → List ℕ
padded w p t zero = []
padded w p zero (suc n) = w ∷ padded w p zero n
padded w p (suc t) (suc n) = p t ∷ padded w p t n

-- Before step t list b holds the samples, behind d times a word.
abbrev pub IsWindow : ℕ → ℕ → ℕ → Table → ℕ → (ℕ → ℕ) → Type 0
IsWindow b d w table t p = (i : ℕ) → i < d + t → entry_at table b i ≡ taken d w p i ∷ []

entry_seen : (d w : ℕ) (p : ℕ → ℕ) (t i : ℕ) → i ≤ d → taken d w p (t + (d - i)) ≡ seen w p t i
entry_seen d w p t i h =
    let a : nat_lt (t + (d - i)) d ≡ nat_lt t i = grind (arith, nat_tests, h) in
    let b : t + (d - i) - d ≡ t - i = omega arith in
    rw (a, b) refl

pub ago_value : (m : Moment) (b d w : ℕ) (p : ℕ → ℕ) → IsWindow b d w m.table m.time p → (i : ℕ) → 1 ≤ i → i ≤ d → value m (ago b d i) ≡ Ok (seen w p m.time i ∷ [])
ago_value m b d w p hold i one_ h = ap Ok (hold (m.time + (d - i)) (omega arith) ∙ ap (λ x. x ∷ []) (entry_seen d w p m.time i h))

padded_by : (c : Bool) (w : ℕ) (p : ℕ → ℕ) (t i n a a' : ℕ) → nat_lt t i ≡ c → a ≡ suc t - i → a' ≡ suc t - (i + 1) → padded w p a (suc n) ≡ (if c then w else p (t - i)) ∷ padded w p a' n
padded_by true w p t i n a a' c e e' =
    let below : t < i = grind (arith, nat_tests, c) in
    let z : a ≡ 0 = omega arith in
    let z' : a' ≡ 0 = omega arith in
    rw (z, z') refl
padded_by false w p t i n a a' c e e' =
    let above : i ≤ t = grind (arith, nat_tests, c) in
    let z : a ≡ suc (t - i) = omega arith in
    let z' : a' ≡ t - i = omega arith in
    rw (z, z') refl

pub padded_from : (w : ℕ) (p : ℕ → ℕ) (t i n : ℕ) → padded w p (suc t - i) (suc n) ≡ seen w p t i ∷ padded w p (suc t - (i + 1)) n
padded_from w p t i n = padded_by (nat_lt t i) w p t i n (suc t - i) (suc t - (i + 1)) refl refl refl

pub back_same : (p q : ℕ → ℕ) (t n : ℕ) → ((i : ℕ) → i < t → p i ≡ q i) → back p t n ≡ back q t n
back_same p q t zero h = refl
back_same p q zero (suc n) h = refl
back_same p q (suc t) (suc n) h =
    let a = h t (omega arith) in
    let b = back_same p q t n (λ i below. h i (omega arith)) in
    cc

-- ---- this step among the samples

pub earlier : (t : ℕ) (p : Samples) (now : List ℕ) (j i : ℕ) → i < t → with_now t p now j i ≡ p j i
earlier t p now j i h = let e : nat_lt i t ≡ true = grind (arith, nat_tests, h) in ap (λ c. if c then p j i else slice_index now j) e

pub at_this : (t : ℕ) (p : Samples) (now : List ℕ) (j i : ℕ) → i ≡ t → with_now t p now j i ≡ slice_index now j
at_this t p now j i h = let e : nat_lt i t ≡ false = grind (arith, nat_tests, h) in ap (λ c. if c then p j i else slice_index now j) e

-- the next entry is this step's sample
pub next_taken : (d w t : ℕ) (p : Samples) (now : List ℕ) → taken d w (with_now t p now 0) (d + t) ≡ slice_index now 0
next_taken d w t p now =
    let e : nat_lt (d + t) d ≡ false = grind (arith, nat_tests) in
    ap (λ c. if c then w else with_now t p now 0 (d + t - d)) e ∙ at_this t p now 0 (d + t - d) (omega arith)

-- ---- the first entries

replicate_at : (n w i : ℕ) → i < n → slice_get (replicate n w) i ≡ Some w
replicate_at zero w i h = absurd (omega arith)
replicate_at (suc n) w zero h = refl
replicate_at (suc n) w (suc i) h = replicate_at n w i (omega arith)

first_taken : (d w : ℕ) (p : ℕ → ℕ) (i : ℕ) → i < d → w ≡ taken d w p i
first_taken d w p i h = let e : nat_lt i d ≡ true = grind (arith, nat_tests, h) in sym (ap (λ c. if c then w else p (i - d)) e)

pub window_begins : (d w : ℕ) (p : ℕ → ℕ) → (length (replicate d w) ≡ d) × ((i : ℕ) → i < d → slice_get (replicate d w) i ≡ Some (taken d w p i))
window_begins d w p = (length-replicate d w, λ i h. replicate_at d w i h ∙ ap Some (first_taken d w p i h))

-- ---- the buffer

pub first_buffer : (d w b : ℕ) (table : Table) (t : ℕ) (p : ℕ → ℕ) → ((i : ℕ) → i < d + t → entry_at table (b + 0) i ≡ taken d w p i ∷ []) → IsWindow b d w table t p
first_buffer d w b table t p h i below = let z : b ≡ b + 0 = omega arith in ap (λ c. entry_at table c i) z ∙ h i below

-- the one stream of these, by its number
only_one : (y : TreeStream) (k : ℕ) (x : TreeStream) → slice_get (y ∷ []) k ≡ Some x → (k ≡ 0) × (x ≡ y)
only_one y zero x q = (refl, sym (same_Some y x q))
only_one y (suc k) x q = absurd (none-some x q)

pub window_moves : (m : Moment) (number d w at : ℕ) (s : Scalar) (e : Term) (p : Samples) (y : ℕ) → value m e ≡ Ok (y ∷ [])
    → (k : ℕ) (x : TreeStream) → slice_get (word_buffer number s d w e at ∷ []) k ≡ Some x
    → value m x.expr ≡ Ok (taken d w (with_now m.time p (y ∷ []) 0) (d + m.time) ∷ [])
window_moves m number d w at s e p y is k x q =
    ap (λ (z : TreeStream). value m z.expr) (only_one (word_buffer number s d w e at) k x q).1
    ∙ is ∙ ap (λ c. Ok (c ∷ [])) (sym (next_taken d w m.time p (y ∷ [])))

pub window_starts : (number d w at : ℕ) (s : Scalar) (e : Term) (p : Samples)
    → (k : ℕ) (x : TreeStream) → slice_get (word_buffer number s d w e at ∷ []) k ≡ Some x
    → (length x.init ≡ d) × ((i : ℕ) → i < d → slice_get x.init i ≡ Some (taken d w (p 0) i))
window_starts number d w at s e p k x q =
    let o : x.init ≡ replicate d w = ap (λ (z : TreeStream). z.init) (only_one (word_buffer number s d w e at) k x q).1 in
    let first = window_begins d w (p 0) in
    (ap (λ xs. length xs) o ∙ first.0, λ i h. ap (λ xs. slice_get xs i) o ∙ first.1 i h)
