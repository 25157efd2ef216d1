-- The best sample of a window, from its buffer.
use Rattle.std.proofs.Common.{◌≡◌, ℕ, zero, suc, ◌+◌, ◌-◌, ◌<◌, ◌≤◌, List, [], ◌∷◌, length, refl, sym, ap, subst, ◌∙◌, arith, Bool, true, false, nat_eq, nat_lt, Ok, Err}
use Rattle.std.specs.Prelude.{◌&&◌, if◌then◌else◌, slice_index, slice_index_or, Contains}
use Rattle.std.specs.List.{AllByRecursion}
use Rattle.std.proofs.lemmas.Bool.Decides.{nat_tests}
use Rattle.stream_types.specs.declared.scalar.Hazard.{Hazard}
use Rattle.stream_core.specs.Term.{Term}
use Rattle.stream_core.specs.Eval.{Moment, value, on_test, truth}
use Rattle.stream_core.specs.Lower.{sample, all_of, tests, best}
use Rattle.form_laws.proofs.WindowParts.{seen, padded, IsWindow, ago_value}

-- ---- the tests of one sample

-- A test of two expressions by their words.
abbrev pub IsTest : Moment → (Term → Term → Term) → (ℕ → ℕ → Bool) → Type 0
IsTest m test ge = (a b : Term) (x y : ℕ) → value m a ≡ Ok (x ∷ []) → value m b ≡ Ok (y ∷ []) → value m (test a b) ≡ truth (ge x y)

-- sample i is as good as each other one of the n from j on
abbrev passes : (ℕ → ℕ → Bool) → (ℕ → ℕ) → ℕ → ℕ → ℕ → Bool
passes ge v i j zero = true
passes ge v i j (suc n) = if nat_eq j i then passes ge v i (j + 1) n else ge (v i) (v j) && passes ge v i (j + 1) n

-- the first sample from i on that passes, or the last
abbrev chosen : (ℕ → ℕ → Bool) → (ℕ → ℕ) → ℕ → ℕ → ℕ → ℕ
chosen ge v count i zero = v i
chosen ge v count i (suc k) = if passes ge v i 0 count then v i else chosen ge v count (i + 1) k

both_true : (c d : Bool) → on_test (truth c) (truth d) (Ok (0 ∷ [])) ≡ truth (c && d)
both_true true d = refl
both_true false d = refl

alone : (c : Bool) → truth c ≡ truth (c && true)
alone true = refl
alone false = refl

all_more : (m : Moment) (a : Term) (ts : List Term) (c d : Bool) → value m a ≡ truth c → value m (all_of ts) ≡ truth d → value m (all_of (a ∷ ts)) ≡ truth (c && d)
all_more m a [] c true is all = is ∙ alone c
all_more m a [] c false is all = absurd (cc)
all_more m a (b ∷ bs) c d is all = ap (λ v. on_test v (value m (all_of (b ∷ bs))) (Ok (0 ∷ []))) is ∙ ap (λ v. on_test (truth c) v (Ok (0 ∷ []))) all ∙ both_true c d

unless_own : (m : Moment) (own : Bool) (a : Term) (ts : List Term) (c d : Bool) → value m a ≡ truth c → value m (all_of ts) ≡ truth d
    → value m (all_of (if own then ts else a ∷ ts)) ≡ truth (if own then d else c && d)
unless_own m true a ts c d is all = all
unless_own m false a ts c d is all = all_more m a ts c d is all

tests_value : (m : Moment) (test : Term → Term → Term) (ge : ℕ → ℕ → Bool) (at : ℕ → Term) (v : ℕ → ℕ) (count : ℕ) → IsTest m test ge
    → ((j : ℕ) → j < count → value m (at j) ≡ Ok (v j ∷ [])) → (i j n : ℕ) → i < count → j + n ≤ count
    → value m (all_of (tests test at i j n)) ≡ truth (passes ge v i j n)
tests_value m test ge at v count by values i j zero own le = refl
tests_value m test ge at v count by values i j (suc n) own le =
    unless_own m (nat_eq j i) (test (at i) (at j)) (tests test at i (j + 1) n) (ge (v i) (v j)) (passes ge v i (j + 1) n)
    (by (at i) (at j) (v i) (v j) (values i own) (values j (omega arith)))
    (tests_value m test ge at v count by values i (j + 1) n own (omega arith))

-- ---- the choice

choice : (c : Bool) (x y : ℕ) → on_test (truth c) (Ok (x ∷ [])) (Ok (y ∷ [])) ≡ Ok ((if c then x else y) ∷ [])
choice true x y = refl
choice false x y = refl

best_value : (m : Moment) (test : Term → Term → Term) (ge : ℕ → ℕ → Bool) (at : ℕ → Term) (v : ℕ → ℕ) (count : ℕ) → IsTest m test ge
    → ((j : ℕ) → j < count → value m (at j) ≡ Ok (v j ∷ [])) → (i k : ℕ) → i + k < count
    → value m (best test at count i k) ≡ Ok (chosen ge v count i k ∷ [])
best_value m test ge at v count by values i zero le = values i (omega arith)
best_value m test ge at v count by values i (suc k) le =
    let rest = best test at count (i + 1) k in
    ap (λ u. on_test u (value m (at i)) (value m rest)) (tests_value m test ge at v count by values i 0 count (omega arith) (omega arith))
    ∙ ap (λ u. on_test (truth (passes ge v i 0 count)) u (value m rest)) (values i (omega arith))
    ∙ ap (λ u. on_test (truth (passes ge v i 0 count)) (Ok (v i ∷ [])) u) (best_value m test ge at v count by values (i + 1) k (omega arith))
    ∙ choice (passes ge v i 0 count) (v i) (chosen ge v count (i + 1) k)

-- ---- the choice is as good as each

passed_step : (own c d : Bool) → (if own then d else c && d) ≡ true → (d ≡ true) × (own ≡ false → c ≡ true)
passed_step true c d h = (h, λ e. absurd (cc))
passed_step false true d h = (h, λ e. refl)
passed_step false false d h = absurd (cc)

here_or_later : (ge : ℕ → ℕ → Bool) (v : ℕ → ℕ) (i j k : ℕ) (c : Bool) → nat_eq j k ≡ c → (nat_eq j i ≡ false → ge (v i) (v j) ≡ true) → nat_eq k i ≡ false → j ≤ k
    → (j < k → ge (v i) (v k) ≡ true) → ge (v i) (v k) ≡ true
here_or_later ge v i j k true is here e a later =
    let same : j ≡ k = grind (arith, nat_tests, is) in
    ap (λ x. ge (v i) (v x)) (sym same) ∙ here (ap (λ x. nat_eq x i) same ∙ e)
here_or_later ge v i j k false is here e a later = later (grind (arith, nat_tests, is, a))

passes_gives : (ge : ℕ → ℕ → Bool) (v : ℕ → ℕ) (i j n : ℕ) → passes ge v i j n ≡ true → (k : ℕ) → j ≤ k → k < j + n → nat_eq k i ≡ false → ge (v i) (v k) ≡ true
passes_gives ge v i j zero h k a b e = absurd (omega (arith, a, b))
passes_gives ge v i j (suc n) h k a b e =
    let parts = passed_step (nat_eq j i) (ge (v i) (v j)) (passes ge v i (j + 1) n) h in
    here_or_later ge v i j k (nat_eq j k) refl parts.1 e a (λ differ. passes_gives ge v i (j + 1) n parts.0 k (omega (arith, differ)) (omega (arith, b)) e)

all_step : (own c d : Bool) → c ≡ true → d ≡ true → (if own then d else c && d) ≡ true
all_step true c d a b = b
all_step false c d a b = cc

passes_all : (ge : ℕ → ℕ → Bool) (v : ℕ → ℕ) (i j n : ℕ) → ((k : ℕ) → k < j + n → ge (v i) (v k) ≡ true) → passes ge v i j n ≡ true
passes_all ge v i j zero h = refl
passes_all ge v i j (suc n) h = all_step (nat_eq j i) (ge (v i) (v j)) (passes ge v i (j + 1) n) (h j (omega arith)) (passes_all ge v i (j + 1) n (λ k b. h k (omega arith)))

picked : (own c : Bool) (x y g : ℕ) → (own ≡ true → x ≡ g) → (own ≡ true → c ≡ true) → (own ≡ false → c ≡ true → x ≡ g) → (own ≡ false → y ≡ g) → (if c then x else y) ≡ g
picked true true x y g is passed other later = is refl
picked true false x y g is passed other later = absurd (let e = passed refl in cc)
picked false true x y g is passed other later = other refl refl
picked false false x y g is passed other later = later refl

own_place : (v : ℕ → ℕ) (place i g : ℕ) → v place ≡ g → nat_eq place i ≡ true → v i ≡ g
own_place v place i g at_ is = let e : i ≡ place = grind (arith, nat_tests, is) in ap v e ∙ at_

later_place : (place i : ℕ) → i ≤ place → nat_eq place i ≡ false → i < place
later_place place i a other = grind (arith, nat_tests, other, a)

chosen_is : (ge : ℕ → ℕ → Bool) (v : ℕ → ℕ) (count g place : ℕ) → ((j : ℕ) → j < count → ge g (v j) ≡ true) → ((j : ℕ) → j < count → ge (v j) g ≡ true → v j ≡ g)
    → v place ≡ g → (i k : ℕ) → i ≤ place → place ≤ i + k → i + k < count → chosen ge v count i k ≡ g
chosen_is ge v count g place beats same at_ i zero a b le = let e : i ≡ place = omega (arith, a, b) in ap v e ∙ at_
chosen_is ge v count g place beats same at_ i (suc k) a b le =
    picked (nat_eq place i) (passes ge v i 0 count) (v i) (chosen ge v count (i + 1) k) g
    (own_place v place i g at_)
    (λ is. passes_all ge v i 0 count (λ j h. ap (λ x. ge x (v j)) (own_place v place i g at_ is) ∙ beats j (omega (arith, h))))
    (λ other passed. same i (omega (arith, le)) (ap (λ x. ge (v i) x) (sym at_) ∙ passes_gives ge v i 0 count passed place (omega arith) (omega (arith, b, le)) other))
    (λ other.
    let later = later_place place i a other in
    chosen_is ge v count g place beats same at_ (i + 1) k (omega (arith, later)) (omega (arith, b)) (omega (arith, le)))

-- ---- the samples of a window

same_seen : (w : ℕ) (p : ℕ → ℕ) (t i t' i' : ℕ) → nat_lt t i ≡ nat_lt t' i' → t - i ≡ t' - i' → seen w p t i ≡ seen w p t' i'
same_seen w p t i t' i' a b = rw (a, b) refl

padded_at : (w : ℕ) (p : ℕ → ℕ) (t n j : ℕ) → j < n → slice_index (padded w p t n) j ≡ seen w p t (suc j)
padded_at w p t zero j h = absurd (omega arith)
padded_at w p zero (suc n) zero h = refl
padded_at w p zero (suc n) (suc j) h = padded_at w p zero n j (omega arith) ∙ same_seen w p 0 (suc j) 0 (suc (suc j)) (grind (arith, nat_tests)) (omega arith)
padded_at w p (suc t) (suc n) zero h =
    let a : nat_lt (suc t) 1 ≡ false = grind (arith, nat_tests) in
    let b : suc t - 1 ≡ t = omega arith in
    sym (rw (a, b) refl)
padded_at w p (suc t) (suc n) (suc j) h = padded_at w p t n j (omega arith) ∙ same_seen w p t (suc j) (suc t) (suc (suc j)) (grind (arith, nat_tests)) (omega arith)

length_padded : (w : ℕ) (p : ℕ → ℕ) (t n : ℕ) → length (padded w p t n) ≡ n
length_padded w p t zero = refl
length_padded w p zero (suc n) = ap suc (length_padded w p zero n)
length_padded w p (suc t) (suc n) = ap suc (length_padded w p t n)

pub padded_all : (P : ℕ → Type 0) (w : ℕ) (p : ℕ → ℕ) (t n : ℕ) → P w → ((i : ℕ) → i < t → P (p i)) → AllByRecursion P (padded w p t n)
padded_all P w p t zero a h = tt
padded_all P w p zero (suc n) a h = (a, padded_all P w p zero n a h)
padded_all P w p (suc t) (suc n) a h = (h t (omega arith), padded_all P w p t n a (λ i b. h i (omega arith)))

sample_value : (m : Moment) (b d w n : ℕ) (p : ℕ → ℕ) (e : Term) (x : ℕ) → IsWindow b d w m.table m.time p → value m e ≡ Ok (x ∷ []) → n ≤ d
    → (j : ℕ) → j < suc n → value m (sample b d e j) ≡ Ok (slice_index (x ∷ padded w p m.time n) j ∷ [])
sample_value m b d w n p e x hold is le zero h = is
sample_value m b d w n p e x hold is le (suc j) h =
    ago_value m b d w p hold (suc j) (omega arith) (omega arith) ∙ ap (λ k. Ok (k ∷ [])) (sym (padded_at w p m.time n j (omega arith)))

all_at : (P : ℕ → Type 0) (xs : List ℕ) → AllByRecursion P xs → (k : ℕ) → k < length xs → P (slice_index xs k)
all_at P [] h k b = absurd (omega arith)
all_at P (x ∷ xs) h zero b = h.0
all_at P (x ∷ xs) h (suc k) b = all_at P xs h.1 k (omega arith)

same_index : (xs : List ℕ) (k d d' : ℕ) → k < length xs → slice_index_or xs k d ≡ slice_index_or xs k d'
same_index [] k d d' b = absurd (omega arith)
same_index (x ∷ xs) zero d d' b = refl
same_index (x ∷ xs) (suc k) d d' b = same_index xs k d d' (omega arith)

-- The choice of a window is the sample that is as good as each, where two that are as good as each other are one.
pub window_best : (m : Moment) (test : Term → Term → Term) (ge : ℕ → ℕ → Bool) (P : ℕ → Type 0) (b d w count n : ℕ) (p : ℕ → ℕ) (e : Term) (x g : ℕ) → IsTest m test ge
    → IsWindow b d w m.table m.time p → value m e ≡ Ok (x ∷ []) → n ≤ d → count ≡ suc n
    → ((y z : ℕ) → P y → P z → ge y z ≡ true → ge z y ≡ true → y ≡ z)
    → AllByRecursion P (x ∷ padded w p m.time n) → Contains (x ∷ padded w p m.time n) g → AllByRecursion (λ y. ge g y ≡ true) (x ∷ padded w p m.time n)
    → value m (best test (sample b d e) count 0 n) ≡ Ok (g ∷ [])
window_best m test ge P b d w count n p e x g by hold is le counted one_ words has beats =
    let xs = x ∷ padded w p m.time n in
    let long : length xs ≡ suc n = ap suc (length_padded w p m.time n) in
    let v : ℕ → ℕ = slice_index xs in
    let place = has.0 in
    let found : v place ≡ g = same_index xs place 0 g has.1 ∙ has.2 in
    let word : P g = subst P found (all_at P xs words place has.1) in
    let best_ : (j : ℕ) → j < count → ge g (v j) ≡ true = λ j h. all_at (λ y. ge g y ≡ true) xs beats j (omega arith) in
    best_value m test ge (sample b d e) v count by (λ j h. sample_value m b d w n p e x hold is le j (omega arith)) 0 n (omega arith)
    ∙ ap (λ k. Ok (k ∷ [])) (chosen_is ge v count g place best_ (λ j h other. one_ (v j) g (all_at P xs words j (omega arith)) word other (best_ j h)) found 0 n (omega arith) (omega (arith, has.1)) (omega arith))

-- ---- a hazard of the newest sample

on_hazard : (m : Moment) (h : Hazard) (a : Term) (bs : List Term) → value m a ≡ Err h → value m (all_of (a ∷ bs)) ≡ Err h
on_hazard m h a [] e = e
on_hazard m h a (b ∷ bs) e = ap (λ v. on_test v (value m (all_of (b ∷ bs))) (Ok (0 ∷ []))) e

best_of_more : (m : Moment) (test : Term → Term → Term) (at : ℕ → Term) (h : Hazard) (c k : ℕ) → value m (at 0) ≡ Err h → ((b : Term) → value m (test (at 0) b) ≡ Err h)
    → value m (best test at (suc (suc c)) 0 k) ≡ Err h
best_of_more m test at h c zero e by = e
best_of_more m test at h c (suc k) e by =
    ap (λ v. on_test v (value m (at 0)) (value m (best test at (suc (suc c)) 1 k))) (on_hazard m h (test (at 0) (at 1)) (tests test at 0 2 c) (by (at 1)))

pub best_stops : (m : Moment) (test : Term → Term → Term) (at : ℕ → Term) (h : Hazard) (n : ℕ) → value m (at 0) ≡ Err h → ((b : Term) → value m (test (at 0) b) ≡ Err h)
    → value m (best test at n 0 (n - 1)) ≡ Err h
best_stops m test at h zero e by = e
best_stops m test at h (suc zero) e by = e
best_stops m test at h (suc (suc c)) e by = best_of_more m test at h c (suc (suc c) - 1) e by
