-- The samples of a window as nodes.
use Rattle.std.proofs.Common.{◌≡◌, ⊎_elim, ℕ, zero, suc, ◌<◌, ◌≤◌, ◌+◌, ◌-◌, List, [], ◌∷◌, ◌++◌, length, get_or, max, Bool, true, false, if◌then◌else◌, refl, sym, ap, ◌∙◌, subst, arith}
use Rattle.std.specs.Prelude.{nat_eq, slice_get, slice_index_or, Some}
use Rattle.stream_core.specs.Term.{Term, choose}
use Rattle.stream_core.specs.Value.{SpecValue}
use Rattle.stream_core.specs.Lower.{ago, agos, all_of, best, sample, tests}
use Rattle.stream_core.specs.PartOf.{IsPartOf}
use Rattle.stream_lib.specs.Built.{AddsParts, AreThere, Grows, Makes, MakesAll, better, joined, tree_at, trees_at}
use Rattle.std.proofs.lemmas.List.{append-nil, get_or_default}
use Rattle.std.proofs.lemmas.Bool.{cases_lt}
use Rattle.std.proofs.lemmas.Bool.Decides.{nat_tests}
use Rattle.stream_lib.proofs.AddedParts.{adds_all_within, adds_as, adds_more, adds_then, is_child, is_whole, joined_part, part_then}
use Rattle.stream_lib.proofs.PlacedTrees.{grows_then, makes_after, makes_as, makes_more}
use Rattle.stream_lib.proofs.Nested.{joined_all_of, one_there}
use Rattle.stream_lib.proofs.Distances.{best_back, tests_more}

-- two lists of samples agree up to a count
abbrev AgreeBelow : ℕ → (ℕ → Term) → (ℕ → Term) → Type 0
AgreeBelow count f g = (k : ℕ) → k < count → f k ≡ g k

tests_same : (test : Term → Term → Term) (f g : ℕ → Term) (count i j n : ℕ) → AgreeBelow count f g → i < count → j + n ≤ count → tests test f i j n ≡ tests test g i j n
tests_same test f g count i j zero same h k = refl
tests_same test f g count i j (suc n) same h k = by (nat_eq j i) (tests_same test f g count i (j + 1) n same h (omega (arith, k)))
  where
    by : (b : Bool) → tests test f i (j + 1) n ≡ tests test g i (j + 1) n
        → (if b then tests test f i (j + 1) n else test (f i) (f j) ∷ tests test f i (j + 1) n)
        ≡ (if b then tests test g i (j + 1) n else test (g i) (g j) ∷ tests test g i (j + 1) n)
    by true r = r
    by false r = let a = same i h in let b = same j (omega (arith, k)) in ap (λ x. test x (f j) ∷ tests test f i (j + 1) n) a ∙ ap (λ x. test (g i) x ∷ tests test f i (j + 1) n) b ∙ ap (λ xs. test (g i) (g j) ∷ xs) r

pub better_same : (test : Term → Term → Term) (f g : ℕ → Term) (count i : ℕ) (rest : Term) → AgreeBelow count f g → i < count → better test f count i rest ≡ better test g count i rest
better_same test f g count i rest same h =
    ap (λ xs. choose (all_of xs) (f i) rest) (tests_same test f g count i 0 count same h (omega arith)) ∙ ap (λ x. choose (all_of (tests test g i 0 count)) x rest) (same i h)

pub best_same : (test : Term → Term → Term) (f g : ℕ → Term) (count i n : ℕ) → AgreeBelow count f g → i + n < count → best test f count i n ≡ best test g count i n
best_same test f g count i zero same h = same i (omega (arith, h))
best_same test f g count i (suc n) same h =
    better_same test f g count i (best test f count (i + 1) n) same (omega (arith, h))
    ∙ ap (better test g count i) (best_same test f g count (i + 1) n same (omega (arith, h)))

-- the same nodes, after others were placed
pub agree_later : (s t : SpecValue) (is : List ℕ) → Grows s t → AreThere s is → AgreeBelow (length is) (λ k. tree_at t (slice_index_or is k 0)) (λ k. tree_at s (slice_index_or is k 0))
agree_later s t is g there k h = g.trees (get_or is k 0) (one_there s is k 0 there h)

tree_of_one : (s : SpecValue) (is : List ℕ) (k d : ℕ) (e : Term) → k < length is → tree_at s (get_or is k d) ≡ get_or (trees_at s is) k e
tree_of_one s [] k d e h = absurd (omega (arith, h))
tree_of_one s (i ∷ is) zero d e h = refl
tree_of_one s (i ∷ is) (suc k) d e h = tree_of_one s is k d e (omega (arith, h))

agos_at : (b m i n k : ℕ) (e : Term) → k < n → get_or (agos b m i n) k e ≡ ago b m (i + k)
agos_at b m i zero k e h = absurd (omega (arith, h))
agos_at b m i (suc n) zero e h = let z : i + 0 ≡ i = omega arith in rw z refl
agos_at b m i (suc n) (suc k) e h = let z : i + suc k ≡ i + 1 + k = omega arith in rw z (agos_at b m (i + 1) n k e (omega (arith, h)))

agos_length : (b m i n : ℕ) → length (agos b m i n) ≡ n
agos_length b m i zero = refl
agos_length b m i (suc n) = let r = agos_length b m (i + 1) n in omega (arith, r)

trees_length : (s : SpecValue) (is : List ℕ) → length (trees_at s is) ≡ length is
trees_length s [] = refl
trees_length s (i ∷ is) = let r = trees_length s is in omega (arith, r)

pub window_length : (s : SpecValue) (is : List ℕ) (first : Term) (b m n : ℕ) → trees_at s is ≡ first ∷ agos b m 1 n → n + 1 ≡ length is
window_length s is first b m n are = let a = trees_length s is in let l = ap length are in let g = agos_length b m 1 n in omega (arith, a, l, g)

agree_window : (s : SpecValue) (is : List ℕ) (first : Term) (b m n : ℕ) → trees_at s is ≡ first ∷ agos b m 1 n → AgreeBelow (length is) (λ k. tree_at s (slice_index_or is k 0)) (sample b m first)
agree_window s is first b m n are k h = tree_of_one s is k 0 first h ∙ ap (λ es. get_or es k first) are ∙ at k (let l = window_length s is first b m n are in omega (arith, h, l))
  where
    at : (k : ℕ) → k < n + 1 → get_or (first ∷ agos b m 1 n) k first ≡ sample b m first k
    at zero p = refl
    at (suc k) p = let z : 1 + k ≡ suc k = omega arith in agos_at b m 1 n k first (omega (arith, p)) ∙ ap (ago b m) z

-- the best sample of a window, by its nodes
pub best_window : (test : Term → Term → Term) (s : SpecValue) (is : List ℕ) (first : Term) (b m n : ℕ) → trees_at s is ≡ first ∷ agos b m 1 (n - 1)
    → best test (λ k. tree_at s (slice_index_or is k 0)) (length is) 0 (n - 1) ≡ best test (sample b m first) n 0 (n - 1)
best_window test s is first b m n are = by n are
  where
    by : (n : ℕ) → trees_at s is ≡ first ∷ agos b m 1 (n - 1) → best test (λ k. tree_at s (slice_index_or is k 0)) (length is) 0 (n - 1) ≡ best test (sample b m first) n 0 (n - 1)
    by zero e = agree_window s is first b m 0 e 0 (let l = window_length s is first b m 0 e in omega (arith, l))
    by (suc k) e =
        let l = window_length s is first b m (suc k - 1) e in
        let size : length is ≡ suc k = omega (arith, l) in
        best_same test (λ k. tree_at s (slice_index_or is k 0)) (sample b m first) (length is) 0 (suc k - 1) (agree_window s is first b m (suc k - 1) e) (omega (arith, l))
        ∙ ap (λ c. best test (sample b m first) c 0 (suc k - 1)) size

-- each test is within all of them
all_of_part : (es : List Term) (k : ℕ) (e : Term) → slice_get es k ≡ Some e → IsPartOf e (all_of es)
all_of_part es k e is = subst (IsPartOf e) (joined_all_of es) (joined_part true es k e is)

-- each sample from one on is within the best of them
best_part : (test : Term → Term → Term) (at : ℕ → Term) (count i n k : ℕ) → i ≤ k → k ≤ i + n → IsPartOf (at k) (best test at count i n)
best_part test at count i zero k low high = let e : k ≡ i = omega (arith, low, high) in is_whole (at k) (at i) (ap at e)
best_part test at count i (suc n) k low high = ⊎_elim
    (λ (less : i < k). part_then (at k) (best test at count (i + 1) n) _ (best_part test at count (i + 1) n k (omega (arith, less)) (omega (arith, high))) (is_child _ _ 2 refl))
    (λ (most : k ≤ i). let e : i ≡ k = omega (arith, low, most) in is_child (at k) _ 1 (ap (λ j. Some (at j)) e))
    (cases_lt i k)

agos_read : (b m i n k : ℕ) (x : Term) → slice_get (agos b m i n) k ≡ Some x → (k < n) × (ago b m (i + k) ≡ x)
agos_read b m i zero k x e = absurd (cc)
agos_read b m i (suc n) zero x e = let z : i + 0 ≡ i = omega arith in (omega arith, ap (ago b m) z ∙ (cc))
agos_read b m i (suc n) (suc k) x e =
    let r = agos_read b m (i + 1) n k x e in
    let z : i + suc k ≡ i + 1 + k = omega arith in
    (let l = r.0 in omega (arith, l), ap (ago b m) z ∙ r.1)

-- each node of a window is within its best sample
window_part : (test : Term → Term → Term) (b m n k : ℕ) (e x : Term) → slice_get (e ∷ agos b m 1 (n - 1)) k ≡ Some x → IsPartOf x (best test (sample b m e) n 0 (n - 1))
window_part test b m n zero e x is = subst (λ y. IsPartOf y (best test (sample b m e) n 0 (n - 1))) (cc) (best_part test (sample b m e) n 0 (n - 1) 0 (omega arith) (omega arith))
window_part test b m n (suc k) e x is =
    let r = agos_read b m 1 (n - 1) k x is in
    let z : suc k ≡ 1 + k = omega arith in
    let l = r.0 in
    subst (λ y. IsPartOf y (best test (sample b m e) n 0 (n - 1))) (ap (ago b m) z ∙ r.1) (best_part test (sample b m e) n 0 (n - 1) (suc k) (omega arith) (omega (arith, l)))

pub better_makes : (test : Term → Term → Term) (s t u w : SpecValue) (samples ids : List ℕ) (i v rest passes id : ℕ) → AreThere s samples → i < length samples → rest < length s.nodes → v ≡ get_or samples i v
    → MakesAll s t ids (tests test (λ k. tree_at s (slice_index_or samples k 0)) i 0 (length samples))
    → Makes t u passes (joined true (trees_at t ids))
    → Makes u w id (choose (tree_at u passes) (tree_at u v) (tree_at u rest))
    → Makes s w id (better test (λ k. tree_at s (slice_index_or samples k 0)) (length samples) i (tree_at s rest))
better_makes test s t u w samples ids i v rest passes id there within here is all some one =
    let g = grows_then s t u all.grows some.grows in
    let at : v ≡ get_or samples i 0 = is ∙ get_or_default samples i v 0 within in
    let below : v < length s.nodes = rw at (one_there s samples i 0 there within) in
    let passed : tree_at u passes ≡ all_of T = some.is ∙ ap (joined true) all.are ∙ joined_all_of T in
    let same : choose (tree_at u passes) (tree_at u v) (tree_at u rest) ≡ choose (all_of T) (f i) (tree_at s rest) =
    ap (λ x. choose x (tree_at u v) (tree_at u rest)) passed
    ∙ ap (λ x. choose (all_of T) x (tree_at u rest)) (g.trees v below ∙ ap (tree_at s) at)
    ∙ ap (choose (all_of T) (f i)) (g.trees rest here) in
    let tested = adds_all_within s t T whole all.adds (λ k e h. part_then e (all_of T) whole (all_of_part T k e h) (is_child _ _ 0 refl)) in
    let joined_ = adds_more s t u whole (joined true (trees_at t ids)) passes tested some (is_child _ _ 0 (ap Some (sym (ap (joined true) all.are ∙ joined_all_of T)))) in
    record {
      grows = grows_then s u w g one.grows;
      there = one.there;
      is = one.is ∙ same;
      adds = adds_then s u w whole joined_ one.grows (adds_as u w _ whole same one.adds);
    }
  where
    f : ℕ → Term
    f k = tree_at s (slice_index_or samples k 0)

    T : List Term
    T = tests test (λ k. tree_at s (slice_index_or samples k 0)) i 0 (length samples)

    whole : Term
    whole = better test (λ k. tree_at s (slice_index_or samples k 0)) (length samples) i (tree_at s rest)

pub best_makes : (test : Term → Term → Term) (s t u : SpecValue) (samples : List ℕ) (last i rest id : ℕ) → Grows s t → AreThere s samples → last + 1 ≡ length samples → 0 < i → i ≤ last
    → tree_at t rest ≡ best test (λ k. tree_at s (slice_index_or samples k 0)) (length samples) i (last - i)
    → Makes t u id (better test (λ k. tree_at t (slice_index_or samples k 0)) (length samples) (i - 1) (tree_at t rest))
    → tree_at u id ≡ best test (λ k. tree_at s (slice_index_or samples k 0)) (length samples) (i - 1) (last - (i - 1))
best_makes test s t u samples last i rest id g there size some most same m =
    m.is
    ∙ better_same test (λ k. tree_at t (slice_index_or samples k 0)) (λ k. tree_at s (slice_index_or samples k 0)) (length samples) (i - 1) (tree_at t rest) (agree_later s t samples g there) (omega (arith, size, some, most))
    ∙ ap (better test (λ k. tree_at s (slice_index_or samples k 0)) (length samples) (i - 1)) same
    ∙ best_back test (λ k. tree_at s (slice_index_or samples k 0)) (length samples) last i some most

same_number : (j i : ℕ) → j ≡ i → nat_eq j i ≡ true
same_number j i e = grind (arith, nat_tests)

other_number : (j i : ℕ) → (j ≡ i → ⊥) → nat_eq j i ≡ false
other_number j i e = grind (arith, nat_tests)

pub tests_skip : (test : Term → Term → Term) (at : ℕ → Term) (i j : ℕ) → j ≡ i → tests test at i 0 j ≡ tests test at i 0 (j + 1)
tests_skip test at i j e = sym (tests_more test at i j ∙ ap (λ b. tests test at i 0 j ++ (if b then [] else test (at i) (at j) ∷ [])) (same_number j i e) ∙ append-nil (tests test at i 0 j))

pub tests_makes : (test : Term → Term → Term) (s t u : SpecValue) (samples ids : List ℕ) (i j v w id : ℕ) → AreThere s samples → i < length samples → j < length samples → (j ≡ i → ⊥) → v ≡ get_or samples i v → w ≡ get_or samples j w
    → MakesAll s t ids (tests test (λ k. tree_at s (slice_index_or samples k 0)) i 0 j)
    → Makes t u id (test (tree_at t v) (tree_at t w))
    → MakesAll s u (ids ++ id ∷ []) (tests test (λ k. tree_at s (slice_index_or samples k 0)) i 0 (j + 1))
tests_makes test s t u samples ids i j v w id there hi hj other isv isw all one =
    let at : ℕ → Term = λ k. tree_at s (slice_index_or samples k 0) in
    let av : v ≡ get_or samples i 0 = isv ∙ get_or_default samples i v 0 hi in
    let aw : w ≡ get_or samples j 0 = isw ∙ get_or_default samples j w 0 hj in
    let bv : v < length s.nodes = rw av (one_there s samples i 0 there hi) in
    let bw : w < length s.nodes = rw aw (one_there s samples j 0 there hj) in
    let e : test (tree_at t v) (tree_at t w) ≡ test (at i) (at j) = ap (λ x. test x (tree_at t w)) (all.grows.trees v bv ∙ ap (tree_at s) av) ∙ ap (test (at i)) (all.grows.trees w bw ∙ ap (tree_at s) aw) in
    let more : tests test at i 0 j ++ test (at i) (at j) ∷ [] ≡ tests test at i 0 (j + 1) = sym (tests_more test at i j ∙ ap (λ b. tests test at i 0 j ++ (if b then [] else test (at i) (at j) ∷ [])) (other_number j i other)) in
    subst (MakesAll s u (ids ++ id ∷ [])) more (makes_more s t u ids (tests test at i 0 j) id (test (at i) (at j)) all (makes_as t u id (test (tree_at t v) (tree_at t w)) (test (at i) (at j)) e one))

pub window_best : (test : Term → Term → Term) (s t u : SpecValue) (ids samples : List ℕ) (e : Term) (b m older n id : ℕ) → samples ≡ ids → older ≡ n - 1 → m ≡ max older 1
    → MakesAll s t ids (e ∷ agos b m 1 older)
    → Makes t u id (best test (λ k. tree_at t (slice_index_or samples k 0)) (length samples) 0 older)
    → Makes s u id (best test (sample b (max (n - 1) 1) e) n 0 (n - 1))
window_best test s t u ids samples e b m older n id same o d all one =
    makes_after s t u id (best test (sample b (max (n - 1) 1) e) n 0 (n - 1)) all.grows parts (makes_as t u id (best test (λ k. tree_at t (slice_index_or samples k 0)) (length samples) 0 older) (best test (sample b (max (n - 1) 1) e) n 0 (n - 1)) is one)
  where
    window_is : agos b m 1 older ≡ agos b (max (n - 1) 1) 1 (n - 1)
    window_is = ap (λ k. agos b k 1 older) (d ∙ ap (λ k. max k 1) o) ∙ ap (agos b (max (n - 1) 1) 1) o

    parts : AddsParts s t (best test (sample b (max (n - 1) 1) e) n 0 (n - 1))
    parts = adds_all_within s t (e ∷ agos b m 1 older) _ all.adds (λ k x h. window_part test b (max (n - 1) 1) n k e x (ap (λ xs. slice_get (e ∷ xs) k) (sym window_is) ∙ h))

    is : best test (λ k. tree_at t (slice_index_or samples k 0)) (length samples) 0 older ≡ best test (sample b (max (n - 1) 1) e) n 0 (n - 1)
    is =
        ap (λ (xs : List ℕ). best test (λ k. tree_at t (slice_index_or xs k 0)) (length xs) 0 older) same
        ∙ ap (best test (λ k. tree_at t (slice_index_or ids k 0)) (length ids) 0) o
        ∙ best_window test t ids e b m n (all.are ∙ ap (λ k. e ∷ agos b m 1 k) o)
        ∙ ap (λ k. best test (sample b k e) n 0 (n - 1)) (d ∙ ap (λ k. max k 1) o)
