-- Lists that are nested to the right, and their parts.
use Rattle.std.proofs.Common.{◌≡◌, ℕ, zero, suc, ◌<◌, ◌≤◌, ◌+◌, ◌-◌, List, [], ◌∷◌, ◌++◌, length, take, drop, get_or, map, Bool, true, false, refl, sym, ap, ◌∙◌, subst, arith}
use Rattle.stream_types.specs.declared.scalar.Scalar.{Scalar}
use Rattle.stream_types.specs.declared.scalar.Scalar.TheVariants as scalar
use Rattle.stream_types.specs.declared.scalar.Op2.TheVariants as op2
use Rattle.stream_core.specs.Term.{Term, bin, choose}
use Rattle.stream_core.specs.Value.{SpecValue}
use Rattle.stream_core.specs.Lower.{agreed_term, all_of, and_all, count_from, count_of, majority_from, majority_term, one_vote, or_all, wins}
use Rattle.stream_lib.specs.Built.{AreThere, Grows, Makes, MakesAll, both, joined, tree_at, trees_at}
use Rattle.stream_lib.proofs.PlacedTrees.{makes_as, makes_more, same_trees}

pub joined_or : (a : Term) (as_ : List Term) → joined false (a ∷ as_) ≡ or_all a as_
joined_or a [] = refl
joined_or a (b ∷ bs) = ap (both false a) (joined_or b bs)

pub joined_and : (a : Term) (as_ : List Term) → joined true (a ∷ as_) ≡ and_all a as_
joined_and a [] = refl
joined_and a (b ∷ bs) = ap (both true a) (joined_and b bs)

pub joined_all_of : (as_ : List Term) → joined true as_ ≡ all_of as_
joined_all_of [] = refl
joined_all_of (a ∷ as_) = joined_and a as_

pub agreed_is : (s : Scalar) (es : List Term) → joined false (map (wins s es) es) ≡ agreed_term s es
agreed_is s [] = refl
agreed_is s (e ∷ es) = joined_or (wins s (e ∷ es) e) (map (wins s (e ∷ es)) es)

-- the rest of a list from an element on
rest_from : {X Y : Type 0} (f : X → Y) (xs : List X) (i : ℕ) (d : X) → i < length xs → map f (drop i xs) ≡ f (get_or xs i d) ∷ map f (drop (suc i) xs)
rest_from f [] i d h = absurd (omega (arith, h))
rest_from f (x ∷ xs) zero d h = refl
rest_from f (x ∷ xs) (suc i) d h = rest_from f xs i d (omega (arith, h))

pub rest_before : {X Y : Type 0} (f : X → Y) (xs : List X) (i : ℕ) (d : X) → 0 < i → i ≤ length xs → map f (drop (i - 1) xs) ≡ f (get_or xs (i - 1) d) ∷ map f (drop i xs)
rest_before f xs zero d p h = absurd (omega (arith, p))
rest_before f xs (suc i) d p h = let e : suc i - 1 ≡ i = omega arith in rw e (rest_from f xs i d (omega (arith, h)))

joined_step : (all : Bool) (a : Term) (xs : List Term) (b : Term) (bs : List Term) → xs ≡ b ∷ bs → both all a (joined all xs) ≡ joined all (a ∷ xs)
joined_step all a xs b bs e = ap (λ ys. both all a (joined all ys)) e ∙ sym (ap (λ ys. joined all (a ∷ ys)) e)

pub one_there : (s : SpecValue) (is : List ℕ) (i d : ℕ) → AreThere s is → i < length is → get_or is i d < length s.nodes
one_there s [] i d all h = absurd (omega (arith, h))
one_there s (x ∷ xs) zero d all h = all.0
one_there s (x ∷ xs) (suc i) d all h = one_there s xs i d all.1 (omega (arith, h))

pub joined_back : (all : Bool) (s t u : SpecValue) (ids : List ℕ) (rest id i v : ℕ) → Grows s t → AreThere s ids → 0 < i → i < length ids → v ≡ get_or ids (i - 1) v
    → tree_at t rest ≡ joined all (trees_at s (drop i ids))
    → Makes t u id (both all (tree_at t v) (tree_at t rest))
    → tree_at u id ≡ joined all (trees_at s (drop (i - 1) ids))
joined_back all s t u ids rest id i v g there p within is same m =
    let below : v < length s.nodes = rw is (one_there s ids (i - 1) v there (omega (arith, p, within))) in
    let c : trees_at s (drop (i - 1) ids) ≡ tree_at s v ∷ trees_at s (drop i ids) = rest_before (tree_at s) ids i v p (omega (arith, within)) ∙ ap (λ w. tree_at s w ∷ trees_at s (drop i ids)) (sym is) in
    m.is
    ∙ ap (λ x. both all x (tree_at t rest)) (g.trees v below)
    ∙ ap (both all (tree_at s v)) same
    ∙ joined_step all (tree_at s v) (trees_at s (drop i ids)) (tree_at s (get_or ids i v)) (trees_at s (drop (suc i) ids)) (rest_from (tree_at s) ids i v within)
    ∙ sym (ap (joined all) c)

-- the whole, where there is a vote
pub majority_whole : (sc : Scalar) (s : SpecValue) (votes : List ℕ) → 1 ≤ length votes → majority_from sc (trees_at s votes) (tree_at s (get_or votes 0 0)) (trees_at s votes) ≡ majority_term sc (trees_at s votes)
majority_whole sc s [] h = absurd (omega (arith, h))
majority_whole sc s (v ∷ vs) h = refl

pub take_one : {X Y Z : Type 0} (g : Y → Z) (f : X → Y) (xs : List X) (i : ℕ) (d : X) → i < length xs → map g (map f (take (suc i) xs)) ≡ map g (map f (take i xs)) ++ g (f (get_or xs i d)) ∷ []
take_one g f [] i d h = absurd (omega (arith, h))
take_one g f (x ∷ xs) zero d h = refl
take_one g f (x ∷ xs) (suc i) d h = ap (λ ys. g (f x) ∷ ys) (take_one g f xs i d (omega (arith, h)))

pub majority_back : (sc : Scalar) (s t u : SpecValue) (votes : List ℕ) (first rest id i v : ℕ) → Grows s t → AreThere s votes → 0 < i → i ≤ length votes → v ≡ get_or votes (i - 1) v
    → tree_at t rest ≡ majority_from sc (trees_at s votes) (tree_at s first) (trees_at s (drop i votes))
    → Makes t u id (choose (wins sc (trees_at t votes) (tree_at t v)) (tree_at t v) (tree_at t rest))
    → tree_at u id ≡ majority_from sc (trees_at s votes) (tree_at s first) (trees_at s (drop (i - 1) votes))
majority_back sc s t u votes first rest id i v g there p within is same m =
    let a = same_trees s t votes g there in
    let below : v < length s.nodes = rw is (one_there s votes (i - 1) v there (omega (arith, p, within))) in
    let b = g.trees v below in
    let c : trees_at s (drop (i - 1) votes) ≡ tree_at s v ∷ trees_at s (drop i votes) = rest_before (tree_at s) votes i v p within ∙ ap (λ w. tree_at s w ∷ trees_at s (drop i votes)) (sym is) in
    m.is
    ∙ ap (λ vs. choose (wins sc vs (tree_at t v)) (tree_at t v) (tree_at t rest)) a
    ∙ ap (λ x. choose (wins sc (trees_at s votes) x) x (tree_at t rest)) b
    ∙ ap (choose (wins sc (trees_at s votes) (tree_at s v)) (tree_at s v)) same
    ∙ sym (ap (majority_from sc (trees_at s votes) (tree_at s first)) c)

pub wins_more : (sc : Scalar) (s t u : SpecValue) (votes tests : List ℕ) (id i v : ℕ) → AreThere s votes → i < length votes → v ≡ get_or votes i v
    → MakesAll s t tests (map (wins sc (trees_at s votes)) (trees_at s (take i votes)))
    → Makes t u id (wins sc (trees_at t votes) (tree_at t v))
    → MakesAll s u (tests ++ id ∷ []) (map (wins sc (trees_at s votes)) (trees_at s (take (i + 1) votes)))
wins_more sc s t u votes tests id i v there within is all m =
    let a = same_trees s t votes all.grows there in
    let below : v < length s.nodes = rw is (one_there s votes i v there within) in
    let b = all.grows.trees v below in
    let e : wins sc (trees_at t votes) (tree_at t v) ≡ wins sc (trees_at s votes) (tree_at s v) = ap (λ vs. wins sc vs (tree_at t v)) a ∙ ap (wins sc (trees_at s votes)) b in
    let n : i + 1 ≡ suc i = omega arith in
    let c : map (wins sc (trees_at s votes)) (trees_at s (take i votes)) ++ wins sc (trees_at s votes) (tree_at s v) ∷ [] ≡ map (wins sc (trees_at s votes)) (trees_at s (take (i + 1) votes)) =
    ap (λ w. map (wins sc (trees_at s votes)) (trees_at s (take i votes)) ++ wins sc (trees_at s votes) (tree_at s w) ∷ []) is
    ∙ sym (take_one (wins sc (trees_at s votes)) (tree_at s) votes i v within)
    ∙ ap (λ k. map (wins sc (trees_at s votes)) (trees_at s (take k votes))) (sym n) in
    subst (MakesAll s u (tests ++ id ∷ [])) c (makes_more s t u tests _ id _ all (makes_as t u id _ _ e m))

take_there : (s : SpecValue) (n : ℕ) (is : List ℕ) → AreThere s is → AreThere s (take n is)
take_there s zero is there = tt
take_there s (suc n) [] there = tt
take_there s (suc n) (i ∷ is) there = (there.0, take_there s n is there.1)

take_whole : (is : List ℕ) → length (take (length is) is) ≡ length is
take_whole [] = refl
take_whole (i ∷ is) = ap suc (take_whole is)

-- all but the first
pub rest_there : (s : SpecValue) (n : ℕ) (is : List ℕ) → AreThere s is → AreThere s (take n (drop 1 is))
rest_there s n [] there = take_there s n [] there
rest_there s n (i ∷ is) there = take_there s n is there.1

pub rest_length : (is : List ℕ) → length (take (length is - 1) (drop 1 is)) ≡ length is - 1
rest_length [] = refl
rest_length (i ∷ is) = let e : suc (length is) - 1 ≡ length is = omega arith in rw e (take_whole is)

pub count_more : (sc : Scalar) (s t u : SpecValue) (votes others : List ℕ) (a sum_ id i v : ℕ) → Grows s t → AreThere s others → a < length s.nodes → i < length others → v ≡ get_or others i v
    → count_from sc (tree_at s a) (tree_at t sum_) (trees_at s (drop i others)) ≡ count_of sc (trees_at s votes) (tree_at s a)
    → Makes t u id (bin op2.Add scalar.Word8 (tree_at t sum_) (one_vote sc (tree_at t a) (tree_at t v)))
    → count_from sc (tree_at s a) (tree_at u id) (trees_at s (drop (i + 1) others)) ≡ count_of sc (trees_at s votes) (tree_at s a)
count_more sc s t u votes others a sum_ id i v g there here within is same m =
    let below : v < length s.nodes = rw is (one_there s others i v there within) in
    let n : i + 1 ≡ suc i = omega arith in
    let c : trees_at s (drop i others) ≡ tree_at s v ∷ trees_at s (drop (suc i) others) = rest_from (tree_at s) others i v within ∙ ap (λ w. tree_at s w ∷ trees_at s (drop (suc i) others)) (sym is) in
    ap (λ k. count_from sc (tree_at s a) (tree_at u id) (trees_at s (drop k others))) n
    ∙ ap (λ x. count_from sc (tree_at s a) x (trees_at s (drop (suc i) others))) m.is
    ∙ ap (λ x. count_from sc (tree_at s a) (bin op2.Add scalar.Word8 (tree_at t sum_) (one_vote sc x (tree_at t v))) (trees_at s (drop (suc i) others))) (g.trees a here)
    ∙ ap (λ x. count_from sc (tree_at s a) (bin op2.Add scalar.Word8 (tree_at t sum_) (one_vote sc (tree_at s a) x)) (trees_at s (drop (suc i) others))) (g.trees v below)
    ∙ sym (ap (count_from sc (tree_at s a) (tree_at t sum_)) c)
    ∙ same
