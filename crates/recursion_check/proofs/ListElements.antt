-- Lists that grow and shrink at their end, and marks that are written.
use Rattle.std.proofs.Common.{◌≡◌, ◌≢◌, ◌⊎◌, ⊎_elim, inl, inr, ℕ, zero, suc, ◌+◌, ◌-◌, ◌<◌, ◌≤◌, List, [], ◌∷◌, ◌++◌, length, map, take, drop, set, Option, Some, None, refl, sym, ap, ◌∙◌, subst, arith}
use Rattle.std.specs.Prelude.{slice_get, slice_index_or}
use Rattle.std.specs.Option.{option_to_list}
use Rattle.std.proofs.lemmas.Bool.{cases_eq}
use Rattle.std.proofs.lemmas.Option.{slice_get_within, get_or_from_slice_get}
use Rattle.recursion_check.specs.declared.walk.Mark.{Mark}
use Rattle.recursion_check.specs.declared.walk.Mark.TheVariants as mark
use Rattle.recursion_check.specs.declared.edges.Edge.{Edge}
use Rattle.recursion_check.specs.Graph.{Has}
use Rattle.recursion_check.specs.Walked.{HasEdge, edge, Rising, NotFalling, mark_all}
use Rattle.sm_io.proofs.Elements.{get_front, get_within}

-- ---- members

pub has_append : (xs ys : List ℕ) (b : ℕ) → Has (xs ++ ys) b → Has xs b ⊎ Has ys b
has_append [] ys b h = inr h
has_append (x ∷ xs) ys b (inl e) = inl (inl e)
has_append (x ∷ xs) ys b (inr h) = ⊎_elim (λ p. inl (inr p)) (λ q. inr q) (has_append xs ys b h)

pub has_left : (xs ys : List ℕ) (b : ℕ) → Has xs b → Has (xs ++ ys) b
has_left [] ys b h = absurd h
has_left (x ∷ xs) ys b (inl e) = inl e
has_left (x ∷ xs) ys b (inr h) = inr (has_left xs ys b h)

pub has_right : (xs ys : List ℕ) (b : ℕ) → Has ys b → Has (xs ++ ys) b
has_right [] ys b h = h
has_right (x ∷ xs) ys b h = inr (has_right xs ys b h)

pub has_push : (xs : List ℕ) (b : ℕ) → Has (xs ++ b ∷ []) b
has_push xs b = has_right xs (b ∷ []) b (inl refl)

-- a member of a list with one more element is that element or was there before
pub has_pushed : (xs : List ℕ) (x b : ℕ) → Has (xs ++ x ∷ []) b → Has xs b ⊎ (x ≡ b)
has_pushed xs x b h = ⊎_elim (λ p. inl p) (λ q. inr (one q)) (has_append xs (x ∷ []) b h)
  where
    one : Has (x ∷ []) b → x ≡ b
    one (inl e) = e
    one (inr q) = absurd q

pub edge_append : (xs ys : List Edge) (i w : ℕ) → HasEdge (xs ++ ys) i w → HasEdge xs i w ⊎ HasEdge ys i w
edge_append [] ys i w h = inr h
edge_append (x ∷ xs) ys i w (inl e) = inl (inl e)
edge_append (x ∷ xs) ys i w (inr h) = ⊎_elim (λ p. inl (inr p)) (λ q. inr q) (edge_append xs ys i w h)

pub edge_left : (xs ys : List Edge) (i w : ℕ) → HasEdge xs i w → HasEdge (xs ++ ys) i w
edge_left [] ys i w h = absurd h
edge_left (x ∷ xs) ys i w (inl e) = inl e
edge_left (x ∷ xs) ys i w (inr h) = inr (edge_left xs ys i w h)

pub edge_right : (xs ys : List Edge) (i w : ℕ) → HasEdge ys i w → HasEdge (xs ++ ys) i w
edge_right [] ys i w h = h
edge_right (x ∷ xs) ys i w h = inr (edge_right xs ys i w h)

pub edge_push : (xs : List Edge) (e : Edge) → HasEdge (xs ++ e ∷ []) e.from e.to
edge_push xs e = edge_right xs (e ∷ []) e.from e.to (inl (refl, refl))

pub edge_pushed : (xs : List Edge) (e : Edge) (i w : ℕ) → HasEdge (xs ++ e ∷ []) i w → HasEdge xs i w ⊎ ((e.from ≡ i) × (e.to ≡ w))
edge_pushed xs e i w h = ⊎_elim (λ p. inl p) (λ q. inr (one q)) (edge_append xs (e ∷ []) i w h)
  where
    one : HasEdge (e ∷ []) i w → (e.from ≡ i) × (e.to ≡ w)
    one (inl p) = p
    one (inr q) = absurd q

-- the steps from one number on the path
pub edges_of : (n : ℕ) (vs : List ℕ) (i w : ℕ) → HasEdge (map (edge n) vs) i w → (n ≡ i) × Has vs w
edges_of n [] i w h = absurd h
edges_of n (v ∷ vs) i w (inl e) = (e.0, inl e.1)
edges_of n (v ∷ vs) i w (inr h) = let r = edges_of n vs i w h in (r.0, inr r.1)

pub edges_to : (n : ℕ) (vs : List ℕ) (w : ℕ) → Has vs w → HasEdge (map (edge n) vs) n w
edges_to n [] w h = absurd h
edges_to n (v ∷ vs) w (inl e) = inl (refl, e)
edges_to n (v ∷ vs) w (inr h) = inr (edges_to n vs w h)

-- ---- order

pub rising_push : (xs : List ℕ) (b : ℕ) → Rising xs → ((a : ℕ) → Has xs a → a < b) → Rising (xs ++ b ∷ [])
rising_push [] b r h = (λ c q. absurd q, tt)
rising_push (x ∷ xs) b r h = (λ c q. ⊎_elim (λ p. r.0 c p) (λ e. subst (λ d. x < d) e (h x (inl refl))) (has_pushed xs b c q), rising_push xs b r.1 (λ a q. h a (inr q)))

pub rising_front : (xs : List ℕ) (b : ℕ) → Rising (xs ++ b ∷ []) → Rising xs
rising_front [] b r = tt
rising_front (x ∷ xs) b r = (λ c q. r.0 c (has_left xs (b ∷ []) c q), rising_front xs b r.1)

pub rising_last : (xs : List ℕ) (b : ℕ) → Rising (xs ++ b ∷ []) → (a : ℕ) → Has xs a → a < b
rising_last [] b r a h = absurd h
rising_last (x ∷ xs) b r a (inl e) = subst (λ d. d < b) e (r.0 b (has_push xs b))
rising_last (x ∷ xs) b r a (inr h) = rising_last xs b r.1 a h

pub ordered_append : (xs ys : List Edge) → NotFalling xs → NotFalling ys → ((i w j v : ℕ) → HasEdge xs i w → HasEdge ys j v → i ≤ j) → NotFalling (xs ++ ys)
ordered_append [] ys p q h = q
ordered_append (x ∷ xs) ys p q h = (λ i w r. ⊎_elim (λ a. p.0 i w a) (λ b. h x.from x.to i w (inl (refl, refl)) b) (edge_append xs ys i w r), ordered_append xs ys p.1 q (λ i w j v a b. h i w j v (inr a) b))

pub ordered_edges : (n : ℕ) (vs : List ℕ) → NotFalling (map (edge n) vs)
ordered_edges n [] = tt
ordered_edges n (v ∷ vs) = (λ i w h. subst (λ k. n ≤ k) (edges_of n vs i w h).0 (omega arith), ordered_edges n vs)

pub ordered_front : (xs : List Edge) (e : Edge) → NotFalling (xs ++ e ∷ []) → NotFalling xs
ordered_front [] e r = tt
ordered_front (x ∷ xs) e r = (λ i w q. r.0 i w (edge_left xs (e ∷ []) i w q), ordered_front xs e r.1)

pub ordered_last : (xs : List Edge) (e : Edge) → NotFalling (xs ++ e ∷ []) → (i w : ℕ) → HasEdge xs i w → i ≤ e.from
ordered_last [] e r i w h = absurd h
ordered_last (x ∷ xs) e r i w (inl p) = subst (λ d. d ≤ e.from) p.0 (r.0 e.from e.to (edge_push xs e))
ordered_last (x ∷ xs) e r i w (inr h) = ordered_last xs e r.1 i w h

-- ---- elements

pub get_push : {A : Type 0} (xs : List A) (y : A) (i : ℕ) (x : A) → slice_get (xs ++ y ∷ []) i ≡ Some x → (slice_get xs i ≡ Some x) ⊎ ((i ≡ length xs) × (y ≡ x))
get_push [] y zero x e = inr (refl, cc)
get_push [] y (suc i) x e = absurd (cc)
get_push (z ∷ xs) y zero x e = inl e
get_push (z ∷ xs) y (suc i) x e = ⊎_elim (λ p. inl p) (λ q. inr (ap suc q.0, q.1)) (get_push xs y i x e)

pub get_last : {A : Type 0} (xs : List A) (y : A) → slice_get (xs ++ y ∷ []) (length xs) ≡ Some y
get_last [] y = refl
get_last (x ∷ xs) y = get_last xs y

pub get_take : {A : Type 0} (n : ℕ) (xs : List A) (i : ℕ) (x : A) → slice_get (take n xs) i ≡ Some x → (i < n) × (slice_get xs i ≡ Some x)
get_take zero xs i x e = absurd (cc)
get_take (suc n) [] i x e = absurd (cc)
get_take (suc n) (z ∷ xs) zero x e = (omega arith, e)
get_take (suc n) (z ∷ xs) (suc i) x e = let r = get_take n xs i x e in let b = r.0 in (omega (arith, b), r.1)

pub take_get : {A : Type 0} (n : ℕ) (xs : List A) (i : ℕ) (x : A) → i < n → slice_get xs i ≡ Some x → slice_get (take n xs) i ≡ Some x
take_get zero xs i x b e = absurd (omega (arith, b))
take_get (suc n) [] i x b e = absurd (cc)
take_get (suc n) (z ∷ xs) zero x b e = e
take_get (suc n) (z ∷ xs) (suc i) x b e = take_get n xs i x (omega (arith, b)) e

pub get_drop : {A : Type 0} (n : ℕ) (xs : List A) (k : ℕ) → slice_get (drop n xs) k ≡ slice_get xs (n + k)
get_drop zero xs k = ap (slice_get xs) (let e : k ≡ zero + k = omega arith in e)
get_drop (suc n) [] k = refl
get_drop (suc n) (z ∷ xs) k = get_drop n xs k ∙ ap (slice_get (z ∷ xs)) (let e : suc (n + k) ≡ suc n + k = omega arith in e)

pub set_same : {A : Type 0} (xs : List A) (i : ℕ) (y : A) → i < length xs → slice_get (set xs i y) i ≡ Some y
set_same [] i y h = absurd (omega (arith, h))
set_same (x ∷ xs) zero y h = refl
set_same (x ∷ xs) (suc i) y h = set_same xs i y (omega (arith, h))

pub set_other : {A : Type 0} (xs : List A) (i j : ℕ) (y : A) → i ≢ j → slice_get (set xs i y) j ≡ slice_get xs j
set_other [] i j y h = refl
set_other (x ∷ xs) zero zero y h = absurd (h refl)
set_other (x ∷ xs) zero (suc j) y h = refl
set_other (x ∷ xs) (suc i) zero y h = refl
set_other (x ∷ xs) (suc i) (suc j) y h = set_other xs i j y (λ e. h (ap suc e))

pub length_set : {A : Type 0} (xs : List A) (i : ℕ) (y : A) → length (set xs i y) ≡ length xs
length_set [] i y = refl
length_set (x ∷ xs) zero y = refl
length_set (x ∷ xs) (suc i) y = ap suc (length_set xs i y)

-- ---- groups

pub in_or_out : (vs : List ℕ) (v : ℕ) → Has vs v ⊎ (Has vs v → ⊥)
in_or_out [] v = inr (λ h. h)
in_or_out (x ∷ vs) v =
    ⊎_elim
    (λ e. inl (inl e))
    (λ ne. ⊎_elim (λ h. inl (inr h)) (λ no_. inr (λ h. ⊎_elim ne no_ h)) (in_or_out vs v))
    (cases_eq x v)

pub mark_length : (vs : List ℕ) (marks : List Mark) → length (mark_all marks vs) ≡ length marks
mark_length [] marks = refl
mark_length (v ∷ vs) marks = mark_length vs (set marks v mark.Done) ∙ length_set marks v mark.Done

pub mark_out : (vs : List ℕ) (marks : List Mark) (v : ℕ) → (Has vs v → ⊥) → slice_get (mark_all marks vs) v ≡ slice_get marks v
mark_out [] marks v h = refl
mark_out (x ∷ vs) marks v h = mark_out vs (set marks x mark.Done) v (λ q. h (inr q)) ∙ set_other marks x v mark.Done (λ e. h (inl e))

-- what is done stays done
pub mark_stays : (vs : List ℕ) (marks : List Mark) (v : ℕ) → slice_get marks v ≡ Some mark.Done → slice_get (mark_all marks vs) v ≡ Some mark.Done
mark_stays [] marks v e = e
mark_stays (x ∷ vs) marks v e = mark_stays vs (set marks x mark.Done) v (⊎_elim (λ same. subst (λ k. slice_get (set marks x mark.Done) k ≡ Some mark.Done) same (set_same marks x mark.Done (subst (λ k. k < length marks) (sym same) (slice_get_within marks v mark.Done e)))) (λ ne. set_other marks x v mark.Done ne ∙ e) (cases_eq x v))

pub mark_in : (vs : List ℕ) (marks : List Mark) (v : ℕ) → v < length marks → Has vs v → slice_get (mark_all marks vs) v ≡ Some mark.Done
mark_in [] marks v b h = absurd h
mark_in (x ∷ vs) marks v b (inl e) = mark_stays vs (set marks x mark.Done) v (subst (λ k. slice_get (set marks x mark.Done) k ≡ Some mark.Done) e (set_same marks x mark.Done (subst (λ k. k < length marks) (sym e) b)))
mark_in (x ∷ vs) marks v b (inr h) = mark_in vs (set marks x mark.Done) v (let l = length_set marks x mark.Done in omega (arith, b, l)) h

-- a member stands at some number
pub has_at : (vs : List ℕ) (v : ℕ) → Has vs v → (k : ℕ) × (slice_get vs k ≡ Some v)
has_at [] v h = absurd h
has_at (x ∷ vs) v (inl e) = (0, ap Some e)
has_at (x ∷ vs) v (inr h) = let r = has_at vs v h in (suc r.0, r.1)

pub at_has : (vs : List ℕ) (k v : ℕ) → slice_get vs k ≡ Some v → Has vs v
at_has [] k v e = absurd (cc)
at_has (x ∷ vs) zero v e = inl (cc)
at_has (x ∷ vs) (suc k) v e = inr (at_has vs k v e)

-- a member of the end of a list stands there
pub has_drop : (n : ℕ) (vs : List ℕ) (v : ℕ) → Has (drop n vs) v → (i : ℕ) × (n ≤ i) × (slice_get vs i ≡ Some v)
has_drop n vs v h = let r = has_at (drop n vs) v h in (n + r.0, omega arith, sym (get_drop n vs r.0) ∙ r.1)

pub drop_has : (n : ℕ) (vs : List ℕ) (i v : ℕ) → n ≤ i → slice_get vs i ≡ Some v → Has (drop n vs) v
drop_has n vs i v b e = at_has (drop n vs) (i - n) v (get_drop n vs (i - n) ∙ ap (slice_get vs) (let q : n + (i - n) ≡ i = omega (arith, b) in q) ∙ e)

-- ---- the end of a list

-- what a pop takes
pub pop_last : {A : Type 0} (xs ys : List A) (o : Option A) (n : ℕ) (e : A) → xs ≡ ys ++ option_to_list o → n ≡ length xs → ((d : A) → 0 < n → o ≡ Some (slice_index_or xs (n - 1) d)) → slice_get xs (length xs - 1) ≡ Some e → xs ≡ ys ++ e ∷ []
pop_last xs ys o n e items len value last =
    let b = slice_get_within xs (length xs - 1) e last in
    let is : o ≡ Some (slice_index_or xs (n - 1) e) = value e (omega (arith, b, len)) in
    let at : slice_index_or xs (n - 1) e ≡ e = ap (λ k. slice_index_or xs (k - 1) e) len ∙ get_or_from_slice_get xs (length xs - 1) e e last in
    items ∙ ap (λ p. ys ++ option_to_list p) (is ∙ ap Some at)

split_at : {A : Type 0} (n : ℕ) (xs : List A) (b : A) → length xs ≡ suc n → slice_get xs n ≡ Some b → xs ≡ take n xs ++ b ∷ []
split_at n [] b l e = absurd (cc)
split_at zero (x ∷ []) b l e = ap (λ y. y ∷ []) (let q : x ≡ b = cc in q)
split_at zero (x ∷ y ∷ ys) b l e = absurd (omega (arith, l))
split_at (suc n) (x ∷ xs) b l e = ap (λ ys. x ∷ ys) (split_at n xs b (let q : length xs ≡ suc n = omega (arith, l) in q) e)

-- a list with a last element
pub split_last : {A : Type 0} (xs : List A) (b : A) → slice_get xs (length xs - 1) ≡ Some b → xs ≡ take (length xs - 1) xs ++ b ∷ []
split_last xs b e = let h = slice_get_within xs (length xs - 1) b e in split_at (length xs - 1) xs b (omega (arith, h)) e

pub empty_last : {A : Type 0} (xs : List A) → slice_get xs (length xs - 1) ≡ None → xs ≡ []
empty_last {A = A} [] e = refl
empty_last {A = A} (x ∷ xs) e = let r = get_within (x ∷ xs) (length (x ∷ xs) - 1) (omega arith) in absurd (none r.0 r.1)
  where
    none : (y : A) → slice_get (x ∷ xs) (length (x ∷ xs) - 1) ≡ Some y → ⊥
    none y f = cc

-- all numbers of a list that rises are at most its last
pub at_most_last : (xs : List ℕ) (b a : ℕ) → Rising xs → slice_get xs (length xs - 1) ≡ Some b → Has xs a → a ≤ b
at_most_last xs b a r e h =
    let is = split_last xs b e in
    let front = take (length xs - 1) xs in
    ⊎_elim (λ p. let q = rising_last front b (subst Rising is r) a p in omega (arith, q)) (λ q. omega (arith, q)) (has_pushed front b a (subst (λ ys. Has ys a) is h))

-- the end of a list from an element on
pub drop_get : {A : Type 0} (k : ℕ) (xs : List A) (x : A) → slice_get xs k ≡ Some x → drop k xs ≡ x ∷ drop (suc k) xs
drop_get k [] x e = absurd (cc)
drop_get zero (y ∷ ys) x e = ap (λ z. z ∷ ys) (let q : y ≡ x = cc in q)
drop_get (suc k) (y ∷ ys) x e = drop_get k ys x e
