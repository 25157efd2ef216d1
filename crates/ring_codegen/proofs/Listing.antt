-- Tests over lists, and places in them.
use Rattle.std.proofs.Common.{◌≡◌, ℕ, zero, suc, ◌+◌, Bool, true, false, not, ◌||◌, cond, List, [], ◌∷◌, ◌++◌, length, map, set, Some, find, inl, inr, ⊎_elim, refl, sym, ap, ◌∙◌, subst, arith}
use Rattle.std.specs.Prelude.{slice_get, All, ◌⊎◌}
use Rattle.std.specs.List.{list_all, list_any, position_or_len, AllByRecursion}
use Rattle.std.specs.Cmp.Lexicographic.{nat_list_eq_equiv}
use Rattle.std.proofs.lemmas.Bool.{and_from}
use Rattle.std.proofs.lemmas.List.Folds.{list_all-append, list_any-append}
use Rattle.stream_core.proofs.SameNode.{list_same}
use Rattle.c99_tree.specs.Words.{is_same}
use Rattle.sm_io.proofs.Elements.{get_front}

-- ---- tests of each element

pub by_recursion : {X : Type 0} (P : X → Type 0) (xs : List X) → All P xs → AllByRecursion P xs
by_recursion P [] h = tt
by_recursion P (x ∷ xs) h = (h 0 x (omega arith), by_recursion P xs (λ k d b. h (suc k) d (omega arith)))

pub of_map : {X Y : Type 0} (P : Y → Type 0) (f : X → Y) (xs : List X) → AllByRecursion P (map f xs) → AllByRecursion (λ x. P (f x)) xs
of_map P f [] h = tt
of_map P f (x ∷ xs) h = (h.0, of_map P f xs h.1)

pub to_map : {X Y : Type 0} (P : Y → Type 0) (f : X → Y) (xs : List X) → AllByRecursion (λ x. P (f x)) xs → AllByRecursion P (map f xs)
to_map P f [] h = tt
to_map P f (x ∷ xs) h = (h.0, to_map P f xs h.1)

pub each_two : {X : Type 0} (P Q R : X → Type 0) → ((x : X) → P x → Q x → R x) → (xs : List X) → AllByRecursion P xs → AllByRecursion Q xs → AllByRecursion R xs
each_two P Q R f [] h g = tt
each_two P Q R f (x ∷ xs) h g = (f x h.0 g.0, each_two P Q R f xs h.1 g.1)

pub each_weaken : {X : Type 0} (P Q : X → Type 0) → ((x : X) → P x → Q x) → (xs : List X) → AllByRecursion P xs → AllByRecursion Q xs
each_weaken P Q f [] h = tt
each_weaken P Q f (x ∷ xs) h = (f x h.0, each_weaken P Q f xs h.1)

pub by_place : {X : Type 0} (P : X → Type 0) (xs : List X) (k : ℕ) (x : X) → AllByRecursion P xs → slice_get xs k ≡ Some x → P x
by_place P [] k x h e = absurd (cc e)
by_place P (y ∷ xs) zero x h e = let s : y ≡ x = cc e in subst P s h.0
by_place P (y ∷ xs) (suc k) x h e = by_place P xs k x h.1 e

pub by_get : {X : Type 0} (P : X → Type 0) (xs : List X) → ((k : ℕ) (x : X) → slice_get xs k ≡ Some x → P x) → AllByRecursion P xs
by_get P [] h = tt
by_get P (x ∷ xs) h = (h 0 x refl, by_get P xs (λ k y e. h (suc k) y e))

pub each_push : {X : Type 0} (P : X → Type 0) (xs : List X) (y : X) → AllByRecursion P xs → P y → AllByRecursion P (xs ++ y ∷ [])
each_push P [] y h g = (g, tt)
each_push P (x ∷ xs) y h g = (h.0, each_push P xs y h.1 g)

pub all_pass : {X Y : Type 0} (P : X → Type 0) (p : Y → Bool) (f : X → Y) → ((x : X) → P x → p (f x) ≡ true) → (xs : List X) → AllByRecursion P xs → list_all p (map f xs) ≡ true
all_pass P p f pass [] h = refl
all_pass P p f pass (x ∷ xs) h = and_from (p (f x)) (list_all p (map f xs)) (pass x h.0) (all_pass P p f pass xs h.1)

pub all_both : {X : Type 0} (p : X → Bool) (xs ys : List X) → list_all p xs ≡ true → list_all p ys ≡ true → list_all p (xs ++ ys) ≡ true
all_both p xs ys h g = list_all-append p xs ys ∙ and_from (list_all p xs) (list_all p ys) h g

pub front_any : {X : Type 0} (p : X → Bool) (xs ys : List X) → list_any p xs ≡ true → list_any p (xs ++ ys) ≡ true
front_any p xs ys h = list_any-append p xs ys ∙ ap (λ (b : Bool). b || list_any p ys) h

-- ---- the first of a name

-- what is made of a name that is there is the first whose name is the same
pub find_there : {X : Type 0} (f : List ℕ → X) (p : X → Bool) (x : List ℕ) → ((n : List ℕ) → p (f n) ≡ is_same x n) → (ns : List (List ℕ)) → list_any (is_same x) ns ≡ true → find p (map f ns) ≡ Some (f x)
find_there f p x same [] h = absurd (cc h)
find_there f p x same (n ∷ ns) h = by (λ g. find_there f p x same ns g) (is_same x n) refl h
  where
    by : (list_any (is_same x) ns ≡ true → find p (map f ns) ≡ Some (f x)) → (b : Bool) → is_same x n ≡ b → (b || list_any (is_same x) ns) ≡ true → find p (map f (n ∷ ns)) ≡ Some (f x)
    by rest true e h = ap (λ (b : Bool). cond b (Some (f n)) (find p (map f ns))) (same n ∙ e) ∙ ap (λ (y : List ℕ). Some (f y)) (sym (list_same x n e))
    by rest false e h = ap (λ (b : Bool). cond b (Some (f n)) (find p (map f ns))) (same n ∙ e) ∙ rest h

pub position_map : {X : Type 0} (f : List ℕ → X) (p : X → Bool) (q : List ℕ → Bool) → ((n : List ℕ) → p (f n) ≡ q n) → (ns : List (List ℕ)) → position_or_len p (map f ns) ≡ position_or_len q ns
position_map f p q same [] = refl
position_map f p q same (n ∷ ns) = λ j. cond (not (same n j)) (1 + position_map f p q same ns j) 0

-- ---- names that stand once

abbrev pub Once : List (List ℕ) → Type 0
Once names = (i j : ℕ) (name : List ℕ) → slice_get names i ≡ Some name → slice_get names j ≡ Some name → i ≡ j

pub once_rest : (n : List ℕ) (ns : List (List ℕ)) → Once (n ∷ ns) → Once ns
once_rest n ns once i j m e f = let s : suc i ≡ suc j = once (suc i) (suc j) m e f in omega arith

-- where a test finds a name, it stands somewhere
pub any_at : (x : List ℕ) (ns : List (List ℕ)) → list_any (is_same x) ns ≡ true → (i : ℕ) × (slice_get ns i ≡ Some x)
any_at x [] h = absurd (cc h)
any_at x (n ∷ ns) h = by (λ g. any_at x ns g) (is_same x n) refl h
  where
    by : (list_any (is_same x) ns ≡ true → (i : ℕ) × (slice_get ns i ≡ Some x)) → (b : Bool) → is_same x n ≡ b → (b || list_any (is_same x) ns) ≡ true → (i : ℕ) × (slice_get (n ∷ ns) i ≡ Some x)
    by rest true e h = (0, ap Some (sym (list_same x n e)))
    by rest false e h = let r = rest h in (suc r.0, r.1)

pub at_any : (x : List ℕ) (ns : List (List ℕ)) (i : ℕ) → slice_get ns i ≡ Some x → list_any (is_same x) ns ≡ true
at_any x [] i e = absurd (cc e)
at_any x (n ∷ ns) zero e = let s : n ≡ x = cc e in ap (λ (b : Bool). b || list_any (is_same x) ns) (ap (is_same x) s ∙ nat_list_eq_equiv.refl x)
at_any x (n ∷ ns) (suc i) e = by (is_same x n) (at_any x ns i e)
  where
    by : (b : Bool) → list_any (is_same x) ns ≡ true → (b || list_any (is_same x) ns) ≡ true
    by true h = refl
    by false h = h

-- the first place of a name that stands once is its place
pub placed : (ns : List (List ℕ)) → Once ns → (k : ℕ) (x : List ℕ) → slice_get ns k ≡ Some x → position_or_len (is_same x) ns ≡ k
placed [] once k x e = absurd (cc e)
placed (n ∷ ns) once zero x e = let s : n ≡ x = cc e in ap (λ (b : Bool). cond (not b) (1 + position_or_len (is_same x) ns) 0) (ap (is_same x) s ∙ nat_list_eq_equiv.refl x)
placed (n ∷ ns) once (suc k) x e = by (placed ns (once_rest n ns once) k x e) (is_same x n) refl
  where
    by : position_or_len (is_same x) ns ≡ k → (b : Bool) → is_same x n ≡ b → position_or_len (is_same x) (n ∷ ns) ≡ suc k
    by rest true s = let z : 0 ≡ suc k = once 0 (suc k) x (ap Some (sym (list_same x n s))) e in absurd (omega arith)
    by rest false s = ap (λ (b : Bool). cond (not b) (1 + position_or_len (is_same x) ns) 0) s ∙ omega (arith, rest)

-- ---- places

pub get_behind : {X : Type 0} (xs : List X) (y : X) (ys : List X) → slice_get (xs ++ y ∷ ys) (length xs) ≡ Some y
get_behind [] y ys = refl
get_behind (x ∷ xs) y ys = get_behind xs y ys

-- a place of a list behind another is one of the first or of the second
pub get_either : {X : Type 0} (xs ys : List X) (i : ℕ) (x : X) → slice_get (xs ++ ys) i ≡ Some x → (slice_get xs i ≡ Some x) ⊎ ((j : ℕ) × (i ≡ length xs + j) × (slice_get ys j ≡ Some x))
get_either [] ys i x e = inr (i, omega arith, e)
get_either (z ∷ xs) ys zero x e = inl e
get_either (z ∷ xs) ys (suc i) x e = elim (get_either xs ys i x e) [ inl a ↦ inl a | inr b ↦ let s = b.1 in inr (b.0, omega arith, b.2) ]

-- two lists of names that share none
pub once_both : (xs ys : List (List ℕ)) → Once xs → Once ys → ((i j : ℕ) (name : List ℕ) → slice_get xs i ≡ Some name → slice_get ys j ≡ Some name → ⊥) → Once (xs ++ ys)
once_both xs ys first second apart i j m e f = ⊎_elim
    (λ front. ⊎_elim (λ other. first i j m front other) (λ behind. absurd (apart i behind.0 m front behind.2)) (get_either xs ys j m f))
    (λ behind. ⊎_elim (λ front. absurd (apart j behind.0 m front behind.2)) (λ other. behind.1 ∙ ap (λ (k : ℕ). length xs + k) (second behind.0 other.0 m behind.2 other.2) ∙ sym other.1) (get_either xs ys j m f))
    (get_either xs ys i m e)

pub once_first : (xs ys : List (List ℕ)) → Once (xs ++ ys) → Once xs
once_first xs ys once i j m e f = once i j m (get_front xs ys i m e) (get_front xs ys j m f)

pub set_behind : {X : Type 0} (xs : List X) (o : X) (ys : List X) (v : X) → set (xs ++ o ∷ ys) (length xs) v ≡ xs ++ v ∷ ys
set_behind [] o ys v = refl
set_behind (x ∷ xs) o ys v = ap (λ r. x ∷ r) (set_behind xs o ys v)
