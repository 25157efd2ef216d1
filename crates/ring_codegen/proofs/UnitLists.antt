-- Tests over lists by their places, and names that stand once.
use Rattle.std.proofs.Common.{◌≡◌, ℕ, zero, suc, Bool, true, false, not, ◌&&◌, ◌||◌, List, [], ◌∷◌, ◌++◌, map, take, Some, refl, sym, ap, ◌∙◌, subst, append_assoc, append-nil, arith}
use Rattle.std.specs.Prelude.{slice_get}
use Rattle.std.specs.List.{list_all, list_any}
use Rattle.std.proofs.lemmas.Bool.{and_from, false_from_ne_true}
use Rattle.stream_core.proofs.SameNode.{list_same}
use Rattle.c99_tree.specs.Words.{is_same}
use Rattle.c99_tree.specs.WellFormed.{each_after, are_distinct}
use Rattle.ring_codegen.specs.Standing.{IsNamedOnce}
use Rattle.ring_codegen.proofs.NamedOnce.{from_map}

-- ---- each passes

pub all_pass : {X : Type 0} (p : X → Bool) (xs : List X) → ((k : ℕ) (x : X) → slice_get xs k ≡ Some x → p x ≡ true) → list_all p xs ≡ true
all_pass p [] h = refl
all_pass p (x ∷ xs) h = and_from (p x) (list_all p xs) (h 0 x refl) (all_pass p xs (λ k y e. h (suc k) y e))

pub all_mapped : {X Y : Type 0} (p : Y → Bool) (f : X → Y) (xs : List X) → ((k : ℕ) (x : X) → slice_get xs k ≡ Some x → p (f x) ≡ true) → list_all p (map f xs) ≡ true
all_mapped p f [] h = refl
all_mapped p f (x ∷ xs) h = and_from (p (f x)) (list_all p (map f xs)) (h 0 x refl) (all_mapped p f xs (λ k y e. h (suc k) y e))

-- beside those before it
pub each_after_by : {X : Type 0} (p : List X → X → Bool) (before xs : List X) → ((i : ℕ) (x : X) → slice_get xs i ≡ Some x → p (before ++ take i xs) x ≡ true) → each_after p before xs ≡ true
each_after_by p before [] h = refl
each_after_by {X = X} p before (x ∷ xs) h =
    and_from (p before x) (each_after p (before ++ x ∷ []) xs)
    (subst (λ (front : List X). p front x ≡ true) (append-nil before) (h 0 x refl))
    (each_after_by p (before ++ x ∷ []) xs (λ i y e. subst (λ (front : List X). p front y ≡ true) (sym (append_assoc before (x ∷ []) (take i xs))) (h (suc i) y e)))

pub take-map : {X Y : Type 0} (f : X → Y) (i : ℕ) (xs : List X) → take i (map f xs) ≡ map f (take i xs)
take-map f zero [] = refl
take-map f zero (x ∷ xs) = refl
take-map f (suc i) [] = refl
take-map f (suc i) (x ∷ xs) = ap (λ r. f x ∷ r) (take-map f i xs)

pub take_get : {X : Type 0} (i : ℕ) (xs : List X) (j : ℕ) (x : X) → slice_get (take i xs) j ≡ Some x → slice_get xs j ≡ Some x
take_get zero [] j x e = e
take_get zero (y ∷ xs) j x e = absurd (cc e)
take_get (suc i) [] j x e = e
take_get (suc i) (y ∷ xs) zero x e = e
take_get (suc i) (y ∷ xs) (suc j) x e = take_get i xs j x e

-- ---- what a test finds

pub record FoundAt {X : Type 0} (p : X → Bool) (xs : List X) : Type 0 where
  pub place : ℕ
  pub it : X
  pub there : slice_get xs place ≡ Some it
  pub passes : p it ≡ true

pub found_at : {X : Type 0} (p : X → Bool) (xs : List X) → list_any p xs ≡ true → FoundAt p xs
found_at p [] h = absurd (cc h)
found_at {X = X} p (x ∷ xs) h = by (λ g. found_at p xs g) (p x) refl h
  where
    by : (list_any p xs ≡ true → FoundAt p xs) → (b : Bool) → p x ≡ b → (b || list_any p xs) ≡ true → FoundAt p (x ∷ xs)
    by rest true e g = record { place = 0; it = x; there = refl; passes = e }
    by rest false e g = let r = rest g in record { place = suc r.place; it = r.it; there = r.there; passes = r.passes }

pub any_there : {X : Type 0} (p : X → Bool) (xs : List X) (k : ℕ) (x : X) → slice_get xs k ≡ Some x → p x ≡ true → list_any p xs ≡ true
any_there p [] k x e h = absurd (cc e)
any_there p (y ∷ xs) zero x e h = let s : y ≡ x = cc e in ap (λ (b : Bool). b || list_any p xs) (ap p s ∙ h)
any_there p (y ∷ xs) (suc k) x e h = by (p y) (any_there p xs k x e h)
  where
    by : (b : Bool) → list_any p xs ≡ true → (b || list_any p xs) ≡ true
    by true g = refl
    by false g = g

-- ---- no two alike

pub distinct_by : {X : Type 0} (alike : X → X → Bool) (xs : List X)
    → ((i j : ℕ) (x y : X) → slice_get xs i ≡ Some x → slice_get xs j ≡ Some y → alike x y ≡ true → i ≡ j) → are_distinct alike xs ≡ true
distinct_by alike [] h = refl
distinct_by alike (x ∷ xs) h =
    let apart : list_any (alike x) xs ≡ false = false_from_ne_true (list_any (alike x) xs)
    (λ there. let f = found_at (alike x) xs there in let z : 0 ≡ suc f.place = h 0 (suc f.place) x f.it refl f.there f.passes in absurd (omega (arith, z))) in
    and_from (not (list_any (alike x) xs)) (are_distinct alike xs) (ap not apart)
    (distinct_by alike xs (λ i j y z e f g. let s : suc i ≡ suc j = h (suc i) (suc j) y z e f g in omega (arith, s)))

pub distinct_once : (ns : List (List ℕ)) → ((i j : ℕ) (n : List ℕ) → slice_get ns i ≡ Some n → slice_get ns j ≡ Some n → i ≡ j) → are_distinct is_same ns ≡ true
distinct_once ns once = distinct_by is_same ns (λ i j x y e f s. once i j y (e ∙ ap (λ (n : List ℕ). Some n) (list_same x y s)) f)

-- names of what is made of elements whose names stand once
pub distinct_names : {X Y : Type 0} (f : X → Y) (short : Y → List ℕ) (name : X → List ℕ) → ((x : X) → short (f x) ≡ name x) → (xs : List X) → IsNamedOnce name xs → are_distinct is_same (map short (map f xs)) ≡ true
distinct_names f short name same xs once = distinct_by is_same (map short (map f xs))
    (λ i j x y e g s.
    let a = from_map short (map f xs) i x e in
    let b = from_map short (map f xs) j y g in
    let c = from_map f xs i a.origin a.there in
    let d = from_map f xs j b.origin b.there in
    once i j c.origin d.origin c.there d.there
    (sym (same c.origin) ∙ ap short c.is ∙ a.is ∙ list_same x y s ∙ sym b.is ∙ ap short (sym d.is) ∙ same d.origin))
