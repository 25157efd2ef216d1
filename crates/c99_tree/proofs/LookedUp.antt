-- What a look-up by name finds in a list that goes along with the list of names, and what stands at a place.
use Rattle.std.proofs.Common.{◌≡◌, ℕ, zero, suc, ◌+◌, Bool, true, false, cond, List, [], ◌∷◌, Option, Some, None, refl, ap, subst, arith}
use Rattle.std.specs.Prelude.{slice_get, slice_set, All, IsSome, nat_eq}
use Rattle.std.specs.List.{find, position_or_len, list_all, AllZip}
use Rattle.std.proofs.lemmas.Bool.Decides.{nat_tests}
use Rattle.std.proofs.lemmas.Option.{slice_get_within, get_or_from_slice_get}
use Rattle.sm_io.proofs.Truths.{left_passes, right_passes}

-- ---- the first that passes

-- what goes along with the first that passes
pub record Along {A B : Type 0} (R : A → B → Type 0) (a : A) (ys : List B) (k : ℕ) : Type 0 where
  pub value : B
  pub there : slice_get ys k ≡ Some value
  pub related : R a value

first_passes : {A : Type 0} (p q : A → Bool) (b : Bool) (x : A) (xs : List A) (a : A) → p x ≡ b → q x ≡ true → (find p xs ≡ Some a → q a ≡ true) → cond b (Some x) (find p xs) ≡ Some a → q a ≡ true
first_passes p q true x xs a e t ih h = let same : x ≡ a = cc h in subst (λ z. q z ≡ true) same t
first_passes p q false x xs a e t ih h = ih h

-- the first that passes one test passes another that all pass
pub found_passes : {A : Type 0} (p q : A → Bool) (xs : List A) (a : A) → list_all q xs ≡ true → find p xs ≡ Some a → q a ≡ true
found_passes p q [] a t h = absurd (cc h)
found_passes p q (x ∷ xs) a t h = first_passes p q (p x) x xs a refl (left_passes (q x) (list_all q xs) t) (λ e. found_passes p q xs a (right_passes (q x) (list_all q xs) t) e) h

-- ---- places

pub zip_at : {A B : Type 0} (R : A → B → Type 0) (xs : List A) (ys : List B) (k : ℕ) (x : A) → AllZip R xs ys → slice_get xs k ≡ Some x → Along R x ys k
zip_at R [] ys k x h e = absurd (cc e)
zip_at R (z ∷ xs) [] k x h e = absurd h
zip_at R (z ∷ xs) (y ∷ ys) zero x h e = let same : z ≡ x = cc e in record { value = y; there = refl; related = subst (λ w. R w y) same h.0 }
zip_at R (z ∷ xs) (y ∷ ys) (suc k) x h e = let f = zip_at R xs ys k x h.1 e in record { value = f.value; there = f.there; related = f.related }

pub all_at : {X : Type 0} (P : X → Type 0) (xs : List X) (k : ℕ) (x : X) → All P xs → slice_get xs k ≡ Some x → P x
all_at P xs k x h e = subst P (get_or_from_slice_get xs k x x e) (h k x (slice_get_within xs k x e))

pub zip_set : {A B : Type 0} (R : A → B → Type 0) (xs : List A) (ys : List B) (k : ℕ) (y : B) → AllZip R xs ys → ((x : A) → slice_get xs k ≡ Some x → R x y) → AllZip R xs (slice_set ys k y)
zip_set R [] [] k y r h = tt
zip_set R [] (z ∷ ys) k y r h = absurd r
zip_set R (x ∷ xs) [] k y r h = absurd r
zip_set R (x ∷ xs) (z ∷ ys) zero y r h = (h x refl, r.1)
zip_set R (x ∷ xs) (z ∷ ys) (suc k) y r h = (r.0, zip_set R xs ys k y r.1 h)

next_place : (n : ℕ) → 1 + n ≡ suc n
next_place n = omega arith

first_is : {A : Type 0} (p : A → Bool) (x : A) (xs : List A) (a : A) → p x ≡ true → find p (x ∷ xs) ≡ Some a → x ≡ a
first_is p x xs a e h = let g : Some x ≡ Some a = rw e at h in cc g

at_place : {A : Type 0} (p : A → Bool) (b : Bool) (x : A) (xs : List A) (a : A) → p x ≡ b → (find p xs ≡ Some a → slice_get xs (position_or_len p xs) ≡ Some a) → find p (x ∷ xs) ≡ Some a → slice_get (x ∷ xs) (position_or_len p (x ∷ xs)) ≡ Some a
at_place p true x xs a e ih h = let same : x ≡ a = first_is p x xs a e h in rw e (ap (λ z. Some z) same)
at_place p false x xs a e ih h = rw (e, next_place (position_or_len p xs)) (ih (rw e at h))

-- the first that passes stands at its place
pub found_there : {A : Type 0} (p : A → Bool) (xs : List A) (a : A) → find p xs ≡ Some a → slice_get xs (position_or_len p xs) ≡ Some a
found_there p [] a h = absurd (cc h)
found_there p (x ∷ xs) a h = at_place p (p x) x xs a refl (λ e. found_there p xs a e) h

pub found_along : {A B : Type 0} (R : A → B → Type 0) (p : A → Bool) (xs : List A) (ys : List B) (a : A) → AllZip R xs ys → find p xs ≡ Some a → Along R a ys (position_or_len p xs)
found_along R p xs ys a r h = zip_at R xs ys (position_or_len p xs) a r (found_there p xs a h)

-- ---- options and numbers

pub found : {A : Type 0} (o : Option A) → IsSome o → (x : A) × (o ≡ Some x)
found None h = absurd (cc h)
found (Some x) h = (x, refl)

pub there_is : {A : Type 0} (o : Option A) (x : A) → o ≡ Some x → IsSome o
there_is o x e = rw e refl

pub same_number : (n m : ℕ) → nat_eq n m ≡ true → n ≡ m
same_number n m h = grind (arith, nat_tests, h)
