-- A fact of each element of a list that is written out.
use Rattle.std.proofs.Common.{◌≡◌, ⊎_elim, inl, inr, ℕ, zero, suc, ◌≤◌, List, [], ◌∷◌, map, replicate, Some, refl, ap, subst, arith}
use Rattle.std.specs.Prelude.{slice_get, All}
use Rattle.std.specs.List.{AllByRecursion}
use Rattle.recursion_check.specs.Graph.{Has}
use Rattle.recursion_check.specs.Walked.{Rising}

abbrev pub Each : {A : Type 0} → List A → (ℕ → A → Type 0) → Type 0
Each [] P = Unit {0}
Each (x ∷ xs) P = P 0 x × Each xs (λ i. P (suc i))

pub each_at : {A : Type 0} (xs : List A) (P : ℕ → A → Type 0) → Each xs P → (i : ℕ) (x : A) → slice_get xs i ≡ Some x → P i x
each_at [] P h i x e = absurd (cc)
each_at (y ∷ ys) P h zero x e = subst (P 0) (let q : y ≡ x = cc in q) h.0
each_at (y ∷ ys) P h (suc i) x e = each_at ys (λ i. P (suc i)) h.1 i x e

pub all_copies : {A B : Type 0} (P : B → Type 0) (f : A → B) (x : A) → P (f x) → (n : ℕ) → All P (map f (replicate n x))
all_copies P f x h zero k d b = absurd (omega (arith, b))
all_copies P f x h (suc n) zero d b = h
all_copies P f x h (suc n) (suc k) d b = all_copies P f x h n k d (omega (arith, b))

pub copies_all : {A : Type 0} (P : A → Type 0) (x : A) → P x → (n : ℕ) → All P (replicate n x)
copies_all P x h zero k d b = absurd (omega (arith, b))
copies_all P x h (suc n) zero d b = h
copies_all P x h (suc n) (suc k) d b = copies_all P x h n k d (omega (arith, b))

pub get_copies : {A : Type 0} (n : ℕ) (x y : A) (i : ℕ) → slice_get (replicate n x) i ≡ Some y → x ≡ y
get_copies zero x y i e = absurd (cc)
get_copies (suc n) x y zero e = cc
get_copies (suc n) x y (suc i) e = get_copies n x y i e

-- ---- names of one letter

abbrev pub names_of : List ℕ → List (List ℕ)
names_of ks = map (λ k. k ∷ []) ks

-- so many letters from one on
abbrev pub up : ℕ → ℕ → List ℕ
up a zero = []
up a (suc n) = a ∷ up (suc a) n

up_least : (n a c : ℕ) → Has (up a n) c → a ≤ c
up_least zero a c h = absurd h
up_least (suc n) a c h = ⊎_elim (λ e. omega (arith, e)) (λ q. let l = up_least n (suc a) c q in omega (arith, l)) h

pub up_rising : (n a : ℕ) → Rising (up a n)
up_rising zero a = tt
up_rising (suc n) a = (λ c h. let l = up_least n (suc a) c h in omega (arith, l), up_rising n (suc a))

named_by : (ks : List ℕ) (i : ℕ) (name : List ℕ) → slice_get (names_of ks) i ≡ Some name → (k : ℕ) × (name ≡ k ∷ []) × Has ks k
named_by [] i name e = absurd (cc)
named_by (k ∷ ks) zero name e = (k, let q : name ≡ k ∷ [] = cc in q, inl refl)
named_by (k ∷ ks) (suc i) name e = let r = named_by ks i name e in (r.0, r.1, inr r.2)

pub once_by : (ks : List ℕ) → Rising ks → (i j : ℕ) (name : List ℕ) → slice_get (names_of ks) i ≡ Some name → slice_get (names_of ks) j ≡ Some name → i ≡ j
once_by [] r i j name e f = absurd (cc)
once_by (k ∷ ks) r zero zero name e f = refl
once_by (k ∷ ks) r (suc i) (suc j) name e f = ap suc (once_by ks r.1 i j name e f)
once_by (k ∷ ks) r zero (suc j) name e f =
    let q = named_by ks j name f in
    let same : k ≡ q.0 = head k q.0 name e q.1 in
    let less = r.0 q.0 q.2 in
    absurd (omega (arith, same, less))
  where
    head : (a b : ℕ) (n : List ℕ) → Some (a ∷ []) ≡ Some n → n ≡ b ∷ [] → a ≡ b
    head a b n g h = cc
once_by (k ∷ ks) r (suc i) zero name e f =
    let q = named_by ks i name e in
    let same : k ≡ q.0 = head k q.0 name f q.1 in
    let less = r.0 q.0 q.2 in
    absurd (omega (arith, same, less))
  where
    head : (a b : ℕ) (n : List ℕ) → Some (a ∷ []) ≡ Some n → n ≡ b ∷ [] → a ≡ b
    head a b n g h = cc

-- a name of one letter is among these only if the letter is
pub among : (ks : List ℕ) (j k : ℕ) → slice_get (names_of ks) j ≡ Some (k ∷ []) → Has ks k
among ks j k e = let q = named_by ks j (k ∷ []) e in subst (Has ks) (same k q.0 q.1) q.2
  where
    same : (a b : ℕ) → a ∷ [] ≡ b ∷ [] → b ≡ a
    same a b h = cc
