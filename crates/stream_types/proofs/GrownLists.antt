-- Places in lists that grow at their end.
use Rattle.std.proofs.Common.{◌≡◌, ℕ, zero, suc, ◌<◌, ◌≤◌, List, [], ◌∷◌, ◌++◌, length, get_or, take, map, refl, arith, inl, inr, ap, sym}
use Rattle.std.specs.Prelude.{slice_get, slice_index, Option, Some, None, ◌⊎◌}

-- what stands at a place of a front stands there in the whole
pub at_take : {X : Type 0} (xs : List X) (i j : ℕ) (P : Option X → Type 0) → ¬ P None → P (slice_get (take i xs) j) → P (slice_get xs j)
at_take [] zero j P n h = h
at_take [] (suc i) j P n h = h
at_take (x ∷ xs) zero j P n h = absurd (n h)
at_take (x ∷ xs) (suc i) zero P n h = h
at_take (x ∷ xs) (suc i) (suc j) P n h = at_take xs i j P n h

-- what stands at a place stands there in a longer list
pub at_append : {X : Type 0} (xs ys : List X) (j : ℕ) (P : Option X → Type 0) → ¬ P None → P (slice_get xs j) → P (slice_get (xs ++ ys) j)
at_append [] ys j P n h = absurd (n h)
at_append (x ∷ xs) ys zero P n h = h
at_append (x ∷ xs) ys (suc j) P n h = at_append xs ys j P n h

-- a place of a list with one more element is an old one or the last
pub get_push : {X : Type 0} (xs : List X) (x y : X) (i : ℕ) → slice_get (xs ++ x ∷ []) i ≡ Some y → ((i < length xs) × (slice_get xs i ≡ Some y)) ⊎ ((i ≡ length xs) × (x ≡ y))
get_push [] x y zero h = inr (refl, cc)
get_push [] x y (suc i) h = absurd (cc)
get_push (z ∷ xs) x y zero h = inl (omega arith, h)
get_push (z ∷ xs) x y (suc i) h = elim (get_push xs x y i h) [ inl a ↦ inl (omega (arith, a.0), a.1) | inr b ↦ inr (ap suc b.0, b.1) ]

pub take-push : {X : Type 0} (xs : List X) (x : X) (i : ℕ) → i ≤ length xs → take i (xs ++ x ∷ []) ≡ take i xs
take-push [] x zero h = refl
take-push [] x (suc i) h = absurd (omega arith)
take-push (z ∷ xs) x zero h = refl
take-push (z ∷ xs) x (suc i) h = ap (λ r. z ∷ r) (take-push xs x i (omega arith))

pub take-length : {X : Type 0} (xs : List X) → take (length xs) xs ≡ xs
take-length [] = refl
take-length (x ∷ xs) = ap (λ r. x ∷ r) (take-length xs)

-- a bound of all numbers and of one more
pub index_push : (ws : List ℕ) (w b i : ℕ) → ((k : ℕ) → slice_index ws k ≤ b) → w ≤ b → slice_index (ws ++ w ∷ []) i ≤ b
index_push [] w b zero h p = p
index_push [] w b (suc i) h p = omega arith
index_push (x ∷ ws) w b zero h p = h 0
index_push (x ∷ ws) w b (suc i) h p = index_push ws w b i (λ k. h (suc k)) p

-- what stands at a place is within the list
pub within : {X : Type 0} (xs : List X) (i : ℕ) (P : Option X → Type 0) → ¬ P None → P (slice_get xs i) → i < length xs
within [] i P n h = absurd (n h)
within (x ∷ xs) zero P n h = omega arith
within (x ∷ xs) (suc i) P n h = omega (arith, within xs i P n h)

-- what an index reads, of a list changed element by element
pub slice_get-map_read : {X Y : Type 0} (f : X → Y) (xs : List X) (i : ℕ) (m : X) → i < length xs → m ≡ get_or xs i m → slice_get (map f xs) i ≡ Some (f m)
slice_get-map_read f [] i m h e = absurd (omega arith)
slice_get-map_read f (x ∷ xs) zero m h e = ap (λ y. Some (f y)) (sym e)
slice_get-map_read f (x ∷ xs) (suc i) m h e = slice_get-map_read f xs i m (omega arith) e

pub slice_index-map_read : {X : Type 0} (f : X → ℕ) (xs : List X) (i : ℕ) (m : X) → i < length xs → m ≡ get_or xs i m → slice_index (map f xs) i ≡ f m
slice_index-map_read f [] i m h e = absurd (omega arith)
slice_index-map_read f (x ∷ xs) zero m h e = ap f (sym e)
slice_index-map_read f (x ∷ xs) (suc i) m h e = slice_index-map_read f xs i m (omega arith) e
