-- What holds of each element of a list holds of the one that is read.
use Rattle.std.proofs.Common.{◌≡◌, ℕ, ◌<◌, List, [], ◌∷◌, length, get_or, set, refl, sym, ap, ◌∙◌, subst, arith}
use Rattle.std.specs.Prelude.{All}
use Rattle.std.proofs.lemmas.Slice.{first_rest}
use Rattle.std.specs.List.{between}

pub item_of : {X : Type 0} (P : X → Type 0) (xs : List X) (i : ℕ) (x : X) → All P xs → x ≡ get_or xs i x → i < length xs → P x
item_of P xs i x all is less = subst P (sym is) (all i x less)

-- a list of one element, which is written
pub set_only : (xs : List ℕ) (w : ℕ) → length xs ≡ 1 → set xs 0 w ≡ w ∷ []
set_only [] w h = absurd (omega (arith, h))
set_only (x ∷ []) w h = refl
set_only (x ∷ y ∷ xs) w h = absurd (omega (arith, h))

-- a list whose first element is read
pub first_read : (xs : List ℕ) (x : ℕ) → x ≡ get_or xs 0 x → 0 < length xs → xs ≡ x ∷ between 1 (length xs) xs
first_read xs x is h = first_rest xs x h ∙ ap (λ y. y ∷ between 1 (length xs) xs) (sym is)
