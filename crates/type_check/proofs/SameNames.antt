-- Names that `==` finds equal are the same.
use Rattle.std.proofs.Common.{◌≡◌, ℕ, Bool, true, false, nat_eq, List, [], ◌∷◌, refl, arith}
use Rattle.std.specs.Prelude.{◌&&◌}
use Rattle.std.specs.Cmp.Lexicographic.{pointwise}
use Rattle.std.proofs.lemmas.Bool.Decides.{nat_tests}

pub nat_same : (x y : ℕ) → nat_eq x y ≡ true → x ≡ y
nat_same x y h = grind (arith, nat_tests, h)

pub left_true : (a b : Bool) → (a && b) ≡ true → a ≡ true
left_true true b h = refl
left_true false b h = absurd (cc)

pub right_true : (a b : Bool) → (a && b) ≡ true → b ≡ true
right_true true b h = h
right_true false b h = absurd (cc)

pub list_same : (xs ys : List ℕ) → pointwise nat_eq xs ys ≡ true → xs ≡ ys
list_same [] [] h = refl
list_same [] (y ∷ ys) h = absurd (cc)
list_same (x ∷ xs) [] h = absurd (cc)
list_same (x ∷ xs) (y ∷ ys) h =
    let p = nat_same x y (left_true (nat_eq x y) (pointwise nat_eq xs ys) h) in
    let q = list_same xs ys (right_true (nat_eq x y) (pointwise nat_eq xs ys) h) in
    cc
