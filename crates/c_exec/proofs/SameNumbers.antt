-- Signed numbers of 128 bits, as a call sees them.
use Rattle.std.proofs.Common.{◌≡◌, to_z, of_z, ap, sym, ◌∙◌}
use Rattle.std.specs.Prelude.{ℤ, FitsSigned, nat_eq}
use Rattle.std.specs.Int.{w128}
use Rattle.std.specs.Ordering.{int_eq}
use Rattle.std.proofs.lemmas.Int.{to_z-of_z}
use Rattle.std.proofs.lemmas.Bool.Decides.{same_from_decides, Decides-like, Decides-eqb, Decides-int_eq}

-- a number by way of its bits
abbrev pub seen : ℤ → ℤ
seen z = to_z w128 (of_z w128 z)

-- numbers are equal where their bits are
pub same_bits : (a b : ℤ) → FitsSigned w128 a → FitsSigned w128 b → nat_eq (of_z w128 a) (of_z w128 b) ≡ int_eq a b
same_bits a b f g =
    same_from_decides (nat_eq (of_z w128 a) (of_z w128 b)) (int_eq a b)
    (Decides-like (nat_eq (of_z w128 a) (of_z w128 b)) (λ e. sym (to_z-of_z w128 a f) ∙ ap (to_z w128) e ∙ to_z-of_z w128 b g) (λ e. ap (of_z w128) e) (Decides-eqb (of_z w128 a) (of_z w128 b)))
    (Decides-int_eq a b)
