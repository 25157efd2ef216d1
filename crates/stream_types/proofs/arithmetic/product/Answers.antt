use Rattle.std.proofs.Common.{◌≡◌, ◌*ℤ◌, to_z, of_z, ◌^◌, ◌≤◌, lit<}
use Rattle.std.specs.Prelude.{ℤ, unsigned_abs, FitsSigned}
use Rattle.std.specs.Int.{w128}
use Rattle.std.proofs.lemmas.Int.{to_z-of_z, fits_signed_mul}
use Rattle.stream_types.proofs.arithmetic.product.Goals as goal

product_is : (a b : ℤ) → unsigned_abs a ≤ 2 ^ 63 → unsigned_abs b ≤ 2 ^ 63 → FitsSigned w128 a → FitsSigned w128 b → to_z w128 (of_z w128 (to_z w128 (of_z w128 a) *ℤ to_z w128 (of_z w128 b))) ≡ a *ℤ b
product_is a b p q f g = rw (to_z-of_z w128 a f, to_z-of_z w128 b g) (to_z-of_z w128 _ (fits_signed_mul w128 a b (2 ^ 63) (2 ^ 63) p q (lit< tt)))

pub returns : goal.returns
returns c = product_is c.args.a c.args.b c.requires.a c.requires.b c.ranges.a c.ranges.b
