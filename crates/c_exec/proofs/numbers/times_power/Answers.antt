use Rattle.std.proofs.Common.{rules, ◌*ℤ◌, to_z, of_z, ◌≡◌, ℕ, ◌^◌, ◌-◌, ◌<◌, ◌≤◌, lit<, arith, refl, ◌∙◌}
use Rattle.std.specs.Prelude.{ℤ, pos, unsigned_abs, FitsSigned}
use Rattle.std.specs.Int.{w128}
use Rattle.std.proofs.Math.Pow.{pow_mono}
use Rattle.std.proofs.lemmas.Int.{to_z-of_z, fits_signed_mul}
use Rattle.c_exec.proofs.numbers.times_power.Goals as goal

product_fits : (a b : ℤ) (n : ℕ) → unsigned_abs a < 2 ^ 64 → n < 64 → b ≡ pos (2 ^ n) → FitsSigned w128 a → FitsSigned w128 b → FitsSigned w128 (to_z w128 (of_z w128 a) *ℤ to_z w128 (of_z w128 b))
product_fits a b n p q e f g =
    rw (to_z-of_z w128 a f, to_z-of_z w128 b g, e) (fits_signed_mul w128 a (pos (2 ^ n)) (2 ^ 64 - 1) (2 ^ 63) (omega (arith, p)) (let h : n ≤ 63 = omega arith in pow_mono h) (lit< tt))

pub overflow_mul-result : goal.overflow_mul-result
overflow_mul-result c = product_fits c.args.a c.power.result c.args.count c.requires.a c.requires.count c.power.ensures.value c.ranges.a (search rules)

product_is : (a b : ℤ) (n : ℕ) → unsigned_abs a < 2 ^ 64 → n < 64 → b ≡ pos (2 ^ n) → FitsSigned w128 a → FitsSigned w128 b → to_z w128 (of_z w128 (to_z w128 (of_z w128 a) *ℤ to_z w128 (of_z w128 b))) ≡ a *ℤ pos (2 ^ n)
product_is a b n p q e f g =
    to_z-of_z w128 _ (product_fits a b n p q e f g) ∙ rw (to_z-of_z w128 a f, to_z-of_z w128 b g, e) refl

pub returns : goal.returns
returns c = product_is c.args.a c.power.result c.args.count c.requires.a c.requires.count c.power.ensures.value c.ranges.a (search rules)
