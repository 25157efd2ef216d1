-- The numbers of the kinds of what is undefined.
use Rattle.std.specs.Prelude.{ℕ}
use Rattle.c99_tree.specs.declared.undefined.Undefined.{Undefined}
use Rattle.c99_tree.specs.declared.undefined.Undefined.TheVariants as why

abbrev pub undefined_code : Undefined → ℕ
undefined_code why.Overflow = 1
undefined_code why.ZeroDivisor = 2
undefined_code why.BadShift = 3
undefined_code why.BadIndex = 4
undefined_code why.BadConversion = 5
