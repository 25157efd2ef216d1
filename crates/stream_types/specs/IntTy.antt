-- What an integer type is.
use Rattle.std.specs.Prelude.{ℕ, ℤ, Bool, ◌≤◌, ◌≡◌, ◌&&◌, int_le}
use Rattle.stream_types.specs.Numbers.{least, greatest, in_range}
use Rattle.stream_types.specs.IntTyLaws.{range_is}

-- at most 64 bits, with these ends, between which all its numbers lie
pub record IsIntTy (bits : ℕ) (sign : Bool) (low high : ℤ) : Type 0 where
  pub some : 1 ≤ bits
  pub most : bits ≤ 64
  pub low_is : low ≡ least bits sign
  pub high_is : high ≡ greatest bits sign
  pub range : (z : ℤ) → in_range bits sign z ≡ (int_le low z && int_le z high)

abbrev pub int_ty : (bits : ℕ) (sign : Bool) (low high : ℤ) → 1 ≤ bits → bits ≤ 64 → low ≡ least bits sign → high ≡ greatest bits sign → IsIntTy bits sign low high
int_ty bits sign low high a b c d = record { some = a; most = b; low_is = c; high_is = d; range = range_is bits sign low high c d }
