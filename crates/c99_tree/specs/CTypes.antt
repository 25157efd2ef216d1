-- The scalar types, promotion, the usual arithmetic conversions, and conversion to a type.
-- The target: int has 32 bits and is int32_t, unsigned int is uint32_t, and long long has 64 bits and stands for
-- int64_t, as unsigned long long stands for uint64_t; signed types are in two's complement (6.2.6.2, 7.18.1.1).
-- Sections are those of ISO/IEC 9899:1999.
use Rattle.std.specs.Prelude.{ℕ, ◌-◌, ◌^◌, Bool, true, false, ◌&&◌, nat_lt, if◌then◌else◌, Result, Ok, Err, ℤ, pos, ◌-ℤ◌, int_le, int_lt}
use Rattle.std.specs.Int.{int_rem_euclid}
use Rattle.std.specs.Ordering.{int_eq}
use Rattle.c99_tree.specs.declared.types.CScalar.{CScalar}
use Rattle.c99_tree.specs.declared.types.CScalar.TheVariants as t
use Rattle.c99_tree.specs.declared.undefined.Undefined.{Undefined}
use Rattle.c99_tree.specs.declared.undefined.Undefined.TheVariants as why

-- a number with its type
pub record Num : Type 0 where
  pub ty : CScalar
  pub n : ℤ

-- the width of a type in bits; a bool holds 0 and 1 alone (6.2.5 paragraph 2, 7.18.1.1)
abbrev pub bits : CScalar → ℕ
bits t.Bool = 1
bits t.I8 = 8
bits t.I16 = 16
bits t.I32 = 32
bits t.I64 = 64
bits t.U8 = 8
bits t.U16 = 16
bits t.U32 = 32
bits t.U64 = 64

abbrev pub is_signed : CScalar → Bool
is_signed t.I8 = true
is_signed t.I16 = true
is_signed t.I32 = true
is_signed t.I64 = true
is_signed _ = false

-- integer promotion: each type whose values an int holds, and that isn't int, becomes int (6.3.1.1 paragraph 2)
abbrev pub promoted : CScalar → CScalar
promoted t.I64 = t.I64
promoted t.U32 = t.U32
promoted t.U64 = t.U64
promoted _ = t.I32

-- the common type of two promoted types: the wider one, which holds all values of the narrower one, and at one
-- width the unsigned one (6.3.1.8 paragraph 1)
abbrev pub common : CScalar → CScalar → CScalar
common a b =
    if nat_lt (bits a) (bits b) then b
    else (if nat_lt (bits b) (bits a) then a else (if is_signed a then b else a))

-- the usual arithmetic conversions (6.3.1.8)
abbrev pub usual : CScalar → CScalar → CScalar
usual a b = common (promoted a) (promoted b)

-- a signed type holds this number: it is from -2^(N-1) to 2^(N-1) - 1 (6.2.6.2)
abbrev pub holds : CScalar → ℤ → Bool
holds ty z = int_le (pos 0 -ℤ pos (2 ^ (bits ty - 1))) z && int_lt z (pos (2 ^ (bits ty - 1)))

-- the number modulo 2^N, in an unsigned type of N bits (6.2.5 paragraph 9, 6.3.1.3 paragraph 2)
abbrev pub wrapped : CScalar → ℤ → ℤ
wrapped ty z = int_rem_euclid z (pos (2 ^ bits ty))

abbrev pub num : CScalar → ℤ → Num
num ty z = record { ty = ty; n = z }

-- an exact result in an integer type: modulo 2^N where that is unsigned, and else undefined where it doesn't fit
-- (6.2.5 paragraph 9, 6.5 paragraph 5)
abbrev pub in_type : Undefined → CScalar → ℤ → Result Num Undefined
in_type reason ty z =
    if is_signed ty then (if holds ty z then Ok (num ty z) else Err reason)
    else Ok (num ty (wrapped ty z))

abbrev pub is_zero : Num → Bool
is_zero x = int_eq x.n (pos 0)

-- the int that stands for a truth value (6.5.3.3, 6.5.8, 6.5.9, 6.5.13, 6.5.14)
abbrev pub truth : Bool → Num
truth true = num t.I32 (pos 1)
truth false = num t.I32 (pos 0)

-- conversion to a type: to bool 0 or 1 (6.3.1.2), to an unsigned type modulo 2^N, and to a signed type the number
-- itself, or undefined where the type can't hold it (6.3.1.3; C leaves that last case to the implementation)
abbrev pub converted : CScalar → Num → Result Num Undefined
converted t.Bool x = Ok (num t.Bool (if is_zero x then pos 0 else pos 1))
converted ty x = in_type why.BadConversion ty x.n

-- the number of an operand, converted to the common type of both operands, which loses no value of a signed type
-- (6.3.1.8)
abbrev pub widened : CScalar → Num → ℤ
widened ty x = if is_signed ty then x.n else wrapped ty x.n
