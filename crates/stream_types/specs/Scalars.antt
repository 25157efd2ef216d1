-- The scalars, and to which of them each operator applies.
use Rattle.std.specs.Prelude.{ℕ, Bool, true, false, ◌&&◌}
use Rattle.stream_types.specs.declared.scalar.Scalar.{Scalar}
use Rattle.stream_types.specs.declared.scalar.Scalar.TheVariants as scalar
use Rattle.stream_types.specs.declared.scalar.Op1.{Op1}
use Rattle.stream_types.specs.declared.scalar.Op1.TheVariants as op1
use Rattle.stream_types.specs.declared.scalar.Op2.{Op2}
use Rattle.stream_types.specs.declared.scalar.Op2.TheVariants as op2
use Rattle.stream_types.specs.declared.scalar.Hazard.{Hazard}
use Rattle.stream_types.specs.declared.scalar.Hazard.TheVariants as hazard

-- the number of each hazard
abbrev pub hazard_code : Hazard → ℕ
hazard_code hazard.Overflow = 1
hazard_code hazard.ZeroDivisor = 2
hazard_code hazard.BadShift = 3
hazard_code hazard.BadIndex = 4

-- the width in bits; a Bool counts as 8
abbrev pub bits : Scalar → ℕ
bits scalar.Bool = 8
bits scalar.Int8 = 8
bits scalar.Int16 = 16
bits scalar.Int32 = 32
bits scalar.Int64 = 64
bits scalar.Word8 = 8
bits scalar.Word16 = 16
bits scalar.Word32 = 32
bits scalar.Word64 = 64

abbrev pub signed : Scalar → Bool
signed scalar.Bool = false
signed scalar.Int8 = true
signed scalar.Int16 = true
signed scalar.Int32 = true
signed scalar.Int64 = true
signed scalar.Word8 = false
signed scalar.Word16 = false
signed scalar.Word32 = false
signed scalar.Word64 = false

abbrev pub is_bool : Scalar → Bool
is_bool scalar.Bool = true
is_bool _ = false

abbrev pub is_integer : Scalar → Bool
is_integer scalar.Bool = false
is_integer _ = true

-- ---- the kinds of operators

-- what an operator on two operands works on
pub data Kind : Type 0 where
  arithmetic : Kind
  bitwise : Kind
  equality : Kind
  order : Kind

abbrev pub kind : Op2 → Kind
kind op2.Add = arithmetic
kind op2.Sub = arithmetic
kind op2.Mul = arithmetic
kind op2.Quot = arithmetic
kind op2.Rem = arithmetic
kind op2.BitAnd = bitwise
kind op2.BitOr = bitwise
kind op2.BitXor = bitwise
kind op2.Eq = equality
kind op2.Ne = equality
kind op2.Lt = order
kind op2.Le = order
kind op2.Gt = order
kind op2.Ge = order

-- equality is of all scalars, the other kinds are of the integers
abbrev pub kind_fits : Kind → Scalar → Bool
kind_fits equality s = true
kind_fits _ s = is_integer s

-- comparisons answer a Bool, the other kinds a word of the operands' type
abbrev pub kind_gives : Kind → Scalar → Scalar
kind_gives arithmetic s = s
kind_gives bitwise s = s
kind_gives equality s = scalar.Bool
kind_gives order s = scalar.Bool

-- ---- to which scalars an operator applies

abbrev pub op1_fits : Op1 → Scalar → Bool
op1_fits op1.Not s = is_bool s
op1_fits op1.BitNot s = is_integer s

abbrev pub op2_fits : Op2 → Scalar → Bool
op2_fits op s = kind_fits (kind op) s

-- the scalar of the answer
abbrev pub op2_gives : Op2 → Scalar → Scalar
op2_gives op s = kind_gives (kind op) s

-- an integer, by a count of any integer type
abbrev pub shift_fits : Scalar → Scalar → Bool
shift_fits s count = is_integer s && is_integer count

-- from any scalar to an integer
abbrev pub cast_fits : Scalar → Scalar → Bool
cast_fits from to = is_integer to
