-- Which numbers of the subset carry the words of a scalar, and which expressions give them.
-- Sections are those of ISO/IEC 9899:1999.
use Rattle.std.specs.Prelude.{◌≡◌, ◌⊎◌, ℕ, Ok, Some}
use Rattle.stream_types.specs.declared.scalar.Scalar.{Scalar}
use Rattle.stream_types.specs.declared.scalar.Scalar.TheVariants as scalar
use Rattle.stream_types.specs.Numbers as of
use Rattle.c99_tree.specs.declared.expr.CExpr.{CExpr}
use Rattle.c99_tree.specs.declared.types.CScalar.{CScalar}
use Rattle.c99_tree.specs.declared.types.CScalar.TheVariants as c
use Rattle.c99_tree.specs.declared.types.CTy.TheVariants as cty
use Rattle.c99_tree.specs.declared.unit.Unit.{Unit as CUnit}
use Rattle.c99_tree.specs.Tree.{tree}
use Rattle.c99_tree.specs.CTypes.{Num}
use Rattle.c99_tree.specs.Values.{number}
use Rattle.c99_tree.specs.Typing.{type_of}
use Rattle.c99_tree.specs.Evaluation.{Statics, evaluate}

-- The types in which an expression has the numbers of a scalar: its own, that of its literals (6.4.4.1), and the common
-- types of these (6.3.1.8). Each of them has each number of the scalar.
abbrev pub IsCarrier : Scalar → CScalar → Type 0
IsCarrier scalar.Bool t = (t ≡ c.Bool) ⊎ (t ≡ c.I32)
IsCarrier scalar.Int8 t = (t ≡ c.I8) ⊎ (t ≡ c.I32)
IsCarrier scalar.Int16 t = (t ≡ c.I16) ⊎ (t ≡ c.I32)
IsCarrier scalar.Int32 t = t ≡ c.I32
IsCarrier scalar.Int64 t = t ≡ c.I64
IsCarrier scalar.Word8 t = (t ≡ c.U8) ⊎ ((t ≡ c.I32) ⊎ (t ≡ c.U32))
IsCarrier scalar.Word16 t = (t ≡ c.U16) ⊎ ((t ≡ c.I32) ⊎ (t ≡ c.U32))
IsCarrier scalar.Word32 t = t ≡ c.U32
IsCarrier scalar.Word64 t = t ≡ c.U64

-- the number of a word of a scalar, in a type that has it
pub record Carries (t : Scalar) (w : ℕ) (x : Num) : Type 0 where
  pub is : x.n ≡ of.number t w
  pub carrier : IsCarrier t x.ty

-- the expression has the type of its scalar, or one that has its numbers
pub record HasCarrier (u : CUnit) (e : CExpr) (t : Scalar) : Type 0 where
  pub ty : CScalar
  pub is : type_of u (tree e) ≡ Some (cty.Scalar ty)
  pub carrier : IsCarrier t ty

-- the expression is defined, and its value carries this word
pub record GivesWord (u : CUnit) (s : Statics) (e : CExpr) (t : Scalar) (w : ℕ) : Type 0 where
  pub value : Num
  pub is : (evaluate u s (tree e)).value ≡ Ok (number value)
  pub carries : Carries t w value
  pub typed : type_of u (tree e) ≡ Some (cty.Scalar value.ty)
