-- When a value is one of a type, when the statics are as a program declares them, and when a row of words is one of its
-- externs.
use Rattle.std.specs.Prelude.{◌≡◌, ℕ, ◌^◌, ◌<◌, Bool, ◌&&◌, if◌then◌else◌, IsTrue, List, [], ◌∷◌, length, map, replicate, slice_get, Some, All, IfOk, ℤ, pos, int_le, int_lt}
use Rattle.std.specs.List.{list_all, AllZip}
use Rattle.std.specs.Option.{option_map}
use Rattle.c99_tree.specs.declared.types.CScalar.{CScalar}
use Rattle.c99_tree.specs.declared.types.CTy.{CTy}
use Rattle.c99_tree.specs.declared.types.CTy.TheVariants as ty
use Rattle.c99_tree.specs.declared.types.CVar.{CVar}
use Rattle.c99_tree.specs.declared.types.CDef.{CDef}
use Rattle.c99_tree.specs.declared.types.CProto.{CProto}
use Rattle.c99_tree.specs.declared.unit.CRing.{CRing}
use Rattle.c99_tree.specs.declared.unit.Unit.{Unit as CUnit}
use Rattle.c99_tree.specs.CTypes.{Num, bits, is_signed, holds}
use Rattle.c99_tree.specs.Words.{elem_type}
use Rattle.c99_tree.specs.Lookup.{fields_of}
use Rattle.c99_tree.specs.Values.{Value, Values, number, struct_of, array_of, no_value, and_value, words_of_all, row_values}
use Rattle.c99_tree.specs.Tree.{Expr}
use Rattle.c99_tree.specs.Typing.{type_of}
use Rattle.c99_tree.specs.Evaluation.{RingState, Statics, evaluate}
use Rattle.c99_tree.specs.Step.{Called, Progress}
use Rattle.c99_tree.specs.Run.{Ran, row_at}
use Rattle.c99_tree.specs.WellFormed.{parts_of, is_in_range, IsWellFormed}

-- a type has this number: a signed one those that it holds, an unsigned one of N bits those from 0 to 2^N - 1, and bool
-- 0 and 1 (6.2.5, 6.2.6.2)
abbrev pub in_range : CScalar → ℤ → Bool
in_range t z = if is_signed t then holds t z else int_le (pos 0) z && int_lt z (pos (2 ^ bits t))

-- a number of this type, in its range
pub record IsNumberOf (t : CScalar) (x : Num) : Type 0 where
  pub typed : x.ty ≡ t
  pub ranged : IsTrue (in_range t x.n)

abbrev mutual
  -- a value of this type: a number of a scalar type, one value for each member of a struct, in order, each of the
  -- member's type, and as many values as an array's length, each of its elements' type
  pub IsValueOf : List CDef → CTy → Value → Type 0
  IsValueOf ds (ty.Scalar t) (number x) = IsNumberOf t x
  IsValueOf ds (ty.Struct x) (struct_of vs) = (fields : List CVar) × (fields_of ds x ≡ Some fields) × AreValuesOf ds (map (λ v. v.ty) fields) vs
  IsValueOf ds (ty.Array x n) (array_of vs) = AreValuesOf ds (replicate n (elem_type x)) vs
  IsValueOf ds _ _ = ⊥

  -- as many values as types, each of the type at its place
  pub AreValuesOf : List CDef → List CTy → Values → Type 0
  AreValuesOf ds [] no_value = Unit {0}
  AreValuesOf ds (t ∷ ts) (and_value v vs) = IsValueOf ds t v × AreValuesOf ds ts vs
  AreValuesOf ds _ _ = ⊥

-- a ring has as many values as its length, each of its type, and its index is an uint32_t
pub record IsRingOf (ds : List CDef) (ring : CRing) (state : RingState) : Type 0 where
  pub long : length state.values ≡ ring.len
  pub each : All (IsValueOf ds ring.ty) state.values
  pub index : state.index < 2 ^ 32

-- the statics are as the program declares them: a value of its type for each extern's copy, and each ring's values
pub record IsStatics (u : CUnit) (s : Statics) : Type 0 where
  pub copies : AllZip (λ x v. IsValueOf u.types x.ty v) u.externs s.copies
  pub rings : AllZip (IsRingOf u.types) u.rings s.rings

-- a row has one word for each scalar in the externs, in order, each a word of its type
abbrev pub IsRow : CUnit → List ℕ → Type 0
IsRow u row = option_map (λ a. a.1) (row_values u.types u.externs row) ≡ Some []

-- a call of one of the program's handlers: the words are those of one value for each parameter, in order, each of the
-- parameter's type
pub record IsCallOf (u : CUnit) (call : Called) : Type 0 where
  pub handler : CProto
  pub is : slice_get u.handlers call.handler ≡ Some handler
  pub arguments : Values
  pub typed : AreValuesOf u.types handler.params arguments
  pub words : call.words ≡ words_of_all arguments

-- ---- what the laws say

-- an expression has this type, and its literals are in range
abbrev pub IsTyped : CUnit → Expr → CTy → Type 0
IsTyped u e t = IsTrue (list_all is_in_range (parts_of e)) × (type_of u e ≡ Some t)

-- the expression's value is one of this type, where it has one
abbrev pub GivesValueOf : CUnit → Statics → Expr → CTy → Type 0
GivesValueOf u s e t = IfOk (evaluate u s e).value (IsValueOf u.types t)

-- a call of `step` of a well formed program, on statics as it declares them, while the externs hold a row
pub record IsEntry (u : CUnit) (s : Statics) (row : List ℕ) : Type 0 where
  pub well_formed : IsWellFormed u
  pub statics : IsStatics u s
  pub given : IsRow u row

-- statics as the program declares them, and calls of its handlers
abbrev pub IsStepOf : CUnit → Progress → Type 0
IsStepOf u p = IsStatics u p.statics × All (IsCallOf u) p.called

abbrev pub IsRunOf : CUnit → Ran → Type 0
IsRunOf u ran = IsStatics u ran.statics × All (All (IsCallOf u)) ran.called

-- each of the first n is a row
abbrev pub AreRows : CUnit → List (List ℕ) → ℕ → Type 0
AreRows u rows n = (k : ℕ) → k < n → IsRow u (row_at rows k)
