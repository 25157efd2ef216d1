-- The type of an expression, as a function, and when one signature is the front of another.
use Rattle.std.specs.Prelude.{ℕ, ◌≡◌, List, [], ◌∷◌, ◌++◌, replicate, slice_get, Bool, true, false, ◌&&◌, if◌then◌else◌, nat_eq, nat_lt, nat_le, Option, Some, None}
use Rattle.std.specs.Option.{option_map}
use Rattle.stream_types.specs.declared.scalar.Scalar.{Scalar}
use Rattle.stream_types.specs.declared.scalar.Scalar.TheVariants as scalar
use Rattle.stream_types.specs.declared.scalar.Ty.{Ty}
use Rattle.stream_types.specs.declared.scalar.Ty.TheVariants as ty
use Rattle.stream_types.specs.declared.types.Field.{Field}
use Rattle.stream_types.specs.declared.types.TypeEntry.{TypeEntry}
use Rattle.stream_types.specs.declared.types.TypeEntry.TheVariants as entry
use Rattle.stream_types.specs.Scalars.{is_integer, op1_fits, op2_fits, op2_gives, shift_fits, cast_fits}
use Rattle.stream_types.specs.Numbers.{is_word}
use Rattle.stream_core.specs.declared.node.LibForm.{LibForm}
use Rattle.stream_core.specs.declared.node.LibForm.TheVariants as form
use Rattle.stream_core.specs.Term.{Term, Terms, lit, extern, stream, def, named, missing, dropped, un, bin, shift, cast, and, or, implies, choose, index, field, array, struct, abs, sign, majority, agreed, lib, end, more}
use Rattle.stream_core.specs.Signature.{Signature, StreamSignature}
use Rattle.stream_core.specs.WellTyped.{bool, word32, operand_types, form_gives, terms_length, field_types}

-- ---- types compared

-- the place of a scalar among the nine
abbrev pub scalar_place : Scalar → ℕ
scalar_place scalar.Bool = 0
scalar_place scalar.Int8 = 1
scalar_place scalar.Int16 = 2
scalar_place scalar.Int32 = 3
scalar_place scalar.Int64 = 4
scalar_place scalar.Word8 = 5
scalar_place scalar.Word16 = 6
scalar_place scalar.Word32 = 7
scalar_place scalar.Word64 = 8

abbrev pub same_type : Ty → Ty → Bool
same_type (ty.Scalar a) (ty.Scalar b) = nat_eq (scalar_place a) (scalar_place b)
same_type (ty.Array i) (ty.Array j) = nat_eq i j
same_type (ty.Struct i) (ty.Struct j) = nat_eq i j
same_type _ _ = false

abbrev pub same_types : List Ty → List Ty → Bool
same_types [] [] = true
same_types (t ∷ ts) (u ∷ us) = same_type t u && same_types ts us
same_types _ _ = false

-- both are there, and one and the same
abbrev pub is_found : Option Ty → Option Ty → Bool
is_found (Some t) (Some u) = same_type t u
is_found _ _ = false

abbrev pub both_found : Option Ty → Ty → Option Ty → Ty → Bool
both_found a t b u = is_found a (Some t) && is_found b (Some u)

abbrev pub are_found : Option (List Ty) → Option (List Ty) → Bool
are_found (Some ts) (Some us) = same_types ts us
are_found _ _ = false

-- ---- arrays and structs

-- the entry of an array type, or of a struct type
abbrev pub array_entry : List TypeEntry → Ty → Option TypeEntry
array_entry types (ty.Array i) = slice_get types i
array_entry types _ = None

abbrev pub struct_entry : List TypeEntry → Ty → Option TypeEntry
struct_entry types (ty.Struct i) = slice_get types i
struct_entry types _ = None

-- the type of an array's elements, and of each of them
abbrev pub elem_type : Option TypeEntry → Option Ty
elem_type (Some (entry.Array elem n)) = Some elem
elem_type _ = None

abbrev pub elem_types : Option TypeEntry → Option (List Ty)
elem_types (Some (entry.Array elem n)) = Some (replicate n elem)
elem_types _ = None

-- the types of a struct's members, and of one of them
abbrev pub member_types : Option TypeEntry → Option (List Ty)
member_types (Some (entry.Struct name fields)) = Some (field_types fields)
member_types _ = None

abbrev pub member_type : ℕ → Option TypeEntry → Option Ty
member_type k (Some (entry.Struct name fields)) = option_map (λ (f : Field). f.ty) (slice_get fields k)
member_type k _ = None

-- ---- declarations and forms

abbrev pub stream_type : Option StreamSignature → Option Ty
stream_type None = None
stream_type (Some x) = Some x.ty

-- a drop keeps one initial value at least
abbrev pub drop_type : ℕ → Option StreamSignature → Option Ty
drop_type k None = None
drop_type k (Some x) = if nat_lt k x.count then Some x.ty else None

-- 1 to 9 votes
abbrev pub are_votes : Terms → Bool
are_votes es = nat_le 1 (terms_length es) && nat_le (terms_length es) 9

abbrev pub are_bounds : ℕ → ℕ → Bool
are_bounds low high = nat_le low high && nat_le high 128

abbrev pub is_window : ℕ → Scalar → Bool
is_window n s = nat_le 1 n && nat_le n 12 && is_integer s

-- the bounds of a form
abbrev pub is_good_form : LibForm → Bool
is_good_form (form.OnceIn low high) = are_bounds low high
is_good_form (form.HistoricallyIn low high) = are_bounds low high
is_good_form (form.SinceIn low high) = are_bounds low high
is_good_form (form.Clock period phase) = nat_le 1 period && nat_le period 4294967295 && nat_lt phase period
is_good_form (form.WindowMax n s) = is_window n s
is_good_form (form.WindowMin n s) = is_window n s
is_good_form (form.WindowSum n s) = is_window n s
is_good_form _ = true

-- ---- the type of an expression

-- the types of both
abbrev pub first_then : Option Ty → Option (List Ty) → Option (List Ty)
first_then (Some t) (Some ts) = Some (t ∷ ts)
first_then _ _ = None

abbrev mutual
  -- the type of an expression, where its parts fit
  pub type_of : Signature → Term → Option Ty
  type_of sig (lit c w) = if is_word c w then Some (ty.Scalar c) else None
  type_of sig (extern x) = slice_get sig.externs x
  type_of sig (stream x) = stream_type (slice_get sig.streams x)
  type_of sig (def d) = slice_get sig.defs d
  type_of sig (named d a) = if is_found (slice_get sig.defs d) (type_of sig a) then type_of sig a else None
  type_of sig missing = None
  type_of sig (dropped x k) = drop_type k (slice_get sig.streams x)
  type_of sig (un o c a) = if op1_fits o c && is_found (type_of sig a) (Some (ty.Scalar c)) then Some (ty.Scalar c) else None
  type_of sig (bin o c a b) = if op2_fits o c && both_found (type_of sig a) (ty.Scalar c) (type_of sig b) (ty.Scalar c) then Some (ty.Scalar (op2_gives o c)) else None
  type_of sig (shift d c a cs n) = if shift_fits c cs && both_found (type_of sig a) (ty.Scalar c) (type_of sig n) (ty.Scalar cs) then Some (ty.Scalar c) else None
  type_of sig (cast from to a) = if cast_fits from to && is_found (type_of sig a) (Some (ty.Scalar from)) then Some (ty.Scalar to) else None
  type_of sig (and a b) = if both_found (type_of sig a) bool (type_of sig b) bool then Some bool else None
  type_of sig (or a b) = if both_found (type_of sig a) bool (type_of sig b) bool then Some bool else None
  type_of sig (implies a b) = if both_found (type_of sig a) bool (type_of sig b) bool then Some bool else None
  type_of sig (choose c a b) = if is_found (type_of sig c) (Some bool) && is_found (type_of sig a) (type_of sig b) then type_of sig a else None
  type_of sig (index of a i) = if both_found (type_of sig a) of (type_of sig i) word32 then elem_type (array_entry sig.types of) else None
  type_of sig (field of k a) = if is_found (type_of sig a) (Some of) then member_type k (struct_entry sig.types of) else None
  type_of sig (array of es) = if are_found (types_of sig es) (elem_types (array_entry sig.types of)) then Some of else None
  type_of sig (struct of es) = if are_found (types_of sig es) (member_types (struct_entry sig.types of)) then Some of else None
  type_of sig (abs c a) = if is_integer c && is_found (type_of sig a) (Some (ty.Scalar c)) then Some (ty.Scalar c) else None
  type_of sig (sign c a) = if is_integer c && is_found (type_of sig a) (Some (ty.Scalar c)) then Some (ty.Scalar c) else None
  type_of sig (majority c es) = if are_votes es && are_found (types_of sig es) (Some (replicate (terms_length es) (ty.Scalar c))) then Some (ty.Scalar c) else None
  type_of sig (agreed c es) = if are_votes es && are_found (types_of sig es) (Some (replicate (terms_length es) (ty.Scalar c))) then Some bool else None
  type_of sig (lib k form es) = if is_good_form form && are_found (types_of sig es) (Some (operand_types form)) then Some (form_gives form) else None

  -- the types of all
  pub types_of : Signature → Terms → Option (List Ty)
  types_of sig end = Some []
  types_of sig (more a es) = first_then (type_of sig a) (types_of sig es)

-- ---- growth

-- each part of the new signature begins with the old one's
pub record Extends (old new : Signature) : Type 0 where
  pub more_types : List TypeEntry
  pub types : new.types ≡ old.types ++ more_types
  pub more_externs : List Ty
  pub externs : new.externs ≡ old.externs ++ more_externs
  pub more_streams : List StreamSignature
  pub streams : new.streams ≡ old.streams ++ more_streams
  pub more_defs : List Ty
  pub defs : new.defs ≡ old.defs ++ more_defs
