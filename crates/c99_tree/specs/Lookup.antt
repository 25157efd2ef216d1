-- What a name stands for: always the first that has it.
use Rattle.std.specs.Prelude.{◌≡◌, ℕ, Bool, true, ◌&&◌, nat_eq, List, Option, Some, None, MatchOption}
use Rattle.std.specs.List.{find, filter_map, position_or_len, list_any}
use Rattle.std.specs.Option.{option_map}
use Rattle.std.specs.Borrow.{Bor}
use Rattle.c99_tree.specs.declared.types.CTy.{CTy}
use Rattle.c99_tree.specs.declared.types.CTy.TheVariants as ty
use Rattle.c99_tree.specs.declared.types.CVar.{CVar}
use Rattle.c99_tree.specs.declared.types.CDef.{CDef}
use Rattle.c99_tree.specs.declared.types.CDef.TheVariants as def
use Rattle.c99_tree.specs.declared.types.CProto.{CProto}
use Rattle.c99_tree.specs.declared.unit.CRing.{CRing}
use Rattle.c99_tree.specs.declared.unit.Unit.{Unit as CUnit}
use Rattle.c99_tree.specs.Words.{is_same}

-- a struct's name and members, and an array's word and length, of a type definition that is one
abbrev pub named_struct : CDef → Option (List ℕ × List CVar)
named_struct (def.Struct x fields) = Some (x, fields)
named_struct (def.Array x n) = None

abbrev pub named_array : CDef → Option (List ℕ × ℕ)
named_array (def.Struct x fields) = None
named_array (def.Array x n) = Some (x, n)

abbrev pub structs_in : List CDef → List (List ℕ × List CVar)
structs_in ds = filter_map named_struct ds

abbrev pub arrays_in : List CDef → List (List ℕ × ℕ)
arrays_in ds = filter_map named_array ds

-- the members of the first struct of this name
abbrev pub fields_of : List CDef → List ℕ → Option (List CVar)
fields_of ds x = option_map (λ s. s.1) (find (λ s. is_same x s.0) (structs_in ds))

abbrev pub is_array : List ℕ → ℕ → (List ℕ × ℕ) → Bool
is_array x n a = is_same x a.0 && nat_eq n a.1

-- a type is defined: each scalar, and each struct and array type that stands among the definitions
abbrev pub is_defined : List CDef → CTy → Bool
is_defined ds (ty.Scalar t) = true
is_defined ds (ty.Struct x) = list_any (λ s. is_same x s.0) (structs_in ds)
is_defined ds (ty.Array x n) = list_any (is_array x n) (arrays_in ds)

-- the variable of this name
abbrev pub var_of : List CVar → List ℕ → Option CVar
var_of vs x = find (λ v. is_same x v.name) vs

-- its place, from 0
abbrev pub place_of_var : List CVar → List ℕ → ℕ
place_of_var vs x = position_or_len (λ v. is_same x v.name) vs

abbrev pub ring_of : CUnit → List ℕ → Option CRing
ring_of u x = find (λ r. is_same x r.name) u.rings

abbrev pub place_of_ring : CUnit → List ℕ → ℕ
place_of_ring u x = position_or_len (λ r. is_same x r.name) u.rings

abbrev pub handler_of : CUnit → List ℕ → Option CProto
handler_of u x = find (λ h. is_same x h.name) u.handlers

abbrev pub place_of_handler : CUnit → List ℕ → ℕ
place_of_handler u x = position_or_len (λ h. is_same x h.name) u.handlers

-- what there is to find is lent, and nothing where there is none
abbrev pub Lends : {T : Type 0} → Option (Bor T) → Option T → Type 0
Lends found o = MatchOption found (o ≡ None) (λ x. o ≡ Some x.now)
