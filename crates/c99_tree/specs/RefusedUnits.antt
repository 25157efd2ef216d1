-- Data of worked rows: a unit for each rule of well-formedness, which breaks it and keeps the others.
use Rattle.std.specs.Prelude.{ℕ, zero, suc, ◌+◌, Bool, true, false, List, [], ◌∷◌, codes}
use Rattle.c99_tree.specs.declared.expr.CLit.TheVariants as k
use Rattle.c99_tree.specs.declared.expr.CUn.TheVariants as u
use Rattle.c99_tree.specs.declared.expr.CExpr.{CExpr}
use Rattle.c99_tree.specs.declared.expr.CExpr.TheVariants as e
use Rattle.c99_tree.specs.declared.types.CScalar.TheVariants as t
use Rattle.c99_tree.specs.declared.types.CTy.TheVariants as ty
use Rattle.c99_tree.specs.declared.types.CVar.{CVar}
use Rattle.c99_tree.specs.declared.types.CDef.{CDef}
use Rattle.c99_tree.specs.declared.types.CDef.TheVariants as def
use Rattle.c99_tree.specs.declared.types.CProto.{CProto}
use Rattle.c99_tree.specs.declared.unit.CRing.{CRing}
use Rattle.c99_tree.specs.declared.unit.CStmt.TheVariants as s
use Rattle.c99_tree.specs.declared.unit.Unit.{Unit as CUnit}
use Rattle.c99_tree.specs.WellFormed.{names_are_names, names_are_distinct, types_come_first, used_things_are_there, structs_have_fields, literals_are_in_range, rings_are_filled, expressions_have_types, calls_have_all_arguments, guards_and_subscripts_are_scalar, values_fit, copies_come_first, rings_are_used_their_way, lengths_are_in_range, heights_are_in_range, totals_are_right}

-- ---- the rules, counted from 1 in the order of IsWellFormed

abbrev pub verdicts : CUnit → List Bool
verdicts u =
    names_are_names u ∷ names_are_distinct u ∷ types_come_first u ∷ used_things_are_there u
    ∷ structs_have_fields u ∷ literals_are_in_range u ∷ rings_are_filled u ∷ expressions_have_types u
    ∷ calls_have_all_arguments u ∷ guards_and_subscripts_are_scalar u ∷ values_fit u ∷ copies_come_first u
    ∷ rings_are_used_their_way u ∷ lengths_are_in_range u ∷ heights_are_in_range u ∷ totals_are_right u ∷ []

-- the numbers of those that are false, the first one's being n
abbrev pub numbers_of_false : ℕ → List Bool → List ℕ
numbers_of_false n [] = []
numbers_of_false n (true ∷ bs) = numbers_of_false (n + 1) bs
numbers_of_false n (false ∷ bs) = n ∷ numbers_of_false (n + 1) bs

-- the numbers of the rules that a unit breaks
abbrev pub broken : CUnit → List ℕ
broken u = numbers_of_false 1 (verdicts u)

-- ---- the units

-- a unit of nothing, which is well formed
abbrev pub blank : CUnit
blank = record {
  name = codes "a";
  types = [];
  storage = 0;
  need = 0;
  externs = [];
  handlers = [];
  rings = [];
  step = [];
}

abbrev pub byte_var : List ℕ → CVar
byte_var x = record { name = x; ty = ty.Scalar t.U8 }

abbrev pub point_def : CDef
point_def = def.Struct (codes "P") (byte_var (codes "x") ∷ [])

abbrev pub point_var : CVar
point_var = record { name = codes "p"; ty = ty.Struct (codes "P") }

-- handlers of nothing and of a byte
abbrev pub signal : CProto
signal = record { name = codes "t"; params = [] }

abbrev pub byte_signal : CProto
byte_signal = record { name = codes "t"; params = ty.Scalar t.U8 ∷ [] }

-- a ring of one byte without an index, with this constant
abbrev pub byte_ring : ℕ → CRing
byte_ring w = record { name = codes "n"; ty = ty.Scalar t.U8; len = 1; indexed = false; init = w ∷ [] }

-- a name that begins with a digit
unfoldable pub bad_name : CUnit
bad_name = record blank { name = codes "1a" }

unfoldable pub two_externs_of_one_name : CUnit
two_externs_of_one_name = record blank { externs = byte_var (codes "x") ∷ byte_var (codes "x") ∷ []; storage = 2 }

unfoldable pub member_before_its_type : CUnit
member_before_its_type = record blank { types = def.Struct (codes "Q") (point_var ∷ []) ∷ point_def ∷ [] }

unfoldable pub copy_of_no_extern : CUnit
copy_of_no_extern = record blank { step = s.Copy (codes "x") ∷ [] }

unfoldable pub struct_without_members : CUnit
struct_without_members = record blank { types = def.Struct (codes "P") [] ∷ [] }

unfoldable pub literal_too_large : CUnit
literal_too_large = record blank { handlers = signal ∷ []; step = s.Call (codes "t") (e.Lit k.I 2147483648) [] ∷ [] }

unfoldable pub constant_too_large : CUnit
constant_too_large = record blank { rings = byte_ring 256 ∷ []; storage = 1 }

-- `!` of a struct. Its type is asked for again where it stands, here as a guard: no expression stands alone
unfoldable pub operand_is_a_struct : CUnit
operand_is_a_struct = record blank {
  types = point_def ∷ [];
  externs = point_var ∷ [];
  handlers = signal ∷ [];
  storage = 1;
  need = 1;
  step = s.Copy (codes "p") ∷ s.Call (codes "t") (e.Un u.Not (e.Copy (codes "p"))) [] ∷ [];
}

unfoldable pub argument_is_missing : CUnit
argument_is_missing = record blank { handlers = byte_signal ∷ []; step = s.Call (codes "t") e.True [] ∷ [] }

unfoldable pub guard_is_a_struct : CUnit
guard_is_a_struct = record blank {
  types = point_def ∷ [];
  externs = point_var ∷ [];
  handlers = signal ∷ [];
  storage = 1;
  step = s.Copy (codes "p") ∷ s.Call (codes "t") (e.Copy (codes "p")) [] ∷ [];
}

unfoldable pub argument_is_a_struct : CUnit
argument_is_a_struct = record blank {
  types = point_def ∷ [];
  externs = point_var ∷ [];
  handlers = byte_signal ∷ [];
  storage = 1;
  step = s.Copy (codes "p") ∷ s.Call (codes "t") e.True (e.Copy (codes "p") ∷ []) ∷ [];
}

unfoldable pub copy_is_read_first : CUnit
copy_is_read_first = record blank {
  externs = byte_var (codes "x") ∷ [];
  handlers = signal ∷ [];
  storage = 1;
  step = s.Call (codes "t") (e.Copy (codes "x")) [] ∷ s.Copy (codes "x") ∷ [];
}

unfoldable pub put_without_next : CUnit
put_without_next = record blank { rings = byte_ring 0 ∷ []; storage = 1; step = s.Put (codes "n") ∷ [] }

unfoldable pub array_of_nothing : CUnit
array_of_nothing = record blank { types = def.Array (codes "Word8") 0 ∷ [] }

-- `!` this many times around `true`
unfoldable pub nots : ℕ → CExpr
nots zero = e.True
nots (suc n) = e.Un u.Not (nots n)

-- a guard of this height
unfoldable pub tall : ℕ → CUnit
tall n = record blank { handlers = signal ∷ []; need = n; step = s.Call (codes "t") (nots n) [] ∷ [] }

unfoldable pub storage_is_one_more : CUnit
storage_is_one_more = record blank { storage = 1 }

-- the units, in the order of the rules
abbrev pub refused_units : List CUnit
refused_units =
    bad_name ∷ two_externs_of_one_name ∷ member_before_its_type ∷ copy_of_no_extern
    ∷ struct_without_members ∷ literal_too_large ∷ constant_too_large ∷ operand_is_a_struct
    ∷ argument_is_missing ∷ guard_is_a_struct ∷ argument_is_a_struct ∷ copy_is_read_first
    ∷ put_without_next ∷ array_of_nothing ∷ tall 8193 ∷ storage_is_one_more ∷ []

-- the rules that they break: each one its own, and an expression without a type also that of the place where it stands
abbrev pub rules_broken : List (List ℕ)
rules_broken =
    (1 ∷ []) ∷ (2 ∷ []) ∷ (3 ∷ []) ∷ (4 ∷ []) ∷ (5 ∷ []) ∷ (6 ∷ []) ∷ (7 ∷ []) ∷ (8 ∷ 10 ∷ [])
    ∷ (9 ∷ []) ∷ (10 ∷ []) ∷ (11 ∷ []) ∷ (12 ∷ []) ∷ (13 ∷ []) ∷ (14 ∷ []) ∷ (15 ∷ []) ∷ (16 ∷ []) ∷ []
