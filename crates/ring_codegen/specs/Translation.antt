-- The translation of a plain specification, without library forms and with its defs written out, to a program.
-- It fixes which of the programs that do what the specification means is written. Externs, handlers and members have
-- their own names; streams, and behind them buffers, are rings.
-- Sections are those of ISO/IEC 9899:1999.
use Rattle.std.specs.Prelude.{ℕ, Bool, nat_le, nat_eq, if◌then◌else◌, List, [], ◌∷◌, ◌++◌, map, slice_get, Option, Some, None, ℤ, pos, negsuc}
use Rattle.std.specs.List.{flat_map}
use Rattle.std.specs.Option.{option_map_or}
use Rattle.stream_types.specs.declared.scalar.Scalar.{Scalar}
use Rattle.stream_types.specs.declared.scalar.Scalar.TheVariants as scalar
use Rattle.stream_types.specs.declared.scalar.Ty.{Ty}
use Rattle.stream_types.specs.declared.scalar.Ty.TheVariants as ty
use Rattle.stream_types.specs.declared.scalar.Op1.{Op1}
use Rattle.stream_types.specs.declared.scalar.Op1.TheVariants as op1
use Rattle.stream_types.specs.declared.scalar.Op2.{Op2}
use Rattle.stream_types.specs.declared.scalar.Op2.TheVariants as op2
use Rattle.stream_types.specs.declared.scalar.Dir.{Dir}
use Rattle.stream_types.specs.declared.scalar.Dir.TheVariants as dir
use Rattle.stream_types.specs.declared.types.Field.{Field}
use Rattle.stream_types.specs.declared.types.TypeEntry.{TypeEntry}
use Rattle.stream_types.specs.declared.types.TypeEntry.TheVariants as entry
use Rattle.stream_types.specs.Numbers.{number}
use Rattle.stream_core.specs.declared.spec.ExternItem.{ExternItem}
use Rattle.stream_core.specs.Term.{Term, Terms, lit, extern, stream, def, named, missing, dropped, un, bin, shift, cast, and, or, implies, choose, index, field, array, struct, abs, sign, majority, agreed, lib, end, more, TreeSpec, TreeStream, TreeTrigger, TreeRoot, initial_count}
use Rattle.c99_tree.specs.declared.expr.CLit.{CLit}
use Rattle.c99_tree.specs.declared.expr.CLit.TheVariants as k
use Rattle.c99_tree.specs.declared.expr.CUn.TheVariants as u
use Rattle.c99_tree.specs.declared.expr.CBin.{CBin}
use Rattle.c99_tree.specs.declared.expr.CBin.TheVariants as o
use Rattle.c99_tree.specs.declared.expr.CExpr.{CExpr}
use Rattle.c99_tree.specs.declared.expr.CExpr.TheVariants as e
use Rattle.c99_tree.specs.declared.types.CScalar.{CScalar}
use Rattle.c99_tree.specs.declared.types.CScalar.TheVariants as c
use Rattle.c99_tree.specs.declared.types.CTy.{CTy}
use Rattle.c99_tree.specs.declared.types.CTy.TheVariants as cty
use Rattle.c99_tree.specs.declared.unit.CRing.{CRing}
use Rattle.c99_tree.specs.declared.unit.CStmt.{CStmt}
use Rattle.c99_tree.specs.declared.unit.CStmt.TheVariants as s
use Rattle.c99_tree.specs.declared.unit.Unit.{Unit as CUnit}
use Rattle.c99_tree.specs.Storage.{storage_of}
use Rattle.c99_tree.specs.Weight.{unit_weight_of}
use Rattle.ring_codegen.specs.CTypes.{c_scalar, c_type, c_def, c_extern, c_handlers}

-- ---- literals and operators

-- the type that arithmetic is done in, of 32 or of 64 bits; uint32_t keeps a narrow unsigned number from becoming an int (6.3.1.1)
abbrev pub wide : Scalar → CScalar
wide scalar.Bool = c.I32
wide scalar.Int8 = c.I32
wide scalar.Int16 = c.I32
wide scalar.Int32 = c.I32
wide scalar.Int64 = c.I64
wide scalar.Word8 = c.U32
wide scalar.Word16 = c.U32
wide scalar.Word32 = c.U32
wide scalar.Word64 = c.U64

-- a negative number is -w - 1, since the least number has no literal of its own (6.4.4.1)
abbrev pub constant : CLit → ℤ → CExpr
constant suffix (pos n) = e.Lit suffix n
constant suffix (negsuc w) = e.Bin o.Sub (e.Un u.Neg (e.Lit suffix w)) (e.Lit suffix 1)

abbrev pub literal : Scalar → ℕ → CExpr
literal scalar.Bool w = if nat_eq w 0 then e.False else e.True
literal scalar.Int8 w = constant k.I (number scalar.Int8 w)
literal scalar.Int16 w = constant k.I (number scalar.Int16 w)
literal scalar.Int32 w = constant k.I (number scalar.Int32 w)
literal scalar.Int64 w = constant k.LL (number scalar.Int64 w)
literal scalar.Word8 w = constant k.U (number scalar.Word8 w)
literal scalar.Word16 w = constant k.U (number scalar.Word16 w)
literal scalar.Word32 w = constant k.U (number scalar.Word32 w)
literal scalar.Word64 w = constant k.ULL (number scalar.Word64 w)

-- `((ct)(((wt)A) + ((wt)B)))`
abbrev pub arithmetic : CBin → Scalar → CExpr → CExpr → CExpr
arithmetic op t a b = e.Cast (c_scalar t) (e.Bin op (e.Cast (wide t) a) (e.Cast (wide t) b))

abbrev pub binary : Op2 → Scalar → CExpr → CExpr → CExpr
binary op2.Add t a b = arithmetic o.Add t a b
binary op2.Sub t a b = arithmetic o.Sub t a b
binary op2.Mul t a b = arithmetic o.Mul t a b
binary op2.Quot t a b = arithmetic o.Div t a b
binary op2.Rem t a b = arithmetic o.Rem t a b
binary op2.BitAnd t a b = arithmetic o.BitAnd t a b
binary op2.BitOr t a b = arithmetic o.BitOr t a b
binary op2.BitXor t a b = arithmetic o.BitXor t a b
binary op2.Eq t a b = e.Bin o.Eq a b
binary op2.Ne t a b = e.Bin o.Ne a b
binary op2.Lt t a b = e.Bin o.Lt a b
binary op2.Le t a b = e.Bin o.Le a b
binary op2.Gt t a b = e.Bin o.Gt a b
binary op2.Ge t a b = e.Bin o.Ge a b

-- `(!A)`, and `((ct)(~((wt)A)))`
abbrev pub unary : Op1 → Scalar → CExpr → CExpr
unary op1.Not t a = e.Un u.Not a
unary op1.BitNot t a = e.Cast (c_scalar t) (e.Un u.BitNot (e.Cast (wide t) a))

abbrev pub shift_sign : Dir → CBin
shift_sign dir.Left = o.Shl
shift_sign dir.Right = o.Shr

-- `((ct)(((wt)A) << B))`
abbrev pub shifted : Dir → Scalar → CExpr → CExpr → CExpr
shifted d t a b = e.Cast (c_scalar t) (e.Bin (shift_sign d) (e.Cast (wide t) a) b)

-- ---- externs and streams

-- stands for what no plain and well typed specification has
abbrev pub absent : CExpr
absent = e.False

abbrev pub extern_value : Option ExternItem → CExpr
extern_value None = absent
extern_value (Some x) = e.Copy x.name

-- two and more values are kept with an index
abbrev pub is_indexed : List TypeEntry → TreeStream → Bool
is_indexed types x = nat_le 2 (initial_count types x)

-- `((cp_i_r + nU) % lenU)`: n places behind a ring's index
abbrev pub place_behind : List TypeEntry → TreeStream → ℕ → CExpr
place_behind types x n = e.Bin o.Rem (e.Bin o.Add (e.Head x.name) (e.Lit k.U n)) (e.Lit k.U (initial_count types x))

-- a stream's value n steps ahead of its first
abbrev pub stream_value : List TypeEntry → ℕ → Option TreeStream → CExpr
stream_value types n None = absent
stream_value types n (Some x) = if is_indexed types x then e.RingAt x.name (place_behind types x n) else e.Cell x.name

-- ---- arrays and structs

abbrev pub picked : CTy → CExpr → CExpr → CExpr
picked (cty.Array x n) a i = e.Pick x n a i
picked _ a i = absent

abbrev pub array_value : CTy → List CExpr → CExpr
array_value (cty.Array x n) all = e.Arr x n all
array_value _ all = absent

abbrev pub struct_value : CTy → List CExpr → CExpr
struct_value (cty.Struct x) all = e.Rec x all
struct_value _ all = absent

abbrev pub entry_of : List TypeEntry → Ty → Option TypeEntry
entry_of types (ty.Struct i) = slice_get types i
entry_of types _ = None

-- the name of a struct's member
abbrev pub member_name : Option TypeEntry → ℕ → List ℕ
member_name (Some (entry.Struct name fields)) m = option_map_or (λ (f : Field). f.name) (slice_get fields m) []
member_name _ m = []

-- ---- expressions

abbrev mutual
  pub translated : TreeSpec → Term → CExpr
  translated spec (lit t w) = literal t w
  translated spec (extern x) = extern_value (slice_get spec.externs x)
  translated spec (stream x) = stream_value spec.types 0 (slice_get spec.streams x)
  translated spec (def d) = absent
  translated spec (named d a) = translated spec a
  translated spec missing = absent
  translated spec (dropped x n) = stream_value spec.types n (slice_get spec.streams x)
  translated spec (un op t a) = unary op t (translated spec a)
  translated spec (bin op t a b) = binary op t (translated spec a) (translated spec b)
  translated spec (shift d t a ct n) = shifted d t (translated spec a) (translated spec n)
  translated spec (cast from to a) = e.Cast (c_scalar to) (translated spec a)
  translated spec (and a b) = e.Bin o.And (translated spec a) (translated spec b)
  translated spec (or a b) = e.Bin o.Or (translated spec a) (translated spec b)
  translated spec (implies a b) = e.Bin o.Or (e.Un u.Not (translated spec a)) (translated spec b)
  translated spec (choose p a b) = e.Cond (translated spec p) (translated spec a) (translated spec b)
  translated spec (index t a i) = picked (c_type spec.types t) (translated spec a) (translated spec i)
  translated spec (field t m a) = e.Field (translated spec a) (member_name (entry_of spec.types t) m)
  translated spec (array t es) = array_value (c_type spec.types t) (all_translated spec es)
  translated spec (struct t es) = struct_value (c_type spec.types t) (all_translated spec es)
  translated spec (abs t a) = absent
  translated spec (sign t a) = absent
  translated spec (majority t es) = absent
  translated spec (agreed t es) = absent
  translated spec (lib n form es) = absent

  pub all_translated : TreeSpec → Terms → List CExpr
  all_translated spec end = []
  all_translated spec (more a es) = translated spec a ∷ all_translated spec es

-- ---- rings and statements

abbrev pub ring_of : List TypeEntry → TreeStream → CRing
ring_of types x = record { name = x.name; ty = c_type types x.ty; len = initial_count types x; indexed = is_indexed types x; init = x.init }

-- `cp_c_x = x;`
abbrev pub copy_statement : ExternItem → CStmt
copy_statement x = s.Copy x.name

-- `if (E) { h(E, E); }`
abbrev pub trigger_statement : TreeSpec → TreeTrigger → CStmt
trigger_statement spec x = s.Call x.name (translated spec x.guard.expr) (map (λ (r : TreeRoot). translated spec r.expr) x.args)

-- `T cp_n_r = E;`
abbrev pub next_statement : TreeSpec → TreeStream → CStmt
next_statement spec x = s.Next x.name (translated spec x.expr)

-- `cp_b_r = cp_n_r;`, or `cp_b_r[cp_i_r] = cp_n_r;` directly followed by `cp_i_r = ((cp_i_r + 1U) % lenU);`
abbrev pub write_statements : List TypeEntry → TreeStream → List CStmt
write_statements types x =
    if is_indexed types x
    then s.Store x.name (e.Head x.name) ∷ s.Move x.name (place_behind types x 1) ∷ []
    else s.Put x.name ∷ []

-- all externs are copied, the triggers' handlers called, each stream's next value computed, and then each written
abbrev pub translated_step : TreeSpec → List CStmt
translated_step spec =
    map copy_statement spec.externs ++ map (trigger_statement spec) spec.triggers ++ map (next_statement spec) spec.streams ++ flat_map (write_statements spec.types) spec.streams

-- ---- the program

-- the program with its own storage and weight in its header
abbrev pub with_totals : CUnit → CUnit
with_totals unit = record unit { storage = storage_of unit; need = unit_weight_of unit }

-- the program with zeros in place of its totals
abbrev pub without_totals : TreeSpec → List ℕ → CUnit
without_totals spec name = record {
  name = name;
  types = map (c_def spec.types) spec.types;
  storage = 0;
  need = 0;
  externs = map (c_extern spec.types) spec.externs;
  handlers = c_handlers spec;
  rings = map (ring_of spec.types) spec.streams;
  step = translated_step spec;
}

abbrev pub translation : TreeSpec → List ℕ → CUnit
translation spec name = with_totals (without_totals spec name)
