-- How a program is written: its header and its source, and what has no spelling.
-- The forms are those of ISO/IEC 9899:1999: literals 6.4.4.1, primary and postfix expressions 6.5.1 to 6.5.2.5,
-- unary operators and casts 6.5.3.3 and 6.5.4, binary operators 6.5.5 to 6.5.14, `?:` 6.5.15, enumerations 6.7.2.2,
-- initialisers 6.7.8. Each expression that has parts stands in brackets of its own, so no precedence is asked for.
use Rattle.std.specs.Prelude.{◌≡◌, ℕ, ◌+◌, max, Bool, true, false, ◌&&◌, ◌||◌, nat_le, nat_eq, if◌then◌else◌, List, [], ◌∷◌, ◌++◌, map, codes, is_some, ℤ, pos, negsuc, IsTrue}
use Rattle.std.specs.List.{flat_map, list_all}
use Rattle.std.specs.Option.{option_map_or}
use Rattle.std.specs.Fmt.{decimal}
use Rattle.sm_io.specs.Words.{is_name}
use Rattle.c99_tree.specs.declared.expr.CLit.{CLit}
use Rattle.c99_tree.specs.declared.expr.CLit.TheVariants as k
use Rattle.c99_tree.specs.declared.expr.CUn.{CUn}
use Rattle.c99_tree.specs.declared.expr.CUn.TheVariants as u
use Rattle.c99_tree.specs.declared.expr.CBin.{CBin}
use Rattle.c99_tree.specs.declared.expr.CBin.TheVariants as o
use Rattle.c99_tree.specs.declared.types.CScalar.{CScalar}
use Rattle.c99_tree.specs.declared.types.CScalar.TheVariants as t
use Rattle.c99_tree.specs.declared.types.CTy.{CTy}
use Rattle.c99_tree.specs.declared.types.CTy.TheVariants as ty
use Rattle.c99_tree.specs.declared.types.CVar.{CVar}
use Rattle.c99_tree.specs.declared.types.CDef.{CDef}
use Rattle.c99_tree.specs.declared.types.CDef.TheVariants as def
use Rattle.c99_tree.specs.declared.types.CProto.{CProto}
use Rattle.c99_tree.specs.declared.unit.CRing.{CRing}
use Rattle.c99_tree.specs.declared.unit.Unit.{Unit as CUnit}
use Rattle.c99_tree.specs.Tree.{Expr, Exprs, lit, yes, no, copy, head, cell, ring_at, un, bin, choose, cast, field, pick, arr, rec, none, more, Stmt, copies, calls, nexts, stores, moves, puts, statements}
use Rattle.c99_tree.specs.Words.{elem_type, is_element, is_ring_name}
use Rattle.c99_tree.specs.Lookup.{ring_of, arrays_in}
use Rattle.c99_tree.specs.Values.{Value, Values, number, struct_of, array_of, no_value, and_value, first_values}

-- ---- literals, operators and types

-- the suffix of a literal (6.4.4.1)
abbrev pub suffix : CLit → List ℕ
suffix k.I = []
suffix k.U = codes "U"
suffix k.LL = codes "LL"
suffix k.ULL = codes "ULL"

-- the largest literal of a suffix: the most that its type holds (6.4.4.1 paragraph 5)
abbrev pub most : CLit → ℕ
most k.I = 2147483647
most k.U = 4294967295
most k.LL = 9223372036854775807
most k.ULL = 18446744073709551615

-- the bytes `!`, `~` and `-`, and the one that ends a line
abbrev pub exclamation_mark : ℕ
exclamation_mark = 33

abbrev pub tilde : ℕ
tilde = 126

abbrev pub hyphen : ℕ
hyphen = 45

abbrev pub line_feed : ℕ
line_feed = 10

-- the byte of a unary operator
abbrev pub sign : CUn → ℕ
sign u.Not = exclamation_mark
sign u.BitNot = tilde
sign u.Neg = hyphen

abbrev pub operator : CBin → List ℕ
operator o.Add = codes "+"
operator o.Sub = codes "-"
operator o.Mul = codes "*"
operator o.Div = codes "/"
operator o.Rem = codes "%"
operator o.BitAnd = codes "&"
operator o.BitOr = codes "|"
operator o.BitXor = codes "^"
operator o.Shl = codes "<<"
operator o.Shr = codes ">>"
operator o.Eq = codes "=="
operator o.Ne = codes "!="
operator o.Lt = codes "<"
operator o.Le = codes "<="
operator o.Gt = codes ">"
operator o.Ge = codes ">="
operator o.And = codes "&&"
operator o.Or = codes "||"

-- the name of a scalar type (7.16, 7.18.1.1)
abbrev pub scalar_text : CScalar → List ℕ
scalar_text t.Bool = codes "bool"
scalar_text t.I8 = codes "int8_t"
scalar_text t.I16 = codes "int16_t"
scalar_text t.I32 = codes "int32_t"
scalar_text t.I64 = codes "int64_t"
scalar_text t.U8 = codes "uint8_t"
scalar_text t.U16 = codes "uint16_t"
scalar_text t.U32 = codes "uint32_t"
scalar_text t.U64 = codes "uint64_t"

-- the struct around an array of n elements, by its element's word
abbrev pub array_text : List ℕ → ℕ → List ℕ
array_text x n = codes "struct cp_arr_" ++ x ++ codes "_" ++ decimal n

abbrev pub type_text : CTy → List ℕ
type_text (ty.Scalar t) = scalar_text t
type_text (ty.Struct x) = codes "struct " ++ x
type_text (ty.Array x n) = array_text x n

-- ---- expressions

abbrev mutual
  pub text : Expr → List ℕ
  text (lit k n) = decimal n ++ suffix k
  text yes = codes "true"
  text no = codes "false"
  text (copy x) = codes "cp_c_" ++ x
  text (head r) = codes "cp_i_" ++ r
  text (cell r) = codes "cp_b_" ++ r
  text (ring_at r a) = codes "cp_b_" ++ r ++ codes "[" ++ text a ++ codes "]"
  text (un op a) = codes "(" ++ (sign op ∷ []) ++ text a ++ codes ")"
  text (bin op a b) = codes "(" ++ text a ++ codes " " ++ operator op ++ codes " " ++ text b ++ codes ")"
  text (choose c a b) = codes "(" ++ text c ++ codes " ? " ++ text a ++ codes " : " ++ text b ++ codes ")"
  text (cast ty a) = codes "((" ++ scalar_text ty ++ codes ")" ++ text a ++ codes ")"
  text (field a x) = codes "(" ++ text a ++ codes "." ++ x ++ codes ")"
  text (pick x n a i) = codes "cp_ix_" ++ x ++ codes "_" ++ decimal n ++ codes "(" ++ text a ++ codes ", " ++ text i ++ codes ")"
  text (arr x n all) = codes "((" ++ array_text x n ++ codes "){ { " ++ parted [] all ++ codes " } })"
  text (rec x all) = codes "((struct " ++ x ++ codes "){ " ++ parted [] all ++ codes " })"

  -- each behind its separator: none for the first
  pub parted : List ℕ → Exprs → List ℕ
  parted before none = []
  parted before (more e es) = before ++ text e ++ parted (codes ", ") es

-- the height of an expression: 0 of a literal and of a name, and one more than the highest part of each other form
abbrev mutual
  pub height : Expr → ℕ
  height (lit k n) = 0
  height yes = 0
  height no = 0
  height (copy x) = 0
  height (head r) = 0
  height (cell r) = 0
  height (ring_at r a) = height a + 1
  height (un op a) = height a + 1
  height (bin op a b) = max (height a) (height b) + 1
  height (choose c a b) = max (height c) (max (height a) (height b)) + 1
  height (cast ty a) = height a + 1
  height (field a x) = height a + 1
  height (pick x n a i) = max (height a) (height i) + 1
  height (arr x n all) = highest all + 1
  height (rec x all) = highest all + 1

  pub highest : Exprs → ℕ
  highest none = 0
  highest (more e es) = max (height e) (highest es)

-- the most that an expression or a constant may be high
abbrev pub most_height : ℕ
most_height = 8192

-- a number that the text can hold: 32 bits, as a literal with `U`
abbrev pub is_u32 : ℕ → Bool
is_u32 n = nat_le n (most k.U)

-- the names and the numbers of an expression are in range: its literals by their suffix, each name a name, and the
-- lengths of array types numbers of 32 bits. Empty lists are spelled
abbrev mutual
  pub is_spelled : Expr → Bool
  is_spelled (lit k n) = nat_le n (most k)
  is_spelled yes = true
  is_spelled no = true
  is_spelled (copy x) = is_name x
  is_spelled (head r) = is_ring_name r
  is_spelled (cell r) = is_ring_name r
  is_spelled (ring_at r a) = is_ring_name r && is_spelled a
  is_spelled (un op a) = is_spelled a
  is_spelled (bin op a b) = is_spelled a && is_spelled b
  is_spelled (choose c a b) = is_spelled c && is_spelled a && is_spelled b
  is_spelled (cast ty a) = is_spelled a
  is_spelled (field a x) = is_spelled a && is_name x
  is_spelled (pick x n a i) = is_element x && is_u32 n && is_spelled a && is_spelled i
  is_spelled (arr x n all) = is_element x && is_u32 n && are_spelled all
  is_spelled (rec x all) = is_name x && are_spelled all

  pub are_spelled : Exprs → Bool
  are_spelled none = true
  are_spelled (more e es) = is_spelled e && are_spelled es

-- ---- constants in initialisers

-- a signed constant: a negative one is -w - 1, since the least number has no literal of its own (6.4.4.1)
abbrev pub signed_constant : List ℕ → ℤ → List ℕ
signed_constant tail (pos n) = decimal n ++ tail
signed_constant tail (negsuc w) = codes "((-" ++ decimal w ++ tail ++ codes ") - 1" ++ tail ++ codes ")"

abbrev pub unsigned_constant : List ℕ → ℤ → List ℕ
unsigned_constant tail (pos n) = decimal n ++ tail
unsigned_constant tail (negsuc w) = []

-- any number but 0 is true (6.3.1.2)
abbrev pub bool_constant : ℤ → List ℕ
bool_constant z = if is_none_of z then codes "false" else codes "true"
  where
    is_none_of : ℤ → Bool
    is_none_of (pos n) = nat_eq n 0
    is_none_of (negsuc n) = false

abbrev pub number_constant : CScalar → ℤ → List ℕ
number_constant t.Bool z = bool_constant z
number_constant t.I8 z = signed_constant [] z
number_constant t.I16 z = signed_constant [] z
number_constant t.I32 z = signed_constant [] z
number_constant t.I64 z = signed_constant (codes "LL") z
number_constant t.U8 z = unsigned_constant (codes "U") z
number_constant t.U16 z = unsigned_constant (codes "U") z
number_constant t.U32 z = unsigned_constant (codes "U") z
number_constant t.U64 z = unsigned_constant (codes "ULL") z

abbrev mutual
  -- a constant; a struct stands in one pair of braces, an array's struct in two (6.7.8 paragraph 16)
  pub constant : Value → List ℕ
  constant (number x) = number_constant x.ty x.n
  constant (struct_of vs) = codes "{ " ++ constants [] vs ++ codes " }"
  constant (array_of vs) = codes "{ { " ++ constants [] vs ++ codes " } }"

  pub constants : List ℕ → Values → List ℕ
  constants before no_value = []
  constants before (and_value v vs) = before ++ constant v ++ constants (codes ", ") vs

abbrev pub number_height : ℤ → ℕ
number_height (pos n) = 0
number_height (negsuc n) = 2

-- the height of a constant: that of its expression, and one more for each pair of braces
abbrev mutual
  pub constant_height : Value → ℕ
  constant_height (number x) = number_height x.n
  constant_height (struct_of vs) = highest_constant vs + 1
  constant_height (array_of vs) = highest_constant vs + 2

  pub highest_constant : Values → ℕ
  highest_constant no_value = 0
  highest_constant (and_value v vs) = max (constant_height v) (highest_constant vs)

-- ---- lines

abbrev pub line : List ℕ → List ℕ
line bytes = bytes ++ line_feed ∷ []

abbrev pub with_commas : List (List ℕ) → List ℕ
with_commas [] = []
with_commas (a ∷ []) = a
with_commas (a ∷ b ∷ all) = a ++ codes ", " ++ with_commas (b ∷ all)

-- ---- the header

abbrev pub field_text : CVar → List ℕ
field_text x = codes " " ++ type_text x.ty ++ codes " " ++ x.name ++ codes ";"

abbrev pub type_line : CDef → List ℕ
type_line (def.Struct x fields) = line (codes "struct " ++ x ++ codes " {" ++ flat_map field_text fields ++ codes " };")
type_line (def.Array x n) =
    line (array_text x n ++ codes " { " ++ type_text (elem_type x) ++ codes " e[" ++ decimal n ++ codes "]; };")

abbrev pub extern_line : CVar → List ℕ
extern_line x = line (codes "extern " ++ type_text x.ty ++ codes " " ++ x.name ++ codes ";")

abbrev pub params_text : List CTy → List ℕ
params_text [] = codes "void"
params_text (t ∷ ts) = with_commas (map type_text (t ∷ ts))

abbrev pub handler_line : CProto → List ℕ
handler_line h = line (codes "void " ++ h.name ++ codes "(" ++ params_text h.params ++ codes ");")

abbrev pub header_text : CUnit → List ℕ
header_text u =
    line (codes "#ifndef CP_" ++ u.name ++ codes "_H")
    ++ line (codes "#define CP_" ++ u.name ++ codes "_H")
    ++ line (codes "#include <stdint.h>")
    ++ line (codes "#include <stdbool.h>")
    ++ line (codes "enum { cp_storage = " ++ decimal u.storage ++ codes ", cp_need = " ++ decimal u.need ++ codes " };")
    ++ flat_map type_line u.types
    ++ flat_map extern_line u.externs
    ++ flat_map handler_line u.handlers
    ++ line (codes "void step(void);")
    ++ line (codes "#endif")

-- ---- the source

-- the function that reads an element of an array type
abbrev pub pick_line : (List ℕ × ℕ) → List ℕ
pick_line a =
    line (codes "static " ++ type_text (elem_type a.0) ++ codes " cp_ix_" ++ a.0 ++ codes "_" ++ decimal a.1
    ++ codes "(" ++ array_text a.0 a.1 ++ codes " cp_a, uint32_t cp_k) { return cp_a.e[cp_k]; }")

abbrev pub copy_line : CVar → List ℕ
copy_line x = line (codes "static " ++ type_text x.ty ++ codes " cp_c_" ++ x.name ++ codes ";")

-- the objects of a ring with these first values
abbrev pub ring_lines_of : CRing → List Value → List ℕ
ring_lines_of r vs =
    if r.indexed then
    line (codes "static " ++ type_text r.ty ++ codes " cp_b_" ++ r.name ++ codes "[" ++ decimal r.len ++ codes "] = { "
    ++ with_commas (map constant vs) ++ codes " };")
    ++ line (codes "static uint32_t cp_i_" ++ r.name ++ codes " = 0U;")
    else
    line (codes "static " ++ type_text r.ty ++ codes " cp_b_" ++ r.name ++ codes " = " ++ with_commas (map constant vs) ++ codes ";")

abbrev pub ring_lines : List CDef → CRing → List ℕ
ring_lines ds r = option_map_or (ring_lines_of r) (first_values ds r) []

-- the type that a Next writes: that of the first ring of its name
abbrev pub type_of_ring : CUnit → List ℕ → List ℕ
type_of_ring u r = option_map_or (λ ring. type_text ring.ty) (ring_of u r) []

abbrev pub statement_line : CUnit → Stmt → List ℕ
statement_line u (copies x) = line (codes "  cp_c_" ++ x ++ codes " = " ++ x ++ codes ";")
statement_line u (calls h guard args) =
    line (codes "  if (" ++ text guard ++ codes ") { " ++ h ++ codes "(" ++ parted [] args ++ codes "); }")
statement_line u (nexts r e) = line (codes "  " ++ type_of_ring u r ++ codes " cp_n_" ++ r ++ codes " = " ++ text e ++ codes ";")
statement_line u (stores r e) = line (codes "  cp_b_" ++ r ++ codes "[" ++ text e ++ codes "] = cp_n_" ++ r ++ codes ";")
statement_line u (moves r e) = line (codes "  cp_i_" ++ r ++ codes " = " ++ text e ++ codes ";")
statement_line u (puts r) = line (codes "  cp_b_" ++ r ++ codes " = cp_n_" ++ r ++ codes ";")

abbrev pub source_text : CUnit → List ℕ
source_text u =
    line (codes "#include \"" ++ u.name ++ codes ".h\"")
    ++ flat_map pick_line (arrays_in u.types)
    ++ flat_map copy_line u.externs
    ++ flat_map (ring_lines u.types) u.rings
    ++ line (codes "void step(void)")
    ++ line (codes "{")
    ++ flat_map (statement_line u) (statements u)
    ++ line (codes "}")

-- ---- what has a spelling

-- the names and the length that a type is written with
abbrev pub is_spelled_type : CTy → Bool
is_spelled_type (ty.Scalar t) = true
is_spelled_type (ty.Struct x) = is_name x
is_spelled_type (ty.Array x n) = is_element x && is_u32 n

abbrev pub is_spelled_var : CVar → Bool
is_spelled_var x = is_name x.name && is_spelled_type x.ty

abbrev pub is_spelled_def : CDef → Bool
is_spelled_def (def.Struct x fields) = is_name x && list_all is_spelled_var fields
is_spelled_def (def.Array x n) = is_element x && is_u32 n

abbrev pub is_spelled_handler : CProto → Bool
is_spelled_handler h = is_name h.name && list_all is_spelled_type h.params

-- a ring's constants are in range and as many as its values have words, its type has a shape, no constant is higher
-- than the most, and without an index its length is 1
abbrev pub is_spelled_ring : List CDef → CRing → Bool
is_spelled_ring ds r =
    is_ring_name r.name && is_spelled_type r.ty && is_u32 r.len && (r.indexed || nat_eq r.len 1)
    && option_map_or (list_all (λ v. nat_le (constant_height v) most_height)) (first_values ds r) false

abbrev pub is_spelled_here : Expr → Bool
is_spelled_here e = is_spelled e && nat_le (height e) most_height

abbrev pub are_spelled_here : Exprs → Bool
are_spelled_here none = true
are_spelled_here (more e es) = is_spelled_here e && are_spelled_here es

-- a Next is spelled where some ring has its name, since it writes that ring's type
abbrev pub is_spelled_statement : CUnit → Stmt → Bool
is_spelled_statement u (copies x) = is_name x
is_spelled_statement u (calls h guard args) = is_name h && is_spelled_here guard && are_spelled_here args
is_spelled_statement u (nexts r e) = is_ring_name r && is_some (ring_of u r) && is_spelled_here e
is_spelled_statement u (stores r e) = is_ring_name r && is_spelled_here e
is_spelled_statement u (moves r e) = is_ring_name r && is_spelled_here e
is_spelled_statement u (puts r) = is_ring_name r

-- a unit that has a header and a source
pub record HasSpelling (u : CUnit) : Type 0 where
  pub name : IsTrue (is_name u.name)
  pub numbers : IsTrue (is_u32 u.storage && is_u32 u.need)
  pub types : IsTrue (list_all is_spelled_def u.types)
  pub externs : IsTrue (list_all is_spelled_var u.externs)
  pub handlers : IsTrue (list_all is_spelled_handler u.handlers)
  pub rings : IsTrue (list_all (is_spelled_ring u.types) u.rings)
  pub step : IsTrue (list_all (is_spelled_statement u) (statements u))

-- these two texts spell the unit
pub record Spells (u : CUnit) (header source : List ℕ) : Type 0 where
  pub spelled : HasSpelling u
  pub header_is : header ≡ header_text u
  pub source_is : source ≡ source_text u
