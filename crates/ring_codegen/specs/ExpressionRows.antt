-- Data of worked rows: each form of expression, and its translation as it is written.
use Rattle.std.specs.Prelude.{ℕ, List, [], ◌∷◌, codes}
use Rattle.stream_types.specs.declared.scalar.Scalar.TheVariants as scalar
use Rattle.stream_types.specs.declared.scalar.Ty.{Ty}
use Rattle.stream_types.specs.declared.scalar.Ty.TheVariants as ty
use Rattle.stream_types.specs.declared.scalar.Op1.TheVariants as op1
use Rattle.stream_types.specs.declared.scalar.Op2.TheVariants as op2
use Rattle.stream_types.specs.declared.scalar.Dir.TheVariants as dir
use Rattle.stream_types.specs.declared.types.TypeEntry.TheVariants as entry
use Rattle.stream_core.specs.declared.spec.ExternItem.{ExternItem}
use Rattle.stream_core.specs.Term.{Term, lit, extern, stream, named, dropped, un, bin, shift, cast, and, or, implies, choose, index, field, array, struct, end, more, TreeSpec}
use Rattle.c99_tree.specs.Spelling.{text}
use Rattle.c99_tree.specs.Tree.{tree}
use Rattle.ring_codegen.specs.Translation.{translated}
use Rattle.ring_codegen.specs.TranslationRows.{spec_of, stream_of}

abbrev pub item : List ℕ → Ty → ExternItem
item name t = record { name = name; ty = t }

-- (spec e (struct P (x Int16) (y Int16)) (extern p Bool) (extern q Bool) (extern a Int8) (extern b Int8) (extern h Word16)
-- (extern d Int64) (extern w Word64) (extern s P) (extern g (array P 3)) (extern i Word32)
-- (stream r Int32 (1:Int32) r) (stream v Int32 (1:Int32 2:Int32 3:Int32) v)), and the type of two Int8
abbrev pub probe : TreeSpec
probe = spec_of (codes "e")
    (entry.Struct (codes "P") (record { name = codes "x"; ty = ty.Scalar scalar.Int16 } ∷ record { name = codes "y"; ty = ty.Scalar scalar.Int16 } ∷ [])
    ∷ entry.Array (ty.Struct 0) 3 ∷ entry.Array (ty.Scalar scalar.Int8) 2 ∷ [])
    (item (codes "p") (ty.Scalar scalar.Bool) ∷ item (codes "q") (ty.Scalar scalar.Bool)
    ∷ item (codes "a") (ty.Scalar scalar.Int8) ∷ item (codes "b") (ty.Scalar scalar.Int8)
    ∷ item (codes "h") (ty.Scalar scalar.Word16) ∷ item (codes "d") (ty.Scalar scalar.Int64)
    ∷ item (codes "w") (ty.Scalar scalar.Word64) ∷ item (codes "s") (ty.Struct 0)
    ∷ item (codes "g") (ty.Array 1) ∷ item (codes "i") (ty.Scalar scalar.Word32) ∷ [])
    (stream_of (codes "r") scalar.Int32 (1 ∷ []) (stream 0) ∷ stream_of (codes "v") scalar.Int32 (1 ∷ 2 ∷ 3 ∷ []) (stream 1) ∷ [])
    []

-- the externs of the probe
abbrev pub p : Term
p = extern 0

abbrev pub q : Term
q = extern 1

abbrev pub a : Term
a = extern 2

abbrev pub b : Term
b = extern 3

abbrev pub h : Term
h = extern 4

abbrev pub d : Term
d = extern 5

abbrev pub w : Term
w = extern 6

abbrev pub i : Term
i = extern 9

-- the text of an expression's translation
abbrev pub written : Term → List ℕ
written e = text (tree (translated probe e))

abbrev pub expression_rows : List (List ℕ × Term)
expression_rows =
    (codes "((int8_t)(((int32_t)cp_c_a) + ((int32_t)cp_c_b)))", bin op2.Add scalar.Int8 a b)
    ∷ (codes "((int8_t)(((int32_t)cp_c_a) - ((int32_t)cp_c_b)))", bin op2.Sub scalar.Int8 a b)
    ∷ (codes "((int8_t)(((int32_t)cp_c_a) * ((int32_t)cp_c_b)))", bin op2.Mul scalar.Int8 a b)
    ∷ (codes "((int8_t)(((int32_t)cp_c_a) / ((int32_t)cp_c_b)))", bin op2.Quot scalar.Int8 a b)
    ∷ (codes "((int8_t)(((int32_t)cp_c_a) % ((int32_t)cp_c_b)))", bin op2.Rem scalar.Int8 a b)
    ∷ (codes "((int8_t)(((int32_t)cp_c_a) & ((int32_t)cp_c_b)))", bin op2.BitAnd scalar.Int8 a b)
    ∷ (codes "((int8_t)(((int32_t)cp_c_a) | ((int32_t)cp_c_b)))", bin op2.BitOr scalar.Int8 a b)
    ∷ (codes "((int8_t)(((int32_t)cp_c_a) ^ ((int32_t)cp_c_b)))", bin op2.BitXor scalar.Int8 a b)
    ∷ (codes "((uint16_t)(((uint32_t)cp_c_h) * ((uint32_t)cp_c_h)))", bin op2.Mul scalar.Word16 h h)
    ∷ (codes "((int64_t)(((int64_t)cp_c_d) - ((int64_t)cp_c_d)))", bin op2.Sub scalar.Int64 d d)
    ∷ (codes "((uint64_t)(((uint64_t)cp_c_w) / ((uint64_t)cp_c_w)))", bin op2.Quot scalar.Word64 w w)
    ∷ (codes "((int8_t)(((int32_t)cp_c_a) << cp_c_i))", shift dir.Left scalar.Int8 a scalar.Word32 i)
    ∷ (codes "((uint16_t)(((uint32_t)cp_c_h) >> cp_c_a))", shift dir.Right scalar.Word16 h scalar.Int8 a)
    ∷ (codes "((uint16_t)(~((uint32_t)cp_c_h)))", un op1.BitNot scalar.Word16 h)
    ∷ (codes "(cp_c_a == cp_c_b)", bin op2.Eq scalar.Int8 a b)
    ∷ (codes "(cp_c_a != cp_c_b)", bin op2.Ne scalar.Int8 a b)
    ∷ (codes "(cp_c_a < cp_c_b)", bin op2.Lt scalar.Int8 a b)
    ∷ (codes "(cp_c_a <= cp_c_b)", bin op2.Le scalar.Int8 a b)
    ∷ (codes "(cp_c_a > cp_c_b)", bin op2.Gt scalar.Int8 a b)
    ∷ (codes "(cp_c_a >= cp_c_b)", bin op2.Ge scalar.Int8 a b)
    ∷ (codes "(!cp_c_p)", un op1.Not scalar.Bool p)
    ∷ (codes "(cp_c_p && cp_c_q)", and p q)
    ∷ (codes "(cp_c_p || cp_c_q)", or p q)
    ∷ (codes "((!cp_c_p) || cp_c_q)", implies p q)
    ∷ (codes "(cp_c_p ? cp_c_a : cp_c_b)", choose p a b)
    ∷ (codes "((uint64_t)cp_c_a)", cast scalar.Int8 scalar.Word64 a)
    ∷ (codes "true", lit scalar.Bool 1)
    ∷ (codes "false", lit scalar.Bool 0)
    ∷ (codes "9", lit scalar.Int16 9)
    ∷ (codes "((-127) - 1)", lit scalar.Int8 18446744073709551488)
    ∷ (codes "9LL", lit scalar.Int64 9)
    ∷ (codes "((-0LL) - 1LL)", lit scalar.Int64 18446744073709551615)
    ∷ (codes "9U", lit scalar.Word8 9)
    ∷ (codes "9ULL", lit scalar.Word64 9)
    ∷ (codes "cp_b_r", stream 0)
    ∷ (codes "cp_b_r", dropped 0 0)
    ∷ (codes "cp_b_v[((cp_i_v + 0U) % 3U)]", stream 1)
    ∷ (codes "cp_b_v[((cp_i_v + 2U) % 3U)]", dropped 1 2)
    ∷ (codes "cp_ix_P_3(cp_c_g, cp_c_i)", index (ty.Array 1) (extern 8) i)
    ∷ (codes "(cp_c_s.y)", field (ty.Struct 0) 1 (extern 7))
    ∷ (codes "((struct cp_arr_Int8_2){ { cp_c_a, cp_c_b } })", array (ty.Array 2) (more a (more b end)))
    ∷ (codes "((struct P){ 1, 2 })", struct (ty.Struct 0) (more (lit scalar.Int16 1) (more (lit scalar.Int16 2) end)))
    ∷ (codes "cp_c_a", named 0 a) ∷ []
