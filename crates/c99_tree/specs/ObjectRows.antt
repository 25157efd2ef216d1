-- Data of worked rows: what is read from copies, rings and arrays, and compound literals.
use Rattle.std.specs.Prelude.{List, [], ◌∷◌, codes, pos}
use Rattle.c99_tree.specs.Tree.{lit, yes, no, copy, head, cell, ring_at, un, bin, choose, field, pick, arr, rec, none, more}
use Rattle.c99_tree.specs.Values.{number, struct_of, array_of, no_value, and_value}
use Rattle.c99_tree.specs.CTypes.{num}
use Rattle.c99_tree.specs.Rows.{Row, gives, stops, holds, breaks, minus}
use Rattle.c99_tree.specs.declared.expr.CLit.TheVariants as k
use Rattle.c99_tree.specs.declared.expr.CUn.TheVariants as u
use Rattle.c99_tree.specs.declared.expr.CBin.TheVariants as o
use Rattle.c99_tree.specs.declared.types.CScalar.TheVariants as t
use Rattle.c99_tree.specs.declared.types.CTy.TheVariants as ty
use Rattle.c99_tree.specs.declared.undefined.Undefined.TheVariants as why

-- copies, indices, cells, subscripts, `cp_ix` calls, members, and values of a list, over the statics of Rows.antt
unfoldable pub object_rows : List Row
object_rows =
    gives (codes "cp_c_w") (copy (codes "w")) t.U8 (pos 200) 0 0
    ∷ gives (codes "cp_i_r") (head (codes "r")) t.U32 (pos 2) 0 0
    ∷ gives (codes "cp_b_c") (cell (codes "c")) t.U8 (pos 7) 0 0
    ∷ gives (codes "cp_b_r[0]") (ring_at (codes "r") (lit k.I 0)) t.I16 (pos 10) 1 1
    ∷ gives (codes "cp_b_r[cp_i_r]") (ring_at (codes "r") (head (codes "r"))) t.I16 (minus 30) 1 1
    ∷ gives (codes "cp_b_r[(1 + 1)]") (ring_at (codes "r") (bin o.Add (lit k.I 1) (lit k.I 1))) t.I16 (minus 30) 2 2
    ∷ stops (codes "cp_b_r[3]") (ring_at (codes "r") (lit k.I 3)) t.I16 why.BadIndex 1 1
    ∷ stops (codes "cp_b_r[(-1)]") (ring_at (codes "r") (un u.Neg (lit k.I 1))) t.I16 why.BadIndex 2 2
    ∷ stops (codes "cp_b_r[4294967296LL]") (ring_at (codes "r") (lit k.LL 4294967296)) t.I16 why.BadIndex 1 1
    ∷ stops (codes "cp_b_r[(1 / 0)]") (ring_at (codes "r") (bin o.Div (lit k.I 1) (lit k.I 0))) t.I16 why.ZeroDivisor 2 2
    ∷ gives (codes "(cp_ix_P_3(cp_c_a, 2).x)")
    (field (pick (codes "P") 3 (copy (codes "a")) (lit k.I 2)) (codes "x")) t.I16 (minus 5) 3 3
    ∷ gives (codes "(cp_ix_P_3(cp_c_a, (1 + 1)).y)")
    (field (pick (codes "P") 3 (copy (codes "a")) (bin o.Add (lit k.I 1) (lit k.I 1))) (codes "y")) t.U8 (pos 6) 4 4
    ∷ gives (codes "(cp_ix_P_3(cp_c_a, 4294967296LL).y)")
    (field (pick (codes "P") 3 (copy (codes "a")) (lit k.LL 4294967296)) (codes "y")) t.U8 (pos 2) 3 3
    ∷ holds (codes "cp_ix_P_3(cp_c_a, 4294967296LL)")
    (pick (codes "P") 3 (copy (codes "a")) (lit k.LL 4294967296)) (ty.Struct (codes "P")) (struct_of (and_value (number (num t.I16 (pos 1))) (and_value (number (num t.U8 (pos 2))) no_value))) 2 2
    ∷ breaks (codes "cp_ix_P_3(cp_c_a, 3)")
    (pick (codes "P") 3 (copy (codes "a")) (lit k.I 3)) (ty.Struct (codes "P")) why.BadIndex 2 2
    ∷ breaks (codes "cp_ix_P_3(cp_c_a, (-1))")
    (pick (codes "P") 3 (copy (codes "a")) (un u.Neg (lit k.I 1))) (ty.Struct (codes "P")) why.BadIndex 3 3
    ∷ gives (codes "((true ? cp_ix_P_3(cp_c_a, 1) : cp_ix_P_3(cp_c_a, 7)).x)")
    (field (choose yes (pick (codes "P") 3 (copy (codes "a")) (lit k.I 1)) (pick (codes "P") 3 (copy (codes "a")) (lit k.I 7))) (codes "x")) t.I16 (pos 3) 4 6
    ∷ holds (codes "((struct P){ (-5), 300 })")
    (rec (codes "P") (more (un u.Neg (lit k.I 5)) (more (lit k.I 300) none))) (ty.Struct (codes "P")) (struct_of (and_value (number (num t.I16 (minus 5))) (and_value (number (num t.U8 (pos 44))) no_value))) 2 2
    ∷ breaks (codes "((struct P){ 40000, (1 / 0) })")
    (rec (codes "P") (more (lit k.I 40000) (more (bin o.Div (lit k.I 1) (lit k.I 0)) none))) (ty.Struct (codes "P")) why.BadConversion 1 2
    ∷ breaks (codes "((struct P){ (1 / 0), 40000 })")
    (rec (codes "P") (more (bin o.Div (lit k.I 1) (lit k.I 0)) (more (lit k.I 40000) none))) (ty.Struct (codes "P")) why.ZeroDivisor 2 2
    ∷ gives (codes "(((struct P){ 1, 2 }).y)")
    (field (rec (codes "P") (more (lit k.I 1) (more (lit k.I 2) none))) (codes "y")) t.U8 (pos 2) 2 2
    ∷ holds (codes "((struct cp_arr_Word8_2){ { 300, 7 } })")
    (arr (codes "Word8") 2 (more (lit k.I 300) (more (lit k.I 7) none))) (ty.Array (codes "Word8") 2) (array_of (and_value (number (num t.U8 (pos 44))) (and_value (number (num t.U8 (pos 7))) no_value))) 1 1
    ∷ breaks (codes "((struct cp_arr_Int8_2){ { 200, (1 / 0) } })")
    (arr (codes "Int8") 2 (more (lit k.I 200) (more (bin o.Div (lit k.I 1) (lit k.I 0)) none))) (ty.Array (codes "Int8") 2) why.BadConversion 1 2
    ∷ breaks (codes "((struct cp_arr_Int8_2){ { (1 / 0), 200 } })")
    (arr (codes "Int8") 2 (more (bin o.Div (lit k.I 1) (lit k.I 0)) (more (lit k.I 200) none))) (ty.Array (codes "Int8") 2) why.ZeroDivisor 2 2
    ∷ holds (codes "((struct cp_arr_Bool_2){ { 2, false } })")
    (arr (codes "Bool") 2 (more (lit k.I 2) (more no none))) (ty.Array (codes "Bool") 2) (array_of (and_value (number (num t.Bool (pos 1))) (and_value (number (num t.Bool (pos 0))) no_value))) 1 1
    ∷ gives (codes "cp_ix_Word8_2(((struct cp_arr_Word8_2){ { (200 + 100), 7 } }), 0)")
    (pick (codes "Word8") 2 (arr (codes "Word8") 2 (more (bin o.Add (lit k.I 200) (lit k.I 100)) (more (lit k.I 7) none))) (lit k.I 0)) t.U8 (pos 44) 4 4
    ∷ []
