-- Data of worked rows: expressions that have no type.
use Rattle.std.specs.Prelude.{ℕ, List, [], ◌∷◌, codes}
use Rattle.c99_tree.specs.Tree.{Expr, lit, yes, copy, cell, ring_at, un, bin, choose, cast, field, pick, arr, rec, none, more}
use Rattle.c99_tree.specs.declared.expr.CLit.TheVariants as k
use Rattle.c99_tree.specs.declared.expr.CUn.TheVariants as u
use Rattle.c99_tree.specs.declared.expr.CBin.TheVariants as o
use Rattle.c99_tree.specs.declared.types.CScalar.TheVariants as t

-- operands, arms, members, elements and subscripts that don't fit, lists with too few values (which C would take) or
-- too many, and names that the program of Rows.antt lacks
unfoldable pub untyped_rows : List (List ℕ × Expr)
untyped_rows =
    (codes "(cp_c_a + 1)", bin o.Add (copy (codes "a")) (lit k.I 1))
    ∷ (codes "(!cp_ix_P_3(cp_c_a, 0))", un u.Not (pick (codes "P") 3 (copy (codes "a")) (lit k.I 0)))
    ∷ (codes "(cp_ix_P_3(cp_c_a, 0) ? 1 : 2)", choose (pick (codes "P") 3 (copy (codes "a")) (lit k.I 0)) (lit k.I 1) (lit k.I 2))
    ∷ (codes "(true ? cp_ix_P_3(cp_c_a, 0) : 1)", choose yes (pick (codes "P") 3 (copy (codes "a")) (lit k.I 0)) (lit k.I 1))
    ∷ (codes "(true ? cp_c_a : cp_ix_P_3(cp_c_a, 0))", choose yes (copy (codes "a")) (pick (codes "P") 3 (copy (codes "a")) (lit k.I 0)))
    ∷ (codes "((uint8_t)cp_c_a)", cast t.U8 (copy (codes "a")))
    ∷ (codes "(cp_c_w.x)", field (copy (codes "w")) (codes "x"))
    ∷ (codes "(cp_ix_P_3(cp_c_a, 0).z)", field (pick (codes "P") 3 (copy (codes "a")) (lit k.I 0)) (codes "z"))
    ∷ (codes "cp_ix_P_3(cp_c_w, 0)", pick (codes "P") 3 (copy (codes "w")) (lit k.I 0))
    ∷ (codes "cp_ix_Word8_2(cp_c_a, 0)", pick (codes "Word8") 2 (copy (codes "a")) (lit k.I 0))
    ∷ (codes "cp_ix_P_3(cp_c_a, cp_c_a)", pick (codes "P") 3 (copy (codes "a")) (copy (codes "a")))
    ∷ (codes "cp_b_r[cp_c_a]", ring_at (codes "r") (copy (codes "a")))
    ∷ (codes "((struct P){ 1 })", rec (codes "P") (more (lit k.I 1) none))
    ∷ (codes "((struct P){ 1, 2, 3 })", rec (codes "P") (more (lit k.I 1) (more (lit k.I 2) (more (lit k.I 3) none))))
    ∷ (codes "((struct P){ 1, cp_c_a })", rec (codes "P") (more (lit k.I 1) (more (copy (codes "a")) none)))
    ∷ (codes "((struct Q){ 1, 2 })", rec (codes "Q") (more (lit k.I 1) (more (lit k.I 2) none)))
    ∷ (codes "((struct cp_arr_Word8_2){ { 1 } })", arr (codes "Word8") 2 (more (lit k.I 1) none))
    ∷ (codes "((struct cp_arr_Word8_2){ { 1, cp_c_a } })", arr (codes "Word8") 2 (more (lit k.I 1) (more (copy (codes "a")) none)))
    ∷ (codes "cp_c_q", copy (codes "q"))
    ∷ (codes "cp_b_q", cell (codes "q"))
    ∷ (codes "cp_b_q[0]", ring_at (codes "q") (lit k.I 0))
    ∷ []
