-- Data of worked rows: each operator, at operands on both sides of where its answer changes.
use Rattle.std.specs.Prelude.{List, [], ◌∷◌, codes, pos}
use Rattle.c99_tree.specs.Tree.{lit, yes, no, un, bin, choose}
use Rattle.c99_tree.specs.Rows.{Row, gives, minus}
use Rattle.c99_tree.specs.declared.expr.CLit.TheVariants as k
use Rattle.c99_tree.specs.declared.expr.CUn.TheVariants as u
use Rattle.c99_tree.specs.declared.expr.CBin.TheVariants as o
use Rattle.c99_tree.specs.declared.types.CScalar.TheVariants as t

-- each unary, binary and conditional operator, each literal, and what isn't evaluated
unfoldable pub operator_rows : List Row
operator_rows =
    gives (codes "(7 + 2)") (bin o.Add (lit k.I 7) (lit k.I 2)) t.I32 (pos 9) 1 1
    ∷ gives (codes "(7 - 9)") (bin o.Sub (lit k.I 7) (lit k.I 9)) t.I32 (minus 2) 1 1
    ∷ gives (codes "(7 * (-2))") (bin o.Mul (lit k.I 7) (un u.Neg (lit k.I 2))) t.I32 (minus 14) 2 2
    ∷ gives (codes "(7 / 2)") (bin o.Div (lit k.I 7) (lit k.I 2)) t.I32 (pos 3) 1 1
    ∷ gives (codes "((-7) / 2)") (bin o.Div (un u.Neg (lit k.I 7)) (lit k.I 2)) t.I32 (minus 3) 2 2
    ∷ gives (codes "(7 / (-2))") (bin o.Div (lit k.I 7) (un u.Neg (lit k.I 2))) t.I32 (minus 3) 2 2
    ∷ gives (codes "((-7) / (-2))") (bin o.Div (un u.Neg (lit k.I 7)) (un u.Neg (lit k.I 2))) t.I32 (pos 3) 3 3
    ∷ gives (codes "(7 % 2)") (bin o.Rem (lit k.I 7) (lit k.I 2)) t.I32 (pos 1) 1 1
    ∷ gives (codes "((-7) % 2)") (bin o.Rem (un u.Neg (lit k.I 7)) (lit k.I 2)) t.I32 (minus 1) 2 2
    ∷ gives (codes "(7 % (-2))") (bin o.Rem (lit k.I 7) (un u.Neg (lit k.I 2))) t.I32 (pos 1) 2 2
    ∷ gives (codes "(12 & 10)") (bin o.BitAnd (lit k.I 12) (lit k.I 10)) t.I32 (pos 8) 1 1
    ∷ gives (codes "(12 | 10)") (bin o.BitOr (lit k.I 12) (lit k.I 10)) t.I32 (pos 14) 1 1
    ∷ gives (codes "(12 ^ 10)") (bin o.BitXor (lit k.I 12) (lit k.I 10)) t.I32 (pos 6) 1 1
    ∷ gives (codes "((-1) & 255)") (bin o.BitAnd (un u.Neg (lit k.I 1)) (lit k.I 255)) t.I32 (pos 255) 2 2
    ∷ gives (codes "((-4) | 1)") (bin o.BitOr (un u.Neg (lit k.I 4)) (lit k.I 1)) t.I32 (minus 3) 2 2
    ∷ gives (codes "((-1) ^ 5)") (bin o.BitXor (un u.Neg (lit k.I 1)) (lit k.I 5)) t.I32 (minus 6) 2 2
    ∷ gives (codes "((-1LL) & 4294967295LL)") (bin o.BitAnd (un u.Neg (lit k.LL 1)) (lit k.LL 4294967295)) t.I64 (pos 4294967295) 2 2
    ∷ gives (codes "(3 << 4)") (bin o.Shl (lit k.I 3) (lit k.I 4)) t.I32 (pos 48) 1 1
    ∷ gives (codes "(48 >> 4)") (bin o.Shr (lit k.I 48) (lit k.I 4)) t.I32 (pos 3) 1 1
    ∷ gives (codes "(47 >> 4)") (bin o.Shr (lit k.I 47) (lit k.I 4)) t.I32 (pos 2) 1 1
    ∷ gives (codes "(2 == 2)") (bin o.Eq (lit k.I 2) (lit k.I 2)) t.I32 (pos 1) 1 1
    ∷ gives (codes "(2 == 3)") (bin o.Eq (lit k.I 2) (lit k.I 3)) t.I32 (pos 0) 1 1
    ∷ gives (codes "(2 != 2)") (bin o.Ne (lit k.I 2) (lit k.I 2)) t.I32 (pos 0) 1 1
    ∷ gives (codes "(2 != 3)") (bin o.Ne (lit k.I 2) (lit k.I 3)) t.I32 (pos 1) 1 1
    ∷ gives (codes "(2 < 3)") (bin o.Lt (lit k.I 2) (lit k.I 3)) t.I32 (pos 1) 1 1
    ∷ gives (codes "(2 < 2)") (bin o.Lt (lit k.I 2) (lit k.I 2)) t.I32 (pos 0) 1 1
    ∷ gives (codes "(3 < 2)") (bin o.Lt (lit k.I 3) (lit k.I 2)) t.I32 (pos 0) 1 1
    ∷ gives (codes "(2 <= 3)") (bin o.Le (lit k.I 2) (lit k.I 3)) t.I32 (pos 1) 1 1
    ∷ gives (codes "(2 <= 2)") (bin o.Le (lit k.I 2) (lit k.I 2)) t.I32 (pos 1) 1 1
    ∷ gives (codes "(3 <= 2)") (bin o.Le (lit k.I 3) (lit k.I 2)) t.I32 (pos 0) 1 1
    ∷ gives (codes "(2 > 3)") (bin o.Gt (lit k.I 2) (lit k.I 3)) t.I32 (pos 0) 1 1
    ∷ gives (codes "(2 > 2)") (bin o.Gt (lit k.I 2) (lit k.I 2)) t.I32 (pos 0) 1 1
    ∷ gives (codes "(3 > 2)") (bin o.Gt (lit k.I 3) (lit k.I 2)) t.I32 (pos 1) 1 1
    ∷ gives (codes "(2 >= 3)") (bin o.Ge (lit k.I 2) (lit k.I 3)) t.I32 (pos 0) 1 1
    ∷ gives (codes "(2 >= 2)") (bin o.Ge (lit k.I 2) (lit k.I 2)) t.I32 (pos 1) 1 1
    ∷ gives (codes "(3 >= 2)") (bin o.Ge (lit k.I 3) (lit k.I 2)) t.I32 (pos 1) 1 1
    ∷ gives (codes "(2 && 3)") (bin o.And (lit k.I 2) (lit k.I 3)) t.I32 (pos 1) 1 1
    ∷ gives (codes "(2 && 0)") (bin o.And (lit k.I 2) (lit k.I 0)) t.I32 (pos 0) 1 1
    ∷ gives (codes "(0 && 3)") (bin o.And (lit k.I 0) (lit k.I 3)) t.I32 (pos 0) 1 1
    ∷ gives (codes "(2 || 3)") (bin o.Or (lit k.I 2) (lit k.I 3)) t.I32 (pos 1) 1 1
    ∷ gives (codes "(0 || 3)") (bin o.Or (lit k.I 0) (lit k.I 3)) t.I32 (pos 1) 1 1
    ∷ gives (codes "(0 || 0)") (bin o.Or (lit k.I 0) (lit k.I 0)) t.I32 (pos 0) 1 1
    ∷ gives (codes "(!0)") (un u.Not (lit k.I 0)) t.I32 (pos 1) 1 1
    ∷ gives (codes "(!5)") (un u.Not (lit k.I 5)) t.I32 (pos 0) 1 1
    ∷ gives (codes "(~5)") (un u.BitNot (lit k.I 5)) t.I32 (minus 6) 1 1
    ∷ gives (codes "(~5U)") (un u.BitNot (lit k.U 5)) t.U32 (pos 4294967290) 1 1
    ∷ gives (codes "(-5)") (un u.Neg (lit k.I 5)) t.I32 (minus 5) 1 1
    ∷ gives (codes "(-5U)") (un u.Neg (lit k.U 5)) t.U32 (pos 4294967291) 1 1
    ∷ gives (codes "(-0)") (un u.Neg (lit k.I 0)) t.I32 (pos 0) 1 1
    ∷ gives (codes "(7 ? 2 : 3)") (choose (lit k.I 7) (lit k.I 2) (lit k.I 3)) t.I32 (pos 2) 1 1
    ∷ gives (codes "(0 ? 2 : 3)") (choose (lit k.I 0) (lit k.I 2) (lit k.I 3)) t.I32 (pos 3) 1 1
    ∷ gives (codes "true") yes t.I32 (pos 1) 0 0
    ∷ gives (codes "false") no t.I32 (pos 0) 0 0
    ∷ gives (codes "7") (lit k.I 7) t.I32 (pos 7) 0 0
    ∷ gives (codes "7U") (lit k.U 7) t.U32 (pos 7) 0 0
    ∷ gives (codes "7LL") (lit k.LL 7) t.I64 (pos 7) 0 0
    ∷ gives (codes "7ULL") (lit k.ULL 7) t.U64 (pos 7) 0 0
    ∷ gives (codes "(false && ((1 / 0) == 0))") (bin o.And no (bin o.Eq (bin o.Div (lit k.I 1) (lit k.I 0)) (lit k.I 0))) t.I32 (pos 0) 1 3
    ∷ gives (codes "(true || ((1 / 0) == 0))") (bin o.Or yes (bin o.Eq (bin o.Div (lit k.I 1) (lit k.I 0)) (lit k.I 0))) t.I32 (pos 1) 1 3
    ∷ gives (codes "(true && ((4 / 2) == 2))") (bin o.And yes (bin o.Eq (bin o.Div (lit k.I 4) (lit k.I 2)) (lit k.I 2))) t.I32 (pos 1) 3 3
    ∷ gives (codes "(false || ((4 / 2) == 3))") (bin o.Or no (bin o.Eq (bin o.Div (lit k.I 4) (lit k.I 2)) (lit k.I 3))) t.I32 (pos 0) 3 3
    ∷ gives (codes "(4294967296LL && 1)") (bin o.And (lit k.LL 4294967296) (lit k.I 1)) t.I32 (pos 1) 1 1
    ∷ gives (codes "(0 || 4294967296LL)") (bin o.Or (lit k.I 0) (lit k.LL 4294967296)) t.I32 (pos 1) 1 1
    ∷ gives (codes "(!4294967296LL)") (un u.Not (lit k.LL 4294967296)) t.I32 (pos 0) 1 1
    ∷ gives (codes "(4294967296LL ? 2 : 3)") (choose (lit k.LL 4294967296) (lit k.I 2) (lit k.I 3)) t.I32 (pos 2) 1 1
    ∷ gives (codes "(true ? 5 : (1 / 0))") (choose yes (lit k.I 5) (bin o.Div (lit k.I 1) (lit k.I 0))) t.I32 (pos 5) 1 2
    ∷ gives (codes "(false ? (1 / 0) : (2 + 3))") (choose no (bin o.Div (lit k.I 1) (lit k.I 0)) (bin o.Add (lit k.I 2) (lit k.I 3))) t.I32 (pos 5) 2 3
    ∷ []
