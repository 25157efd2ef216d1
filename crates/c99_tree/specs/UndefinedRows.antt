-- Data of worked rows: each kind of Undefined, beside the nearest operands at which there is a value.
use Rattle.std.specs.Prelude.{List, [], ◌∷◌, codes, pos}
use Rattle.c99_tree.specs.Tree.{lit, yes, no, un, bin, choose, cast}
use Rattle.c99_tree.specs.Rows.{Row, gives, stops, minus}
use Rattle.c99_tree.specs.declared.expr.CLit.TheVariants as k
use Rattle.c99_tree.specs.declared.expr.CUn.TheVariants as u
use Rattle.c99_tree.specs.declared.expr.CBin.TheVariants as o
use Rattle.c99_tree.specs.declared.types.CScalar.TheVariants as t
use Rattle.c99_tree.specs.declared.undefined.Undefined.TheVariants as why

-- Overflow, ZeroDivisor, BadShift, BadConversion, and what comes first
unfoldable pub undefined_rows : List Row
undefined_rows =
    gives (codes "(2147483646 + 1)") (bin o.Add (lit k.I 2147483646) (lit k.I 1)) t.I32 (pos 2147483647) 1 1
    ∷ stops (codes "(2147483647 + 1)") (bin o.Add (lit k.I 2147483647) (lit k.I 1)) t.I32 why.Overflow 1 1
    ∷ gives (codes "((-2147483647) - 1)") (bin o.Sub (un u.Neg (lit k.I 2147483647)) (lit k.I 1)) t.I32 (minus 2147483648) 2 2
    ∷ stops (codes "((-2147483647) - 2)") (bin o.Sub (un u.Neg (lit k.I 2147483647)) (lit k.I 2)) t.I32 why.Overflow 2 2
    ∷ gives (codes "(65535 * 32768)") (bin o.Mul (lit k.I 65535) (lit k.I 32768)) t.I32 (pos 2147450880) 1 1
    ∷ stops (codes "(65536 * 32768)") (bin o.Mul (lit k.I 65536) (lit k.I 32768)) t.I32 why.Overflow 1 1
    ∷ stops (codes "(((uint16_t)65535) * ((uint16_t)65535))") (bin o.Mul (cast t.U16 (lit k.I 65535)) (cast t.U16 (lit k.I 65535))) t.I32 why.Overflow 3 3
    ∷ stops (codes "(-((-2147483647) - 1))") (un u.Neg (bin o.Sub (un u.Neg (lit k.I 2147483647)) (lit k.I 1))) t.I32 why.Overflow 3 3
    ∷ stops (codes "(-((-9223372036854775807LL) - 1LL))") (un u.Neg (bin o.Sub (un u.Neg (lit k.LL 9223372036854775807)) (lit k.LL 1))) t.I64 why.Overflow 3 3
    ∷ stops (codes "(9223372036854775807LL + 1LL)") (bin o.Add (lit k.LL 9223372036854775807) (lit k.LL 1)) t.I64 why.Overflow 1 1
    ∷ stops (codes "(9223372036854775807LL * 2LL)") (bin o.Mul (lit k.LL 9223372036854775807) (lit k.LL 2)) t.I64 why.Overflow 1 1
    ∷ gives (codes "(2147483647 + 1LL)") (bin o.Add (lit k.I 2147483647) (lit k.LL 1)) t.I64 (pos 2147483648) 1 1
    ∷ gives (codes "(1 << 30)") (bin o.Shl (lit k.I 1) (lit k.I 30)) t.I32 (pos 1073741824) 1 1
    ∷ stops (codes "(1 << 31)") (bin o.Shl (lit k.I 1) (lit k.I 31)) t.I32 why.Overflow 1 1
    ∷ stops (codes "(3 << 30)") (bin o.Shl (lit k.I 3) (lit k.I 30)) t.I32 why.Overflow 1 1
    ∷ stops (codes "(1LL << 63)") (bin o.Shl (lit k.LL 1) (lit k.I 63)) t.I64 why.Overflow 1 1
    ∷ stops (codes "(((uint8_t)1) << 31)") (bin o.Shl (cast t.U8 (lit k.I 1)) (lit k.I 31)) t.I32 why.Overflow 2 2
    ∷ stops (codes "(((-2147483647) - 1) / (-1))") (bin o.Div (bin o.Sub (un u.Neg (lit k.I 2147483647)) (lit k.I 1)) (un u.Neg (lit k.I 1))) t.I32 why.Overflow 4 4
    ∷ stops (codes "(((-2147483647) - 1) % (-1))") (bin o.Rem (bin o.Sub (un u.Neg (lit k.I 2147483647)) (lit k.I 1)) (un u.Neg (lit k.I 1))) t.I32 why.Overflow 4 4
    ∷ gives (codes "(((-2147483647) - 1) / 1)") (bin o.Div (bin o.Sub (un u.Neg (lit k.I 2147483647)) (lit k.I 1)) (lit k.I 1)) t.I32 (minus 2147483648) 3 3
    ∷ stops (codes "(((-9223372036854775807LL) - 1LL) / (-1LL))") (bin o.Div (bin o.Sub (un u.Neg (lit k.LL 9223372036854775807)) (lit k.LL 1)) (un u.Neg (lit k.LL 1))) t.I64 why.Overflow 4 4
    ∷ stops (codes "(((-9223372036854775807LL) - 1LL) % (-1LL))") (bin o.Rem (bin o.Sub (un u.Neg (lit k.LL 9223372036854775807)) (lit k.LL 1)) (un u.Neg (lit k.LL 1))) t.I64 why.Overflow 4 4
    ∷ stops (codes "(1 / 0)") (bin o.Div (lit k.I 1) (lit k.I 0)) t.I32 why.ZeroDivisor 1 1
    ∷ stops (codes "(1 % 0)") (bin o.Rem (lit k.I 1) (lit k.I 0)) t.I32 why.ZeroDivisor 1 1
    ∷ stops (codes "(1U / 0U)") (bin o.Div (lit k.U 1) (lit k.U 0)) t.U32 why.ZeroDivisor 1 1
    ∷ stops (codes "(1U % 0U)") (bin o.Rem (lit k.U 1) (lit k.U 0)) t.U32 why.ZeroDivisor 1 1
    ∷ stops (codes "(1LL / false)") (bin o.Div (lit k.LL 1) no) t.I64 why.ZeroDivisor 1 1
    ∷ stops (codes "(1 << 32)") (bin o.Shl (lit k.I 1) (lit k.I 32)) t.I32 why.BadShift 1 1
    ∷ stops (codes "(1 << (-1))") (bin o.Shl (lit k.I 1) (un u.Neg (lit k.I 1))) t.I32 why.BadShift 2 2
    ∷ stops (codes "((-1) << 0)") (bin o.Shl (un u.Neg (lit k.I 1)) (lit k.I 0)) t.I32 why.BadShift 2 2
    ∷ stops (codes "(1U << 32)") (bin o.Shl (lit k.U 1) (lit k.I 32)) t.U32 why.BadShift 1 1
    ∷ stops (codes "(1LL << 64)") (bin o.Shl (lit k.LL 1) (lit k.I 64)) t.I64 why.BadShift 1 1
    ∷ stops (codes "(1 << 4294967296LL)") (bin o.Shl (lit k.I 1) (lit k.LL 4294967296)) t.I32 why.BadShift 1 1
    ∷ stops (codes "(1 >> 32)") (bin o.Shr (lit k.I 1) (lit k.I 32)) t.I32 why.BadShift 1 1
    ∷ gives (codes "(1 >> 31)") (bin o.Shr (lit k.I 1) (lit k.I 31)) t.I32 (pos 0) 1 1
    ∷ stops (codes "((-1) >> 0)") (bin o.Shr (un u.Neg (lit k.I 1)) (lit k.I 0)) t.I32 why.BadShift 2 2
    ∷ stops (codes "(1U >> 32)") (bin o.Shr (lit k.U 1) (lit k.I 32)) t.U32 why.BadShift 1 1
    ∷ stops (codes "(1ULL >> 64)") (bin o.Shr (lit k.ULL 1) (lit k.I 64)) t.U64 why.BadShift 1 1
    ∷ stops (codes "(((uint8_t)1) << 32)") (bin o.Shl (cast t.U8 (lit k.I 1)) (lit k.I 32)) t.I32 why.BadShift 2 2
    ∷ stops (codes "(1 >> (-1LL))") (bin o.Shr (lit k.I 1) (un u.Neg (lit k.LL 1))) t.I32 why.BadShift 2 2
    ∷ stops (codes "((int8_t)128)") (cast t.I8 (lit k.I 128)) t.I8 why.BadConversion 1 1
    ∷ stops (codes "((int8_t)(-129))") (cast t.I8 (un u.Neg (lit k.I 129))) t.I8 why.BadConversion 2 2
    ∷ stops (codes "((int16_t)32768)") (cast t.I16 (lit k.I 32768)) t.I16 why.BadConversion 1 1
    ∷ stops (codes "((int16_t)(-32769))") (cast t.I16 (un u.Neg (lit k.I 32769))) t.I16 why.BadConversion 2 2
    ∷ stops (codes "((int32_t)2147483648U)") (cast t.I32 (lit k.U 2147483648)) t.I32 why.BadConversion 1 1
    ∷ stops (codes "((int32_t)(-2147483649LL))") (cast t.I32 (un u.Neg (lit k.LL 2147483649))) t.I32 why.BadConversion 2 2
    ∷ stops (codes "((int64_t)9223372036854775808ULL)") (cast t.I64 (lit k.ULL 9223372036854775808)) t.I64 why.BadConversion 1 1
    ∷ stops (codes "((1 / 0) + (2147483647 + 1))") (bin o.Add (bin o.Div (lit k.I 1) (lit k.I 0)) (bin o.Add (lit k.I 2147483647) (lit k.I 1))) t.I32 why.ZeroDivisor 2 3
    ∷ stops (codes "((2147483647 + 1) + (1 / 0))") (bin o.Add (bin o.Add (lit k.I 2147483647) (lit k.I 1)) (bin o.Div (lit k.I 1) (lit k.I 0))) t.I32 why.Overflow 2 3
    ∷ stops (codes "((1 + 2) + (1 / 0))") (bin o.Add (bin o.Add (lit k.I 1) (lit k.I 2)) (bin o.Div (lit k.I 1) (lit k.I 0))) t.I32 why.ZeroDivisor 3 3
    ∷ stops (codes "(true && ((1 / 0) == 0))") (bin o.And yes (bin o.Eq (bin o.Div (lit k.I 1) (lit k.I 0)) (lit k.I 0))) t.I32 why.ZeroDivisor 3 3
    ∷ stops (codes "((1 / 0) && true)") (bin o.And (bin o.Div (lit k.I 1) (lit k.I 0)) yes) t.I32 why.ZeroDivisor 2 2
    ∷ stops (codes "((1 / 0) ? 1 : (2 + 3))") (choose (bin o.Div (lit k.I 1) (lit k.I 0)) (lit k.I 1) (bin o.Add (lit k.I 2) (lit k.I 3))) t.I32 why.ZeroDivisor 2 3
    ∷ stops (codes "(!(~(1 / 0)))") (un u.Not (un u.BitNot (bin o.Div (lit k.I 1) (lit k.I 0)))) t.I32 why.ZeroDivisor 3 3
    ∷ []
