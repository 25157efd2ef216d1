-- Data of worked rows: promotion, the usual arithmetic conversions, results that wrap, and casts.
use Rattle.std.specs.Prelude.{List, [], ◌∷◌, codes, pos}
use Rattle.c99_tree.specs.Tree.{lit, yes, no, un, bin, choose, cast}
use Rattle.c99_tree.specs.Rows.{Row, gives, minus}
use Rattle.c99_tree.specs.declared.expr.CLit.TheVariants as k
use Rattle.c99_tree.specs.declared.expr.CUn.TheVariants as u
use Rattle.c99_tree.specs.declared.expr.CBin.TheVariants as o
use Rattle.c99_tree.specs.declared.types.CScalar.TheVariants as t

-- operands of two types, narrow operands, unsigned results, shifts, arms of two types, and each cast
unfoldable pub conversion_rows : List Row
conversion_rows =
    gives (codes "((-1) < 1U)") (bin o.Lt (un u.Neg (lit k.I 1)) (lit k.U 1)) t.I32 (pos 0) 2 2
    ∷ gives (codes "((-1) < 1LL)") (bin o.Lt (un u.Neg (lit k.I 1)) (lit k.LL 1)) t.I32 (pos 1) 2 2
    ∷ gives (codes "((-1LL) < 1U)") (bin o.Lt (un u.Neg (lit k.LL 1)) (lit k.U 1)) t.I32 (pos 1) 2 2
    ∷ gives (codes "((-1LL) < 1ULL)") (bin o.Lt (un u.Neg (lit k.LL 1)) (lit k.ULL 1)) t.I32 (pos 0) 2 2
    ∷ gives (codes "((-1) == 4294967295U)") (bin o.Eq (un u.Neg (lit k.I 1)) (lit k.U 4294967295)) t.I32 (pos 1) 2 2
    ∷ gives (codes "((-1) != 18446744073709551615ULL)") (bin o.Ne (un u.Neg (lit k.I 1)) (lit k.ULL 18446744073709551615)) t.I32 (pos 0) 2 2
    ∷ gives (codes "((-1) > 4294967294U)") (bin o.Gt (un u.Neg (lit k.I 1)) (lit k.U 4294967294)) t.I32 (pos 1) 2 2
    ∷ gives (codes "((-1) <= 0U)") (bin o.Le (un u.Neg (lit k.I 1)) (lit k.U 0)) t.I32 (pos 0) 2 2
    ∷ gives (codes "((-1) >= 1U)") (bin o.Ge (un u.Neg (lit k.I 1)) (lit k.U 1)) t.I32 (pos 1) 2 2
    ∷ gives (codes "((-1) + 1U)") (bin o.Add (un u.Neg (lit k.I 1)) (lit k.U 1)) t.U32 (pos 0) 2 2
    ∷ gives (codes "((-1LL) + 1U)") (bin o.Add (un u.Neg (lit k.LL 1)) (lit k.U 1)) t.I64 (pos 0) 2 2
    ∷ gives (codes "((-1) + 0ULL)") (bin o.Add (un u.Neg (lit k.I 1)) (lit k.ULL 0)) t.U64 (pos 18446744073709551615) 2 2
    ∷ gives (codes "((-1LL) + 2ULL)") (bin o.Add (un u.Neg (lit k.LL 1)) (lit k.ULL 2)) t.U64 (pos 1) 2 2
    ∷ gives (codes "((-7) / 2U)") (bin o.Div (un u.Neg (lit k.I 7)) (lit k.U 2)) t.U32 (pos 2147483644) 2 2
    ∷ gives (codes "((-7) % 2U)") (bin o.Rem (un u.Neg (lit k.I 7)) (lit k.U 2)) t.U32 (pos 1) 2 2
    ∷ gives (codes "((-7LL) / 2U)") (bin o.Div (un u.Neg (lit k.LL 7)) (lit k.U 2)) t.I64 (minus 3) 2 2
    ∷ gives (codes "((-1) & 255U)") (bin o.BitAnd (un u.Neg (lit k.I 1)) (lit k.U 255)) t.U32 (pos 255) 2 2
    ∷ gives (codes "((-1) ^ 0ULL)") (bin o.BitXor (un u.Neg (lit k.I 1)) (lit k.ULL 0)) t.U64 (pos 18446744073709551615) 2 2
    ∷ gives (codes "((-1) | 0LL)") (bin o.BitOr (un u.Neg (lit k.I 1)) (lit k.LL 0)) t.I64 (minus 1) 2 2
    ∷ gives (codes "(true + true)") (bin o.Add yes yes) t.I32 (pos 2) 1 1
    ∷ gives (codes "(~((uint8_t)0))") (un u.BitNot (cast t.U8 (lit k.I 0))) t.I32 (minus 1) 2 2
    ∷ gives (codes "(-((uint16_t)65535))") (un u.Neg (cast t.U16 (lit k.I 65535))) t.I32 (minus 65535) 2 2
    ∷ gives (codes "(-((bool)5))") (un u.Neg (cast t.Bool (lit k.I 5))) t.I32 (minus 1) 2 2
    ∷ gives (codes "(((uint8_t)255) + ((uint8_t)1))") (bin o.Add (cast t.U8 (lit k.I 255)) (cast t.U8 (lit k.I 1))) t.I32 (pos 256) 3 3
    ∷ gives (codes "(((int8_t)(-128)) * ((int8_t)(-128)))") (bin o.Mul (cast t.I8 (un u.Neg (lit k.I 128))) (cast t.I8 (un u.Neg (lit k.I 128)))) t.I32 (pos 16384) 5 5
    ∷ gives (codes "(((uint8_t)255) << 1)") (bin o.Shl (cast t.U8 (lit k.I 255)) (lit k.I 1)) t.I32 (pos 510) 2 2
    ∷ gives (codes "(((uint16_t)1) < ((int16_t)(-1)))") (bin o.Lt (cast t.U16 (lit k.I 1)) (cast t.I16 (un u.Neg (lit k.I 1)))) t.I32 (pos 0) 4 4
    ∷ gives (codes "(((uint8_t)1) - 2U)") (bin o.Sub (cast t.U8 (lit k.I 1)) (lit k.U 2)) t.U32 (pos 4294967295) 2 2
    ∷ gives (codes "(((int8_t)(-1)) == 4294967295U)") (bin o.Eq (cast t.I8 (un u.Neg (lit k.I 1))) (lit k.U 4294967295)) t.I32 (pos 1) 3 3
    ∷ gives (codes "(1U - 2U)") (bin o.Sub (lit k.U 1) (lit k.U 2)) t.U32 (pos 4294967295) 1 1
    ∷ gives (codes "(4294967295U + 1U)") (bin o.Add (lit k.U 4294967295) (lit k.U 1)) t.U32 (pos 0) 1 1
    ∷ gives (codes "(4294967295U * 4294967295U)") (bin o.Mul (lit k.U 4294967295) (lit k.U 4294967295)) t.U32 (pos 1) 1 1
    ∷ gives (codes "(18446744073709551615ULL * 3ULL)") (bin o.Mul (lit k.ULL 18446744073709551615) (lit k.ULL 3)) t.U64 (pos 18446744073709551613) 1 1
    ∷ gives (codes "(2147483648U << 1)") (bin o.Shl (lit k.U 2147483648) (lit k.I 1)) t.U32 (pos 0) 1 1
    ∷ gives (codes "(4294967295U >> 31)") (bin o.Shr (lit k.U 4294967295) (lit k.I 31)) t.U32 (pos 1) 1 1
    ∷ gives (codes "(1 << 3ULL)") (bin o.Shl (lit k.I 1) (lit k.ULL 3)) t.I32 (pos 8) 1 1
    ∷ gives (codes "(1ULL << 3)") (bin o.Shl (lit k.ULL 1) (lit k.I 3)) t.U64 (pos 8) 1 1
    ∷ gives (codes "(1U << 31)") (bin o.Shl (lit k.U 1) (lit k.I 31)) t.U32 (pos 2147483648) 1 1
    ∷ gives (codes "(1LL << 62)") (bin o.Shl (lit k.LL 1) (lit k.I 62)) t.I64 (pos 4611686018427387904) 1 1
    ∷ gives (codes "(18446744073709551615ULL >> 63)") (bin o.Shr (lit k.ULL 18446744073709551615) (lit k.I 63)) t.U64 (pos 1) 1 1
    ∷ gives (codes "(true ? (-1) : 1U)") (choose yes (un u.Neg (lit k.I 1)) (lit k.U 1)) t.U32 (pos 4294967295) 2 2
    ∷ gives (codes "(false ? 1U : ((int8_t)(-1)))") (choose no (lit k.U 1) (cast t.I8 (un u.Neg (lit k.I 1)))) t.U32 (pos 4294967295) 3 3
    ∷ gives (codes "(true ? ((uint8_t)1) : ((uint8_t)2))") (choose yes (cast t.U8 (lit k.I 1)) (cast t.U8 (lit k.I 2))) t.I32 (pos 1) 2 3
    ∷ gives (codes "(true ? 1 : 2LL)") (choose yes (lit k.I 1) (lit k.LL 2)) t.I64 (pos 1) 1 1
    ∷ gives (codes "(0ULL ? 1LL : (-1))") (choose (lit k.ULL 0) (lit k.LL 1) (un u.Neg (lit k.I 1))) t.I64 (minus 1) 2 2
    ∷ gives (codes "(true ? (-1LL) : 1ULL)") (choose yes (un u.Neg (lit k.LL 1)) (lit k.ULL 1)) t.U64 (pos 18446744073709551615) 2 2
    ∷ gives (codes "((bool)2)") (cast t.Bool (lit k.I 2)) t.Bool (pos 1) 1 1
    ∷ gives (codes "((bool)0)") (cast t.Bool (lit k.I 0)) t.Bool (pos 0) 1 1
    ∷ gives (codes "((bool)256)") (cast t.Bool (lit k.I 256)) t.Bool (pos 1) 1 1
    ∷ gives (codes "((bool)4294967296LL)") (cast t.Bool (lit k.LL 4294967296)) t.Bool (pos 1) 1 1
    ∷ gives (codes "((bool)(-1))") (cast t.Bool (un u.Neg (lit k.I 1))) t.Bool (pos 1) 2 2
    ∷ gives (codes "((uint8_t)300)") (cast t.U8 (lit k.I 300)) t.U8 (pos 44) 1 1
    ∷ gives (codes "((uint8_t)(-1))") (cast t.U8 (un u.Neg (lit k.I 1))) t.U8 (pos 255) 2 2
    ∷ gives (codes "((uint16_t)65536)") (cast t.U16 (lit k.I 65536)) t.U16 (pos 0) 1 1
    ∷ gives (codes "((uint16_t)(-2))") (cast t.U16 (un u.Neg (lit k.I 2))) t.U16 (pos 65534) 2 2
    ∷ gives (codes "((uint32_t)(-1))") (cast t.U32 (un u.Neg (lit k.I 1))) t.U32 (pos 4294967295) 2 2
    ∷ gives (codes "((uint32_t)4294967297LL)") (cast t.U32 (lit k.LL 4294967297)) t.U32 (pos 1) 1 1
    ∷ gives (codes "((uint64_t)(-1))") (cast t.U64 (un u.Neg (lit k.I 1))) t.U64 (pos 18446744073709551615) 2 2
    ∷ gives (codes "((int8_t)127)") (cast t.I8 (lit k.I 127)) t.I8 (pos 127) 1 1
    ∷ gives (codes "((int8_t)(-128))") (cast t.I8 (un u.Neg (lit k.I 128))) t.I8 (minus 128) 2 2
    ∷ gives (codes "((int16_t)32767)") (cast t.I16 (lit k.I 32767)) t.I16 (pos 32767) 1 1
    ∷ gives (codes "((int16_t)(-32768))") (cast t.I16 (un u.Neg (lit k.I 32768))) t.I16 (minus 32768) 2 2
    ∷ gives (codes "((int32_t)2147483647U)") (cast t.I32 (lit k.U 2147483647)) t.I32 (pos 2147483647) 1 1
    ∷ gives (codes "((int64_t)9223372036854775807ULL)") (cast t.I64 (lit k.ULL 9223372036854775807)) t.I64 (pos 9223372036854775807) 1 1
    ∷ gives (codes "((int8_t)true)") (cast t.I8 yes) t.I8 (pos 1) 1 1
    ∷ []
