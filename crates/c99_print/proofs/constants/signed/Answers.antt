use Rattle.std.proofs.Common.{◌<◌, sym, arith, rules}
use Rattle.sm_print.proofs.Printing.{◌⨾◌, Prints-is}
use Rattle.c99_print.proofs.Rings.{low_signed, high_signed}
use Rattle.c99_print.proofs.constants.signed.Goals as goal

pub returns-then-w-lt9223372036854775808 : goal.returns-then-w-lt9223372036854775808
returns-then-w-lt9223372036854775808 g c = Prints-is (sym (low_signed c.args.tail.now c.args.w c.if-w-lt9223372036854775808.true)) (c.number.ensures ⨾ c.put.ensures)

pub returns-else-w-lt9223372036854775808 : goal.returns-else-w-lt9223372036854775808
returns-else-w-lt9223372036854775808 g c =
    let top : c.args.w < 18446744073709551616 = first_of (omega (arith, c.ranges.w), search (rules, c.ranges.w)) in
    Prints-is (sym (high_signed c.args.tail.now c.args.w c.if-w-lt9223372036854775808.false top))
    (c.put-else-w-lt9223372036854775808.ensures ⨾ c.number-else-w-lt9223372036854775808.ensures ⨾ c.put-else-w-lt9223372036854775808-2.ensures ⨾ c.put-else-w-lt9223372036854775808-3.ensures ⨾ c.put-else-w-lt9223372036854775808-4.ensures ⨾ c.put-else-w-lt9223372036854775808-5.ensures)
