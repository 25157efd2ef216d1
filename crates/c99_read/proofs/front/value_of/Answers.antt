use Rattle.std.proofs.Common.{get_or, arith}
use Rattle.std.proofs.lemmas.Int.Digits.{digits_value_more}
use Rattle.c99_read.proofs.FrontFinds.{digit_among, digit_worth}
use Rattle.c99_read.proofs.front.value_of.Goals as goal

pub loop-digit-preserved : goal.loop-digit-preserved
loop-digit-preserved c =
    let ds = c.args.digits.now in
    let i = c.loop-digit.digit-index in
    let lt = c.loop-digit-test.true in
    let more = digits_value_more 10 ds i lt in
    let worth = digit_worth (get_or ds i 0) (digit_among ds i c.requires lt) in
    omega (arith, more, worth, c.min-size.ensures, c.from.ensures, c.loop-digit.invariant)
