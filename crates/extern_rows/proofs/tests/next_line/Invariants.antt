use Rattle.std.proofs.Common.{◌≡◌, false}
use Rattle.extern_rows.proofs.tests.next_line.Given as goal

abbrev pub invariant-loop : goal.invariant-loop
invariant-loop l = l.feed.whole ≡ false
