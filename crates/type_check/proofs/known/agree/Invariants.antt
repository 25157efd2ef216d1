use Rattle.std.proofs.Common.{◌≡◌, drop}
use Rattle.type_check.specs.Standing.{agree_known}
use Rattle.type_check.proofs.known.agree.Given as goal

abbrev pub invariant-loop-i : goal.invariant-loop-i
invariant-loop-i l = agree_known (drop l.i l.some) (drop l.i l.others) ≡ agree_known l.some l.others
