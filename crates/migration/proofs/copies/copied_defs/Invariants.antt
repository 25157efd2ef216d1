use Rattle.std.proofs.Common.{◌≡◌, take}
use Rattle.migration.proofs.copies.copied_defs.Given as goal

abbrev pub invariant-loop-def : goal.invariant-loop-def
invariant-loop-def l = l.all ≡ take l.def-index l.defs
