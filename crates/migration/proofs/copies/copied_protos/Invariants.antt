use Rattle.std.proofs.Common.{◌≡◌, take}
use Rattle.migration.proofs.copies.copied_protos.Given as goal

abbrev pub invariant-loop-h : goal.invariant-loop-h
invariant-loop-h l = l.all ≡ take l.h-index l.protos
