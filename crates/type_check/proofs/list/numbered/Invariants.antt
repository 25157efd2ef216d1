use Rattle.type_check.proofs.Numbering.{AreFirstNumbers}
use Rattle.type_check.proofs.list.numbered.Given as goal

abbrev pub invariant-loop-i : goal.invariant-loop-i
invariant-loop-i l = AreFirstNumbers l.placed l.i l.by_type.entries
