use Rattle.type_check.proofs.Redeclarations.{IsTwinless}
use Rattle.type_check.proofs.names.twin.Given as goal

abbrev pub invariant-loop-field : goal.invariant-loop-field
invariant-loop-field l = IsTwinless l.members l.field-index l.seen.keys
