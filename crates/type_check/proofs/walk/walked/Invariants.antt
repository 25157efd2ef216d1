use Rattle.std.proofs.Common.{ℕ, List, [], take, drop}
use Rattle.type_check.specs.Untyped.{reversed}
use Rattle.type_check.specs.Walked.{IsBetween}
use Rattle.type_check.proofs.Passing.{IsWalked}
use Rattle.type_check.proofs.walk.walked.Given as goal

abbrev pub invariant-loop-next : goal.invariant-loop-next
invariant-loop-next l = (names : List (List ℕ)) → IsBetween names [] l.decls l.fn.scope → IsWalked names (reversed [] (take l.next-index l.decls)) (drop l.next-index l.decls) l.decls l.scope l.order l.sent.entries
