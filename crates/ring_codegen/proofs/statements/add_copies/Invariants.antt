use Rattle.std.proofs.Common.{◌≡◌, ◌++◌, map, take}
use Rattle.ring_codegen.specs.Translation.{copy_statement}
use Rattle.ring_codegen.proofs.statements.add_copies.Given as goal

abbrev pub invariant-loop-item : goal.invariant-loop-item
invariant-loop-item l = l.step ≡ l.initial.step ++ map copy_statement (take l.item-index l.externs)
