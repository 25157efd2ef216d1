use Rattle.std.proofs.Common.{◌≡◌, drop}
use Rattle.std.specs.List.{flat_map}
use Rattle.c99_tree.specs.Spelling.{copy_line}
use Rattle.c99_read.specs.Front.{behind}
use Rattle.c99_read.proofs.known.copies_at.Given as goal

abbrev pub invariant-loop-x : goal.invariant-loop-x
invariant-loop-x l = behind (flat_map copy_line l.externs) l.bytes ≡ behind (flat_map copy_line (drop l.x-index l.externs)) l.rest
