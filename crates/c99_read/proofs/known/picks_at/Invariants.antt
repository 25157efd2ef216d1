use Rattle.std.proofs.Common.{◌≡◌, drop}
use Rattle.std.specs.List.{flat_map}
use Rattle.c99_tree.specs.Lookup.{arrays_in}
use Rattle.c99_tree.specs.Spelling.{pick_line}
use Rattle.c99_read.specs.Front.{behind}
use Rattle.c99_read.proofs.known.picks_at.Given as goal

abbrev pub invariant-loop-def : goal.invariant-loop-def
invariant-loop-def l = behind (flat_map pick_line (arrays_in l.types)) l.bytes ≡ behind (flat_map pick_line (arrays_in (drop l.def-index l.types))) l.rest
