use Rattle.std.proofs.Common.{◌≡◌, drop}
use Rattle.std.specs.List.{list_all}
use Rattle.c99_tree.specs.Lookup.{arrays_in}
use Rattle.c99_tree.specs.WellFormed.{has_array_length}
use Rattle.c99_ast.proofs.rules.have_lengths.Given as goal

abbrev pub invariant-loop-d : goal.invariant-loop-d
invariant-loop-d l = list_all has_array_length (arrays_in (drop l.d-index l.types)) ≡ list_all has_array_length (arrays_in l.types)
