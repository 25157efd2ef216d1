use Rattle.std.proofs.Common.{◌≡◌, map, drop}
use Rattle.std.specs.List.{list_all}
use Rattle.c99_tree.specs.Tree.{tree, exprs}
use Rattle.c99_tree.specs.Checks.{is_sound_part}
use Rattle.c99_tree.specs.WellFormed.{parts_of_all}
use Rattle.c99_ast.proofs.parts.+parting.Given as goal

abbrev pub invariant-are_sound_parts_of-loop-e : goal.invariant-are_sound_parts_of-loop-e
invariant-are_sound_parts_of-loop-e l = list_all (is_sound_part l.unit) (parts_of_all (exprs (map tree (drop l.e-index l.all)))) ≡ list_all (is_sound_part l.unit) (parts_of_all (exprs (map tree l.all)))
