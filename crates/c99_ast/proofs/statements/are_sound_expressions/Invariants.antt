use Rattle.std.proofs.Common.{◌≡◌, map, drop}
use Rattle.std.specs.List.{list_all}
use Rattle.c99_tree.specs.Tree.{tree, exprs}
use Rattle.c99_tree.specs.Checks.{is_sound_expression}
use Rattle.c99_tree.specs.WellFormed.{list_of}
use Rattle.c99_ast.proofs.statements.are_sound_expressions.Given as goal

abbrev pub invariant-loop-e : goal.invariant-loop-e
invariant-loop-e l = list_all (is_sound_expression l.unit) (list_of (exprs (map tree (drop l.e-index l.all)))) ≡ list_all (is_sound_expression l.unit) (list_of (exprs (map tree l.all)))
