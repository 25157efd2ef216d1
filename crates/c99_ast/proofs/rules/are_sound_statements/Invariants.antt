use Rattle.std.proofs.Common.{◌≡◌, map, drop}
use Rattle.std.specs.List.{list_all}
use Rattle.c99_tree.specs.Tree.{statement}
use Rattle.c99_tree.specs.Checks.{is_sound_statement}
use Rattle.c99_ast.proofs.rules.are_sound_statements.Given as goal

abbrev pub invariant-loop-s : goal.invariant-loop-s
invariant-loop-s l = list_all (is_sound_statement l.unit) (map statement (drop l.s-index l.step)) ≡ list_all (is_sound_statement l.unit) (map statement l.step)
