use Rattle.std.proofs.Common.{◌≡◌, map, drop}
use Rattle.std.specs.List.{list_any}
use Rattle.c99_tree.specs.Words.{is_same}
use Rattle.c99_ast.proofs.definitions.has_name.Given as goal

abbrev pub invariant-loop-y : goal.invariant-loop-y
invariant-loop-y g l = list_any (is_same l.x) (map g.T.Named.named (drop l.y-index l.all)) ≡ list_any (is_same l.x) (map g.T.Named.named l.all)
