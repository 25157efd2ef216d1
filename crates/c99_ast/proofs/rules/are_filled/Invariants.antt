use Rattle.std.proofs.Common.{◌≡◌, drop}
use Rattle.std.specs.Prelude.{IsTrue, is_some}
use Rattle.std.specs.List.{list_all}
use Rattle.c99_tree.specs.Values.{shape_of}
use Rattle.c99_tree.specs.Rules.{is_filled}
use Rattle.c99_ast.proofs.rules.are_filled.Given as goal

abbrev pub invariant-loop-r : goal.invariant-loop-r
invariant-loop-r l = record { shaped : IsTrue (list_all (λ r. is_some (shape_of l.types r.ty)) (drop l.r-index l.rings)); rest : list_all (is_filled l.types) (drop l.r-index l.rings) ≡ list_all (is_filled l.types) l.rings }
