use Rattle.std.proofs.Common.{◌≡◌, drop}
use Rattle.std.specs.List.{list_all}
use Rattle.c99_tree.specs.Lookup.{is_defined}
use Rattle.c99_ast.proofs.rules.are_defined_rings.Given as goal

abbrev pub invariant-loop-r : goal.invariant-loop-r
invariant-loop-r l = list_all (λ r. is_defined l.types r.ty) (drop l.r-index l.rings) ≡ list_all (λ r. is_defined l.types r.ty) l.rings
