use Rattle.std.proofs.Common.{◌≡◌, drop}
use Rattle.std.specs.List.{list_all}
use Rattle.c99_tree.specs.Lookup.{is_defined}
use Rattle.c99_ast.proofs.definitions.are_defined.Given as goal

abbrev pub invariant-loop-v : goal.invariant-loop-v
invariant-loop-v l = list_all (λ v. is_defined l.types v.ty) (drop l.v-index l.vars) ≡ list_all (λ v. is_defined l.types v.ty) l.vars
