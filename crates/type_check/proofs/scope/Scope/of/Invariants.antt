use Rattle.std.proofs.Common.{◌≡◌, ℕ, List, [], take}
use Rattle.type_check.specs.Untyped.{reversed}
use Rattle.type_check.specs.Table.{struct_names, IsTable, HasItems}
use Rattle.type_check.proofs.scope.Scope.of.Given as goal

abbrev pub invariant-loop-decl : goal.invariant-loop-decl
invariant-loop-decl l = (names : List (List ℕ)) → names ≡ struct_names (reversed [] l.decls) →
    IsTable names (reversed [] (take l.decl-index l.decls)) l.scope.structs × HasItems names (reversed [] (take l.decl-index l.decls)) l.scope.items.entries × (l.scope.closed ≡ 0)
