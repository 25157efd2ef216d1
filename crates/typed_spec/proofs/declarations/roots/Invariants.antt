use Rattle.std.proofs.Common.{◌≡◌, ℕ, List, take}
use Rattle.type_check.specs.Judged.{Scope}
use Rattle.typed_text.specs.ReadSpec.{Numbers}
use Rattle.typed_spec.specs.Texts.{StandsFor}
use Rattle.typed_spec.specs.Added.{MakesRoots}
use Rattle.typed_spec.proofs.declarations.roots.Given as goal

abbrev pub invariant-loop-e : goal.invariant-loop-e
invariant-loop-e l =
    (l.arena.spec ≡ record l.fn.arena.spec { nodes = l.arena.spec.nodes })
    × ((names : List (List ℕ)) (s : Scope) (n : Numbers) → StandsFor names s n l.text → MakesRoots n s l.fn.arena l.arena l.roots.items (take l.e-index l.all))
