use Rattle.std.proofs.Common.{◌≡◌, ◌<◌, ◌≤◌, ℕ, List, length, map, take}
use Rattle.std.specs.List.{AllByRecursion}
use Rattle.type_check.specs.Judged.{Scope}
use Rattle.typed_text.specs.ReadSpec.{Numbers, read_expr}
use Rattle.typed_spec.specs.Made.{Makes, operands_of}
use Rattle.typed_spec.specs.Texts.{StandsFor}
use Rattle.typed_spec.proofs.expressions.+expressions.Given as goal

abbrev pub invariant-exprs-loop-e : goal.invariant-exprs-loop-e
invariant-exprs-loop-e l =
    AllByRecursion (λ j. j < length l.arena.spec.nodes) l.ids.items
    × (length l.types.items ≡ length l.ids.items)
    × (length l.fn.arena.spec.nodes ≤ length l.arena.spec.nodes)
    × (length l.fn.arena.forms.items ≤ length l.arena.forms.items)
    × (l.arena.spec ≡ record l.fn.arena.spec { nodes = l.arena.spec.nodes })
    × ((names : List (List ℕ)) (s : Scope) (n : Numbers) → StandsFor names s n l.text → Makes names l.fn.arena l.arena (operands_of l.ids.items l.types.items) (map (read_expr n s) (take l.e-index l.all)))
