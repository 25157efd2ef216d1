use Rattle.std.proofs.Common.{◌≡◌, ◌≤◌, ◌+◌, ℕ, List, [], take, drop}
use Rattle.type_check.specs.Untyped.{reversed}
use Rattle.typed_text.specs.ReadSpec.{Numbers, placed}
use Rattle.typed_spec.specs.Added.{Adds, IsTextAt, item_total}
use Rattle.typed_spec.proofs.reading.decls.Given as goal

abbrev pub invariant-loop-next : goal.invariant-loop-next
invariant-loop-next l =
    (item_total l.arena.spec ≤ item_total l.fn.arena.spec + l.next-index)
    × (l.text.scope.closed ≤ l.fn.text.scope.closed + l.next-index)
    × ((names : List (List ℕ)) (n : Numbers) → IsTextAt names [] l.all n l.fn.text → IsTextAt names (reversed [] (take l.next-index l.all)) (drop l.next-index l.all) n l.text)
    × ((names : List (List ℕ)) (n : Numbers) → IsTextAt names [] l.all n l.fn.text → l.fn.arena.forms.items ≡ []
    → Adds n (reversed [] l.all) l.fn.arena l.arena (placed n (reversed [] l.all) [] 0 (take l.next-index l.all)))
