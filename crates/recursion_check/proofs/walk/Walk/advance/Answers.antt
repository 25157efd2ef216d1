use Rattle.std.proofs.Common.{◌≡◌, ◌-◌, length, Some, None, ◌∙◌, sym, ap, subst, arith}
use Rattle.std.specs.Prelude.{slice_get}
use Rattle.std.proofs.lemmas.Option.{slice_get_read}
use Rattle.recursion_check.proofs.ListElements.{at_most_last, empty_last}
use Rattle.recursion_check.proofs.Places.{joins_there}
use Rattle.recursion_check.proofs.Turns.{none_left, one_left, path_empty, reached_by}
use Rattle.recursion_check.proofs.walk.Walk.advance.Goals as goal

pub close-requires-clause-taken : goal.close-requires-clause-taken
close-requires-clause-taken c =
    let s = c.loop-start.self in
    none_left s.todo.items c.in-Some.start c.loop-start.invariant.walk.ordered (sym c.next_edge.ensures ∙ c.in-None.is)

pub index-requires : goal.index-requires
index-requires c =
    let z = c.args.spec.now in
    let s = c.loop-start.self in
    let w = c.loop-start.invariant.walk in
    let e = c.in-Some-next_edge.edge in
    let r = one_left s.todo.items c.in-Some.start e (sym c.next_edge.ensures ∙ c.in-Some-next_edge.is) in
    let q = w.waiting e.from e.to r.2 in
    let b = joins_there z c.requires.typed q.0 e.to q.2 in
    omega (arith, b, w.size, s.marks.ok.0)

pub returns-in-New-clause-is_new : goal.returns-in-New-clause-is_new
returns-in-New-clause-is_new c =
    let z = c.args.spec.now in
    let s = c.loop-start.self in
    let w = c.loop-start.invariant.walk in
    let e = c.in-Some-next_edge.edge in
    let r = one_left s.todo.items c.in-Some.start e (sym c.next_edge.ensures ∙ c.in-Some-next_edge.is) in
    let q = w.waiting e.from e.to r.2 in
    let b = joins_there z c.requires.typed q.0 e.to q.2 in
    slice_get_read s.marks.items (length s.marks.items) e.to c.index.result.now (omega arith) (omega (arith, b, w.size)) c.index.ensures ∙ ap Some c.in-New.is

pub returns-in-New-clause-reached : goal.returns-in-New-clause-reached
returns-in-New-clause-reached c =
    let s = c.loop-start.self in
    let w = c.loop-start.invariant.walk in
    let e = c.in-Some-next_edge.edge in
    let l = subst (λ ys. slice_get ys (length ys - 1) ≡ Some c.in-Some.start) c.as_slice.ensures.value (sym c.last.ensures ∙ c.in-Some.is) in
    let r = one_left s.todo.items c.in-Some.start e (sym c.next_edge.ensures ∙ c.in-Some-next_edge.is) in
    reached_by c.args.spec.now s.marks.items s.path.items s.starts.items s.todo.items s.first e w r.2 (λ b h. let q = at_most_last s.starts.items c.in-Some.start b w.rising l h in let le = r.1 in omega (arith, q, le))

pub join-requires-clause-group : goal.join-requires-clause-group
join-requires-clause-group c =
    let s = c.loop-start.self in
    let w = c.loop-start.invariant.walk in
    let e = c.in-Some-next_edge.edge in
    let l = subst (λ ys. slice_get ys (length ys - 1) ≡ Some c.in-Some.start) c.as_slice.ensures.value (sym c.last.ensures ∙ c.in-Some.is) in
    let r = one_left s.todo.items c.in-Some.start e (sym c.next_edge.ensures ∙ c.in-Some-next_edge.is) in
    λ b h. let q = at_most_last s.starts.items c.in-Some.start b w.rising l h in let le = r.1 in omega (arith, q, le)

pub join-requires-clause-is_open : goal.join-requires-clause-is_open
join-requires-clause-is_open c =
    let z = c.args.spec.now in
    let s = c.loop-start.self in
    let w = c.loop-start.invariant.walk in
    let e = c.in-Some-next_edge.edge in
    let r = one_left s.todo.items c.in-Some.start e (sym c.next_edge.ensures ∙ c.in-Some-next_edge.is) in
    let q = w.waiting e.from e.to r.2 in
    let b = joins_there z c.requires.typed q.0 e.to q.2 in
    slice_get_read s.marks.items (length s.marks.items) e.to c.index.result.now (omega arith) (omega (arith, b, w.size)) c.index.ensures ∙ ap Some c.in-Open.is

pub skip-requires-clause-is_done : goal.skip-requires-clause-is_done
skip-requires-clause-is_done c =
    let z = c.args.spec.now in
    let s = c.loop-start.self in
    let w = c.loop-start.invariant.walk in
    let e = c.in-Some-next_edge.edge in
    let r = one_left s.todo.items c.in-Some.start e (sym c.next_edge.ensures ∙ c.in-Some-next_edge.is) in
    let q = w.waiting e.from e.to r.2 in
    let b = joins_there z c.requires.typed q.0 e.to q.2 in
    slice_get_read s.marks.items (length s.marks.items) e.to c.index.result.now (omega arith) (omega (arith, b, w.size)) c.index.ensures ∙ ap Some c.in-Done.is

pub returns-clause-closed : goal.returns-clause-closed
returns-clause-closed c =
    let s = c.loop-start.self in
    let l = subst (λ ys. slice_get ys (length ys - 1) ≡ None) c.as_slice.ensures.value (sym c.last.ensures ∙ c.in_default.is) in
    path_empty c.args.spec.now s.marks.items s.path.items s.starts.items s.todo.items s.first c.loop-start.invariant.walk (empty_last s.starts.items l)
