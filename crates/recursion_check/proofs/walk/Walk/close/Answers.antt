use Rattle.std.proofs.Common.{◌+◌, ◌-◌, length, drop, take, ◌∙◌, sym, ap, subst, arith}
use Rattle.std.specs.Prelude.{slice_get, nat_lt, if◌then◌else◌}
use Rattle.std.specs.List.{sum_by}
use Rattle.std.proofs.lemmas.Option.{slice_get_within}
use Rattle.recursion_check.specs.declared.walk.Mark.TheVariants as mark
use Rattle.recursion_check.specs.Graph.{Has}
use Rattle.recursion_check.specs.Walked.{IsWalk, StaysOld, fresh, mark_all, least_def}
use Rattle.recursion_check.proofs.ListElements.{pop_last, split_last, has_push, get_drop}
use Rattle.recursion_check.proofs.Places.{no_loop}
use Rattle.recursion_check.proofs.Closing.{closed_walk, close_old, close_fresh}
use Rattle.recursion_check.proofs.walk.Walk.close.Goals as goal

pub group_from-group-requires : goal.group_from-group-requires
group_from-group-requires c =
    let xs = c.args.self.now.starts.items in
    let b = c.args.start in
    let l = c.requires.walk.within b (subst (λ ys. Has ys b) (sym (split_last xs b c.requires.last)) (has_push (take (length xs - 1) xs) b)) in
    omega (arith, l, ap length c.as_slice.ensures.value)

pub mark_done-requires : goal.mark_done-requires
mark_done-requires c =
    let s = c.args.self.now in
    let b = c.args.start in
    let group = c.group_from-group.ensures ∙ ap (drop b) c.as_slice.ensures.value in
    λ i v e. slice_get_within s.marks.items v (mark.Open (b + i)) (c.requires.walk.placed (b + i) v (sym (get_drop b s.path.items i) ∙ ap (λ xs. slice_get xs i) (sym group) ∙ e))

pub returns-clause-walk : goal.returns-clause-walk
returns-clause-walk c =
    let z = c.args.spec.now in
    let s = c.args.self.now in
    let b = c.args.start in
    let front = c.pop.new.self.items in
    let starts = pop_last s.starts.items front c.pop.result s.starts.len b c.pop.ensures.items (omega (arith, s.starts.ok.0)) c.pop.ensures.value c.requires.last in
    let group = c.group_from-group.ensures ∙ ap (drop b) c.as_slice.ensures.value in
    let w = closed_walk z s.marks.items s.path.items front b s.todo.items s.first (subst (λ xs. IsWalk z s.marks.items s.path.items xs s.todo.items s.first) starts c.requires.walk) c.requires.taken (no_loop z c.requires.typed) in
    let least = c.first_with-self.ensures ∙ ap (λ n. if nat_lt 1 (length c.group_from-group.result.now) then least_def n s.first c.group_from-group.result.now else s.first) (ap length c.defs.ensures) ∙ ap (λ xs. if nat_lt 1 (length xs) then least_def (length z.defs) s.first xs else s.first) group in
    let marks = c.mark_done.ensures ∙ ap (mark_all s.marks.items) group in
    let a = subst (λ f. IsWalk z (mark_all s.marks.items (drop b s.path.items)) (take b s.path.items) front s.todo.items f) (sym least) w in
    let d = subst (λ ms. IsWalk z ms (take b s.path.items) front s.todo.items c.first_with-self.result) (sym marks) a in
    subst (λ ps. IsWalk z c.mark_done.new.marks.items ps front s.todo.items c.first_with-self.result) (sym c.truncate.ensures.items) d

pub returns-clause-fresh : goal.returns-clause-fresh
returns-clause-fresh c =
    let z = c.args.spec.now in
    let s = c.args.self.now in
    let b = c.args.start in
    let front = c.pop.new.self.items in
    let starts = pop_last s.starts.items front c.pop.result s.starts.len b c.pop.ensures.items (omega (arith, s.starts.ok.0)) c.pop.ensures.value c.requires.last in
    let group = c.group_from-group.ensures ∙ ap (drop b) c.as_slice.ensures.value in
    let marks = c.mark_done.ensures ∙ ap (mark_all s.marks.items) group in
    ap (sum_by fresh) marks ∙ close_fresh z s.marks.items s.path.items front b s.todo.items s.first (subst (λ xs. IsWalk z s.marks.items s.path.items xs s.todo.items s.first) starts c.requires.walk)

pub returns-clause-old : goal.returns-clause-old
returns-clause-old c =
    let z = c.args.spec.now in
    let s = c.args.self.now in
    let b = c.args.start in
    let front = c.pop.new.self.items in
    let starts = pop_last s.starts.items front c.pop.result s.starts.len b c.pop.ensures.items (omega (arith, s.starts.ok.0)) c.pop.ensures.value c.requires.last in
    let group = c.group_from-group.ensures ∙ ap (drop b) c.as_slice.ensures.value in
    let marks = c.mark_done.ensures ∙ ap (mark_all s.marks.items) group in
    subst (StaysOld s.marks.items) (sym marks) (close_old z s.marks.items s.path.items front b s.todo.items s.first (subst (λ xs. IsWalk z s.marks.items s.path.items xs s.todo.items s.first) starts c.requires.walk) c.requires.taken)
