use Rattle.recursion_check.proofs.ListElements.{pop_last}
use Rattle.recursion_check.proofs.Walking.{skip_walk}
use Rattle.std.proofs.Common.{arith, subst}
use Rattle.recursion_check.specs.Walked.{IsWalk}
use Rattle.recursion_check.proofs.walk.Walk.skip.Goals as goal

pub returns-clause-walk : goal.returns-clause-walk
returns-clause-walk c =
    let s = c.args.self.now in
    let e = pop_last s.todo.items c.pop.new.self.items c.pop.result s.todo.len c.args.edge c.pop.ensures.items (omega (arith, s.todo.ok.0)) c.pop.ensures.value c.requires.last in
    skip_walk c.args.spec.now s.marks.items s.path.items s.starts.items c.pop.new.self.items c.args.edge s.first (subst (λ xs. IsWalk c.args.spec.now s.marks.items s.path.items s.starts.items xs s.first) e c.requires.walk) c.requires.is_done
