use Rattle.std.proofs.Common.{length, ap, subst, arith}
use Rattle.recursion_check.specs.Walked.{IsWalk}
use Rattle.recursion_check.proofs.Ends.{all_done, found_first}
use Rattle.recursion_check.proofs.walk.first_on_cycle.Goals as goal

pub returns : goal.returns
returns c =
    let z = c.args.spec.now in
    let s = c.loop-d.walk in
    let i = c.loop-d.invariant in
    let w = subst (λ ps. IsWalk z s.marks.items ps s.starts.items s.todo.items s.first) i.closed i.walk in
    found_first z c.requires s.marks.items s.first i.walk.least (λ d b. all_done z s.marks.items s.starts.items s.todo.items s.first w d (omega (arith, b)) (i.entered d (omega (arith, b, c.loop-d-test.false, ap length c.defs-defs.ensures))))
