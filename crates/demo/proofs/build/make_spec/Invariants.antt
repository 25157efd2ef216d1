use Rattle.demo.specs.Built.{IsBuilt}
use Rattle.demo.proofs.build.make_spec.Given as goal

abbrev pub invariant-loop-i : goal.invariant-loop-i
invariant-loop-i l = IsBuilt l.fn.streams l.i 0 l.spec

abbrev pub invariant-loop-i-2 : goal.invariant-loop-i-2
invariant-loop-i-2 l = IsBuilt l.fn.streams l.fn.streams l.i l.spec
