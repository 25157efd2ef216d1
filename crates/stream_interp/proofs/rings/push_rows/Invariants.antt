use Rattle.stream_interp.proofs.PushedRows.{PushedSoFar}
use Rattle.stream_interp.proofs.rings.push_rows.Given as goal

abbrev pub invariant-loop-i : goal.invariant-loop-i
invariant-loop-i l = PushedSoFar l.spec.types l.spec.streams l.fn.rings l.rows l.i l.at l.rings
