use Rattle.sm_io.proofs.Keys.{found_by_test, past_by_test}
use Rattle.sm_io.proofs.mem_shelf.file_of.Goals as goal

pub returns-then-eq : goal.returns-then-eq
returns-then-eq c = found_by_test _ _ _ _ _ _ _ _ c.loop-file.invariant c.in-Some.ensures.steps c.bytes.ensures c.eq.ensures c.if-eq.true c.bytes-then-eq.ensures

pub loop-file-preserved : goal.loop-file-preserved
loop-file-preserved c = past_by_test _ _ _ _ _ _ _ c.loop-file.invariant c.in-Some.ensures.steps c.bytes.ensures c.eq.ensures c.if-eq.false
