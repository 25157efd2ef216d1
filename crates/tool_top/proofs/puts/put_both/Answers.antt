use Rattle.tool_top.proofs.Stopping.{first_put_failed, second_put_failed}
use Rattle.tool_top.proofs.puts.put_both.Goals as goal

pub returns-in_err-put-clause-failed : goal.returns-in_err-put-clause-failed
returns-in_err-put-clause-failed g c = first_put_failed _ _ _ _ c.from_residual.result c.in_err-put.ensures.others

pub returns-clause-failed : goal.returns-clause-failed
returns-clause-failed g c = rw (c.taken.ensures, c.taken-2.ensures) at (second_put_failed _ (record { name = c.args.source.now; text = c.taken-2.result.now }) _ _ _ c.put-2.result c.in_ok-put.ensures.done c.put-2.ensures.others)
