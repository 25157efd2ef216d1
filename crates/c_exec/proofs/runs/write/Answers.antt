use Rattle.std.proofs.Common.{◌∙◌, sym, drop, arith}
use Rattle.c_exec.proofs.Fronts.{written_past}
use Rattle.c_exec.proofs.runs.write.Goals as goal

pub returns-then-words-to-clause-items : goal.returns-then-words-to-clause-items
returns-then-words-to-clause-items c =
    sym (written_past (drop c.loop-word.word-index c.args.run.now) c.loop-word.words c.loop-word.to (omega arith)) ∙ c.loop-word.invariant.rest
