use Rattle.std.proofs.Common.{◌+◌, set, get_or, ap, ◌∙◌}
use Rattle.ring_bank.proofs.RowsInWords.{written_more}
use Rattle.ring_bank.proofs.block.Block.put.Goals as goal

pub loop-i-preserved : goal.loop-i-preserved
loop-i-preserved c =
    c.put.ensures.0 ∙ ap (λ l. set l (c.args.at + c.loop-i.i) (get_or c.args.run.now c.loop-i.i 0)) c.loop-i.invariant ∙ written_more c.args.at c.loop-i.i c.args.run.now c.args.self.now.words.words c.requires c.loop-i-test.true
