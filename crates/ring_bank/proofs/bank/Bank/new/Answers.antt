use Rattle.std.proofs.Common.{arith, ap₂, ◌∙◌, subst}
use Rattle.ring_bank.specs.Layout.{rings_in, Laid}
use Rattle.ring_bank.proofs.RingsInBlock.{rings_from-Laid, rings_in-rings_from}
use Rattle.ring_bank.proofs.bank.Bank.new.Goals as goal

pub invariant_of-result : goal.invariant_of-result
invariant_of-result c =
    let words = c.in_ok-block.ensures in let rings = c.in_ok-rings.ensures in
    rw (words, rings) (subst (Laid 0 _) (omega (arith, c.requires.words)) (rings_from-Laid 0 c.args.shapes.now), c.requires.few)

pub returns : goal.returns
returns c = ap₂ rings_in c.in_ok-rings.ensures c.in_ok-block.ensures ∙ rings_in-rings_from 0 c.args.shapes.now c.args.init.now
