use Rattle.std.proofs.Common.{arith, sym}
use Rattle.ring_bank.proofs.RingsInBlock.{in_rings, rows-are}
use Rattle.ring_bank.proofs.bank.Bank.rows.Goals as goal

pub index-requires : goal.index-requires
index-requires c = omega (arith, in_rings _ _ _ c.self.view_is c.args.ring c.requires, c.self.inside.rings.ok.0)

pub returns : goal.returns
returns c = sym (rows-are _ _ _ c.self.view_is c.args.ring c.requires c.index.result.now c.self.invariant.0 c.index.ensures)
