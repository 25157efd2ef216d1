use Rattle.std.proofs.Common.{◌+◌, arith, ap, get_or, ◌∙◌}
use Rattle.ring_bank.proofs.RingsInBlock.{in_rings, rows-are, words-are, reads, placed_in}
use Rattle.ring_bank.proofs.bank.Bank.read.Goals as goal

pub index-ring-requires : goal.index-ring-requires
index-ring-requires c = omega (arith, in_rings _ _ _ c.self.view_is c.args.ring c.requires.ring, c.self.inside.rings.ok.0)

pub row-requires-clause-placed : goal.row-requires-clause-placed
row-requires-clause-placed c = placed_in _ _ c.args.ring _ c.self.invariant.0 c.self.invariant.1 (in_rings _ _ _ c.self.view_is c.args.ring c.requires.ring) c.index-ring.ensures

pub row-requires-clause-row : goal.row-requires-clause-row
row-requires-clause-row c = omega (arith, c.requires.row, rows-are _ _ _ c.self.view_is c.args.ring c.requires.ring _ c.self.invariant.0 c.index-ring.ensures)

pub overflow_add-row : goal.overflow_add-row
overflow_add-row c =
    let here = words-are _ _ _ c.self.view_is c.args.ring c.requires.ring _ c.self.invariant.0 c.index-ring.ensures c.args.k c.requires.row in
    omega (arith, here.0, here.1, c.requires.word, c.row.ensures, c.self.invariant.1)

pub get-requires : goal.get-requires
get-requires c =
    let here = words-are _ _ _ c.self.view_is c.args.ring c.requires.ring _ c.self.invariant.0 c.index-ring.ensures c.args.k c.requires.row in
    omega (arith, here.0, here.1, c.requires.word, c.row.ensures)

pub returns : goal.returns
returns c =
    c.get.ensures ∙ ap (λ n. get_or c.self.inside.block.words.words (n + c.args.word) 0) c.row.ensures
    ∙ reads _ _ _ c.self.view_is c.args.ring c.requires.ring _ c.self.invariant.0 c.index-ring.ensures c.args.k c.args.word c.requires.row c.requires.word
