use Rattle.std.proofs.Common.{arith, ap, ap₂, length, set, ◌∙◌}
use Rattle.ring_bank.specs.Layout.{rings_in, written}
use Rattle.ring_bank.proofs.RingsInBlock.{in_rings, fits, pushes, placed, placed_in, turned-Laid}
use Rattle.ring_bank.proofs.RowsInWords.{length-written}
use Rattle.ring_bank.proofs.bank.Bank.push.Goals as goal

pub index_mut-ring-requires : goal.index_mut-ring-requires
index_mut-ring-requires c = omega (arith, in_rings _ _ _ c.self.view_is c.args.ring c.requires.ring, c.self.inside.rings.ok.0)

pub row-oldest-requires-clause-placed : goal.row-oldest-requires-clause-placed
row-oldest-requires-clause-placed c = placed_in _ _ c.args.ring _ c.self.invariant.0 c.self.invariant.1 (in_rings _ _ _ c.self.view_is c.args.ring c.requires.ring) c.index_mut-ring.ensures.value

pub row-oldest-requires-clause-row : goal.row-oldest-requires-clause-row
row-oldest-requires-clause-row c = omega (arith, (placed 0 _ _ c.args.ring _ c.self.invariant.0 (in_rings _ _ _ c.self.view_is c.args.ring c.requires.ring) c.index_mut-ring.ensures.value).oldest)

pub turn-requires : goal.turn-requires
turn-requires c = placed_in _ _ c.args.ring _ c.self.invariant.0 c.self.invariant.1 (in_rings _ _ _ c.self.view_is c.args.ring c.requires.ring) c.index_mut-ring.ensures.value

pub put-requires : goal.put-requires
put-requires c =
    fits _ _ _ c.self.view_is c.args.ring c.requires.ring _ c.self.invariant.0 c.index_mut-ring.ensures.value c.args.row.now c.requires.width c.row-oldest.result c.row-oldest.ensures

pub invariant_of-self : goal.invariant_of-self
invariant_of-self c =
    let inside = fits _ _ _ c.self.view_is c.args.ring c.requires.ring _ c.self.invariant.0 c.index_mut-ring.ensures.value c.args.row.now c.requires.width c.row-oldest.result c.row-oldest.ensures in
    let same = ap length c.put.ensures ∙ length-written _ c.args.row.now _ inside in
    let turn = c.turn.ensures in
    rw (turn, same)
    (turned-Laid 0 _ _ c.args.ring _ c.self.invariant.0 (in_rings _ _ _ c.self.view_is c.args.ring c.requires.ring) c.index_mut-ring.ensures.value, c.self.invariant.1)

pub returns : goal.returns
returns c =
    ap₂ (λ x ws. rings_in (set c.self.inside.rings.items c.args.ring x) ws) c.turn.ensures (c.put.ensures ∙ ap (λ n. written n c.args.row.now c.self.inside.block.words.words) c.row-oldest.ensures)
    ∙ pushes _ _ _ c.self.view_is c.args.ring c.requires.ring _ c.self.invariant.0 c.index_mut-ring.ensures.value c.args.row.now c.requires.width
