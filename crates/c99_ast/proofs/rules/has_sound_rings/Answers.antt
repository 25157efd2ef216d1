use Rattle.c99_tree.proofs.Shaped.{rings_shaped}
use Rattle.c99_ast.proofs.rules.has_sound_rings.Goals as goal

pub are_filled-requires : goal.are_filled-requires
are_filled-requires c = simp (c.as_slice-types.ensures, c.as_slice-rings.ensures) (rings_shaped c.args.unit.now c.requires)
