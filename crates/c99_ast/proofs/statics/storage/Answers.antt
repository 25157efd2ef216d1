use Rattle.c99_tree.proofs.Shaped.{rings_shaped, externs_shaped}
use Rattle.c99_ast.proofs.statics.storage.Goals as goal

pub rings_storage-requires : goal.rings_storage-requires
rings_storage-requires c = simp (c.as_slice-types.ensures, c.as_slice.ensures) (rings_shaped c.args.unit.now c.requires)

pub copies_storage-requires : goal.copies_storage-requires
copies_storage-requires c = simp (c.as_slice-types.ensures, c.as_slice-2.ensures) (externs_shaped c.args.unit.now c.requires)
