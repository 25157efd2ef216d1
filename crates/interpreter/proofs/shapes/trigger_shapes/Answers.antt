use Rattle.std.proofs.Common.{List, sym, subst}
use Rattle.std.specs.Prelude.{All}
use Rattle.stream_types.specs.declared.types.TypeEntry.{TypeEntry}
use Rattle.stream_types.specs.TypeList.{Stands}
use Rattle.stream_core.specs.declared.spec.Root.{Root}
use Rattle.interpreter.proofs.RootsStand.{args_stand, there}
use Rattle.interpreter.proofs.shapes.trigger_shapes.Goals as goal

pub shape-requires : goal.shape-requires
shape-requires c =
    let s = c.args.spec.now in
    let x = c.x-item.result in
    let at = there s.triggers c.triggers-x-items.result.now c.loop-x.x-index x c.triggers-x-items.ensures c.x-item.is c.loop-x-test.true in
    let args = args_stand s c.requires c.loop-x.x-index x at in
    subst (λ (ts : List TypeEntry). All (λ (r : Root). Stands ts r.ty) c.as_slice.result.now) (sym c.types-types.ensures)
    (subst (λ (rs : List Root). All (λ (r : Root). Stands s.types r.ty) rs) (sym c.as_slice.ensures) args)
