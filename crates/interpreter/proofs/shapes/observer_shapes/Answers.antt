use Rattle.std.proofs.Common.{List, sym, subst}
use Rattle.stream_types.specs.declared.types.TypeEntry.{TypeEntry}
use Rattle.stream_types.specs.TypeList.{Stands}
use Rattle.interpreter.proofs.RootsStand.{there, watched_stands}
use Rattle.interpreter.proofs.shapes.observer_shapes.Goals as goal

pub push_pieces-requires : goal.push_pieces-requires
push_pieces-requires c =
    let s = c.args.spec.now in
    let x = c.x-item.result in
    let at = there s.observers c.observers-x-items.result.now c.loop-x.x-index x c.observers-x-items.ensures c.x-item.is c.loop-x-test.true in
    subst (λ (ts : List TypeEntry). Stands ts x.root.ty) (sym c.types-types.ensures) (watched_stands s c.requires c.loop-x.x-index x at)
