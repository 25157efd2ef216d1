use Rattle.std.proofs.Common.{◌≡◌, map, take}
use Rattle.stream_core.specs.declared.spec.Root.{Root}
use Rattle.extern_rows.specs.ValueTexts.{shape_of}
use Rattle.interpreter.proofs.shapes.shape.Given as goal

abbrev pub invariant-loop-root : goal.invariant-loop-root
invariant-loop-root l = l.pieces.items ≡ shape_of l.types (map (λ (r : Root). r.ty) (take l.root-index l.roots))
