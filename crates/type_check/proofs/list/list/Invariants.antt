use Rattle.std.proofs.Common.{◌≡◌, take}
use Rattle.spec_text.specs.declared.surface.Surface.{Surface}
use Rattle.type_check.specs.Untyped.{all_of}
use Rattle.type_check.specs.TypeOrder.{type_order, entries}
use Rattle.type_check.specs.Listed.{IsOrderOf}
use Rattle.type_check.proofs.list.list.Given as goal

abbrev pub invariant-loop-ty : goal.invariant-loop-ty
invariant-loop-ty l = (s : Surface) → IsOrderOf s l.structs.all.items l.placed → l.types ≡ entries (all_of s) (type_order s) (take l.ty-index (type_order s))
