use Rattle.std.proofs.Common.{◌≡◌, map, take}
use Rattle.ring_codegen.specs.CTypes.{c_def}
use Rattle.ring_codegen.proofs.declarations.type_defs.Given as goal

abbrev pub invariant-loop-i : goal.invariant-loop-i
invariant-loop-i l = l.defs ≡ map (c_def l.types) (take l.i l.types)
