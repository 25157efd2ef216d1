use Rattle.std.proofs.Common.{◌≡◌, map, take}
use Rattle.ring_codegen.specs.CTypes.{c_extern}
use Rattle.ring_codegen.proofs.declarations.extern_vars.Given as goal

abbrev pub invariant-loop-item : goal.invariant-loop-item
invariant-loop-item l = l.vars ≡ map (c_extern l.types) (take l.item-index l.externs)
