use Rattle.std.proofs.Common.{◌≡◌, map, take}
use Rattle.ring_codegen.specs.CTypes.{c_field}
use Rattle.ring_codegen.proofs.c_types.c_fields.Given as goal

abbrev pub invariant-loop-field : goal.invariant-loop-field
invariant-loop-field l = l.vars ≡ map (c_field l.types) (take l.field-index l.fields)
