use Rattle.std.proofs.Common.{◌≡◌, map, take}
use Rattle.stream_core.specs.declared.spec.Root.{Root}
use Rattle.ring_codegen.specs.CTypes.{c_type}
use Rattle.ring_codegen.proofs.declarations.parameters.Given as goal

abbrev pub invariant-loop-root : goal.invariant-loop-root
invariant-loop-root l = l.params ≡ map (λ (r : Root). c_type l.types r.ty) (take l.root-index l.args)
