use Rattle.std.proofs.Common.{◌≡◌, map, take}
use Rattle.stream_core.specs.declared.spec.Root.{Root}
use Rattle.ring_codegen.specs.Items.{expression_of}
use Rattle.ring_codegen.proofs.statements.arguments.Given as goal

abbrev pub invariant-loop-root : goal.invariant-loop-root
invariant-loop-root l = l.args ≡ map (λ (r : Root). expression_of l.spec r.expr) (take l.root-index l.roots)
