use Rattle.stream_core.specs.Meaning.{closed_spec}
use Rattle.ring_codegen.specs.CTypes.{c_handler}
use Rattle.ring_codegen.proofs.FirstNames.{Listed}
use Rattle.ring_codegen.proofs.declarations.handler_protos.Given as goal

abbrev pub invariant-loop-trigger : goal.invariant-loop-trigger
invariant-loop-trigger l = Listed (c_handler (closed_spec l.spec)) l.trigger-items l.trigger-index l.seen.keys l.protos.items
