use Rattle.std.proofs.Common.{◌≡◌, ◌<◌, ◌≤◌, length}
use Rattle.stream_core.specs.Limits.{tree_size}
use Rattle.stream_core.specs.Term.{closed}
use Rattle.ring_codegen.specs.Items.{expression_of}
use Rattle.ring_codegen.proofs.names.behind.Given as goal

abbrev pub invariant-chain : goal.invariant-chain
invariant-chain l =
    (l.at < length l.spec.nodes) × (expression_of l.spec l.at ≡ expression_of l.spec l.fn.id) × (tree_size (closed l.spec l.at) ≤ tree_size (closed l.spec l.fn.id))

abbrev pub decreases-chain : goal.decreases-chain
decreases-chain l = tree_size (closed l.spec l.at)
