use Rattle.stream_core.specs.Limits.{tree_size}
use Rattle.stream_core.specs.Term.{closed}
use Rattle.stream_interp.specs.Reading.{IsBehind}
use Rattle.stream_interp.proofs.names.behind.Given as goal

abbrev pub invariant-chain : goal.invariant-chain
invariant-chain l = IsBehind l.spec l.fn.id l.at

abbrev pub decreases-chain : goal.decreases-chain
decreases-chain l = tree_size (closed l.spec l.at)
