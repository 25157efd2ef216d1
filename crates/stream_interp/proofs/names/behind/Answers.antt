use Rattle.std.proofs.Common.{arith}
use Rattle.stream_interp.proofs.NamedNodes.{behind_behind, behind_itself}
use Rattle.stream_interp.proofs.names.behind.Goals as goal

pub chain-init : goal.chain-init
chain-init c = behind_itself c.args.spec.now c.args.id c.requires.there

pub named_by-requires-clause-there : goal.named_by-requires-clause-there
named_by-requires-clause-there c = c.chain.invariant.there

pub chain-preserved : goal.chain-preserved
chain-preserved c = behind_behind c.args.spec.now c.args.id c.chain.at c.in-Some.next c.chain.invariant c.in-Some.ensures.some

pub chain-smaller : goal.chain-smaller
chain-smaller c = omega (arith, c.in-Some.ensures.smaller)

pub returns-in-None : goal.returns-in-None
returns-in-None c = record { behind = c.chain.invariant; no_def = c.in-None.ensures.none }
