use Rattle.stream_core.proofs.Closed.{closed_is}
use Rattle.stream_core.proofs.Trees.{tree_of, below_of}
use Rattle.stream_core.proofs.spec.Spec.node.Goals as goal

pub returns-clause-closed : goal.returns-clause-closed
returns-clause-closed c = λ w. closed_is c.args.self.now c.args.id c.stored.result.now w.ordered w.acyclic (w.named c.args.id c.stored.result.now c.stored.ensures) c.stored.ensures

pub returns-clause-below : goal.returns-clause-below
returns-clause-below c = λ w. below_of _ _ w.ordered c.args.id c.stored.result.now c.stored.ensures

pub returns-clause-defs : goal.returns-clause-defs
returns-clause-defs c = λ w. w.named c.args.id c.stored.result.now c.stored.ensures

pub returns-clause-tree : goal.returns-clause-tree
returns-clause-tree c = λ ordered. tree_of c.args.self.now.nodes c.args.self.now.libs ordered c.args.id c.stored.result.now c.stored.ensures

pub returns-clause-parts : goal.returns-clause-parts
returns-clause-parts c = λ ordered. below_of _ _ ordered c.args.id c.stored.result.now c.stored.ensures
