use Rattle.stream_lib.specs.Built.{tree_at}
use Rattle.stream_lib.proofs.PlacedTrees.{makes_as}
use Rattle.stream_lib.proofs.Operands.{historically_in_is}
use Rattle.stream_lib.proofs.forms.historically_in.Goals as goal

pub returns-clause-made : goal.returns-clause-made
returns-clause-made c = makes_as _ _ _ _ _ (historically_in_is c.args.low c.args.high c.args.b (tree_at c.args.spec.now c.args.p)) c.in_ok-id.ensures.made
