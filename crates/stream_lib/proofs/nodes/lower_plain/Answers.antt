use Rattle.std.proofs.Common.{sym, subst}
use Rattle.stream_core.specs.declared.node.Node.{Node}
use Rattle.stream_core.specs.Parts.{parts}
use Rattle.stream_lib.specs.Built.{AreThere}
use Rattle.stream_lib.proofs.LoweredNodes.{parts_there}
use Rattle.stream_lib.proofs.nodes.lower_plain.Goals as goal

pub put_plain-requires : goal.put_plain-requires
put_plain-requires c = subst (λ (n : Node). AreThere c.args.spec.now (parts n)) (sym c.in_ok-again.ensures) (parts_there c.args.source.now c.args.spec.now c.args.news.now c.args.node.now c.requires.lowered c.requires.below)
