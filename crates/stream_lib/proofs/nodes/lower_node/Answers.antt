use Rattle.stream_lib.proofs.PlacedTrees.{makes_as}
use Rattle.stream_lib.proofs.LoweredNodes.{plain_lowered}
use Rattle.stream_lib.proofs.nodes.lower_node.Goals as goal

pub returns : goal.returns
returns c = record {
  made = makes_as _ _ _ _ _
      (plain_lowered c.args.source.now c.args.spec.now c.args.news.now c.node-node.result.now c.args.i _ c.requires.lowered c.in_default.not-Lib c.requires.next (c.node-node.ensures.parts c.requires.ordered) (c.node-node.ensures.tree c.requires.ordered))
      c.in_ok-id-2.ensures.made;
  within = c.in_ok-id-2.ensures.within;
  size = c.lower_plain.ensures.size;
}
