use Rattle.std.proofs.Common.{min, ◌∙◌, sym, ap}
use Rattle.stream_core.proofs.GoodNodes.{good_node}
use Rattle.stream_core.proofs.NodeSizes.{heavy_is}
use Rattle.stream_core.proofs.Roots.{founded}
use Rattle.stream_core.proofs.spec.Spec.weight_by.Goals as goal

pub node_of-requires-clause-good : goal.node_of-requires-clause-good
node_of-requires-clause-good c = good_node c.args.self.now c.requires.typed c.args.id c.node.result.now c.node.ensures.node

pub returns : goal.returns
returns c =
    let s = c.args.self.now in
    c.node_of.ensures ∙ ap (λ x. min x 262145) (sym (heavy_is s c.args.id c.node.result.now (c.node.ensures.closed (founded s c.requires.typed c.requires.no_cycle))))
