use Rattle.std.proofs.Common.{map}
use Rattle.spec_forest.specs.Node.{node, nodes}
use Rattle.spec_text.specs.Shape.{shape_fault}
use Rattle.spec_text.proofs.Orders.{top_is}
use Rattle.spec_text.proofs.Sizes.{IsSized, sized}
use Rattle.spec_text.proofs.specification.declarations.Goals as goal

pub returns-clause-parses : goal.returns-clause-parses
unfolding shape_fault
returns-clause-parses c = rw (top_is (nodes (map node c.args.forest.now.items)), ← c.as_slice.ensures) c.read_top.ensures

sizes : (c : goal.After-read_top) → IsSized c.args.forest.now c.read_top.result
sizes c = sized c.args.forest.now (shape_fault c.args.forest.now) c.read_top.result (returns-clause-parses c)

pub returns-clause-nesting : goal.returns-clause-nesting
returns-clause-nesting c = (sizes c).nested

pub returns-clause-lists : goal.returns-clause-lists
returns-clause-lists c = (sizes c).lists

pub returns-clause-items : goal.returns-clause-items
returns-clause-items c = (sizes c).items
