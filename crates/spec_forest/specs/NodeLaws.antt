-- The tree of an atom and of a list.
use Rattle.std.specs.Prelude.{◌≡◌, ℕ, List, map}
use Rattle.std.proofs.Common.{sym, ◌∙◌, ap}
use Rattle.spec_forest.specs.declared.tree.Tree.{Tree}
use Rattle.spec_forest.specs.declared.tree.Tree.TheVariants as t
use Rattle.spec_forest.specs.declared.tree.Tree.TheOpen.{Tree-F}
use Rattle.spec_forest.specs.declared.tree.Tree.TheFolds.{fold-roll-Tree}
use Rattle.spec_forest.specs.Node.{Node, atom, list, nodes, node, node_step}

pub node-Atom : (at : ℕ) (text : List ℕ) → node (t.Atom at text) ≡ atom at text
unfolding node
node-Atom at text = ap node (sym (t.rolls-Atom at text)) ∙ fold-roll-Tree Node node_step (Tree-F.Atom at text)

pub node-List : (at : ℕ) (items : List Tree) → node (t.List at items) ≡ list at (nodes (map node items))
unfolding node
node-List at items = ap node (sym (t.rolls-List at items)) ∙ fold-roll-Tree Node node_step (Tree-F.List at items)

pub ruleset node_laws = (node-Atom, node-List)
