-- The nodes of a text as trees, without where they lie in memory. Every other definition speaks of these.
use Rattle.std.specs.Prelude.{ℕ, List, [], ◌∷◌, map}
use Rattle.spec_forest.specs.declared.tree.Tree.{Tree}
use Rattle.spec_forest.specs.declared.tree.Tree.TheOpen.{Tree-F}
use Rattle.spec_forest.specs.declared.tree.Tree.TheFolds.{fold-Tree}
use Rattle.spec_forest.specs.declared.tree.Forest.{Forest}

mutual
  -- an atom with its place and bytes, or a list with its place and items
  pub data Node : Type 0 where
    atom : ℕ → List ℕ → Node
    list : ℕ → Nodes → Node

  pub data Nodes : Type 0 where
    none : Nodes
    more : Node → Nodes → Nodes

abbrev pub nodes : List Node → Nodes
nodes [] = none
nodes (x ∷ xs) = more x (nodes xs)

-- one level, with the tree of each item in its place
abbrev pub node_step : Tree-F Node → Node
node_step (Tree-F.Atom at text) = atom at text
node_step (Tree-F.List at items) = list at (nodes items)

-- the tree of a node
unfoldable pub node : Tree → Node
node = fold-Tree Node node_step

-- the nodes at the top of a text
abbrev pub forest_nodes : Forest → Nodes
forest_nodes f = nodes (map node f.items)
