-- The places of a forest's nodes in preorder: each node before its items, from the left.
use Rattle.std.specs.Prelude.{ℕ, List, [], ◌∷◌, ◌++◌}
use Rattle.spec_forest.specs.Node.{Node, Nodes, atom, list, none, more}

abbrev mutual
  pub node_places : Node → List ℕ
  node_places (atom at text) = at ∷ []
  node_places (list at items) = at ∷ places items

  pub places : Nodes → List ℕ
  places none = []
  places (more x xs) = node_places x ++ places xs
