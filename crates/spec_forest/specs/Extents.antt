-- How large a forest is.
use Rattle.std.specs.Prelude.{ℕ, ◌+◌, ◌<◌, max}
use Rattle.spec_forest.specs.Node.{Node, Nodes, atom, list, none, more}

-- the most lists that stand within one another
abbrev mutual
  pub node_nesting : Node → ℕ
  node_nesting (atom at text) = 0
  node_nesting (list at items) = nesting items + 1

  pub nesting : Nodes → ℕ
  nesting none = 0
  nesting (more x xs) = max (node_nesting x) (nesting xs)

-- the number of lists
abbrev mutual
  pub node_lists : Node → ℕ
  node_lists (atom at text) = 0
  node_lists (list at items) = list_count items + 1

  pub list_count : Nodes → ℕ
  list_count none = 0
  list_count (more x xs) = node_lists x + list_count xs

-- the number of lists and atoms together
abbrev mutual
  pub node_items : Node → ℕ
  node_items (atom at text) = 1
  node_items (list at items) = item_count items + 1

  pub item_count : Nodes → ℕ
  item_count none = 0
  item_count (more x xs) = node_items x + item_count xs

-- Every place is below n.
abbrev mutual
  pub NodeIsWithin : ℕ → Node → Type 0
  NodeIsWithin n (atom at text) = at < n
  NodeIsWithin n (list at items) = (at < n) × IsWithin n items

  pub IsWithin : ℕ → Nodes → Type 0
  IsWithin n none = Unit {0}
  IsWithin n (more x xs) = NodeIsWithin n x × IsWithin n xs
