-- The text of one list whose first two items are words, with each further item on a line of its own.
use Rattle.std.specs.Prelude.{◌≡◌, ℕ, ◌<◌, true, List, [], ◌++◌, length, codes}
use Rattle.std.specs.List.{list_all}
use Rattle.spec_forest.specs.Node.{Node, Nodes, atom, list, none, more}
use Rattle.spec_forest.specs.Tokens.{is_letter}

-- one letter or more, and nothing else
abbrev pub IsWord : List ℕ → Type 0
IsWord bytes = (0 < length bytes) × (list_all is_letter bytes ≡ true)

-- Each atom is a word.
abbrev mutual
  pub NodeHasWords : Node → Type 0
  NodeHasWords (atom at bytes) = IsWord bytes
  NodeHasWords (list at items) = HasWords items

  pub HasWords : Nodes → Type 0
  HasWords none = Unit {0}
  HasWords (more x xs) = NodeHasWords x × HasWords xs

-- one space between two items, and nothing else blank
abbrev mutual
  pub node_text : Node → List ℕ
  node_text (atom at bytes) = bytes
  node_text (list at items) = codes "(" ++ line_text items ++ codes ")"

  pub line_text : Nodes → List ℕ
  line_text none = []
  line_text (more x none) = node_text x
  line_text (more x (more y ys)) = node_text x ++ codes " " ++ line_text (more y ys)

-- a line feed and two spaces before each item
abbrev pub lines_text : Nodes → List ℕ
lines_text none = []
lines_text (more x xs) = codes "\n  " ++ node_text x ++ lines_text xs

unfoldable pub page_text : List ℕ → List ℕ → Nodes → List ℕ
page_text head name items = codes "(" ++ head ++ codes " " ++ name ++ lines_text items ++ codes ")\n"

-- the forest of that text, but for places
abbrev pub page_nodes : List ℕ → List ℕ → Nodes → Nodes
page_nodes head name items = more (list 0 (more (atom 0 head) (more (atom 0 name) items))) none
