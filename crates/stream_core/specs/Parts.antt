-- The parts of a node, and what a list of nodes keeps.
use Rattle.std.specs.Prelude.{ℕ, ◌<◌, ◌≡◌, List, [], ◌∷◌, slice_get, Some}
use Rattle.std.specs.List.{AllByRecursion}
use Rattle.stream_core.specs.declared.node.Node.{Node}
use Rattle.stream_core.specs.declared.node.Node.TheVariants as node

abbrev pub parts : Node → List ℕ
parts (node.Lit s w) = []
parts (node.Extern x) = []
parts (node.Stream s) = []
parts (node.Def d) = []
parts (node.Drop s k) = []
parts (node.Un o s a) = a ∷ []
parts (node.Bin o s a b) = a ∷ b ∷ []
parts (node.Shift d s a cs c) = a ∷ c ∷ []
parts (node.Cast f t a) = a ∷ []
parts (node.And a b) = a ∷ b ∷ []
parts (node.Or a b) = a ∷ b ∷ []
parts (node.Implies a b) = a ∷ b ∷ []
parts (node.If c a b) = c ∷ a ∷ b ∷ []
parts (node.Index t a i) = a ∷ i ∷ []
parts (node.Field t m a) = a ∷ []
parts (node.Array t es) = es
parts (node.Record t es) = es
parts (node.Abs s a) = a ∷ []
parts (node.Sign s a) = a ∷ []
parts (node.Majority s es) = es
parts (node.Agreed s es) = es
parts (node.Lib k) = []

-- each part of each node has a smaller number, and no node stands twice
pub record IsNodeList (nodes : List Node) : Type 0 where
  pub below : (i : ℕ) (n : Node) → slice_get nodes i ≡ Some n → AllByRecursion (λ j. j < i) (parts n)
  pub once : (i j : ℕ) (n : Node) → slice_get nodes i ≡ Some n → slice_get nodes j ≡ Some n → i ≡ j
