-- Weights that are known, in a list with a place for each node.
use Rattle.std.specs.Prelude.{ℕ, ◌≡◌, List, [], ◌∷◌, min, slice_get, Option, Some, None}
use Rattle.std.specs.List.{AllByRecursion}
use Rattle.stream_core.specs.declared.node.Node.{Node}
use Rattle.stream_core.specs.declared.node.Node.TheVariants as node
use Rattle.stream_core.specs.Value.{SpecValue}
use Rattle.stream_core.specs.Ordered.{all_parts}
use Rattle.stream_core.specs.Term.{expr_at}
use Rattle.stream_core.specs.Weights.{heavy}

-- The list has the weight of node i. What is more than any specification may weigh stands as 262,145.
abbrev pub IsKnown : SpecValue → List ℕ → ℕ → Type 0
IsKnown s weights i = slice_get weights i ≡ Some (min (heavy s i) 262145)

abbrev pub AreKnown : SpecValue → List ℕ → List ℕ → Type 0
AreKnown s weights is = AllByRecursion (IsKnown s weights) is

-- what a node's weight is made of: the expression of the def that it names, or its parts, or its form's operands
abbrev pub made_of : SpecValue → Node → List ℕ
made_of s (node.Def d) = expr_at (slice_get s.defs d) ∷ []
made_of s n = all_parts s.libs n

abbrev pub made_at : SpecValue → Option Node → List ℕ
made_at s None = []
made_at s (Some n) = made_of s n
