-- The buffers of a form, placed as streams over nodes.
use Rattle.std.specs.Prelude.{ℕ, List, [], ◌∷◌, ◌+◌, length, map, replicate, decimal, ◌<◌, ◌≡◌}
use Rattle.std.specs.List.{AllByRecursion}
use Rattle.stream_types.specs.declared.scalar.Scalar.{Scalar}
use Rattle.stream_types.specs.declared.scalar.Ty.TheVariants as ty
use Rattle.stream_core.specs.declared.spec.StreamItem.{StreamItem}
use Rattle.stream_core.specs.Value.{SpecValue}
use Rattle.stream_core.specs.Term.{Term, TreeStream}
use Rattle.stream_core.specs.Lower.{bool_buffer, word_buffer}
use Rattle.stream_lib.specs.Built.{AddsPartsOf, Grows, tree_at}

-- a stream over the tree of its node
abbrev pub stream_tree : SpecValue → StreamItem → TreeStream
stream_tree s x = record { name = x.name; ty = x.ty; init = x.init; expr = tree_at s x.expr; at = x.at }

-- nodes alone were added, and these streams are over the trees of nodes
pub record MakesStreams (old new : SpecValue) (xs : List StreamItem) (ys : List TreeStream) : Type 0 where
  pub grows : Grows old new
  pub there : AllByRecursion (λ (x : StreamItem). x.expr < length new.nodes) xs
  pub are : map (stream_tree new) xs ≡ ys
  pub adds : AddsPartsOf old new (map (λ (y : TreeStream). y.expr) ys)

-- a buffer over this node
abbrev pub buffer_item : ℕ → Scalar → ℕ → ℕ → ℕ → ℕ → StreamItem
buffer_item number s m w expr at = record { name = decimal number; ty = ty.Scalar s; init = replicate m w; expr = expr; at = at }

-- a buffer that takes the first operand
abbrev pub first_taken : ℕ → Scalar → ℕ → ℕ → ℕ → List Term → List TreeStream
first_taken number s m w at [] = []
first_taken number s m w at (p ∷ ps) = word_buffer number s m w p at ∷ []

-- two buffers, which take the first operand and the second
abbrev pub both_taken : ℕ → ℕ → ℕ → List Term → List TreeStream
both_taken number m at [] = []
both_taken number m at (p ∷ []) = []
both_taken number m at (p ∷ q ∷ ps) = bool_buffer number m 1 p at ∷ bool_buffer (number + 1) m 0 q at ∷ []
