-- The defs and nodes of a specification as the places of one graph. The defs come first, then the nodes. A def leads to
-- its expression, a node that names a def to this def, and any other node to its parts and operands.
use Rattle.std.specs.Prelude.{ℕ, zero, suc, ◌+◌, ◌-◌, ◌<◌, ◌≤◌, ◌≡◌, ◌⊎◌, List, [], ◌∷◌, map, length, slice_get, Option, Some, None}
use Rattle.stream_core.specs.declared.node.Node.{Node}
use Rattle.stream_core.specs.declared.node.Node.TheVariants as node
use Rattle.stream_core.specs.declared.spec.DefItem.{DefItem}
use Rattle.stream_core.specs.Value.{SpecValue}
use Rattle.stream_core.specs.Ordered.{all_parts}
use Rattle.stream_core.specs.Term.{TreeDef}
use Rattle.stream_core.specs.Limits.{OnCycle}

abbrev pub Has : List ℕ → ℕ → Type 0
Has [] b = ⊥
Has (a ∷ as_) b = (a ≡ b) ⊎ Has as_ b

-- how many places there are
abbrev pub places : SpecValue → ℕ
places s = length s.defs + length s.nodes

abbrev pub node_next : SpecValue → Option Node → List ℕ
node_next s None = []
node_next s (Some (node.Def d)) = d ∷ []
node_next s (Some n) = map (λ j. length s.defs + j) (all_parts s.libs n)

abbrev pub def_next : SpecValue → ℕ → Option DefItem → List ℕ
def_next s v (Some x) = (length s.defs + x.expr) ∷ []
def_next s v None = node_next s (slice_get s.nodes (v - length s.defs))

-- where place v leads
unfoldable pub next : SpecValue → ℕ → List ℕ
next s v = def_next s v (slice_get s.defs v)

abbrev pub Joins : SpecValue → ℕ → ℕ → Type 0
Joins s a b = Has (next s a) b

-- from place a to place b in n steps
abbrev pub Steps : SpecValue → ℕ → ℕ → ℕ → Type 0
Steps s zero a b = a ≡ b
Steps s (suc n) a b = (c : ℕ) × Joins s a c × Steps s n c b

abbrev pub Reaches : SpecValue → ℕ → ℕ → Type 0
Reaches s a b = (n : ℕ) × Steps s n a b

-- place a leads back to itself
abbrev pub LiesOnCycle : SpecValue → ℕ → Type 0
LiesOnCycle s a = (c : ℕ) × Joins s a c × Reaches s c a

-- the first def that lies on a cycle
pub record IsFirstOnCycle (defs : List TreeDef) (d : ℕ) : Type 0 where
  pub there : d < length defs
  pub on_cycle : OnCycle defs d
  pub first : (c : ℕ) → OnCycle defs c → d ≤ c
