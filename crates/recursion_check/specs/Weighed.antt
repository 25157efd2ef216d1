-- What the weighing of a specification's nodes keeps. Some places of the graph are new, the weights of some are known,
-- and the others are open: they wait for the places to which they lead. All places whose weights are not known stand on a
-- list of places to be weighed, the next one last. Behind an open place stand smaller ones alone, among them those for
-- which it waits.
use Rattle.std.specs.Prelude.{ℕ, zero, suc, ◌+◌, ◌-◌, ◌*◌, ◌<◌, ◌≡◌, ◌⊎◌, List, [], ◌∷◌, ◌++◌, length, map, slice_get, Option, Some, None}
use Rattle.stream_core.specs.declared.spec.DefItem.{DefItem}
use Rattle.stream_core.specs.Value.{SpecValue}
use Rattle.stream_core.specs.Term.{closed}
use Rattle.stream_core.specs.Limits.{tree_size}
use Rattle.stream_core.specs.KnownWeights.{IsKnown}
use Rattle.recursion_check.specs.declared.edges.Edge.{Edge}
use Rattle.recursion_check.specs.declared.weigh.Stage.{Stage}
use Rattle.recursion_check.specs.declared.weigh.Stage.TheVariants as stage
use Rattle.recursion_check.specs.declared.weigh.Weighing.{Weighing}
use Rattle.recursion_check.specs.Graph.{Has, Joins, places}

abbrev pub expr_or : ℕ → Option DefItem → ℕ
expr_or i None = i
expr_or i (Some x) = x.expr

-- the node of a place: a def's is its expression
abbrev pub node_at : SpecValue → ℕ → ℕ
node_at s v = expr_or (v - length s.defs) (slice_get s.defs v)

abbrev pub size_or : SpecValue → ℕ → Option DefItem → ℕ
size_or s i None = 2 * tree_size (closed s i)
size_or s i (Some x) = 2 * tree_size (closed s x.expr) + 1

-- a number that falls along the steps of the graph
unfoldable pub heft : SpecValue → ℕ → ℕ
heft s v = size_or s (v - length s.defs) (slice_get s.defs v)

abbrev pub tos : List Edge → List ℕ
tos es = map (λ (e : Edge). e.to) es

-- Behind an open place stand smaller ones alone, and each place to which it leads whose weight is not known.
pub record Waits (s : SpecValue) (stages : List Stage) (ts : List ℕ) (v : ℕ) : Type 0 where
  pub p : ℕ
  pub at : slice_get ts p ≡ Some v
  pub smaller : (q u : ℕ) → p < q → slice_get ts q ≡ Some u → heft s u < heft s v
  pub next : (w : ℕ) → Joins s v w → (slice_get stages w ≡ Some stage.Known) ⊎ ((q : ℕ) × (p < q) × (slice_get ts q ≡ Some w))

pub record KeepsWeights (s : SpecValue) (stages : List Stage) (weights ts : List ℕ) : Type 0 where
  pub size : length stages ≡ places s
  pub count : length weights ≡ length s.nodes
  pub there : (w : ℕ) → Has ts w → w < places s
  pub all : (v : ℕ) → v < places s → (slice_get stages v ≡ Some stage.Known) ⊎ Has ts v
  pub known : (v : ℕ) → slice_get stages v ≡ Some stage.Known → IsKnown s weights (node_at s v)
  pub waits : (v : ℕ) → slice_get stages v ≡ Some stage.Open → Waits s stages ts v

abbrev pub IsWeighing : SpecValue → Weighing → Type 0
IsWeighing s w = KeepsWeights s w.stages.items w.weights.items (tos w.todo.items)

-- the last place still to be weighed
abbrev pub last_of : List Edge → Option ℕ
last_of es = slice_get (tos es) (length es - 1)

-- so many steps, to each of as many places
abbrev pub all_steps : ℕ → List Edge
all_steps zero = []
all_steps (suc n) = all_steps n ++ record { from = 0; to = n } ∷ []

-- 1 for a new place
abbrev pub unmet : Stage → ℕ
unmet stage.New = 1
unmet _ = 0

-- the weights of all nodes
abbrev pub AreWeights : SpecValue → List ℕ → Type 0
AreWeights s weights = (i : ℕ) → i < length s.nodes → IsKnown s weights i
