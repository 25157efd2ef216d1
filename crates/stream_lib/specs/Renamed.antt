-- Nodes over other numbers, and without the forms of abs, sign and votes.
use Rattle.std.specs.Prelude.{ℕ, zero, suc, List, [], ◌∷◌, map, ◌+◌, ◌++◌, ◌<◌, ◌≤◌, ◌≡◌, ◌⊎◌, length, slice_get, slice_index_or, Some}
use Rattle.stream_core.specs.declared.node.Node.{Node}
use Rattle.stream_core.specs.declared.node.Node.TheVariants as node
use Rattle.stream_core.specs.declared.spec.LibItem.{LibItem}
use Rattle.stream_core.specs.declared.spec.DefItem.{DefItem}
use Rattle.stream_core.specs.declared.spec.Root.{Root}
use Rattle.stream_core.specs.declared.spec.StreamItem.{StreamItem}
use Rattle.stream_core.specs.declared.spec.TriggerItem.{TriggerItem}
use Rattle.stream_core.specs.declared.spec.ObserverItem.{ObserverItem}
use Rattle.std.specs.List.{AllByRecursion}
use Rattle.stream_core.specs.Value.{SpecValue}
use Rattle.stream_core.specs.PartOf.{IsPartOf}
use Rattle.stream_core.specs.Term.{Term, TreeStream, build, def, tree, trees}
use Rattle.stream_core.specs.Lower.{abs_term, agreed_term, buffer_of, buffers, lowered, lowered_spec, majority_term, sign_term}
use Rattle.stream_lib.specs.Built.{IsPartOfOne, tree_at}

-- the node over the new numbers of its parts
abbrev pub renamed : (ℕ → ℕ) → Node → Node
renamed f (node.Lit s w) = node.Lit s w
renamed f (node.Extern x) = node.Extern x
renamed f (node.Stream s) = node.Stream s
renamed f (node.Def d) = node.Def d
renamed f (node.Drop s k) = node.Drop s k
renamed f (node.Un o s a) = node.Un o s (f a)
renamed f (node.Bin o s a b) = node.Bin o s (f a) (f b)
renamed f (node.Shift d s a cs c) = node.Shift d s (f a) cs (f c)
renamed f (node.Cast x t a) = node.Cast x t (f a)
renamed f (node.And a b) = node.And (f a) (f b)
renamed f (node.Or a b) = node.Or (f a) (f b)
renamed f (node.Implies a b) = node.Implies (f a) (f b)
renamed f (node.If c a b) = node.If (f c) (f a) (f b)
renamed f (node.Index t a i) = node.Index t (f a) (f i)
renamed f (node.Field t m a) = node.Field t m (f a)
renamed f (node.Array t es) = node.Array t (map f es)
renamed f (node.Record t es) = node.Record t (map f es)
renamed f (node.Abs s a) = node.Abs s (f a)
renamed f (node.Sign s a) = node.Sign s (f a)
renamed f (node.Majority s es) = node.Majority s (map f es)
renamed f (node.Agreed s es) = node.Agreed s (map f es)
renamed f (node.Lib k) = node.Lib k

-- a root over the new number of its expression
abbrev pub renamed_root : (ℕ → ℕ) → Root → Root
renamed_root f r = record r { expr = f r.expr }

abbrev pub renamed_stream : (ℕ → ℕ) → StreamItem → StreamItem
renamed_stream f x = record x { expr = f x.expr }

abbrev pub renamed_def : (ℕ → ℕ) → DefItem → DefItem
renamed_def f x = record x { expr = f x.expr }

abbrev pub renamed_observer : (ℕ → ℕ) → ObserverItem → ObserverItem
renamed_observer f x = record x { root = renamed_root f x.root }

abbrev pub renamed_trigger : (ℕ → ℕ) → TriggerItem → TriggerItem
renamed_trigger f x = record x { guard = renamed_root f x.guard; args = map (renamed_root f) x.args }

-- the trigger's expressions are among the first n nodes
abbrev pub HasNumbers : ℕ → TriggerItem → Type 0
HasNumbers n x = (x.guard.expr < n) × AllByRecursion (λ (r : Root). r.expr < n) x.args

-- a node over the trees of its parts, without abs, sign and votes
abbrev pub plain_node : (ℕ → Term) → Node → Term
plain_node t (node.Abs s a) = abs_term s (t a)
plain_node t (node.Sign s a) = sign_term s (t a)
plain_node t (node.Majority s es) = majority_term s (map t es)
plain_node t (node.Agreed s es) = agreed_term s (map t es)
plain_node t n = build [] def t n

-- the new number of a node
abbrev pub new_of : List ℕ → ℕ → ℕ
new_of news i = slice_index_or news i 0

-- each of the first nodes of a specification has its lowered tree at its new number
abbrev pub AreLowered : SpecValue → SpecValue → List ℕ → Type 0
AreLowered source s news = (i : ℕ) → i < length news → (new_of news i < length s.nodes)
    × (tree_at s (new_of news i) ≡ lowered (buffer_of (length source.streams) (trees source).libs) (tree source.nodes source.libs i))

-- the first buffer of form k of a list, behind n streams
abbrev pub first_from : ℕ → List LibItem → ℕ → ℕ
first_from n [] k = n
first_from n (x ∷ xs) zero = n
first_from n (x ∷ xs) (suc k) = first_from (n + buffers x.form) xs k

-- the first buffer of each form of a specification
abbrev pub starts_of : SpecValue → ℕ → ℕ
starts_of source k = buffer_of (length source.streams) (trees source).libs k

-- an expression within the lowered tree of one of the first n nodes
pub record IsPartOfLowered (source : SpecValue) (n : ℕ) (e : Term) : Type 0 where
  pub node : ℕ
  pub there : node < n
  pub part : IsPartOf e (lowered (starts_of source) (tree source.nodes source.libs node))

-- each node that was added is within the lowered tree of one of the first n nodes
pub record AddsLowered (source old new : SpecValue) (n : ℕ) : Type 0 where
  pub parts : (j : ℕ) → length old.nodes ≤ j → j < length new.nodes → IsPartOfLowered source n (tree_at new j)

-- each node is within the lowered tree of one of the source's nodes, or within a stream of the lowered specification
pub record IsOfLowered (source made : SpecValue) : Type 0 where
  pub parts : (j : ℕ) → j < length made.nodes
      → IsPartOfLowered source (length source.nodes) (tree_at made j) ⊎ IsPartOfOne (tree_at made j) (map (λ (x : TreeStream). x.expr) (lowered_spec (trees source)).streams)

-- these are the first buffers of the forms
abbrev pub AreStarts : SpecValue → List ℕ → Type 0
AreStarts source starts = (k b : ℕ) → slice_get starts k ≡ Some b → (b < 4294967295) × (b ≡ starts_of source k)

-- the expressions of a specification are among the first n nodes
pub record AreNumbers (n : ℕ) (s : SpecValue) : Type 0 where
  pub streams : AllByRecursion (λ (x : StreamItem). x.expr < n) s.streams
  pub defs : AllByRecursion (λ (x : DefItem). x.expr < n) s.defs
  pub triggers : AllByRecursion (HasNumbers n) s.triggers
  pub observers : AllByRecursion (λ (x : ObserverItem). x.root.expr < n) s.observers
  pub libs : AllByRecursion (λ (x : LibItem). AllByRecursion (λ j. j < n) x.args) s.libs

-- the items of a specification over new numbers, and buffers, behind those of another one
abbrev pub with_items : SpecValue → List ℕ → List StreamItem → SpecValue → SpecValue
with_items source news xs s = record {
  name = s.name;
  types = s.types;
  nodes = s.nodes;
  externs = s.externs ++ source.externs;
  streams = (s.streams ++ map (renamed_stream (new_of news)) source.streams) ++ xs;
  defs = s.defs ++ map (renamed_def (new_of news)) source.defs;
  triggers = s.triggers ++ map (renamed_trigger (new_of news)) source.triggers;
  observers = s.observers ++ map (renamed_observer (new_of news)) source.observers;
  libs = s.libs;
}
