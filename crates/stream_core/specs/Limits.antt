-- Cycles of defs, weight and storage.
use Rattle.std.specs.Prelude.{ℕ, zero, suc, ◌+◌, ◌*◌, ◌≡◌, List, [], ◌∷◌, ◌++◌, length, map, slice_get, sum, Contains, Some, ◌<◌, if◌then◌else◌, nat_le}
use Rattle.std.specs.List.{AllByRecursion}
use Rattle.stream_types.specs.Types.{size}
use Rattle.stream_core.specs.declared.spec.ExternItem.{ExternItem}
use Rattle.stream_core.specs.Term.{Term, Terms, lit, extern, stream, def, named, missing, dropped, un, bin, shift, cast, and, or, implies, choose, index, field, array, struct, abs, sign, majority, agreed, lib, end, more, TreeSpec, TreeStream, TreeDef, TreeTrigger, TreeObserver, TreeRoot, initial_count, without_defs}
use Rattle.stream_core.specs.Lower.{lowered_spec}

-- ---- cycles

abbrev mutual
  -- the defs that an expression mentions
  pub mentions : Term → List ℕ
  mentions (lit s w) = []
  mentions (extern x) = []
  mentions (stream s) = []
  mentions (def d) = d ∷ []
  mentions (named d a) = mentions a
  mentions missing = []
  mentions (dropped s k) = []
  mentions (un o s a) = mentions a
  mentions (bin o s a b) = mentions a ++ mentions b
  mentions (shift d s a cs c) = mentions a ++ mentions c
  mentions (cast f t a) = mentions a
  mentions (and a b) = mentions a ++ mentions b
  mentions (or a b) = mentions a ++ mentions b
  mentions (implies a b) = mentions a ++ mentions b
  mentions (choose c a b) = mentions c ++ (mentions a ++ mentions b)
  mentions (index t a i) = mentions a ++ mentions i
  mentions (field t m a) = mentions a
  mentions (array t es) = all_mentions es
  mentions (struct t es) = all_mentions es
  mentions (abs s a) = mentions a
  mentions (sign s a) = mentions a
  mentions (majority s es) = all_mentions es
  mentions (agreed s es) = all_mentions es
  mentions (lib k form es) = all_mentions es

  pub all_mentions : Terms → List ℕ
  all_mentions end = []
  all_mentions (more a es) = mentions a ++ all_mentions es

-- def a mentions def b
pub record Mentions (defs : List TreeDef) (a b : ℕ) : Type 0 where
  pub from : TreeDef
  pub is : slice_get defs a ≡ Some from
  pub to : Contains (mentions from.expr) b

-- from def a to def b over n more defs
abbrev pub Leads : List TreeDef → ℕ → ℕ → ℕ → Type 0
Leads defs zero a b = Mentions defs a b
Leads defs (suc n) a b = (c : ℕ) × Mentions defs a c × Leads defs n c b

abbrev pub OnCycle : List TreeDef → ℕ → Type 0
OnCycle defs d = (n : ℕ) × Leads defs n d d

-- numbers that fall along mentions, each below the number of defs
pub record Ranks (defs : List TreeDef) (rank : ℕ → ℕ) : Type 0 where
  pub falls : (d : ℕ) (x : TreeDef) → slice_get defs d ≡ Some x → AllByRecursion (λ c. rank c < rank d) (mentions x.expr)
  pub below : (d : ℕ) → d < length defs → rank d < length defs

-- ---- weight, of an expression without defs and library forms

abbrev mutual
  pub plain_weight : Term → ℕ
  plain_weight (lit s w) = 1
  plain_weight (extern x) = 1
  plain_weight (stream s) = 1
  plain_weight (def d) = 1
  plain_weight (named d a) = plain_weight a
  plain_weight missing = 1
  plain_weight (dropped s k) = 1
  plain_weight (un o s a) = 1 + plain_weight a
  plain_weight (bin o s a b) = 1 + plain_weight a + plain_weight b
  plain_weight (shift d s a cs c) = 1 + plain_weight a + plain_weight c
  plain_weight (cast f t a) = 1 + plain_weight a
  plain_weight (and a b) = 1 + plain_weight a + plain_weight b
  plain_weight (or a b) = 1 + plain_weight a + plain_weight b
  plain_weight (implies a b) = 1 + plain_weight a + plain_weight b
  plain_weight (choose c a b) = 1 + plain_weight c + plain_weight a + plain_weight b
  plain_weight (index t a i) = 1 + plain_weight a + plain_weight i
  plain_weight (field t m a) = 1 + plain_weight a
  plain_weight (array t es) = 1 + plain_weights es
  plain_weight (struct t es) = 1 + plain_weights es
  plain_weight (abs s a) = 1 + plain_weight a
  plain_weight (sign s a) = 1 + plain_weight a
  plain_weight (majority s es) = 1 + plain_weights es
  plain_weight (agreed s es) = 1 + plain_weights es
  plain_weight (lib k form es) = 1 + plain_weights es

  pub plain_weights : Terms → ℕ
  plain_weights end = 0
  plain_weights (more a es) = plain_weight a + plain_weights es

-- how many nodes a tree has, a written out def among them
abbrev mutual
  pub tree_size : Term → ℕ
  tree_size (lit s w) = 1
  tree_size (extern x) = 1
  tree_size (stream s) = 1
  tree_size (def d) = 1
  tree_size (named d a) = 1 + tree_size a
  tree_size missing = 1
  tree_size (dropped s k) = 1
  tree_size (un o s a) = 1 + tree_size a
  tree_size (bin o s a b) = 1 + tree_size a + tree_size b
  tree_size (shift d s a cs c) = 1 + tree_size a + tree_size c
  tree_size (cast f t a) = 1 + tree_size a
  tree_size (and a b) = 1 + tree_size a + tree_size b
  tree_size (or a b) = 1 + tree_size a + tree_size b
  tree_size (implies a b) = 1 + tree_size a + tree_size b
  tree_size (choose c a b) = 1 + tree_size c + tree_size a + tree_size b
  tree_size (index t a i) = 1 + tree_size a + tree_size i
  tree_size (field t m a) = 1 + tree_size a
  tree_size (array t es) = 1 + sizes es
  tree_size (struct t es) = 1 + sizes es
  tree_size (abs s a) = 1 + tree_size a
  tree_size (sign s a) = 1 + tree_size a
  tree_size (majority s es) = 1 + sizes es
  tree_size (agreed s es) = 1 + sizes es
  tree_size (lib k form es) = 1 + sizes es

  pub sizes : Terms → ℕ
  sizes end = 0
  sizes (more a es) = tree_size a + sizes es

abbrev pub trigger_weights : List TreeTrigger → List ℕ
trigger_weights [] = []
trigger_weights (x ∷ xs) = plain_weight x.guard.expr ∷ (map (λ (r : TreeRoot). plain_weight r.expr) x.args ++ trigger_weights xs)

-- the sum over all roots of a plain specification
abbrev pub weight_of_plain : TreeSpec → ℕ
weight_of_plain s =
    sum (trigger_weights s.triggers) + sum (map (λ (x : TreeObserver). plain_weight x.root.expr) s.observers) + sum (map (λ (x : TreeStream). plain_weight x.expr) s.streams)

-- a form of the library weighs what its value and its buffers weigh
abbrev pub weight : TreeSpec → ℕ
weight s = weight_of_plain (without_defs (lowered_spec s))

-- ---- storage

-- the bytes of so many values of a size: with two or more, an index of four bytes goes with them
abbrev pub ring_bytes : ℕ → ℕ → ℕ
ring_bytes count bytes = if nat_le 2 count then count * bytes + 4 else count * bytes

abbrev pub storage_of_plain : TreeSpec → ℕ
storage_of_plain s =
    sum (map (λ (x : TreeStream). ring_bytes (initial_count s.types x) (size s.types x.ty)) s.streams) + sum (map (λ (x : ExternItem). size s.types x.ty) s.externs)

-- a stream or a buffer takes its values' bytes and its index; an extern takes its copy's bytes
abbrev pub storage : TreeSpec → ℕ
storage s = storage_of_plain (lowered_spec s)
