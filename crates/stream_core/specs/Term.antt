-- Expressions as trees, and specifications over them.
use Rattle.std.specs.Prelude.{ℕ, zero, suc, ◌/◌, List, [], ◌∷◌, map, length, Option, Some, None, slice_get}
use Rattle.stream_types.specs.declared.scalar.Scalar.{Scalar}
use Rattle.stream_types.specs.declared.scalar.Ty.{Ty}
use Rattle.stream_types.specs.declared.scalar.Op1.{Op1}
use Rattle.stream_types.specs.declared.scalar.Op2.{Op2}
use Rattle.stream_types.specs.declared.scalar.Dir.{Dir}
use Rattle.stream_types.specs.declared.types.TypeEntry.{TypeEntry}
use Rattle.stream_types.specs.Types.{words}
use Rattle.stream_core.specs.declared.node.Node.{Node}
use Rattle.stream_core.specs.declared.node.Node.TheVariants as node
use Rattle.stream_core.specs.declared.node.LibForm.{LibForm}
use Rattle.stream_core.specs.declared.spec.Root.{Root}
use Rattle.stream_core.specs.declared.spec.ExternItem.{ExternItem}
use Rattle.stream_core.specs.declared.spec.StreamItem.{StreamItem}
use Rattle.stream_core.specs.declared.spec.DefItem.{DefItem}
use Rattle.stream_core.specs.declared.spec.TriggerItem.{TriggerItem}
use Rattle.stream_core.specs.declared.spec.ObserverItem.{ObserverItem}
use Rattle.stream_core.specs.declared.spec.LibItem.{LibItem}
use Rattle.stream_core.specs.Value.{SpecValue}

mutual
  pub data Term : Type 0 where
    lit : Scalar → ℕ → Term
    extern : ℕ → Term
    stream : ℕ → Term
    def : ℕ → Term
    named : ℕ → Term → Term
    missing : Term
    dropped : ℕ → ℕ → Term
    un : Op1 → Scalar → Term → Term
    bin : Op2 → Scalar → Term → Term → Term
    shift : Dir → Scalar → Term → Scalar → Term → Term
    cast : Scalar → Scalar → Term → Term
    and : Term → Term → Term
    or : Term → Term → Term
    implies : Term → Term → Term
    choose : Term → Term → Term → Term
    index : Ty → Term → Term → Term
    field : Ty → ℕ → Term → Term
    array : Ty → Terms → Term
    struct : Ty → Terms → Term
    abs : Scalar → Term → Term
    sign : Scalar → Term → Term
    majority : Scalar → Terms → Term
    agreed : Scalar → Terms → Term
    lib : ℕ → LibForm → Terms → Term

  pub data Terms : Type 0 where
    end : Terms
    more : Term → Terms → Terms

-- ---- the tree of a node

abbrev pub terms_of : (ℕ → Term) → List ℕ → Terms
terms_of tree [] = end
terms_of tree (i ∷ is) = more (tree i) (terms_of tree is)

-- the form that a node of the library names, over its operands' trees
abbrev pub lib_of : (ℕ → Term) → ℕ → Option LibItem → Term
lib_of tree k None = missing
lib_of tree k (Some item) = lib k item.form (terms_of tree item.args)

-- one node, over a tree for each def and the trees of its parts
abbrev pub build : List LibItem → (ℕ → Term) → (ℕ → Term) → Node → Term
build libs at_def tree (node.Lit s w) = lit s w
build libs at_def tree (node.Extern x) = extern x
build libs at_def tree (node.Stream s) = stream s
build libs at_def tree (node.Def d) = at_def d
build libs at_def tree (node.Drop s k) = dropped s k
build libs at_def tree (node.Un o s a) = un o s (tree a)
build libs at_def tree (node.Bin o s a b) = bin o s (tree a) (tree b)
build libs at_def tree (node.Shift d s a cs c) = shift d s (tree a) cs (tree c)
build libs at_def tree (node.Cast f t a) = cast f t (tree a)
build libs at_def tree (node.And a b) = and (tree a) (tree b)
build libs at_def tree (node.Or a b) = or (tree a) (tree b)
build libs at_def tree (node.Implies a b) = implies (tree a) (tree b)
build libs at_def tree (node.If c a b) = choose (tree c) (tree a) (tree b)
build libs at_def tree (node.Index t a i) = index t (tree a) (tree i)
build libs at_def tree (node.Field t m a) = field t m (tree a)
build libs at_def tree (node.Array t es) = array t (terms_of tree es)
build libs at_def tree (node.Record t es) = struct t (terms_of tree es)
build libs at_def tree (node.Abs s a) = abs s (tree a)
build libs at_def tree (node.Sign s a) = sign s (tree a)
build libs at_def tree (node.Majority s es) = majority s (terms_of tree es)
build libs at_def tree (node.Agreed s es) = agreed s (terms_of tree es)
build libs at_def tree (node.Lib k) = lib_of tree k (slice_get libs k)

abbrev pub build_at : List LibItem → (ℕ → Term) → Option Node → Term
build_at libs tree None = missing
build_at libs tree (Some n) = build libs def tree n

-- the tree down to a depth
abbrev pub tree_to : List Node → List LibItem → ℕ → ℕ → Term
tree_to nodes libs zero i = missing
tree_to nodes libs (suc depth) i = build_at libs (tree_to nodes libs depth) (slice_get nodes i)

-- the tree of a node, whose parts have smaller numbers
unfoldable pub tree : List Node → List LibItem → ℕ → Term
tree nodes libs i = tree_to nodes libs (suc i) i

-- ---- specifications over trees

pub record TreeRoot : Type 0 where
  pub expr : Term
  pub ty : Ty
  pub at : ℕ

pub record TreeStream : Type 0 where
  pub name : List ℕ
  pub ty : Ty
  pub init : List ℕ
  pub expr : Term
  pub at : ℕ

pub record TreeDef : Type 0 where
  pub name : List ℕ
  pub ty : Ty
  pub expr : Term
  pub at : ℕ

pub record TreeTrigger : Type 0 where
  pub name : List ℕ
  pub guard : TreeRoot
  pub args : List TreeRoot

pub record TreeObserver : Type 0 where
  pub name : List ℕ
  pub root : TreeRoot

pub record TreeLib : Type 0 where
  pub form : LibForm
  pub args : List Term
  pub at : ℕ

pub record TreeSpec : Type 0 where
  pub name : List ℕ
  pub types : List TypeEntry
  pub externs : List ExternItem
  pub streams : List TreeStream
  pub defs : List TreeDef
  pub triggers : List TreeTrigger
  pub observers : List TreeObserver
  pub libs : List TreeLib

-- how many values of a type so many words are
abbrev pub value_count : List TypeEntry → Ty → List ℕ → ℕ
value_count types t values = length values / words types t

-- how many initial values a stream has
abbrev pub initial_count : List TypeEntry → TreeStream → ℕ
initial_count types x = value_count types x.ty x.init

abbrev pub tree_root : (ℕ → Term) → Root → TreeRoot
tree_root tree r = record { expr = tree r.expr; ty = r.ty; at = r.at }

-- the specification, each expression as its node's tree
abbrev pub trees_by : (ℕ → Term) → SpecValue → TreeSpec
trees_by tree s = record {
  name = s.name;
  types = s.types;
  externs = s.externs;
  streams = map (λ (x : StreamItem). record { name = x.name; ty = x.ty; init = x.init; expr = tree x.expr; at = x.at }) s.streams;
  defs = map (λ (x : DefItem). record { name = x.name; ty = x.ty; expr = tree x.expr; at = x.at }) s.defs;
  triggers = map (λ (x : TriggerItem). record { name = x.name; guard = tree_root tree x.guard; args = map (tree_root tree) x.args }) s.triggers;
  observers = map (λ (x : ObserverItem). record { name = x.name; root = tree_root tree x.root }) s.observers;
  libs = map (λ (x : LibItem). record { form = x.form; args = map tree x.args; at = x.at }) s.libs;
}

abbrev pub trees : SpecValue → TreeSpec
trees s = trees_by (tree s.nodes s.libs) s

-- ---- defs written out

abbrev mutual
  -- the tree with a tree for each def
  pub with_defs : (ℕ → Term) → Term → Term
  with_defs f (lit s w) = lit s w
  with_defs f (extern x) = extern x
  with_defs f (stream s) = stream s
  with_defs f (def d) = named d (f d)
  with_defs f missing = missing
  with_defs f (named d a) = named d (with_defs f a)
  with_defs f (dropped s k) = dropped s k
  with_defs f (un o s a) = un o s (with_defs f a)
  with_defs f (bin o s a b) = bin o s (with_defs f a) (with_defs f b)
  with_defs f (shift d s a cs c) = shift d s (with_defs f a) cs (with_defs f c)
  with_defs f (cast g t a) = cast g t (with_defs f a)
  with_defs f (and a b) = and (with_defs f a) (with_defs f b)
  with_defs f (or a b) = or (with_defs f a) (with_defs f b)
  with_defs f (implies a b) = implies (with_defs f a) (with_defs f b)
  with_defs f (choose c a b) = choose (with_defs f c) (with_defs f a) (with_defs f b)
  with_defs f (index t a i) = index t (with_defs f a) (with_defs f i)
  with_defs f (field t m a) = field t m (with_defs f a)
  with_defs f (array t es) = array t (all_with_defs f es)
  with_defs f (struct t es) = struct t (all_with_defs f es)
  with_defs f (abs s a) = abs s (with_defs f a)
  with_defs f (sign s a) = sign s (with_defs f a)
  with_defs f (majority s es) = majority s (all_with_defs f es)
  with_defs f (agreed s es) = agreed s (all_with_defs f es)
  with_defs f (lib k form es) = lib k form (all_with_defs f es)

  pub all_with_defs : (ℕ → Term) → Terms → Terms
  all_with_defs f end = end
  all_with_defs f (more a es) = more (with_defs f a) (all_with_defs f es)

-- a def's expression, with the defs in it written out to a depth
abbrev pub def_at : (ℕ → Term) → Option TreeDef → Term
def_at f None = missing
def_at f (Some d) = with_defs f d.expr

abbrev pub def_to : List TreeDef → ℕ → ℕ → Term
def_to defs zero d = def d
def_to defs (suc depth) d = def_at (def_to defs depth) (slice_get defs d)

-- Each def written out. Where no def leads back to itself, chains of them are no longer than the list.
abbrev pub written_out : List TreeDef → Term → Term
written_out defs e = with_defs (def_to defs (length defs)) e

abbrev pub root_with : (Term → Term) → TreeRoot → TreeRoot
root_with f r = record r { expr = f r.expr }

-- the specification with each def written out
abbrev pub without_defs : TreeSpec → TreeSpec
without_defs s = let out = written_out s.defs in record s {
  streams = map (λ (x : TreeStream). record x { expr = out x.expr }) s.streams;
  triggers = map (λ (x : TreeTrigger). record x { guard = root_with out x.guard; args = map (root_with out) x.args }) s.triggers;
  observers = map (λ (x : TreeObserver). record x { root = root_with out x.root }) s.observers;
  libs = map (λ (x : TreeLib). record x { args = map out x.args }) s.libs;
}

-- ---- the tree of a node with each def written out

abbrev pub tree_def : (ℕ → Term) → DefItem → TreeDef
tree_def tree x = record { name = x.name; ty = x.ty; expr = tree x.expr; at = x.at }

abbrev pub defs_of : SpecValue → List TreeDef
defs_of s = map (tree_def (tree s.nodes s.libs)) s.defs

unfoldable pub closed : SpecValue → ℕ → Term
closed s i = written_out (defs_of s) (tree s.nodes s.libs i)

abbrev pub expr_at : Option DefItem → ℕ
expr_at None = 0
expr_at (Some x) = x.expr

-- def d of a specification, written out
abbrev pub closed_def : SpecValue → ℕ → Term
closed_def s d = named d (closed s (expr_at (slice_get s.defs d)))
