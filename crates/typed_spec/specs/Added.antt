-- What roots and declarations add to an arena.
use Rattle.std.specs.Prelude.{◌≡◌, ◌⊎◌, ℕ, ◌+◌, ◌<◌, ◌≤◌, List, [], ◌∷◌, ◌++◌, length, map, slice_get, Some, None}
use Rattle.std.specs.List.{flat_map, AllByRecursion}
use Rattle.spec_text.specs.declared.surface.Expr.{Expr}
use Rattle.spec_text.specs.declared.surface.Decl.{Decl}
use Rattle.stream_core.specs.declared.node.Node.{Node}
use Rattle.stream_core.specs.declared.node.Node.TheVariants as node
use Rattle.stream_core.specs.declared.spec.Root.{Root}
use Rattle.stream_core.specs.declared.spec.LibItem.{LibItem}
use Rattle.stream_core.specs.Value.{SpecValue}
use Rattle.stream_core.specs.Term.{Term, TreeSpec, tree, tree_root, trees_by}
use Rattle.stream_core.specs.Ordered.{args_of}
use Rattle.type_check.specs.declared.known.Known.{Known}
use Rattle.type_check.specs.declared.structs.Struct.{Struct as CodeStruct}
use Rattle.type_check.specs.NamedType.{Declarations, struct_in}
use Rattle.type_check.specs.Judged.{Scope}
use Rattle.type_check.specs.Untyped.{reversed}
use Rattle.type_check.specs.Standing.{AllMean}
use Rattle.type_check.specs.Listed.{AreNumbers}
use Rattle.type_check.specs.Walked.{IsBetween}
use Rattle.typed_spec.specs.declared.arena.Arena.{Arena}
use Rattle.typed_spec.specs.declared.text.Text.{Text}
use Rattle.typed_text.specs.ReadSpec.{Numbers, Read, read_expr, counts, terms_from, forms_from, roots_from, Placed, reads, roots, first_root, extern_item, stream_item, def_item, trigger_item, observer_item, forms_of}
use Rattle.typed_spec.specs.Made.{Keeps, StandAt, Holds, form_tree, StandsAmong}
use Rattle.typed_spec.specs.Texts.{AreNumbered}
use Rattle.typed_text.specs.InExpressions.{StandsIn}

-- Nodes and these forms were added, whatever else was. A new node of a form stands behind the form's operands.
pub record Extends (old new : Arena) (forms : List LibItem) : Type 0 where
  pub kept : Keeps old.spec.nodes new.spec.nodes
  pub size : length old.spec.nodes ≤ length new.spec.nodes
  pub forms_are : new.forms.items ≡ old.forms.items ++ forms
  pub behind : (all : List LibItem) → StandAt (length old.forms.items) forms all → length all < 4294967296 → (i k : ℕ) → slice_get new.spec.nodes i ≡ Some (node.Lib k)
      → (slice_get old.spec.nodes i ≡ Some (node.Lib k)) ⊎ AllByRecursion (λ j. j < i) (args_of (slice_get all k))

-- ---- roots

abbrev pub reads_of : Numbers → Scope → List Expr → List Read
reads_of n s es = map (read_expr n s) es

-- Nodes and forms were added, and these roots are these expressions, in any list where they have their places.
pub record MakesRoots (n : Numbers) (s : Scope) (old new : Arena) (rs : List Root) (es : List Expr) : Type 0 where
  pub forms : List LibItem
  pub extends : Extends old new forms
  pub count : length forms ≡ counts (reads_of n s es)
  pub roots : (nodes : List Node) (all : List LibItem) → Holds old new forms nodes all → map (tree_root (tree nodes all)) rs ≡ roots_from n (length old.forms.items) (reads_of n s es) es
  pub trees : (nodes : List Node) (all : List LibItem) → Holds old new forms nodes all → map (form_tree (tree nodes all)) forms ≡ forms_from (length old.forms.items) (reads_of n s es)
  pub parts : (nodes : List Node) (all : List LibItem) → Holds old new forms nodes all → (i : ℕ) (m : Node) → slice_get new.spec.nodes i ≡ Some m
      → (slice_get old.spec.nodes i ≡ Some m) ⊎ StandsAmong (terms_from (length old.forms.items) (reads_of n s es)) (forms_from (length old.forms.items) (reads_of n s es)) (tree nodes all i)

-- ---- declarations

-- an arena's items and forms, each expression as a tree
abbrev pub trees_in : (ℕ → Term) → Arena → TreeSpec
trees_in tree a = record (trees_by tree a.spec) { libs = map (form_tree tree) a.forms.items }

-- the items and forms of one specification, and behind them those of another
abbrev pub joined : TreeSpec → TreeSpec → TreeSpec
joined a b = record a {
  externs = a.externs ++ b.externs;
  streams = a.streams ++ b.streams;
  defs = a.defs ++ b.defs;
  triggers = a.triggers ++ b.triggers;
  observers = a.observers ++ b.observers;
  libs = a.libs ++ b.libs;
}

-- the items and forms of declarations
abbrev pub items_of : Numbers → Declarations → List Placed → TreeSpec
items_of numbers all ps = record {
  name = [];
  types = [];
  externs = flat_map (λ (p : Placed). extern_item numbers p p.decl) ps;
  streams = flat_map (λ (p : Placed). stream_item numbers p (first_root (roots numbers all p)) p.decl) ps;
  defs = flat_map (λ (p : Placed). def_item numbers p (first_root (roots numbers all p)) p.decl) ps;
  triggers = flat_map (λ (p : Placed). trigger_item (roots numbers all p) p.decl) ps;
  observers = flat_map (λ (p : Placed). observer_item (first_root (roots numbers all p)) p.decl) ps;
  libs = flat_map (forms_of numbers all) ps;
}

-- how many library forms the declarations have
abbrev pub form_total : Numbers → Declarations → List Placed → ℕ
form_total numbers all [] = 0
form_total numbers all (p ∷ ps) = counts (reads numbers all p.before p.decl) + form_total numbers all ps

-- how many items there are
abbrev pub item_total : SpecValue → ℕ
item_total s = length s.externs + length s.streams + length s.defs + length s.triggers + length s.observers

-- Nodes and forms were added, and the items of these declarations.
pub record Adds (n : Numbers) (all : Declarations) (old new : Arena) (ps : List Placed) : Type 0 where
  pub forms : List LibItem
  pub extends : Extends old new forms
  pub count : length forms ≡ form_total n all ps
  pub libs : new.spec.libs ≡ old.spec.libs
  pub trees : (nodes : List Node) (every : List LibItem) → Holds old new forms nodes every → trees_in (tree nodes every) new ≡ joined (trees_in (tree nodes every) old) (items_of n all ps)
  pub parts : (nodes : List Node) (every : List LibItem) → Holds old new forms nodes every → (i : ℕ) (m : Node) → slice_get new.spec.nodes i ≡ Some m
      → (slice_get old.spec.nodes i ≡ Some m) ⊎ StandsIn (items_of n all ps) (tree nodes every i)

-- the next declaration of a scope, behind the forms of an arena
abbrev pub next_of : Scope → Arena → Decl → Placed
next_of s a x = record { before = s.before; forms = length a.forms.items; decl = x }

-- ---- texts

-- the names and types of a text, where the structs of the declarations before the rest of it have ended
pub record IsTextAt (names : List (List ℕ)) (before : Declarations) (rest : List Decl) (n : Numbers) (text : Text) : Type 0 where
  pub between : IsBetween names before rest text.scope
  pub placed : List Known
  pub numbers : AreNumbers placed text.types.by_type.entries text.types.count
  pub order : AllMean names placed n.order
  pub externs : AreNumbered n.externs text.externs
  pub streams : AreNumbered n.streams text.streams
  pub defs : AreNumbered n.defs text.defs
  pub few : (i : ℕ) (x : CodeStruct) → slice_get text.scope.structs.all.items i ≡ Some x → length x.members < 4294967296
  pub nameless : struct_in (reversed before rest) [] ≡ None
