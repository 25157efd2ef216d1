-- Nodes and library forms placed one after another, and the expressions that they stand for.
use Rattle.std.specs.Prelude.{◌≡◌, ◌⊎◌, ℕ, ◌+◌, ◌<◌, ◌≤◌, List, [], ◌∷◌, ◌++◌, length, map, set, slice_get, Bool, true, false, Option, Some}
use Rattle.std.specs.List.{AllByRecursion}
use Rattle.stream_core.specs.declared.node.Node.{Node}
use Rattle.stream_core.specs.declared.node.Node.TheVariants as node
use Rattle.stream_core.specs.declared.spec.LibItem.{LibItem}
use Rattle.stream_core.specs.Term.{Term, TreeLib, tree}
use Rattle.stream_core.specs.Ordered.{Ordered, args_of}
use Rattle.stream_core.specs.PartOf.{IsPartOf}
use Rattle.type_check.specs.Standing.{AllMeanOption}
use Rattle.type_check.specs.declared.known.Known.{Known}
use Rattle.type_check.specs.NamedType.{NamedType}
use Rattle.typed_spec.specs.declared.arena.Arena.{Arena}
use Rattle.typed_spec.specs.declared.arena.Operand.{Operand}
use Rattle.typed_spec.specs.declared.nodes.Operands.{Operands}
use Rattle.typed_text.specs.ReadSpec.{Read, counts, terms_from, forms_from}

-- these forms stand in a list from place k on
pub record StandAt (k : ℕ) (forms all : List LibItem) : Type 0 where
  pub stands : (i : ℕ) (x : LibItem) → slice_get forms i ≡ Some x → slice_get all (k + i) ≡ Some x

-- the nodes of a list keep their numbers in another one
abbrev pub Keeps : List Node → List Node → Type 0
Keeps some all = (i : ℕ) (n : Node) → slice_get some i ≡ Some n → slice_get all i ≡ Some n

-- a form over the trees of its operands
abbrev pub form_tree : (ℕ → Term) → LibItem → TreeLib
form_tree tree x = record { form = x.form; args = map tree x.args; at = x.at }

-- Nodes and these forms were added. A new node of a form stands behind the form's operands.
pub record Grows (old new : Arena) (forms : List LibItem) : Type 0 where
  pub others : new.spec ≡ record old.spec { nodes = new.spec.nodes }
  pub kept : Keeps old.spec.nodes new.spec.nodes
  pub size : length old.spec.nodes ≤ length new.spec.nodes
  pub forms_are : new.forms.items ≡ old.forms.items ++ forms
  pub behind : (all : List LibItem) → StandAt (length old.forms.items) forms all → length all < 4294967296 → (i k : ℕ) → slice_get new.spec.nodes i ≡ Some (node.Lib k)
      → (slice_get old.spec.nodes i ≡ Some (node.Lib k)) ⊎ AllByRecursion (λ j. j < i) (args_of (slice_get all k))

-- a list of nodes and a list of forms in which all that was added so far has its place
pub record Holds (old new : Arena) (forms : List LibItem) (nodes : List Node) (all : List LibItem) : Type 0 where
  pub kept : Keeps new.spec.nodes nodes
  pub stand : StandAt (length old.forms.items) forms all
  pub few : length all < 4294967296
  pub ordered : Ordered nodes all

abbrev pub id_of : Operand → ℕ
id_of o = o.id

-- expressions one after another, each with its type
abbrev pub operands_of : List ℕ → List (Option Known) → List Operand
operands_of (i ∷ is) (t ∷ ts) = record { id = i; ty = t } ∷ operands_of is ts
operands_of _ _ = []

abbrev pub operands : Operands → List Operand
operands all = operands_of all.ids.items all.types.items

abbrev pub ty_of_operand : Operand → Option Known
ty_of_operand o = o.ty

abbrev pub type_in : Read → Option NamedType
type_in p = p.judged.ty

-- an expression stands in one of these, or in an operand of one of these forms
pub data StandsAmong (es : List Term) (forms : List TreeLib) (e : Term) : Type 0 where
  in_expression : (j : ℕ) (whole : Term) → slice_get es j ≡ Some whole → IsPartOf e whole → StandsAmong es forms e
  in_operand : (j k : ℕ) (x : TreeLib) (whole : Term) → slice_get forms j ≡ Some x → slice_get x.args k ≡ Some whole → IsPartOf e whole → StandsAmong es forms e

-- Nodes and forms were added, and these operands are these expressions, in any list where they have their places. A new
-- node stands in one of the expressions.
pub record Makes (names : List (List ℕ)) (old new : Arena) (os : List Operand) (ps : List Read) : Type 0 where
  pub forms : List LibItem
  pub grows : Grows old new forms
  pub count : length forms ≡ counts ps
  pub there : AllByRecursion (λ (o : Operand). o.id < length new.spec.nodes) os
  pub terms : (nodes : List Node) (all : List LibItem) → Holds old new forms nodes all → map (tree nodes all) (map id_of os) ≡ terms_from (length old.forms.items) ps
  pub trees : (nodes : List Node) (all : List LibItem) → Holds old new forms nodes all → map (form_tree (tree nodes all)) forms ≡ forms_from (length old.forms.items) ps
  pub parts : (nodes : List Node) (all : List LibItem) → Holds old new forms nodes all → (i : ℕ) (n : Node) → slice_get new.spec.nodes i ≡ Some n
      → (slice_get old.spec.nodes i ≡ Some n) ⊎ StandsAmong (terms_from (length old.forms.items) ps) (forms_from (length old.forms.items) ps) (tree nodes all i)
  pub types : AllMeanOption names (map ty_of_operand os) (map type_in ps)

-- a node was placed
pub record Puts (old new : Arena) (n : Node) (id : ℕ) : Type 0 where
  pub others : new.spec ≡ record old.spec { nodes = new.spec.nodes }
  pub kept : Keeps old.spec.nodes new.spec.nodes
  pub size : length old.spec.nodes ≤ length new.spec.nodes
  pub forms_are : new.forms.items ≡ old.forms.items
  pub there : slice_get new.spec.nodes id ≡ Some n
  pub within : id < length new.spec.nodes
  pub last : (i : ℕ) (m : Node) → slice_get new.spec.nodes i ≡ Some m → (slice_get old.spec.nodes i ≡ Some m) ⊎ ((m ≡ n) × (length old.spec.nodes ≤ i))

abbrev pub is_form : Node → Bool
is_form (node.Lib k) = true
is_form _ = false

-- a form took its place, and the node that names it was placed
pub record Fills (old new : Arena) (k : ℕ) (item : LibItem) (id : ℕ) : Type 0 where
  pub others : new.spec ≡ record old.spec { nodes = new.spec.nodes }
  pub kept : Keeps old.spec.nodes new.spec.nodes
  pub size : length old.spec.nodes ≤ length new.spec.nodes
  pub forms_are : new.forms.items ≡ set old.forms.items k item
  pub there : k < 4294967296 → slice_get new.spec.nodes id ≡ Some (node.Lib k)
  pub within : id < length new.spec.nodes
  pub last : k < 4294967296 → (i : ℕ) (m : Node) → slice_get new.spec.nodes i ≡ Some m → (slice_get old.spec.nodes i ≡ Some m) ⊎ ((m ≡ node.Lib k) × (length old.spec.nodes ≤ i))
