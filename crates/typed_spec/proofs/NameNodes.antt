-- The node of a name.
use Rattle.std.proofs.Common.{◌≡◌, ℕ, Bool, true, false, List, refl}
use Rattle.std.specs.Prelude.{if◌then◌else◌}
use Rattle.stream_core.specs.declared.node.Node.TheVariants as node
use Rattle.stream_core.specs.declared.spec.LibItem.{LibItem}
use Rattle.stream_core.specs.Term as t
use Rattle.stream_core.specs.Term.{Term, build}
use Rattle.typed_text.specs.ReadSpec.{Numbers, is_in, number_in, name_term}
use Rattle.typed_spec.specs.Made.{is_form}
use Rattle.typed_spec.specs.Texts.{name_node}

plain_by : (a b : Bool) (i j k : ℕ) → is_form (if a then node.Extern i else if b then node.Stream j else node.Def k) ≡ false
plain_by true b i j k = refl
plain_by false true i j k = refl
plain_by false false i j k = refl

built_by : (a b : Bool) (i j k : ℕ) (all : List LibItem) (f : ℕ → Term)
    → build all t.def f (if a then node.Extern i else if b then node.Stream j else node.Def k) ≡ (if a then t.extern i else if b then t.stream j else t.def k)
built_by true b i j k all f = refl
built_by false true i j k all f = refl
built_by false false i j k all f = refl

pub name_plain : (n : Numbers) (x : List ℕ) → is_form (name_node n x) ≡ false
name_plain n x = plain_by (is_in n.externs x) (is_in n.streams x) (number_in n.externs x) (number_in n.streams x) (number_in n.defs x)

pub name_built : (n : Numbers) (x : List ℕ) (all : List LibItem) (f : ℕ → Term) → build all t.def f (name_node n x) ≡ name_term n x
name_built n x all f = built_by (is_in n.externs x) (is_in n.streams x) (number_in n.externs x) (number_in n.streams x) (number_in n.defs x) all f
