-- As which tree each part of a surface is written.
use Rattle.std.specs.Prelude.{◌≡◌, ℕ, List, [], ◌∷◌, map, codes, decimal, Option, Some, None}
use Rattle.stream_types.specs.declared.scalar.Scalar.{Scalar}
use Rattle.spec_forest.specs.Node.{Node, Nodes, atom, list, forest_nodes}
use Rattle.spec_forest.specs.Node.{none as no_node, more as more_node}
use Rattle.spec_forest.specs.declared.tree.Forest.{Forest}
use Rattle.spec_text.specs.declared.surface.NameAt.{NameAt}
use Rattle.spec_text.specs.declared.surface.FieldForm.{FieldForm}
use Rattle.spec_text.specs.declared.surface.TypeForm.{TypeForm}
use Rattle.spec_text.specs.declared.surface.TypeForm.TheOpen.{TypeForm-F}
use Rattle.spec_text.specs.declared.surface.TypeForm.TheFolds.{fold-TypeForm}
use Rattle.spec_text.specs.declared.surface.ConstForm.{ConstForm}
use Rattle.spec_text.specs.declared.surface.ConstForm.TheOpen.{ConstForm-F}
use Rattle.spec_text.specs.declared.surface.ConstForm.TheFolds.{fold-ConstForm}
use Rattle.spec_text.specs.declared.surface.Expr.{Expr}
use Rattle.spec_text.specs.declared.surface.Expr.TheOpen.{Expr-F}
use Rattle.spec_text.specs.declared.surface.Expr.TheFolds.{fold-Expr}
use Rattle.spec_text.specs.declared.surface.Decl.{Decl}
use Rattle.spec_text.specs.declared.surface.Decl.TheVariants as d
use Rattle.spec_text.specs.declared.surface.Surface.{Surface}
use Rattle.spec_words.specs.Words.{spec_word, scalar_word, op1_word, op2_word, dir_word}
use Rattle.spec_words.specs.Literals.{literal_text}

-- ---- forms

mutual
  -- a tree with its places where they are known: an atom with its bytes, or a list with its items
  pub data Form : Type 0 where
    word : Option ℕ → List ℕ → Form
    form : Option ℕ → Forms → Form

  pub data Forms : Type 0 where
    none : Forms
    more : Form → Forms → Forms

abbrev pub forms : List Form → Forms
forms [] = none
forms (f ∷ fs) = more f (forms fs)

-- a list that begins with a word
abbrev pub headed : Option ℕ → List ℕ → Forms → Form
headed at head parts = form at (more (word None head) parts)

-- a number's place is not kept
abbrev pub number : ℕ → Form
number n = word None (decimal n)

abbrev pub literal : ℕ → Scalar → ℕ → Form
literal at s w = word (Some at) (literal_text s w)

abbrev pub name_form : NameAt → Form
name_form x = word (Some x.at) x.name

-- ---- types

abbrev pub type_step : TypeForm-F Form → Form
type_step (TypeForm-F.Scalar at s) = word (Some at) (scalar_word s)
type_step (TypeForm-F.Named x) = name_form x
type_step (TypeForm-F.Array at elem n) = headed (Some at) (codes "array") (more elem (more (number n) none))

unfoldable pub form_of_type : TypeForm → Form
form_of_type = fold-TypeForm Form type_step

-- ---- constants

abbrev pub const_step : ConstForm-F Form → Form
const_step (ConstForm-F.Lit at s w) = literal at s w
const_step (ConstForm-F.Array at items) = headed (Some at) (codes "array") (forms items)
const_step (ConstForm-F.Record at x items) = headed (Some at) (codes "record") (more (name_form x) (forms items))

unfoldable pub form_of_const : ConstForm → Form
form_of_const = fold-ConstForm Form const_step

-- ---- expressions

-- a word and one part, two, or three
abbrev pub with_one : ℕ → List ℕ → Form → Form
with_one at head a = headed (Some at) head (more a none)

abbrev pub with_two : ℕ → List ℕ → Form → Form → Form
with_two at head a b = headed (Some at) head (more a (more b none))

abbrev pub with_three : ℕ → List ℕ → Form → Form → Form → Form
with_three at head a b c = headed (Some at) head (more a (more b (more c none)))

abbrev pub expr_step : Expr-F Form → Form
expr_step (Expr-F.Lit at s w) = literal at s w
expr_step (Expr-F.Name x) = name_form x
expr_step (Expr-F.Drop at k x) = with_two at (codes "drop") (number k) (name_form x)
expr_step (Expr-F.Un at op a) = with_one at (op1_word op) a
expr_step (Expr-F.Bin at op a b) = with_two at (op2_word op) a b
expr_step (Expr-F.Shift at dir a count) = with_two at (dir_word dir) a count
expr_step (Expr-F.And at a b) = with_two at (codes "and") a b
expr_step (Expr-F.Or at a b) = with_two at (codes "or") a b
expr_step (Expr-F.Implies at a b) = with_two at (codes "implies") a b
expr_step (Expr-F.If at c a b) = with_three at (codes "if") c a b
expr_step (Expr-F.Cast at to a) = with_two at (codes "cast") (form_of_type to) a
expr_step (Expr-F.Abs at a) = with_one at (codes "abs") a
expr_step (Expr-F.Sign at a) = with_one at (codes "sign") a
expr_step (Expr-F.Index at a i) = with_two at (codes "index") a i
expr_step (Expr-F.Field at a x) = with_two at (codes "field") a (name_form x)
expr_step (Expr-F.Array at items) = headed (Some at) (codes "array") (forms items)
expr_step (Expr-F.Record at x items) = headed (Some at) (codes "record") (more (name_form x) (forms items))
expr_step (Expr-F.Once at p) = with_one at (codes "once") p
expr_step (Expr-F.Historically at p) = with_one at (codes "historically") p
expr_step (Expr-F.Yesterday at p) = with_one at (codes "yesterday") p
expr_step (Expr-F.WeaklyYesterday at p) = with_one at (codes "weakly-yesterday") p
expr_step (Expr-F.Since at p q) = with_two at (codes "since") p q
expr_step (Expr-F.OnceIn at low high p) = with_three at (codes "once-in") (number low) (number high) p
expr_step (Expr-F.HistoricallyIn at low high p) = with_three at (codes "historically-in") (number low) (number high) p
expr_step (Expr-F.SinceIn at low high p q) =
    headed (Some at) (codes "since-in") (more (number low) (more (number high) (more p (more q none))))
expr_step (Expr-F.Clock at period phase) = with_two at (codes "clock") (number period) (number phase)
expr_step (Expr-F.Majority at items) = headed (Some at) (codes "majority") (forms items)
expr_step (Expr-F.Agreed at items) = headed (Some at) (codes "agreed") (forms items)
expr_step (Expr-F.WindowMax at n e) = with_two at (codes "window-max") (number n) e
expr_step (Expr-F.WindowMin at n e) = with_two at (codes "window-min") (number n) e
expr_step (Expr-F.WindowSum at n e) = with_two at (codes "window-sum") (number n) e

unfoldable pub form_of_expr : Expr → Form
form_of_expr = fold-Expr Form expr_step

-- ---- declarations

abbrev pub form_of_field : FieldForm → Form
form_of_field f = form (Some f.at) (more (name_form f.name) (more (form_of_type f.ty) none))

-- the places of the list of initial values are not kept
abbrev pub form_of_decl : Decl → Form
form_of_decl (d.Struct at x fields) = headed (Some at) (codes "struct") (more (name_form x) (forms (map form_of_field fields)))
form_of_decl (d.Extern at x ty) = with_two at (codes "extern") (name_form x) (form_of_type ty)
form_of_decl (d.Stream at x ty init e) =
    headed (Some at) (codes "stream") (more (name_form x) (more (form_of_type ty)
    (more (form None (forms (map form_of_const init))) (more (form_of_expr e) none))))
form_of_decl (d.Def at x ty e) = with_three at (codes "def") (name_form x) (form_of_type ty) (form_of_expr e)
form_of_decl (d.Trigger at x guard args) =
    headed (Some at) (codes "trigger") (more (name_form x) (more (form_of_expr guard) (forms (map form_of_expr args))))
form_of_decl (d.Observer at x e) = with_two at (codes "observer") (name_form x) (form_of_expr e)

-- ---- the whole

abbrev pub form_of : Surface → Form
form_of s = headed None (spec_word s.version) (more (word None s.name) (forms (map form_of_decl s.decls)))

-- ---- forms and nodes

-- The place is this one, where one is known.
abbrev pub IsAt : Option ℕ → ℕ → Type 0
IsAt None place = Unit {0}
IsAt (Some at) place = at ≡ place

-- The node has the form's shape and bytes, and its places where they are known.
abbrev mutual
  pub Matches : Form → Node → Type 0
  Matches (word at bytes) (atom place text) = IsAt at place × (text ≡ bytes)
  Matches (form at items) (list place parts) = IsAt at place × AllMatch items parts
  Matches (word at bytes) (list place parts) = ⊥
  Matches (form at items) (atom place text) = ⊥

  pub AllMatch : Forms → Nodes → Type 0
  AllMatch none no_node = Unit {0}
  AllMatch (more f fs) (more_node x xs) = Matches f x × AllMatch fs xs
  AllMatch none (more_node x xs) = ⊥
  AllMatch (more f fs) no_node = ⊥

-- The forest is one node, and holds this surface.
abbrev pub IsSurfaceOf : Forest → Surface → Type 0
IsSurfaceOf forest s = AllMatch (more (form_of s) none) (forest_nodes forest)
