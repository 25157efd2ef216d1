-- The surface that nodes hold. Where a node is no form of its kind, some surface stands for it.
use Rattle.std.proofs.Common.{ℕ, List, [], ◌∷◌, get_or, Option, Some, None}
use Rattle.stream_types.specs.declared.scalar.Scalar.{Scalar}
use Rattle.spec_forest.specs.Node.{Node, Nodes, atom, list}
use Rattle.spec_forest.specs.Node.{none as no_node, more as more_node}
use Rattle.spec_text.specs.declared.surface.NameAt.{NameAt}
use Rattle.spec_text.specs.declared.surface.FieldForm.{FieldForm}
use Rattle.spec_text.specs.declared.surface.TypeForm.{TypeForm, roll-TypeForm}
use Rattle.spec_text.specs.declared.surface.TypeForm.TheOpen.{TypeForm-F}
use Rattle.spec_text.specs.declared.surface.ConstForm.{ConstForm, roll-ConstForm}
use Rattle.spec_text.specs.declared.surface.ConstForm.TheOpen.{ConstForm-F}
use Rattle.spec_text.specs.declared.surface.Expr.{Expr, roll-Expr}
use Rattle.spec_text.specs.declared.surface.Expr.TheOpen.{Expr-F}
use Rattle.spec_text.specs.declared.surface.Decl.{Decl}
use Rattle.spec_text.specs.declared.surface.Decl.TheVariants as d
use Rattle.spec_text.specs.declared.surface.Surface.{Surface}
use Rattle.spec_words.specs.declared.head.DeclHead.{DeclHead}
use Rattle.spec_words.specs.declared.head.DeclHead.TheVariants as decl
use Rattle.spec_words.specs.declared.head.ConstHead.{ConstHead}
use Rattle.spec_words.specs.declared.head.ConstHead.TheVariants as constant
use Rattle.spec_words.specs.declared.head.Single.{Single as SingleHead}
use Rattle.spec_words.specs.declared.head.Single.TheVariants as single
use Rattle.spec_words.specs.declared.head.Pair.{Pair as PairHead}
use Rattle.spec_words.specs.declared.head.Pair.TheVariants as pair
use Rattle.spec_words.specs.declared.head.Bounded.{Bounded as BoundedHead}
use Rattle.spec_words.specs.declared.head.Bounded.TheVariants as bounded
use Rattle.spec_words.specs.declared.head.Vote.{Vote as VoteHead}
use Rattle.spec_words.specs.declared.head.Vote.TheVariants as vote
use Rattle.spec_words.specs.declared.head.Window.{Window as WindowHead}
use Rattle.spec_words.specs.declared.head.Window.TheVariants as window
use Rattle.spec_words.specs.declared.head.Head.{Head}
use Rattle.spec_words.specs.declared.head.Head.TheVariants as head
use Rattle.spec_words.specs.Words.{scalar_of, head_of, const_head, decl_head}
use Rattle.spec_words.specs.Literals.{literal_of}
use Rattle.spec_text.specs.Shape.{number_in}
use Rattle.spec_words.specs.Words.{version_of}

-- ---- parts of lists

abbrev pub first : Nodes → Node
first no_node = atom 0 []
first (more_node x xs) = x

abbrev pub behind : Nodes → Nodes
behind no_node = no_node
behind (more_node x xs) = xs

abbrev pub second : Nodes → Node
second xs = first (behind xs)

abbrev pub third : Nodes → Node
third xs = second (behind xs)

abbrev pub fourth : Nodes → Node
fourth xs = third (behind xs)

abbrev pub parts_in : Node → Nodes
parts_in (atom at text) = no_node
parts_in (list at xs) = xs

abbrev pub text_in : Node → List ℕ
text_in (atom at text) = text
text_in (list at xs) = []

abbrev pub rest : {X : Type 0} → List X → List X
rest [] = []
rest (x ∷ xs) = xs

-- what each node holds
abbrev pub each_in : {X : Type 0} → (Node → X) → Nodes → List X
each_in read no_node = []
each_in read (more_node x xs) = read x ∷ each_in read xs

-- ---- names

abbrev pub named : ℕ → List ℕ → NameAt
named at text = record { at = at; name = text }

abbrev pub name_in : Node → NameAt
name_in (atom at text) = named at text
name_in (list at xs) = named 0 []

-- ---- types

abbrev pub no_type : TypeForm
no_type = roll-TypeForm (TypeForm-F.Named (named 0 []))

abbrev pub type_atom : ℕ → List ℕ → Option Scalar → TypeForm
type_atom at text (Some s) = roll-TypeForm (TypeForm-F.Scalar at s)
type_atom at text None = roll-TypeForm (TypeForm-F.Named (named at text))

-- an array of the second part, as many as the third says
abbrev pub type_list : ℕ → Nodes → List TypeForm → TypeForm
type_list at xs types = roll-TypeForm (TypeForm-F.Array at (get_or types 1 no_type) (number_in (third xs)))

abbrev mutual
  pub type_in : Node → TypeForm
  type_in (atom at text) = type_atom at text (scalar_of text)
  type_in (list at xs) = type_list at xs (types_in xs)

  pub types_in : Nodes → List TypeForm
  types_in no_node = []
  types_in (more_node x xs) = type_in x ∷ types_in xs

-- ---- constants

abbrev pub no_const : ConstForm
no_const = roll-ConstForm (ConstForm-F.Array 0 [])

abbrev pub const_atom : ℕ → Option (Scalar × ℕ) → ConstForm
const_atom at (Some l) = roll-ConstForm (ConstForm-F.Lit at l.0 l.1)
const_atom at None = no_const

-- by the word, what stands behind it, and that as constants
abbrev pub const_list : ℕ → Option ConstHead → Nodes → List ConstForm → ConstForm
const_list at (Some constant.Array) ps cs = roll-ConstForm (ConstForm-F.Array at cs)
const_list at (Some constant.Record) ps cs = roll-ConstForm (ConstForm-F.Record at (name_in (first ps)) (rest cs))
const_list at None ps cs = no_const

abbrev mutual
  pub const_in : Node → ConstForm
  const_in (atom at text) = const_atom at (literal_of text)
  const_in (list at xs) = const_list at (const_head (text_in (first xs))) (behind xs) (rest (consts_in xs))

  pub consts_in : Nodes → List ConstForm
  consts_in no_node = []
  consts_in (more_node x xs) = const_in x ∷ consts_in xs

-- ---- expressions

abbrev pub no_expr : Expr
no_expr = roll-Expr (Expr-F.Array 0 [])

abbrev pub nth : ℕ → List Expr → Expr
nth i es = get_or es i no_expr

abbrev pub expr_atom : ℕ → List ℕ → Option (Scalar × ℕ) → Expr
expr_atom at text (Some l) = roll-Expr (Expr-F.Lit at l.0 l.1)
expr_atom at text None = roll-Expr (Expr-F.Name (named at text))

abbrev pub single_form : ℕ → SingleHead → Expr → Expr-F Expr
single_form at (single.Un op) a = Expr-F.Un at op a
single_form at single.Abs a = Expr-F.Abs at a
single_form at single.Sign a = Expr-F.Sign at a
single_form at single.Once a = Expr-F.Once at a
single_form at single.Historically a = Expr-F.Historically at a
single_form at single.Yesterday a = Expr-F.Yesterday at a
single_form at single.WeaklyYesterday a = Expr-F.WeaklyYesterday at a

abbrev pub pair_form : ℕ → PairHead → Expr → Expr → Expr-F Expr
pair_form at (pair.Bin op) a b = Expr-F.Bin at op a b
pair_form at (pair.Shift to) a b = Expr-F.Shift at to a b
pair_form at pair.And a b = Expr-F.And at a b
pair_form at pair.Or a b = Expr-F.Or at a b
pair_form at pair.Implies a b = Expr-F.Implies at a b
pair_form at pair.Index a b = Expr-F.Index at a b
pair_form at pair.Since a b = Expr-F.Since at a b

abbrev pub bounded_form : ℕ → BoundedHead → ℕ → ℕ → Expr → Expr-F Expr
bounded_form at bounded.Once low high p = Expr-F.OnceIn at low high p
bounded_form at bounded.Historically low high p = Expr-F.HistoricallyIn at low high p

abbrev pub vote_form : ℕ → VoteHead → List Expr → Expr-F Expr
vote_form at vote.Majority es = Expr-F.Majority at es
vote_form at vote.Agreed es = Expr-F.Agreed at es

abbrev pub window_form : ℕ → WindowHead → ℕ → Expr → Expr-F Expr
window_form at window.Max n e = Expr-F.WindowMax at n e
window_form at window.Min n e = Expr-F.WindowMin at n e
window_form at window.Sum n e = Expr-F.WindowSum at n e

-- by the word, what stands behind it, and that as expressions
abbrev pub expr_form : ℕ → Head → Nodes → List Expr → Expr-F Expr
expr_form at head.Drop ps es = Expr-F.Drop at (number_in (first ps)) (name_in (second ps))
expr_form at (head.Single h) ps es = single_form at h (nth 0 es)
expr_form at (head.Pair h) ps es = pair_form at h (nth 0 es) (nth 1 es)
expr_form at head.If ps es = Expr-F.If at (nth 0 es) (nth 1 es) (nth 2 es)
expr_form at head.Cast ps es = Expr-F.Cast at (type_in (first ps)) (nth 1 es)
expr_form at head.Field ps es = Expr-F.Field at (nth 0 es) (name_in (second ps))
expr_form at head.Array ps es = Expr-F.Array at es
expr_form at head.Record ps es = Expr-F.Record at (name_in (first ps)) (rest es)
expr_form at (head.Bounded h) ps es = bounded_form at h (number_in (first ps)) (number_in (second ps)) (nth 2 es)
expr_form at head.SinceIn ps es = Expr-F.SinceIn at (number_in (first ps)) (number_in (second ps)) (nth 2 es) (nth 3 es)
expr_form at head.Clock ps es = Expr-F.Clock at (number_in (first ps)) (number_in (second ps))
expr_form at (head.Vote h) ps es = vote_form at h es
expr_form at (head.Window h) ps es = window_form at h (number_in (first ps)) (nth 1 es)

abbrev pub expr_list : ℕ → Option Head → Nodes → List Expr → Expr
expr_list at (Some h) ps es = roll-Expr (expr_form at h ps es)
expr_list at None ps es = no_expr

abbrev mutual
  pub expr_in : Node → Expr
  expr_in (atom at text) = expr_atom at text (literal_of text)
  expr_in (list at xs) = expr_list at (head_of (text_in (first xs))) (behind xs) (rest (exprs_in xs))

  pub exprs_in : Nodes → List Expr
  exprs_in no_node = []
  exprs_in (more_node x xs) = expr_in x ∷ exprs_in xs

-- ---- declarations

abbrev pub field_in : Node → FieldForm
field_in (list at ps) = record { at = at; name = name_in (first ps); ty = type_in (second ps) }
field_in (atom at text) = record { at = 0; name = named 0 []; ty = no_type }

abbrev pub initial_in : Node → List ConstForm
initial_in x = each_in const_in (parts_in x)

abbrev pub no_decl : Decl
no_decl = d.Extern 0 (named 0 []) no_type

-- by the word and what stands behind it
abbrev pub decl_list : ℕ → Option DeclHead → Nodes → Decl
decl_list at (Some decl.Struct) ps = d.Struct at (name_in (first ps)) (each_in field_in (behind ps))
decl_list at (Some decl.Extern) ps = d.Extern at (name_in (first ps)) (type_in (second ps))
decl_list at (Some decl.Stream) ps = d.Stream at (name_in (first ps)) (type_in (second ps)) (initial_in (third ps)) (expr_in (fourth ps))
decl_list at (Some decl.Def) ps = d.Def at (name_in (first ps)) (type_in (second ps)) (expr_in (third ps))
decl_list at (Some decl.Trigger) ps = d.Trigger at (name_in (first ps)) (expr_in (second ps)) (each_in expr_in (behind (behind ps)))
decl_list at (Some decl.Observer) ps = d.Observer at (name_in (first ps)) (expr_in (second ps))
decl_list at None ps = no_decl

abbrev pub decl_in : Node → Decl
decl_in (list at xs) = decl_list at (decl_head (text_in (first xs))) (behind xs)
decl_in (atom at text) = no_decl

-- ---- the whole

abbrev pub version_or : Option ℕ → ℕ
version_or (Some v) = v
version_or None = 0

-- the version's word, the name and the declarations
abbrev pub surface_of : Nodes → Surface
surface_of xs = record {
  version = version_or (version_of (text_in (first xs)));
  name = text_in (second xs);
  decls = each_in decl_in (behind (behind xs));
}

abbrev pub surface_in : Nodes → Surface
surface_in xs = surface_of (parts_in (first xs))
