-- Surfaces without their places: each place is 0.
use Rattle.std.specs.Prelude.{◌≡◌, map}
use Rattle.spec_text.specs.declared.surface.NameAt.{NameAt}
use Rattle.spec_text.specs.declared.surface.FieldForm.{FieldForm}
use Rattle.spec_text.specs.declared.surface.TypeForm.{TypeForm, roll-TypeForm}
use Rattle.spec_text.specs.declared.surface.TypeForm.TheOpen.{TypeForm-F}
use Rattle.spec_text.specs.declared.surface.TypeForm.TheFolds.{fold-TypeForm}
use Rattle.spec_text.specs.declared.surface.ConstForm.{ConstForm, roll-ConstForm}
use Rattle.spec_text.specs.declared.surface.ConstForm.TheOpen.{ConstForm-F}
use Rattle.spec_text.specs.declared.surface.ConstForm.TheFolds.{fold-ConstForm}
use Rattle.spec_text.specs.declared.surface.Expr.{Expr, roll-Expr}
use Rattle.spec_text.specs.declared.surface.Expr.TheOpen.{Expr-F}
use Rattle.spec_text.specs.declared.surface.Expr.TheFolds.{fold-Expr}
use Rattle.spec_text.specs.declared.surface.Decl.{Decl}
use Rattle.spec_text.specs.declared.surface.Decl.TheVariants as d
use Rattle.spec_text.specs.declared.surface.Surface.{Surface}

abbrev pub name_without_place : NameAt → NameAt
name_without_place x = record { at = 0; name = x.name }

-- ---- types; one level with place 0, its parts as they are

abbrev pub type_at_0 : TypeForm-F TypeForm → TypeForm-F TypeForm
type_at_0 (TypeForm-F.Scalar at s) = TypeForm-F.Scalar 0 s
type_at_0 (TypeForm-F.Named x) = TypeForm-F.Named (name_without_place x)
type_at_0 (TypeForm-F.Array at elem n) = TypeForm-F.Array 0 elem n

unfoldable pub type_without_places : TypeForm → TypeForm
type_without_places = fold-TypeForm TypeForm (λ x. roll-TypeForm (type_at_0 x))

-- ---- constants

abbrev pub const_at_0 : ConstForm-F ConstForm → ConstForm-F ConstForm
const_at_0 (ConstForm-F.Lit at s w) = ConstForm-F.Lit 0 s w
const_at_0 (ConstForm-F.Array at items) = ConstForm-F.Array 0 items
const_at_0 (ConstForm-F.Record at x items) = ConstForm-F.Record 0 (name_without_place x) items

unfoldable pub const_without_places : ConstForm → ConstForm
const_without_places = fold-ConstForm ConstForm (λ x. roll-ConstForm (const_at_0 x))

-- ---- expressions

abbrev pub expr_at_0 : Expr-F Expr → Expr-F Expr
expr_at_0 (Expr-F.Lit at s w) = Expr-F.Lit 0 s w
expr_at_0 (Expr-F.Name x) = Expr-F.Name (name_without_place x)
expr_at_0 (Expr-F.Drop at k x) = Expr-F.Drop 0 k (name_without_place x)
expr_at_0 (Expr-F.Un at op a) = Expr-F.Un 0 op a
expr_at_0 (Expr-F.Bin at op a b) = Expr-F.Bin 0 op a b
expr_at_0 (Expr-F.Shift at dir a count) = Expr-F.Shift 0 dir a count
expr_at_0 (Expr-F.And at a b) = Expr-F.And 0 a b
expr_at_0 (Expr-F.Or at a b) = Expr-F.Or 0 a b
expr_at_0 (Expr-F.Implies at a b) = Expr-F.Implies 0 a b
expr_at_0 (Expr-F.If at c a b) = Expr-F.If 0 c a b
expr_at_0 (Expr-F.Cast at to a) = Expr-F.Cast 0 (type_without_places to) a
expr_at_0 (Expr-F.Abs at a) = Expr-F.Abs 0 a
expr_at_0 (Expr-F.Sign at a) = Expr-F.Sign 0 a
expr_at_0 (Expr-F.Index at a i) = Expr-F.Index 0 a i
expr_at_0 (Expr-F.Field at a x) = Expr-F.Field 0 a (name_without_place x)
expr_at_0 (Expr-F.Array at items) = Expr-F.Array 0 items
expr_at_0 (Expr-F.Record at x items) = Expr-F.Record 0 (name_without_place x) items
expr_at_0 (Expr-F.Once at p) = Expr-F.Once 0 p
expr_at_0 (Expr-F.Historically at p) = Expr-F.Historically 0 p
expr_at_0 (Expr-F.Yesterday at p) = Expr-F.Yesterday 0 p
expr_at_0 (Expr-F.WeaklyYesterday at p) = Expr-F.WeaklyYesterday 0 p
expr_at_0 (Expr-F.Since at p q) = Expr-F.Since 0 p q
expr_at_0 (Expr-F.OnceIn at low high p) = Expr-F.OnceIn 0 low high p
expr_at_0 (Expr-F.HistoricallyIn at low high p) = Expr-F.HistoricallyIn 0 low high p
expr_at_0 (Expr-F.SinceIn at low high p q) = Expr-F.SinceIn 0 low high p q
expr_at_0 (Expr-F.Clock at period phase) = Expr-F.Clock 0 period phase
expr_at_0 (Expr-F.Majority at items) = Expr-F.Majority 0 items
expr_at_0 (Expr-F.Agreed at items) = Expr-F.Agreed 0 items
expr_at_0 (Expr-F.WindowMax at n e) = Expr-F.WindowMax 0 n e
expr_at_0 (Expr-F.WindowMin at n e) = Expr-F.WindowMin 0 n e
expr_at_0 (Expr-F.WindowSum at n e) = Expr-F.WindowSum 0 n e

unfoldable pub expr_without_places : Expr → Expr
expr_without_places = fold-Expr Expr (λ x. roll-Expr (expr_at_0 x))

-- ---- declarations and surfaces

abbrev pub field_without_places : FieldForm → FieldForm
field_without_places f = record { at = 0; name = name_without_place f.name; ty = type_without_places f.ty }

abbrev pub decl_without_places : Decl → Decl
decl_without_places (d.Struct at x fields) = d.Struct 0 (name_without_place x) (map field_without_places fields)
decl_without_places (d.Extern at x ty) = d.Extern 0 (name_without_place x) (type_without_places ty)
decl_without_places (d.Stream at x ty init e) =
    d.Stream 0 (name_without_place x) (type_without_places ty) (map const_without_places init) (expr_without_places e)
decl_without_places (d.Def at x ty e) = d.Def 0 (name_without_place x) (type_without_places ty) (expr_without_places e)
decl_without_places (d.Trigger at x guard args) =
    d.Trigger 0 (name_without_place x) (expr_without_places guard) (map expr_without_places args)
decl_without_places (d.Observer at x e) = d.Observer 0 (name_without_place x) (expr_without_places e)

abbrev pub without_places : Surface → Surface
without_places s = record s { decls = map decl_without_places s.decls }

-- The two surfaces are one but for places.
abbrev pub SameButPlaces : Surface → Surface → Type 0
SameButPlaces s t = without_places s ≡ without_places t
