-- Types, constants and expressions stand at the places of the nodes that they are read from.
use Rattle.std.proofs.Common.{◌≡◌, Some, None, sym, subst}
use Rattle.spec_forest.specs.Node.{Node, atom, list}
use Rattle.spec_text.specs.declared.surface.TypeForm.{TypeForm, map-TypeForm, roll-TypeForm}
use Rattle.spec_text.specs.declared.surface.TypeForm.TheOpen.{TypeForm-F}
use Rattle.spec_text.specs.declared.surface.TypeForm.TheFolds.{fold-roll-TypeForm, ind-TypeForm}
use Rattle.spec_text.specs.declared.surface.ConstForm.{ConstForm, map-ConstForm, roll-ConstForm}
use Rattle.spec_text.specs.declared.surface.ConstForm.TheOpen.{ConstForm-F}
use Rattle.spec_text.specs.declared.surface.ConstForm.TheFolds.{fold-roll-ConstForm, ind-ConstForm}
use Rattle.spec_text.specs.declared.surface.Expr.{Expr, map-Expr, roll-Expr}
use Rattle.spec_text.specs.declared.surface.Expr.TheOpen.{Expr-F}
use Rattle.spec_text.specs.declared.surface.Expr.TheFolds.{fold-roll-Expr, ind-Expr}
use Rattle.spec_text.specs.declared.surface.Decl.{Decl}
use Rattle.spec_text.specs.declared.surface.Decl.TheVariants as d
use Rattle.spec_text.specs.Form.{Form, word, form, type_step, const_step, expr_step, form_of_type, form_of_const, form_of_expr, form_of_decl, Matches}
use Rattle.spec_text.specs.Places.{place_in, place_of_node, place_of_type, place_of_const, place_of_expr, place_of_decl}

-- The form keeps its place.
abbrev IsPlaced : Form → Type 0
IsPlaced (word None bytes) = ⊥
IsPlaced (word (Some at) bytes) = Unit {0}
IsPlaced (form None items) = ⊥
IsPlaced (form (Some at) items) = Unit {0}

at-node : (f : Form) (x : Node) → IsPlaced f → Matches f x → place_in f ≡ place_of_node x
at-node (word None bytes) x p m = elim p [ ]
at-node (form None items) x p m = elim p [ ]
at-node (word (Some at) bytes) (atom place text) p m = m.0
at-node (form (Some at) items) (list place parts) p m = m.0
at-node (word (Some at) bytes) (list place parts) p m = elim m [ ]
at-node (form (Some at) items) (atom place text) p m = elim m [ ]

type-placed : (t : TypeForm-F TypeForm) → IsPlaced (type_step (map-TypeForm TypeForm Form form_of_type t))
type-placed (TypeForm-F.Scalar at s) = tt
type-placed (TypeForm-F.Named x) = tt
type-placed (TypeForm-F.Array at elem n) = tt

type-rolled : (t : TypeForm-F TypeForm) → IsPlaced (form_of_type (roll-TypeForm t))
unfolding form_of_type
type-rolled t = subst IsPlaced (sym (fold-roll-TypeForm Form type_step t)) (type-placed t)

type-is-placed : (t : TypeForm) → IsPlaced (form_of_type t)
type-is-placed = ind-TypeForm (λ t. IsPlaced (form_of_type t)) (λ x y is. subst (λ z. IsPlaced (form_of_type (roll-TypeForm z))) is (type-rolled (map-TypeForm _ TypeForm (λ e. e.0) y)))

const-placed : (t : ConstForm-F ConstForm) → IsPlaced (const_step (map-ConstForm ConstForm Form form_of_const t))
const-placed (ConstForm-F.Lit at s w) = tt
const-placed (ConstForm-F.Array at items) = tt
const-placed (ConstForm-F.Record at x items) = tt

const-rolled : (t : ConstForm-F ConstForm) → IsPlaced (form_of_const (roll-ConstForm t))
unfolding form_of_const
const-rolled t = subst IsPlaced (sym (fold-roll-ConstForm Form const_step t)) (const-placed t)

const-is-placed : (t : ConstForm) → IsPlaced (form_of_const t)
const-is-placed = ind-ConstForm (λ t. IsPlaced (form_of_const t)) (λ x y is. subst (λ z. IsPlaced (form_of_const (roll-ConstForm z))) is (const-rolled (map-ConstForm _ ConstForm (λ e. e.0) y)))

expr-placed : (t : Expr-F Expr) → IsPlaced (expr_step (map-Expr Expr Form form_of_expr t))
expr-placed (Expr-F.Lit at s w) = tt
expr-placed (Expr-F.Name x) = tt
expr-placed (Expr-F.Drop at k x) = tt
expr-placed (Expr-F.Un at op a) = tt
expr-placed (Expr-F.Bin at op a b) = tt
expr-placed (Expr-F.Shift at dir a count) = tt
expr-placed (Expr-F.And at a b) = tt
expr-placed (Expr-F.Or at a b) = tt
expr-placed (Expr-F.Implies at a b) = tt
expr-placed (Expr-F.If at c a b) = tt
expr-placed (Expr-F.Cast at to a) = tt
expr-placed (Expr-F.Abs at a) = tt
expr-placed (Expr-F.Sign at a) = tt
expr-placed (Expr-F.Index at a i) = tt
expr-placed (Expr-F.Field at a x) = tt
expr-placed (Expr-F.Array at items) = tt
expr-placed (Expr-F.Record at x items) = tt
expr-placed (Expr-F.Once at p) = tt
expr-placed (Expr-F.Historically at p) = tt
expr-placed (Expr-F.Yesterday at p) = tt
expr-placed (Expr-F.WeaklyYesterday at p) = tt
expr-placed (Expr-F.Since at p q) = tt
expr-placed (Expr-F.OnceIn at low high p) = tt
expr-placed (Expr-F.HistoricallyIn at low high p) = tt
expr-placed (Expr-F.SinceIn at low high p q) = tt
expr-placed (Expr-F.Clock at period phase) = tt
expr-placed (Expr-F.Majority at items) = tt
expr-placed (Expr-F.Agreed at items) = tt
expr-placed (Expr-F.WindowMax at n e) = tt
expr-placed (Expr-F.WindowMin at n e) = tt
expr-placed (Expr-F.WindowSum at n e) = tt

expr-rolled : (t : Expr-F Expr) → IsPlaced (form_of_expr (roll-Expr t))
unfolding form_of_expr
expr-rolled t = subst IsPlaced (sym (fold-roll-Expr Form expr_step t)) (expr-placed t)

expr-is-placed : (t : Expr) → IsPlaced (form_of_expr t)
expr-is-placed = ind-Expr (λ t. IsPlaced (form_of_expr t)) (λ x y is. subst (λ z. IsPlaced (form_of_expr (roll-Expr z))) is (expr-rolled (map-Expr _ Expr (λ e. e.0) y)))

decl-is-placed : (x : Decl) → IsPlaced (form_of_decl x)
decl-is-placed (d.Struct at x fields) = tt
decl-is-placed (d.Extern at x ty) = tt
decl-is-placed (d.Stream at x ty init e) = tt
decl-is-placed (d.Def at x ty e) = tt
decl-is-placed (d.Trigger at x guard args) = tt
decl-is-placed (d.Observer at x e) = tt

pub type-place : (t : TypeForm) (x : Node) → Matches (form_of_type t) x → place_of_type t ≡ place_of_node x
type-place t x m = at-node (form_of_type t) x (type-is-placed t) m

pub const-place : (c : ConstForm) (x : Node) → Matches (form_of_const c) x → place_of_const c ≡ place_of_node x
const-place c x m = at-node (form_of_const c) x (const-is-placed c) m

pub expr-place : (e : Expr) (x : Node) → Matches (form_of_expr e) x → place_of_expr e ≡ place_of_node x
expr-place e x m = at-node (form_of_expr e) x (expr-is-placed e) m

pub decl-place : (e : Decl) (x : Node) → Matches (form_of_decl e) x → place_of_decl e ≡ place_of_node x
decl-place e x m = at-node (form_of_decl e) x (decl-is-placed e) m
