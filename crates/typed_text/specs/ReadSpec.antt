-- The typed specification that a text stands for.
use Rattle.std.specs.Prelude.{ℕ, suc, ◌+◌, Bool, true, false, if◌then◌else◌, List, [], ◌∷◌, ◌++◌, length, map, bytes_eq, get_or, Option, Some, None}
use Rattle.std.specs.List.{list_any, flat_map, position_or_len}
use Rattle.stream_types.specs.declared.scalar.Scalar.{Scalar}
use Rattle.stream_types.specs.declared.scalar.Scalar.TheVariants as s_
use Rattle.stream_types.specs.declared.scalar.Ty.{Ty}
use Rattle.stream_core.specs.declared.node.LibForm.{LibForm}
use Rattle.stream_core.specs.declared.node.LibForm.TheVariants as form
use Rattle.stream_core.specs.declared.spec.ExternItem.{ExternItem}
use Rattle.stream_core.specs.Term as t
use Rattle.stream_core.specs.Term.{Term, Terms, TreeSpec, TreeStream, TreeDef, TreeRoot, TreeTrigger, TreeObserver, TreeLib}
use Rattle.spec_text.specs.declared.surface.FieldForm.{FieldForm}
use Rattle.spec_text.specs.declared.surface.TypeForm.{TypeForm}
use Rattle.spec_text.specs.declared.surface.ConstForm.{ConstForm}
use Rattle.spec_text.specs.declared.surface.ConstForm.TheOpen.{ConstForm-F}
use Rattle.spec_text.specs.declared.surface.ConstForm.TheFolds.{fold-ConstForm}
use Rattle.spec_text.specs.declared.surface.Expr.{Expr, map-Expr}
use Rattle.spec_text.specs.declared.surface.Expr.TheOpen.{Expr-F}
use Rattle.spec_text.specs.declared.surface.Expr.TheFolds.{fold-Expr}
use Rattle.spec_text.specs.declared.surface.Decl.{Decl}
use Rattle.spec_text.specs.declared.surface.Decl.TheVariants as d
use Rattle.spec_text.specs.declared.surface.Surface.{Surface}
use Rattle.spec_text.specs.Places.{place_of_expr}
use Rattle.type_check.specs.NamedType.{NamedType, scalar, struct, array, Declarations, Struct, struct_in}
use Rattle.type_check.specs.Judged.{Judged, type_of, Scope, judge_form, expr_step}
use Rattle.type_check.specs.Untyped.{scope_of, all_of}
use Rattle.type_check.specs.TypeOrder.{type_order, types_of_text, ty_of}

-- ---- the numbers of names

abbrev pub extern_names : List Decl → List (List ℕ)
extern_names [] = []
extern_names (d.Extern at x ty ∷ ds) = x.name ∷ extern_names ds
extern_names (_ ∷ ds) = extern_names ds

abbrev pub stream_names : List Decl → List (List ℕ)
stream_names [] = []
stream_names (d.Stream at x ty init e ∷ ds) = x.name ∷ stream_names ds
stream_names (_ ∷ ds) = stream_names ds

abbrev pub def_names : List Decl → List (List ℕ)
def_names [] = []
def_names (d.Def at x ty e ∷ ds) = x.name ∷ def_names ds
def_names (_ ∷ ds) = def_names ds

-- the structs and arrays of a text in the order of its type list, and its names by their kinds, in text order
pub record Numbers : Type 0 where
  pub order : List NamedType
  pub externs : List (List ℕ)
  pub streams : List (List ℕ)
  pub defs : List (List ℕ)

abbrev pub numbers_of : Surface → Numbers
numbers_of s = record { order = type_order s; externs = extern_names s.decls; streams = stream_names s.decls; defs = def_names s.decls }

abbrev pub is_in : List (List ℕ) → List ℕ → Bool
is_in names name = list_any (bytes_eq name) names

abbrev pub number_in : List (List ℕ) → List ℕ → ℕ
number_in names name = position_or_len (bytes_eq name) names

abbrev pub name_term : Numbers → List ℕ → Term
name_term numbers name =
    if is_in numbers.externs name then t.extern (number_in numbers.externs name)
    else if is_in numbers.streams name then t.stream (number_in numbers.streams name) else t.def (number_in numbers.defs name)

-- ---- expressions

-- An expression: what it is judged, how many library forms it has, and its tree and these forms in text order, where so
-- many forms stand before it.
pub record Read : Type 0 where
  pub judged : Judged
  pub count : ℕ
  pub term : ℕ → Term
  pub forms : ℕ → List TreeLib

abbrev pub counts : List Read → ℕ
counts [] = 0
counts (p ∷ ps) = p.count + counts ps

abbrev pub terms_from : ℕ → List Read → List Term
terms_from k [] = []
terms_from k (p ∷ ps) = p.term k ∷ terms_from (k + p.count) ps

abbrev pub forms_from : ℕ → List Read → List TreeLib
forms_from k [] = []
forms_from k (p ∷ ps) = p.forms k ++ forms_from (k + p.count) ps

abbrev pub terms : List Term → Terms
terms [] = t.end
terms (a ∷ as_) = t.more a (terms as_)

-- an expression that is no library form, over its operands
abbrev pub plain : Judged → List Read → (List Term → Term) → Read
plain j ps make = record { judged = j; count = counts ps; term = λ k. make (terms_from k ps); forms = λ k. forms_from k ps }

-- a library form stands before those of its operands
abbrev pub library : Judged → ℕ → LibForm → List Read → Read
library j at form ps = record {
  judged = j;
  count = suc (counts ps);
  term = λ k. t.lib k form (terms (terms_from (suc k) ps));
  forms = λ k. record { form = form; args = terms_from (suc k) ps; at = at } ∷ forms_from (suc k) ps;
}

abbrev pub operand : List Term → ℕ → Term
operand as_ i = get_or as_ i t.missing

abbrev pub scalar_in : NamedType → Scalar
scalar_in (scalar s) = s
scalar_in _ = s_.Bool

abbrev pub scalar_of : Read → Scalar
scalar_of p = scalar_in (type_of p.judged)

abbrev pub first_scalar : List Read → Scalar
first_scalar [] = s_.Bool
first_scalar (p ∷ ps) = scalar_of p

abbrev pub is_member : List ℕ → FieldForm → Bool
is_member name f = bytes_eq f.name.name name

abbrev pub member_number : Option Struct → List ℕ → ℕ
member_number None name = 0
member_number (Some s) name = position_or_len (is_member name) s.fields

abbrev pub struct_name : NamedType → List ℕ
struct_name (struct name) = name
struct_name _ = []

-- the types of an expression that is read, and of its operand
abbrev pub ty_in : Numbers → Judged → Ty
ty_in numbers j = ty_of numbers.order (type_of j)

abbrev pub read_as : Numbers → Scope → Judged → Expr-F Read → Read
read_as numbers scope j (Expr-F.Lit at s w) = plain j [] (λ as_. t.lit s w)
read_as numbers scope j (Expr-F.Name x) = plain j [] (λ as_. name_term numbers x.name)
read_as numbers scope j (Expr-F.Drop at k x) = plain j [] (λ as_. t.dropped (number_in numbers.streams x.name) k)
read_as numbers scope j (Expr-F.Un at op a) = plain j (a ∷ []) (λ as_. t.un op (scalar_of a) (operand as_ 0))
read_as numbers scope j (Expr-F.Bin at op a b) = plain j (a ∷ b ∷ []) (λ as_. t.bin op (scalar_of a) (operand as_ 0) (operand as_ 1))
read_as numbers scope j (Expr-F.Shift at dir a count) =
    plain j (a ∷ count ∷ []) (λ as_. t.shift dir (scalar_of a) (operand as_ 0) (scalar_of count) (operand as_ 1))
read_as numbers scope j (Expr-F.And at a b) = plain j (a ∷ b ∷ []) (λ as_. t.and (operand as_ 0) (operand as_ 1))
read_as numbers scope j (Expr-F.Or at a b) = plain j (a ∷ b ∷ []) (λ as_. t.or (operand as_ 0) (operand as_ 1))
read_as numbers scope j (Expr-F.Implies at a b) = plain j (a ∷ b ∷ []) (λ as_. t.implies (operand as_ 0) (operand as_ 1))
read_as numbers scope j (Expr-F.If at c a b) =
    plain j (c ∷ a ∷ b ∷ []) (λ as_. t.choose (operand as_ 0) (operand as_ 1) (operand as_ 2))
read_as numbers scope j (Expr-F.Cast at to a) = plain j (a ∷ []) (λ as_. t.cast (scalar_of a) (scalar_in (type_of j)) (operand as_ 0))
read_as numbers scope j (Expr-F.Abs at a) = plain j (a ∷ []) (λ as_. t.abs (scalar_of a) (operand as_ 0))
read_as numbers scope j (Expr-F.Sign at a) = plain j (a ∷ []) (λ as_. t.sign (scalar_of a) (operand as_ 0))
read_as numbers scope j (Expr-F.Index at a i) =
    plain j (a ∷ i ∷ []) (λ as_. t.index (ty_in numbers a.judged) (operand as_ 0) (operand as_ 1))
read_as numbers scope j (Expr-F.Field at a x) =
    plain j (a ∷ []) (λ as_. t.field (ty_in numbers a.judged) (member_number (struct_in scope.all (struct_name (type_of a.judged))) x.name) (operand as_ 0))
read_as numbers scope j (Expr-F.Array at items) = plain j items (λ as_. t.array (ty_in numbers j) (terms as_))
read_as numbers scope j (Expr-F.Record at x items) = plain j items (λ as_. t.struct (ty_in numbers j) (terms as_))
read_as numbers scope j (Expr-F.Once at p) = library j at form.Once (p ∷ [])
read_as numbers scope j (Expr-F.Historically at p) = library j at form.Historically (p ∷ [])
read_as numbers scope j (Expr-F.Yesterday at p) = library j at form.Yesterday (p ∷ [])
read_as numbers scope j (Expr-F.WeaklyYesterday at p) = library j at form.WeaklyYesterday (p ∷ [])
read_as numbers scope j (Expr-F.Since at p q) = library j at form.Since (p ∷ q ∷ [])
read_as numbers scope j (Expr-F.OnceIn at low high p) = library j at (form.OnceIn low high) (p ∷ [])
read_as numbers scope j (Expr-F.HistoricallyIn at low high p) = library j at (form.HistoricallyIn low high) (p ∷ [])
read_as numbers scope j (Expr-F.SinceIn at low high p q) = library j at (form.SinceIn low high) (p ∷ q ∷ [])
read_as numbers scope j (Expr-F.Clock at period phase) = library j at (form.Clock period phase) []
read_as numbers scope j (Expr-F.Majority at items) = plain j items (λ as_. t.majority (first_scalar items) (terms as_))
read_as numbers scope j (Expr-F.Agreed at items) = plain j items (λ as_. t.agreed (first_scalar items) (terms as_))
read_as numbers scope j (Expr-F.WindowMax at n e) = library j at (form.WindowMax n (scalar_of e)) (e ∷ [])
read_as numbers scope j (Expr-F.WindowMin at n e) = library j at (form.WindowMin n (scalar_of e)) (e ∷ [])
read_as numbers scope j (Expr-F.WindowSum at n e) = library j at (form.WindowSum n (scalar_of e)) (e ∷ [])

abbrev pub read_step : Numbers → Scope → Expr-F Read → Read
read_step numbers scope x = read_as numbers scope (expr_step scope (map-Expr Read Judged (λ (r : Read). r.judged) x)) x

unfoldable pub read_expr : Numbers → Scope → Expr → Read
read_expr numbers scope = fold-Expr Read (read_step numbers scope)

-- ---- constants

-- the words of a constant
abbrev pub words_step : ConstForm-F (List ℕ) → List ℕ
words_step (ConstForm-F.Lit at s w) = w ∷ []
words_step (ConstForm-F.Array at items) = flat_map (λ ws. ws) items
words_step (ConstForm-F.Record at x items) = flat_map (λ ws. ws) items

unfoldable pub const_words : ConstForm → List ℕ
const_words = fold-ConstForm (List ℕ) words_step

-- ---- declarations

-- a declaration, those before it, and how many library forms stand before it
pub record Placed : Type 0 where
  pub before : Declarations
  pub forms : ℕ
  pub decl : Decl

abbrev pub expressions : Decl → List Expr
expressions (d.Struct at x fields) = []
expressions (d.Extern at x ty) = []
expressions (d.Stream at x ty init e) = e ∷ []
expressions (d.Def at x ty e) = e ∷ []
expressions (d.Trigger at x guard args) = guard ∷ args
expressions (d.Observer at x e) = e ∷ []

abbrev pub reads : Numbers → Declarations → Declarations → Decl → List Read
reads numbers all before x = map (read_expr numbers (scope_of before all)) (expressions x)

abbrev pub placed : Numbers → Declarations → Declarations → ℕ → List Decl → List Placed
placed numbers all before k [] = []
placed numbers all before k (x ∷ xs) =
    record { before = before; forms = k; decl = x } ∷ placed numbers all (x ∷ before) (k + counts (reads numbers all before x)) xs

-- an expression with its type and its place
abbrev pub root_of : Numbers → ℕ → Read → Expr → TreeRoot
root_of numbers k p e = record { expr = p.term k; ty = ty_in numbers p.judged; at = place_of_expr e }

abbrev pub roots_from : Numbers → ℕ → List Read → List Expr → List TreeRoot
roots_from numbers k (p ∷ ps) (e ∷ es) = root_of numbers k p e ∷ roots_from numbers (k + p.count) ps es
roots_from numbers k _ _ = []

abbrev pub no_root : TreeRoot
no_root = record { expr = t.missing; ty = ty_of [] (scalar s_.Bool); at = 0 }

abbrev pub first_root : List TreeRoot → TreeRoot
first_root [] = no_root
first_root (r ∷ rs) = r

abbrev pub other_roots : List TreeRoot → List TreeRoot
other_roots [] = []
other_roots (r ∷ rs) = rs

abbrev pub roots : Numbers → Declarations → Placed → List TreeRoot
roots numbers all p = roots_from numbers p.forms (reads numbers all p.before p.decl) (expressions p.decl)

-- the type that a declaration writes
abbrev pub written_ty : Numbers → Placed → TypeForm → Ty
written_ty numbers p ty = ty_in numbers (judge_form p.before ty)

abbrev pub extern_item : Numbers → Placed → Decl → List ExternItem
extern_item numbers p (d.Extern at x ty) = record { name = x.name; ty = written_ty numbers p ty } ∷ []
extern_item numbers p _ = []

abbrev pub stream_item : Numbers → Placed → TreeRoot → Decl → List TreeStream
stream_item numbers p r (d.Stream at x ty init e) =
    record { name = x.name; ty = written_ty numbers p ty; init = flat_map const_words init; expr = r.expr; at = r.at } ∷ []
stream_item numbers p r _ = []

abbrev pub def_item : Numbers → Placed → TreeRoot → Decl → List TreeDef
def_item numbers p r (d.Def at x ty e) = record { name = x.name; ty = written_ty numbers p ty; expr = r.expr; at = at } ∷ []
def_item numbers p r _ = []

abbrev pub trigger_item : List TreeRoot → Decl → List TreeTrigger
trigger_item rs (d.Trigger at x guard args) = record { name = x.name; guard = first_root rs; args = other_roots rs } ∷ []
trigger_item rs _ = []

abbrev pub observer_item : TreeRoot → Decl → List TreeObserver
observer_item r (d.Observer at x e) = record { name = x.name; root = r } ∷ []
observer_item r _ = []

abbrev pub forms_of : Numbers → Declarations → Placed → List TreeLib
forms_of numbers all p = forms_from p.forms (reads numbers all p.before p.decl)

abbrev pub spec_by : Surface → Numbers → Declarations → List Placed → TreeSpec
spec_by s numbers all ps = record {
  name = s.name;
  types = types_of_text s;
  externs = flat_map (λ (p : Placed). extern_item numbers p p.decl) ps;
  streams = flat_map (λ (p : Placed). stream_item numbers p (first_root (roots numbers all p)) p.decl) ps;
  defs = flat_map (λ (p : Placed). def_item numbers p (first_root (roots numbers all p)) p.decl) ps;
  triggers = flat_map (λ (p : Placed). trigger_item (roots numbers all p) p.decl) ps;
  observers = flat_map (λ (p : Placed). observer_item (first_root (roots numbers all p)) p.decl) ps;
  libs = flat_map (forms_of numbers all) ps;
}

-- the typed specification of a text
unfoldable pub spec_of : Surface → TreeSpec
spec_of s = spec_by s (numbers_of s) (all_of s) (placed (numbers_of s) (all_of s) [] 0 s.decls)
