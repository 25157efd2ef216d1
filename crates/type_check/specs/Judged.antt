-- The type of each expression and constant, and the first of their nodes that has none.
-- A node is at fault where its parts have types and it has none. Of several reasons the first counts: a name that
-- stands for nothing, an array of arrays, a drop of no buffer or one that goes too far, a type that is too wide, types
-- that clash.
use Rattle.std.specs.Prelude.{ℕ, suc, ◌*◌, Bool, true, false, ◌&&◌, nat_lt, if◌then◌else◌, List, [], ◌∷◌, ◌++◌, length, map, bytes_eq, is_some, Option, Some, None}
use Rattle.std.specs.List.{list_all, list_any, flat_map}
use Rattle.std.specs.Option.{option_map_or}
use Rattle.stream_types.specs.declared.scalar.Scalar.{Scalar}
use Rattle.stream_types.specs.declared.scalar.Op1.{Op1}
use Rattle.stream_types.specs.declared.scalar.Op2.{Op2}
use Rattle.stream_types.specs.Scalars.{is_integer, op1_fits, op2_fits, op2_gives, shift_fits, cast_fits}
use Rattle.spec_text.specs.declared.surface.NameAt.{NameAt}
use Rattle.spec_text.specs.declared.surface.FieldForm.{FieldForm}
use Rattle.spec_text.specs.declared.surface.TypeForm.{TypeForm}
use Rattle.spec_text.specs.declared.surface.TypeForm.TheOpen.{TypeForm-F}
use Rattle.spec_text.specs.declared.surface.TypeForm.TheFolds.{fold-TypeForm}
use Rattle.spec_text.specs.declared.surface.ConstForm.{ConstForm}
use Rattle.spec_text.specs.declared.surface.ConstForm.TheOpen.{ConstForm-F}
use Rattle.spec_text.specs.declared.surface.ConstForm.TheFolds.{fold-ConstForm}
use Rattle.spec_text.specs.declared.surface.Decl.TheVariants as d
use Rattle.spec_text.specs.declared.surface.Expr.{Expr}
use Rattle.spec_text.specs.declared.surface.Expr.TheOpen.{Expr-F}
use Rattle.spec_text.specs.declared.surface.Expr.TheFolds.{fold-Expr}
use Rattle.type_check.specs.declared.fault.TypeFault.{TypeFault}
use Rattle.type_check.specs.declared.fault.TypeFault.TheVariants.{Unknown, NestedArray, DropOfNoBuffer, DropTooFar, TypeTooWide, TypeClash}
use Rattle.type_check.specs.NamedType.{NamedType, scalar, struct, array, bool, word32, same_type, is_array, Declarations, Struct, struct_in, declares_struct, words, most_words}

-- ---- a node over its parts

-- what a node is where its parts have types: it has a type, or none for this reason
pub data Verdict : Type 0 where
  has : NamedType → Verdict
  lacks : TypeFault → Verdict

-- a node's type, the first fault among its parts and itself in postorder, and the types of these nodes in postorder
pub record Judged : Type 0 where
  pub ty : Option NamedType
  pub fault : Option TypeFault
  pub types : List NamedType

abbrev pub or_else : Option TypeFault → Option TypeFault → Option TypeFault
or_else (Some e) other = Some e
or_else None other = other

abbrev pub first_of : List Judged → Option TypeFault
first_of [] = None
first_of (p ∷ ps) = or_else p.fault (first_of ps)

abbrev pub have_types : List Judged → Bool
have_types ps = list_all (λ (p : Judged). is_some p.ty) ps

abbrev pub all_types : List Judged → List NamedType
all_types ps = flat_map (λ (p : Judged). p.types) ps

abbrev pub over_parts : Bool → List Judged → Verdict → Judged
over_parts false ps v = record { ty = None; fault = first_of ps; types = all_types ps }
over_parts true ps (has t) = record { ty = Some t; fault = first_of ps; types = all_types ps ++ t ∷ [] }
over_parts true ps (lacks e) = record { ty = None; fault = or_else (first_of ps) (Some e); types = all_types ps }

abbrev pub judged : List Judged → Verdict → Judged
judged ps v = over_parts (have_types ps) ps v

-- the type of a part that has one
abbrev pub type_of : Judged → NamedType
type_of p = option_map_or (λ t. t) p.ty bool

abbrev pub if_so : Bool → NamedType → TypeFault → Verdict
if_so true t e = has t
if_so false t e = lacks e

-- ---- scalars

abbrev pub is_scalar_that : (Scalar → Bool) → NamedType → Bool
is_scalar_that P (scalar s) = P s
is_scalar_that P _ = false

abbrev pub any_scalar : Scalar → Bool
any_scalar s = true

abbrev pub is_bool : NamedType → Bool
is_bool t = same_type t bool

-- an operand of this kind
abbrev pub integral : NamedType → Bool
integral t = is_scalar_that is_integer t

-- the verdict on an operator's scalar operands
abbrev pub on_one : ℕ → Op1 → NamedType → Verdict
on_one at op (scalar s) = if_so (op1_fits op s) (scalar s) (TypeClash at)
on_one at op _ = lacks (TypeClash at)

abbrev pub on_two : ℕ → Op2 → NamedType → NamedType → Verdict
on_two at op (scalar s) u = if_so (op2_fits op s && same_type (scalar s) u) (scalar (op2_gives op s)) (TypeClash at)
on_two at op _ u = lacks (TypeClash at)

abbrev pub on_shift : ℕ → NamedType → NamedType → Verdict
on_shift at (scalar s) (scalar c) = if_so (shift_fits s c) (scalar s) (TypeClash at)
on_shift at _ _ = lacks (TypeClash at)

abbrev pub on_cast : ℕ → NamedType → NamedType → Verdict
on_cast at (scalar to) (scalar from) = if_so (cast_fits from to) (scalar to) (TypeClash at)
on_cast at _ _ = lacks (TypeClash at)

-- ---- arrays

abbrev pub is_too_wide : Declarations → ℕ → NamedType → Bool
is_too_wide ds n t = nat_lt most_words (n * words ds t)

-- so many elements of one type
abbrev pub on_elements : Declarations → ℕ → ℕ → NamedType → Verdict
on_elements ds at n t =
    if is_array t then lacks (NestedArray at) else if is_too_wide ds n t then lacks (TypeTooWide at) else has (array t n)

-- elements that are written one by one
abbrev pub on_items : Declarations → ℕ → List NamedType → Verdict
on_items ds at [] = lacks (TypeClash at)
on_items ds at (t ∷ ts) =
    if list_any is_array (t ∷ ts) then lacks (NestedArray at)
    else if list_all (same_type t) ts then on_elements ds at (suc (length ts)) t else lacks (TypeClash at)

abbrev pub on_index : ℕ → NamedType → NamedType → Verdict
on_index at (array t n) i = if_so (same_type i word32) t (TypeClash at)
on_index at _ i = lacks (TypeClash at)

-- ---- written types

-- behind these declarations, the last first
abbrev pub form_step : Declarations → TypeForm-F Judged → Judged
form_step before (TypeForm-F.Scalar at s) = judged [] (has (scalar s))
form_step before (TypeForm-F.Named x) = judged [] (if_so (declares_struct before x.name) (struct x.name) (Unknown x.at))
form_step before (TypeForm-F.Array at elem n) = judged (elem ∷ []) (on_elements before at n (type_of elem))

unfoldable pub judge_form : Declarations → TypeForm → Judged
judge_form before = fold-TypeForm Judged (form_step before)

-- a type that is written elsewhere counts as a part; what is wrong with it is told where it stands
abbrev pub elsewhere : Declarations → TypeForm → Judged
elsewhere before ty = record { ty = (judge_form before ty).ty; fault = None; types = [] }

-- ---- structs

abbrev pub member_in : List FieldForm → List ℕ → Option TypeForm
member_in [] name = None
member_in (f ∷ fs) name = if bytes_eq f.name.name name then Some f.ty else member_in fs name

-- the written type of a struct's member
abbrev pub member_of : Option Struct → List ℕ → Option TypeForm
member_of None name = None
member_of (Some s) name = member_in s.fields name

abbrev pub before_struct : Option Struct → Declarations
before_struct None = []
before_struct (Some s) = s.before

-- a member as a part: its type, or that there is none
abbrev pub over_member : Judged → Declarations → NameAt → Option TypeForm → Judged
over_member a before x None = judged (a ∷ []) (lacks (Unknown x.at))
over_member a before x (Some ty) = let m = elsewhere before ty in judged (a ∷ m ∷ []) (has (type_of m))

abbrev pub over_field : Declarations → ℕ → Judged → NameAt → NamedType → Judged
over_field all at a x (struct name) = over_member a (before_struct (struct_in all name)) x (member_of (struct_in all name) x.name)
over_field all at a x _ = judged (a ∷ []) (lacks (TypeClash at))

abbrev pub over_part : Declarations → ℕ → Judged → NameAt → Judged
over_part all at a x = if is_some a.ty then over_field all at a x (type_of a) else a

-- each item has the type of its field, and there are as many
abbrev pub are_fields : Declarations → List FieldForm → List NamedType → Bool
are_fields before [] [] = true
are_fields before (f ∷ fs) (t ∷ ts) = same_type (type_of (judge_form before f.ty)) t && are_fields before fs ts
are_fields before _ _ = false

abbrev pub on_record : Option Struct → ℕ → NameAt → List NamedType → Verdict
on_record None at x ts = lacks (Unknown x.at)
on_record (Some s) at x ts = if_so (are_fields s.before s.fields ts) (struct x.name) (TypeClash at)

-- ---- constants

-- the declarations before an expression, and all of the text, the last first
pub record Scope : Type 0 where
  pub before : Declarations
  pub all : Declarations

abbrev pub types_of : List Judged → List NamedType
types_of ps = map type_of ps

abbrev pub const_step : Scope → ConstForm-F Judged → Judged
const_step scope (ConstForm-F.Lit at s w) = judged [] (has (scalar s))
const_step scope (ConstForm-F.Array at items) = judged items (on_items scope.all at (types_of items))
const_step scope (ConstForm-F.Record at x items) = judged items (on_record (struct_in scope.before x.name) at x (types_of items))

unfoldable pub judge_const : Scope → ConstForm → Judged
judge_const scope = fold-ConstForm Judged (const_step scope)

-- ---- names

-- what a name in an expression is declared as: its written type, and the declarations before that
pub data Named : Type 0 where
  extern_of : Declarations → TypeForm → Named
  stream_of : Declarations → TypeForm → ℕ → Named  -- with the number of its initial values
  def_of : Declarations → TypeForm → Named

abbrev pub named_in : Declarations → List ℕ → Option Named
named_in [] name = None
named_in (d.Extern at x ty ∷ ds) name = if bytes_eq x.name name then Some (extern_of ds ty) else named_in ds name
named_in (d.Stream at x ty init e ∷ ds) name = if bytes_eq x.name name then Some (stream_of ds ty (length init)) else named_in ds name
named_in (d.Def at x ty e ∷ ds) name = if bytes_eq x.name name then Some (def_of ds ty) else named_in ds name
named_in (_ ∷ ds) name = named_in ds name

abbrev pub declared : Named → Judged
declared (extern_of ds ty) = elsewhere ds ty
declared (stream_of ds ty n) = elsewhere ds ty
declared (def_of ds ty) = elsewhere ds ty

abbrev pub over_name : NameAt → Option Named → Judged
over_name x None = judged [] (lacks (Unknown x.at))
over_name x (Some n) = judged (declared n ∷ []) (has (type_of (declared n)))

-- a stream keeps as many values as it begins with
abbrev pub on_drop : ℕ → ℕ → Named → NamedType → Verdict
on_drop at k (stream_of ds ty n) t = if_so (nat_lt k n) t (DropTooFar at)
on_drop at k _ t = lacks (DropOfNoBuffer at)

abbrev pub over_drop : ℕ → ℕ → NameAt → Option Named → Judged
over_drop at k x None = judged [] (lacks (Unknown x.at))
over_drop at k x (Some n) = judged (declared n ∷ []) (on_drop at k n (type_of (declared n)))

-- ---- expressions

-- operands that are truth values
abbrev pub on_truths : ℕ → List NamedType → Verdict
on_truths at ts = if_so (list_all is_bool ts) bool (TypeClash at)

abbrev pub on_choice : ℕ → NamedType → NamedType → NamedType → Verdict
on_choice at c a b = if_so (is_bool c && same_type a b) a (TypeClash at)

abbrev pub on_integer : ℕ → NamedType → Verdict
on_integer at t = if_so (integral t) t (TypeClash at)

-- votes of one scalar type; the answer's type follows from it
abbrev pub on_votes : ℕ → (NamedType → NamedType) → List NamedType → Verdict
on_votes at gives [] = lacks (TypeClash at)
on_votes at gives (t ∷ ts) = if_so (is_scalar_that any_scalar t && list_all (same_type t) ts) (gives t) (TypeClash at)

abbrev pub truths : ℕ → List Judged → Judged
truths at ps = judged ps (on_truths at (types_of ps))

abbrev pub integer : ℕ → Judged → Judged
integer at a = judged (a ∷ []) (on_integer at (type_of a))

abbrev pub expr_step : Scope → Expr-F Judged → Judged
expr_step scope (Expr-F.Lit at s w) = judged [] (has (scalar s))
expr_step scope (Expr-F.Name x) = over_name x (named_in scope.all x.name)
expr_step scope (Expr-F.Drop at k x) = over_drop at k x (named_in scope.all x.name)
expr_step scope (Expr-F.Un at op a) = judged (a ∷ []) (on_one at op (type_of a))
expr_step scope (Expr-F.Bin at op a b) = judged (a ∷ b ∷ []) (on_two at op (type_of a) (type_of b))
expr_step scope (Expr-F.Shift at dir a count) = judged (a ∷ count ∷ []) (on_shift at (type_of a) (type_of count))
expr_step scope (Expr-F.And at a b) = truths at (a ∷ b ∷ [])
expr_step scope (Expr-F.Or at a b) = truths at (a ∷ b ∷ [])
expr_step scope (Expr-F.Implies at a b) = truths at (a ∷ b ∷ [])
expr_step scope (Expr-F.If at c a b) = judged (c ∷ a ∷ b ∷ []) (on_choice at (type_of c) (type_of a) (type_of b))
expr_step scope (Expr-F.Cast at to a) = let t = judge_form scope.before to in judged (t ∷ a ∷ []) (on_cast at (type_of t) (type_of a))
expr_step scope (Expr-F.Abs at a) = integer at a
expr_step scope (Expr-F.Sign at a) = integer at a
expr_step scope (Expr-F.Index at a i) = judged (a ∷ i ∷ []) (on_index at (type_of a) (type_of i))
expr_step scope (Expr-F.Field at a x) = over_part scope.all at a x
expr_step scope (Expr-F.Array at items) = judged items (on_items scope.all at (types_of items))
expr_step scope (Expr-F.Record at x items) = judged items (on_record (struct_in scope.before x.name) at x (types_of items))
expr_step scope (Expr-F.Once at p) = truths at (p ∷ [])
expr_step scope (Expr-F.Historically at p) = truths at (p ∷ [])
expr_step scope (Expr-F.Yesterday at p) = truths at (p ∷ [])
expr_step scope (Expr-F.WeaklyYesterday at p) = truths at (p ∷ [])
expr_step scope (Expr-F.Since at p q) = truths at (p ∷ q ∷ [])
expr_step scope (Expr-F.OnceIn at low high p) = truths at (p ∷ [])
expr_step scope (Expr-F.HistoricallyIn at low high p) = truths at (p ∷ [])
expr_step scope (Expr-F.SinceIn at low high p q) = truths at (p ∷ q ∷ [])
expr_step scope (Expr-F.Clock at period phase) = judged [] (has bool)
expr_step scope (Expr-F.Majority at items) = judged items (on_votes at (λ t. t) (types_of items))
expr_step scope (Expr-F.Agreed at items) = judged items (on_votes at (λ t. bool) (types_of items))
expr_step scope (Expr-F.WindowMax at n e) = integer at e
expr_step scope (Expr-F.WindowMin at n e) = integer at e
expr_step scope (Expr-F.WindowSum at n e) = integer at e

unfoldable pub judge_expr : Scope → Expr → Judged
judge_expr scope = fold-Expr Judged (expr_step scope)
