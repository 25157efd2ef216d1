-- The first fault of types in a text, over its declarations in order, and what the text's walk meets.
use Rattle.std.specs.Prelude.{ℕ, Bool, true, false, ◌&&◌, nat_lt, if◌then◌else◌, List, [], ◌∷◌, ◌++◌, map, sum, bytes_eq, Option, Some, None}
use Rattle.std.specs.List.{list_all}
use Rattle.std.specs.Option.{option_map_or}
use Rattle.spec_text.specs.declared.surface.FieldForm.{FieldForm}
use Rattle.spec_text.specs.declared.surface.Expr.{Expr}
use Rattle.spec_text.specs.declared.surface.Decl.{Decl}
use Rattle.spec_text.specs.declared.surface.Decl.TheVariants as d
use Rattle.spec_text.specs.declared.surface.Surface.{Surface}
use Rattle.type_check.specs.declared.fault.TypeFault.{TypeFault}
use Rattle.type_check.specs.declared.fault.TypeFault.TheVariants.{TypeTooWide, TypeClash}
use Rattle.type_check.specs.NamedType.{NamedType, struct, bool, same_type, Declarations, form_words, struct_words, most_words}
use Rattle.type_check.specs.Judged.{Verdict, has, lacks, if_so, Judged, judged, or_else, type_of, types_of, is_bool, Scope, judge_form, judge_const, judge_expr}

-- ---- triggers of one name

-- the arguments of a trigger, and the declarations before it
pub record Sent : Type 0 where
  pub before : Declarations
  pub args : List Expr

-- the first trigger of a name; the declarations have the last first
abbrev pub first_sent : Declarations → List ℕ → Option Sent
first_sent [] name = None
first_sent (d.Trigger at x guard args ∷ ds) name =
    option_map_or (λ sent. Some sent) (first_sent ds name) (if bytes_eq x.name name then Some (record { before = ds; args = args }) else None)
first_sent (_ ∷ ds) name = first_sent ds name

abbrev pub scope_of : Declarations → Declarations → Scope
scope_of before all = record { before = before; all = all }

abbrev pub judge_exprs : Scope → List Expr → List Judged
judge_exprs scope es = map (judge_expr scope) es

-- the types of its arguments, as far as they have some
abbrev pub sent_types : Declarations → Option Sent → List (Option NamedType)
sent_types all None = []
sent_types all (Some sent) = map (λ (a : Judged). a.ty) (judge_exprs (scope_of sent.before all) sent.args)

-- as many types, none of which differs from its other one; a type that is missing differs from none
abbrev pub agree : List (Option NamedType) → List NamedType → Bool
agree [] [] = true
agree (s ∷ ss) (t ∷ ts) = option_map_or (λ u. same_type u t) s true && agree ss ts
agree _ _ = false

-- ---- one declaration, behind those before it

abbrev pub struct_width : Declarations → List FieldForm → ℕ
struct_width before fields = sum (map (λ (f : FieldForm). form_words (struct_words before) f.ty) fields)

abbrev pub judge_fields : Declarations → List FieldForm → List Judged
judge_fields before fields = map (λ (f : FieldForm). judge_form before f.ty) fields

-- Initial values and an expression of the written type. A declaration that fits counts as a truth value, which adds
-- nothing to the type list.
abbrev pub of_type : ℕ → NamedType → List NamedType → Verdict
of_type at t ts = if_so (list_all (same_type t) ts) bool (TypeClash at)

abbrev pub judge_decl : Declarations → Declarations → Decl → Judged
judge_decl all before (d.Struct at x fields) =
    judged (judge_fields before fields) (if nat_lt most_words (struct_width before fields) then lacks (TypeTooWide at) else has (struct x.name))
judge_decl all before (d.Extern at x ty) = judge_form before ty
judge_decl all before (d.Stream at x ty init e) =
    let t = judge_form before ty in
    let values = map (judge_const (scope_of before all)) init ++ judge_expr (scope_of before all) e ∷ [] in
    judged (t ∷ values) (of_type at (type_of t) (types_of values))
judge_decl all before (d.Def at x ty e) =
    let t = judge_form before ty in
    let value = judge_expr (scope_of before all) e in
    judged (t ∷ value ∷ []) (of_type at (type_of t) (type_of value ∷ []))
judge_decl all before (d.Trigger at x guard args) =
    let g = judge_expr (scope_of before all) guard in
    let as_ = judge_exprs (scope_of before all) args in
    judged (g ∷ as_) (if_so (is_bool (type_of g) && agree (sent_types all (first_sent (d.Trigger at x guard args ∷ before) x.name)) (types_of as_)) bool (TypeClash at))
judge_decl all before (d.Observer at x e) = judge_expr (scope_of before all) e

-- ---- the whole text

abbrev pub reversed : Declarations → List Decl → Declarations
reversed before [] = before
reversed before (x ∷ xs) = reversed (x ∷ before) xs

abbrev pub all_of : Surface → Declarations
all_of s = reversed [] s.decls

abbrev pub first_untyped : Declarations → Declarations → List Decl → Option TypeFault
first_untyped all before [] = None
first_untyped all before (x ∷ xs) = or_else (judge_decl all before x).fault (first_untyped all (x ∷ before) xs)

-- the first node in postorder whose parts have types and which has none
unfoldable pub untyped : Surface → Option TypeFault
untyped s = first_untyped (all_of s) [] s.decls
