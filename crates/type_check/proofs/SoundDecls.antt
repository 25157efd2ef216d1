-- Declarations have sound types, and no more of them than items.
use Rattle.std.proofs.Common.{◌≡◌, ◌≤◌, ◌+◌, ℕ, Bool, true, false, List, [], ◌∷◌, ◌++◌, map, length, ap, ◌∙◌, arith}
use Rattle.std.specs.Prelude.{◌&&◌, if◌then◌else◌, nat_lt, is_some, Some}
use Rattle.std.specs.Cmp.Lexicographic.{nat_list_eq_equiv}
use Rattle.std.specs.List.{list_all}
use Rattle.spec_text.specs.declared.surface.NameAt.{NameAt}
use Rattle.spec_text.specs.declared.surface.FieldForm.{FieldForm}
use Rattle.spec_text.specs.declared.surface.TypeForm.{TypeForm}
use Rattle.spec_text.specs.declared.surface.ConstForm.{ConstForm}
use Rattle.spec_text.specs.declared.surface.Expr.{Expr}
use Rattle.spec_text.specs.declared.surface.Decl.{Decl}
use Rattle.spec_text.specs.declared.surface.Decl.TheVariants as d
use Rattle.spec_text.specs.Form.{forms, form_of_type, form_of_const, form_of_expr, form_of_field, form_of_decl}
use Rattle.spec_text.specs.Extent.{item_count, item_counts}
use Rattle.spec_text.specs.Shape.{most_initial}
use Rattle.spec_text.specs.KeepsTable.{between, all_kept, kept_from, keeps_name, keeps_type, keeps_const, keeps_expr, keeps_field, keeps_decl}
use Rattle.type_check.specs.declared.fault.TypeFault.TheVariants.{TypeTooWide, TypeClash}
use Rattle.type_check.specs.NamedType.{struct, struct_in, bool, same_type, Declarations, declares_struct, most_words}
use Rattle.type_check.specs.Judged.{has, lacks, if_so, Judged, type_of, types_of, is_bool, judge_form, judge_const, judge_expr, Scope}
use Rattle.type_check.specs.Untyped.{struct_width, judge_fields, judge_exprs, scope_of, of_type, agree, sent_types, first_sent, judge_decl}
use Rattle.type_check.specs.TypeOrder.{closings}
use Rattle.type_check.proofs.SameNames.{left_true, right_true}
use Rattle.type_check.proofs.SoundTypes.{AllSound, IsBehind, Fits, if_fits}
use Rattle.type_check.proofs.SoundNodes.{IsSound, AreSound, no_parts, more_parts, node_sound, over_two, sound_behind, sound_within}
use Rattle.type_check.proofs.SoundForms.{form_sound, const_sound}
use Rattle.type_check.proofs.SoundExprs.{IsSoundText, IsSoundScope, expr_sound}
use Rattle.type_check.proofs.SoundTexts.{struct_kept}

pub record IsSoundDecl (all : Declarations) (j : Judged) (x : Decl) : Type 0 where
  pub types_are : AllSound all j.types
  pub few : length j.types + length (closings x) ≤ item_count (form_of_decl x)

parts_within : (ds : Declarations) (ps : List Judged) (m n : ℕ) → m ≤ n → AreSound ds ps m → AreSound ds ps n
parts_within ds ps m n l h = record { tys_are = h.tys_are; types_are = h.types_are; few = omega (arith, h.few) }

-- a written type behind the declarations before
form_behind : (all before : Declarations) (ty : TypeForm) → IsBehind before all → keeps_type ty ≡ true → IsSound all (judge_form before ty) (item_count (form_of_type ty))
form_behind all before ty b k = sound_behind before all (judge_form before ty) (item_count (form_of_type ty)) b (form_sound before ty k)

fields_are_sound : (all before : Declarations) (fs : List FieldForm) → IsBehind before all → all_kept (map keeps_field fs) ≡ true → AreSound all (judge_fields before fs) (item_counts (forms (map form_of_field fs)))
fields_are_sound all before [] b k = no_parts all
fields_are_sound all before (f ∷ fs) b k =
    more_parts all (judge_form before f.ty) (judge_fields before fs) (item_count (form_of_field f)) (item_counts (forms (map form_of_field fs)))
    (sound_within all (judge_form before f.ty) (item_count (form_of_type f.ty)) (item_count (form_of_field f)) (omega arith) (form_behind all before f.ty b (right_true (keeps_name f.name) (keeps_type f.ty) (left_true (keeps_field f) (all_kept (map keeps_field fs)) k))))
    (fields_are_sound all before fs b (right_true (keeps_field f) (all_kept (map keeps_field fs)) k))

exprs_are_sound : (scope : Scope) → IsSoundScope scope → (es : List Expr) → all_kept (map keeps_expr es) ≡ true → AreSound scope.all (judge_exprs scope es) (item_counts (forms (map form_of_expr es)))
exprs_are_sound scope g [] k = no_parts scope.all
exprs_are_sound scope g (e ∷ es) k =
    more_parts scope.all (judge_expr scope e) (judge_exprs scope es) (item_count (form_of_expr e)) (item_counts (forms (map form_of_expr es)))
    (expr_sound scope g e (left_true (keeps_expr e) (all_kept (map keeps_expr es)) k)) (exprs_are_sound scope g es (right_true (keeps_expr e) (all_kept (map keeps_expr es)) k))

-- initial values and an expression
values_are_sound : (scope : Scope) → IsSoundScope scope → (init : List ConstForm) (e : Expr) → all_kept (map keeps_const init) ≡ true → keeps_expr e ≡ true
    → AreSound scope.all (map (judge_const scope) init ++ judge_expr scope e ∷ []) (item_counts (forms (map form_of_const init)) + item_count (form_of_expr e))
values_are_sound scope g [] e k l =
    parts_within scope.all (judge_expr scope e ∷ []) (item_count (form_of_expr e) + 0) _ (omega arith) (more_parts scope.all (judge_expr scope e) [] (item_count (form_of_expr e)) 0 (expr_sound scope g e l) (no_parts scope.all))
values_are_sound scope g (c ∷ init) e k l =
    let rest = item_counts (forms (map form_of_const init)) + item_count (form_of_expr e) in
    parts_within scope.all (judge_const scope c ∷ map (judge_const scope) init ++ judge_expr scope e ∷ []) (item_count (form_of_const c) + rest) _ (omega arith)
    (more_parts scope.all (judge_const scope c) (map (judge_const scope) init ++ judge_expr scope e ∷ []) (item_count (form_of_const c)) rest
    (const_sound scope g.behind c (left_true (keeps_const c) (all_kept (map keeps_const init)) k)) (values_are_sound scope g init e (right_true (keeps_const c) (all_kept (map keeps_const init)) k) l))

-- ---- each declaration

own_struct : (before : Declarations) (at : ℕ) (x : NameAt) (fs : List FieldForm) → struct_in (d.Struct at x fs ∷ before) x.name ≡ Some (record { fields = fs; before = before })
own_struct before at x fs = ap (λ b. if b then Some (record { fields = fs; before = before }) else struct_in before x.name) (nat_list_eq_equiv.refl x.name)

-- the struct of a text that is declared here
pub text_struct : (all before : Declarations) (at : ℕ) (x : NameAt) (fs : List FieldForm) → IsBehind (d.Struct at x fs ∷ before) all → struct_in all x.name ≡ Some (record { fields = fs; before = before })
text_struct all before at x fs c = (c.alike x.name (ap is_some (own_struct before at x fs))).struct_is ∙ own_struct before at x fs

is_declared : (all before : Declarations) (at : ℕ) (x : NameAt) (fs : List FieldForm) → IsBehind (d.Struct at x fs ∷ before) all → declares_struct all x.name ≡ true
is_declared all before at x fs c = ap is_some (text_struct all before at x fs c)

width_fits : (all : Declarations) (at : ℕ) (x : List ℕ) (b : Bool) → declares_struct all x ≡ true → Fits all (if b then lacks (TypeTooWide at) else has (struct x))
width_fits all at x true h = tt
width_fits all at x false h = h

struct_sound : (v : ℕ) (all before : Declarations) (at : ℕ) (x : NameAt) (fs : List FieldForm) → IsBehind before all → declares_struct all x.name ≡ true → keeps_decl v (d.Struct at x fs) ≡ true → IsSoundDecl all (judge_decl all before (d.Struct at x fs)) (d.Struct at x fs)
struct_sound v all before at x fs b h k =
    let n = item_counts (forms (map form_of_field fs)) in
    let verdict = if nat_lt most_words (struct_width before fs) then lacks (TypeTooWide at) else has (struct x.name) in
    let s = node_sound all (judge_fields before fs) verdict n (n + 1) (fields_are_sound all before fs b (struct_kept v at x fs k)) (width_fits all at x.name (nat_lt most_words (struct_width before fs)) h) (omega arith) in
    record { types_are = s.types_are; few = omega (arith, s.few) }

extern_sound : (v : ℕ) (all before : Declarations) (at : ℕ) (x : NameAt) (ty : TypeForm) → IsBehind before all → keeps_decl v (d.Extern at x ty) ≡ true → IsSoundDecl all (judge_decl all before (d.Extern at x ty)) (d.Extern at x ty)
extern_sound v all before at x ty b k =
    let s = form_behind all before ty b (right_true (keeps_name x) (keeps_type ty) k) in
    record { types_are = s.types_are; few = omega (arith, s.few) }

scope_sound : (all before : Declarations) → IsBehind before all → IsSoundText all → IsSoundScope (scope_of before all)
scope_sound all before b g = record { behind = b; text = g }

stream_sound : (v : ℕ) (all before : Declarations) (at : ℕ) (x : NameAt) (ty : TypeForm) (init : List ConstForm) (e : Expr) → IsBehind before all → IsSoundText all → keeps_decl v (d.Stream at x ty init e) ≡ true
    → IsSoundDecl all (judge_decl all before (d.Stream at x ty init e)) (d.Stream at x ty init e)
stream_sound v all before at x ty init e b g k =
    let l = left_true (keeps_name x && keeps_type ty && kept_from 1 (most_initial v) (map keeps_const init)) (keeps_expr e) k in
    let kept = right_true (keeps_name x && keeps_type ty) (kept_from 1 (most_initial v) (map keeps_const init)) l in
    let named = left_true (keeps_name x && keeps_type ty) (kept_from 1 (most_initial v) (map keeps_const init)) l in
    let scope = scope_of before all in
    let t = judge_form before ty in
    let values = map (judge_const scope) init ++ judge_expr scope e ∷ [] in
    let n = item_counts (forms (map form_of_const init)) + item_count (form_of_expr e) in
    let parts = more_parts all t values (item_count (form_of_type ty)) n (form_behind all before ty b (right_true (keeps_name x) (keeps_type ty) named))
    (values_are_sound scope (scope_sound all before b g) init e (right_true (between 1 (most_initial v) (length (map keeps_const init))) (all_kept (map keeps_const init)) kept) (right_true (keeps_name x && keeps_type ty && kept_from 1 (most_initial v) (map keeps_const init)) (keeps_expr e) k)) in
    let s = node_sound all (t ∷ values) (of_type at (type_of t) (types_of values)) (item_count (form_of_type ty) + n) (item_count (form_of_type ty) + n + 1) parts (if_fits all (list_all (same_type (type_of t)) (types_of values)) bool (TypeClash at) tt) (omega arith) in
    record { types_are = s.types_are; few = omega (arith, s.few) }

def_sound : (v : ℕ) (all before : Declarations) (at : ℕ) (x : NameAt) (ty : TypeForm) (e : Expr) → IsBehind before all → IsSoundText all → keeps_decl v (d.Def at x ty e) ≡ true → IsSoundDecl all (judge_decl all before (d.Def at x ty e)) (d.Def at x ty e)
def_sound v all before at x ty e b g k =
    let l = left_true (keeps_name x && keeps_type ty) (keeps_expr e) k in
    let scope = scope_of before all in
    let t = judge_form before ty in
    let value = judge_expr scope e in
    let m = item_count (form_of_type ty) in
    let n = item_count (form_of_expr e) in
    let s = over_two all t value (of_type at (type_of t) (type_of value ∷ [])) m n (m + n + 1) (form_behind all before ty b (right_true (keeps_name x) (keeps_type ty) l))
    (expr_sound scope (scope_sound all before b g) e (right_true (keeps_name x && keeps_type ty) (keeps_expr e) k)) (if_fits all (list_all (same_type (type_of t)) (type_of value ∷ [])) bool (TypeClash at) tt) (omega arith) in
    record { types_are = s.types_are; few = omega (arith, s.few) }

trigger_sound : (v : ℕ) (all before : Declarations) (at : ℕ) (x : NameAt) (guard : Expr) (args : List Expr) → IsBehind before all → IsSoundText all → keeps_decl v (d.Trigger at x guard args) ≡ true
    → IsSoundDecl all (judge_decl all before (d.Trigger at x guard args)) (d.Trigger at x guard args)
trigger_sound v all before at x guard args b g k =
    let l = left_true (keeps_name x && keeps_expr guard) (kept_from 0 16 (map keeps_expr args)) k in
    let kept = right_true (keeps_name x && keeps_expr guard) (kept_from 0 16 (map keeps_expr args)) k in
    let scope = scope_of before all in
    let gs = judge_expr scope guard in
    let as_ = judge_exprs scope args in
    let m = item_count (form_of_expr guard) in
    let n = item_counts (forms (map form_of_expr args)) in
    let good = scope_sound all before b g in
    let fits = is_bool (type_of gs) && agree (sent_types all (first_sent (d.Trigger at x guard args ∷ before) x.name)) (types_of as_) in
    let s = node_sound all (gs ∷ as_) (if_so fits bool (TypeClash at)) (m + n) (m + n + 1)
    (more_parts all gs as_ m n (expr_sound scope good guard (right_true (keeps_name x) (keeps_expr guard) l)) (exprs_are_sound scope good args (right_true (between 0 16 (length (map keeps_expr args))) (all_kept (map keeps_expr args)) kept)))
    (if_fits all fits bool (TypeClash at) tt) (omega arith) in
    record { types_are = s.types_are; few = omega (arith, s.few) }

observer_sound : (v : ℕ) (all before : Declarations) (at : ℕ) (x : NameAt) (e : Expr) → IsBehind before all → IsSoundText all → keeps_decl v (d.Observer at x e) ≡ true → IsSoundDecl all (judge_decl all before (d.Observer at x e)) (d.Observer at x e)
observer_sound v all before at x e b g k =
    let s = expr_sound (scope_of before all) (scope_sound all before b g) e (right_true (keeps_name x) (keeps_expr e) k) in
    record { types_are = s.types_are; few = omega (arith, s.few) }

-- a declaration, which is in the text if it is a struct's
pub decl_sound : (v : ℕ) (all before : Declarations) (x : Decl) → IsBehind before all → IsBehind (x ∷ before) all → IsSoundText all → keeps_decl v x ≡ true → IsSoundDecl all (judge_decl all before x) x
decl_sound v all before (d.Struct at x fs) b c g k = struct_sound v all before at x fs b (is_declared all before at x fs c) k
decl_sound v all before (d.Extern at x ty) b c g k = extern_sound v all before at x ty b k
decl_sound v all before (d.Stream at x ty init e) b c g k = stream_sound v all before at x ty init e b g k
decl_sound v all before (d.Def at x ty e) b c g k = def_sound v all before at x ty e b g k
decl_sound v all before (d.Trigger at x guard args) b c g k = trigger_sound v all before at x guard args b g k
decl_sound v all before (d.Observer at x e) b c g k = observer_sound v all before at x e b g k
