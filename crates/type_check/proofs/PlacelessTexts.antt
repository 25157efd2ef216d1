-- Without places a text has a fault exactly where it had one, and the same list of types.
use Rattle.std.proofs.Common.{◌≡◌, ℕ, suc, Bool, true, false, List, [], ◌∷◌, ◌++◌, map, refl, sym, ap, ◌∙◌, subst}
use Rattle.std.specs.Prelude.{◌≢◌, ◌&&◌, ◌||◌, nat_lt, if◌then◌else◌, bytes_eq, sum, Option, Some, None}
use Rattle.std.specs.List.{list_all, list_any}
use Rattle.std.specs.Option.{option_map, option_map_or}
use Rattle.std.proofs.lemmas.List.{map-append}
use Rattle.spec_text.specs.declared.surface.FieldForm.{FieldForm}
use Rattle.spec_text.specs.declared.surface.ConstForm.{ConstForm}
use Rattle.spec_text.specs.declared.surface.Expr.{Expr}
use Rattle.spec_text.specs.declared.surface.TypeForm.{TypeForm}
use Rattle.spec_text.specs.declared.surface.Decl.{Decl}
use Rattle.spec_text.specs.declared.surface.Decl.TheVariants as d
use Rattle.spec_text.specs.declared.surface.Surface.{Surface}
use Rattle.spec_text.specs.WithoutPlaces.{name_without_place, type_without_places, const_without_places, expr_without_places, field_without_places, decl_without_places, without_places, SameButPlaces}
use Rattle.type_check.specs.declared.fault.TypeFault.{TypeFault}
use Rattle.type_check.specs.declared.fault.TypeFault.TheVariants.{Redeclared, Unknown, TypeTooWide, TypeClash, Memory}
use Rattle.type_check.specs.NamedType.{NamedType, struct, bool, same_type, Declarations, form_words, struct_words, most_words}
use Rattle.type_check.specs.Judged.{Verdict, has, lacks, Judged, or_else, judged, type_of, types_of, if_so, is_bool, Scope, judge_form, judge_const, judge_expr}
use Rattle.type_check.specs.Untyped.{Sent, first_sent, scope_of, judge_exprs, sent_types, agree, struct_width, judge_fields, of_type, judge_decl, reversed, all_of, first_untyped, untyped}
use Rattle.type_check.specs.Names.{Declared, structs, fields, declared_as, names_of, names_from, declared_names, forbids, is_redeclared, first_redeclared, name_fault}
use Rattle.type_check.specs.Checked.{type_fault}
use Rattle.type_check.proofs.Placeless.{two-same, if-map, zeroed, fault_at_0, at_0, or-zeroed, types-zeroed, judged-zeroed, two-parts, if-so-zeroed, if-zeroed, placeless, widths-zeroed, struct-words-zeroed, form-zeroed, scope_at_0, parts-zeroed, const-zeroed, expr-zeroed}

-- ---- triggers

abbrev sent_at_0 : Sent → Sent
sent_at_0 s = record { before = placeless s.before; args = map expr_without_places s.args }

first-of-two : (o : Option Sent) (b : Bool) (s : Sent) → option_map_or (λ t. Some t) (option_map sent_at_0 o) (if b then Some (sent_at_0 s) else None) ≡ option_map sent_at_0 (option_map_or (λ t. Some t) o (if b then Some s else None))
first-of-two None true s = refl
first-of-two None false s = refl
first-of-two (Some t) b s = refl

sent-zeroed : (ds : Declarations) (name : List ℕ) → first_sent (placeless ds) name ≡ option_map sent_at_0 (first_sent ds name)
sent-zeroed [] name = refl
sent-zeroed (d.Struct at x members ∷ ds) name = sent-zeroed ds name
sent-zeroed (d.Extern at x ty ∷ ds) name = sent-zeroed ds name
sent-zeroed (d.Stream at x ty init e ∷ ds) name = sent-zeroed ds name
sent-zeroed (d.Def at x ty e ∷ ds) name = sent-zeroed ds name
sent-zeroed (d.Trigger at x guard args ∷ ds) name =
    let s : Sent = record { before = ds; args = args } in
    ap (λ o. option_map_or (λ t. Some t) o (if bytes_eq x.name name then Some (sent_at_0 s) else None)) (sent-zeroed ds name) ∙ first-of-two (first_sent ds name) (bytes_eq x.name name) s
sent-zeroed (d.Observer at x e ∷ ds) name = sent-zeroed ds name

exprs-zeroed : (m : TypeFault) (s : Scope) (es : List Expr) → judge_exprs (scope_at_0 s) (map expr_without_places es) ≡ map (at_0 m) (judge_exprs s es)
exprs-zeroed m s es = parts-zeroed m expr_without_places (judge_expr s) (judge_expr (scope_at_0 s)) (λ e. expr-zeroed m s e) es

same-types : (m : TypeFault) (ps : List Judged) → map (λ (a : Judged). a.ty) (map (at_0 m) ps) ≡ map (λ (a : Judged). a.ty) ps
same-types m [] = refl
same-types m (p ∷ ps) = ap (λ ts. p.ty ∷ ts) (same-types m ps)

sent-types-zeroed : (all : Declarations) (o : Option Sent) → sent_types (placeless all) (option_map sent_at_0 o) ≡ sent_types all o
sent-types-zeroed all None = refl
sent-types-zeroed all (Some s) =
    ap (λ js. map (λ (a : Judged). a.ty) js) (exprs-zeroed Memory (scope_of s.before all) s.args) ∙ same-types Memory (judge_exprs (scope_of s.before all) s.args)

-- ---- declarations

fields-zeroed : (m : TypeFault) (ds : Declarations) (fs : List FieldForm) → judge_fields (placeless ds) (map field_without_places fs) ≡ map (at_0 m) (judge_fields ds fs)
fields-zeroed m ds fs = parts-zeroed m field_without_places (λ f. judge_form ds f.ty) (λ f. judge_form (placeless ds) f.ty) (λ f. form-zeroed m ds f.ty) fs

width-zeroed : (ds : Declarations) (fs : List FieldForm) → struct_width (placeless ds) (map field_without_places fs) ≡ struct_width ds fs
width-zeroed ds fs = ap sum (widths-zeroed (struct_words (placeless ds)) (struct_words ds) (struct-words-zeroed ds) fs)

values-zeroed : (m : TypeFault) (s : Scope) (init : List ConstForm) (e : Expr)
    → map (judge_const (scope_at_0 s)) (map const_without_places init) ++ judge_expr (scope_at_0 s) (expr_without_places e) ∷ [] ≡ map (at_0 m) (map (judge_const s) init ++ judge_expr s e ∷ [])
values-zeroed m s init e =
    two-same (λ js (j : Judged). js ++ j ∷ []) (parts-zeroed m const_without_places (judge_const s) (judge_const (scope_at_0 s)) (λ c. const-zeroed m s c) init) (expr-zeroed m s e)
    ∙ sym (map-append (at_0 m) (map (judge_const s) init) (judge_expr s e ∷ []))

decl-zeroed : (m : TypeFault) (all ds : Declarations) (x : Decl) → judge_decl (placeless all) (placeless ds) (decl_without_places x) ≡ at_0 m (judge_decl all ds x)
decl-zeroed m all ds (d.Struct at x fs) =
    two-same (λ js k. judged js (if nat_lt most_words k then lacks (TypeTooWide 0) else has (struct x.name))) (fields-zeroed m ds fs) (width-zeroed ds fs)
    ∙ judged-zeroed m (judge_fields ds fs) (if nat_lt most_words (struct_width ds fs) then lacks (TypeTooWide at) else has (struct x.name)) (if nat_lt most_words (struct_width ds fs) then lacks (TypeTooWide 0) else has (struct x.name))
    (if-zeroed m (nat_lt most_words (struct_width ds fs)) (lacks (TypeTooWide at)) (has (struct x.name)) (lacks (TypeTooWide 0)) (has (struct x.name)) refl refl)
decl-zeroed m all ds (d.Extern at x ty) = form-zeroed m ds ty
decl-zeroed m all ds (d.Stream at x ty init e) =
    let t = judge_form ds ty in
    let values : List Judged = map (judge_const (scope_of ds all)) init ++ judge_expr (scope_of ds all) e ∷ [] in
    two-same (λ (j : Judged) (js : List Judged). judged (j ∷ js) (of_type 0 (type_of j) (types_of js))) (form-zeroed m ds ty) (values-zeroed m (scope_of ds all) init e)
    ∙ judged-zeroed m (t ∷ values) (of_type at (type_of t) (types_of values)) (of_type 0 (type_of t) (types_of (map (at_0 m) values)))
    (ap (of_type 0 (type_of t)) (types-zeroed m values) ∙ if-so-zeroed m (list_all (same_type (type_of t)) (types_of values)) bool (TypeClash at))
decl-zeroed m all ds (d.Def at x ty e) =
    two-parts m (λ t u. of_type at t (u ∷ [])) (λ t u. of_type 0 t (u ∷ [])) (λ t u. if-so-zeroed m (list_all (same_type t) (u ∷ [])) bool (TypeClash at)) (judge_form ds ty) (judge_form (placeless ds) (type_without_places ty))
    (judge_expr (scope_of ds all) e) (judge_expr (scope_at_0 (scope_of ds all)) (expr_without_places e)) (form-zeroed m ds ty) (expr-zeroed m (scope_of ds all) e)
decl-zeroed m all ds (d.Trigger at x guard args) =
    let s = scope_of ds all in
    let g = judge_expr s guard in
    let js = judge_exprs s args in
    let before = d.Trigger at x guard args ∷ ds in
    let first = sent_types all (first_sent before x.name) in
    let same : sent_types (placeless all) (first_sent (placeless before) x.name) ≡ first = ap (sent_types (placeless all)) (sent-zeroed before x.name) ∙ sent-types-zeroed all (first_sent before x.name) in
    ap (λ ts. judged (judge_expr (scope_at_0 s) (expr_without_places guard) ∷ judge_exprs (scope_at_0 s) (map expr_without_places args))
    (if_so (is_bool (type_of (judge_expr (scope_at_0 s) (expr_without_places guard))) && agree ts (types_of (judge_exprs (scope_at_0 s) (map expr_without_places args)))) bool (TypeClash 0))) same
    ∙ two-same (λ (j : Judged) (ks : List Judged). judged (j ∷ ks) (if_so (is_bool (type_of j) && agree first (types_of ks)) bool (TypeClash 0))) (expr-zeroed m s guard) (exprs-zeroed m s args)
    ∙ judged-zeroed m (g ∷ js) (if_so (is_bool (type_of g) && agree first (types_of js)) bool (TypeClash at)) (if_so (is_bool (type_of g) && agree first (types_of (map (at_0 m) js))) bool (TypeClash 0))
    (ap (λ ts. if_so (is_bool (type_of g) && agree first ts) bool (TypeClash 0)) (types-zeroed m js) ∙ if-so-zeroed m (is_bool (type_of g) && agree first (types_of js)) bool (TypeClash at))
decl-zeroed m all ds (d.Observer at x e) = expr-zeroed m (scope_of ds all) e

reversed-zeroed : (before : Declarations) (xs : List Decl) → reversed (placeless before) (map decl_without_places xs) ≡ placeless (reversed before xs)
reversed-zeroed before [] = refl
reversed-zeroed before (x ∷ xs) = reversed-zeroed (x ∷ before) xs

first-untyped-zeroed : (m : TypeFault) (all before : Declarations) (xs : List Decl) → first_untyped (placeless all) (placeless before) (map decl_without_places xs) ≡ fault_at_0 m (first_untyped all before xs)
first-untyped-zeroed m all before [] = refl
first-untyped-zeroed m all before (x ∷ xs) =
    two-same (λ (j : Judged) o. or_else j.fault o) (decl-zeroed m all before x) (first-untyped-zeroed m all (x ∷ before) xs)
    ∙ or-zeroed m (judge_decl all before x).fault (first_untyped all (x ∷ before) xs)

untyped-zeroed : (m : TypeFault) (s : Surface) → untyped (without_places s) ≡ fault_at_0 m (untyped s)
unfolding untyped
untyped-zeroed m s = ap (λ all. first_untyped all [] (map decl_without_places s.decls)) (reversed-zeroed [] s.decls) ∙ first-untyped-zeroed m (all_of s) [] s.decls

-- ---- names

abbrev declared_at_0 : Declared → Declared
declared_at_0 x = record { space = x.space; name = x.name; at = 0; trigger = x.trigger }

field-names : (i : ℕ) (fs : List FieldForm) → map (λ (f : FieldForm). declared_as (fields i) f.name false) (map field_without_places fs) ≡ map declared_at_0 (map (λ (f : FieldForm). declared_as (fields i) f.name false) fs)
field-names i [] = refl
field-names i (f ∷ fs) = ap (λ xs. declared_at_0 (declared_as (fields i) f.name false) ∷ xs) (field-names i fs)

decl-names : (i : ℕ) (x : Decl) → names_of i (decl_without_places x) ≡ map declared_at_0 (names_of i x)
decl-names i (d.Struct at x fs) = ap (λ xs. declared_at_0 (declared_as structs x false) ∷ xs) (field-names i fs)
decl-names i (d.Extern at x ty) = refl
decl-names i (d.Stream at x ty init e) = refl
decl-names i (d.Def at x ty e) = refl
decl-names i (d.Trigger at x guard args) = refl
decl-names i (d.Observer at x e) = refl

names-zeroed : (i : ℕ) (xs : List Decl) → names_from i (map decl_without_places xs) ≡ map declared_at_0 (names_from i xs)
names-zeroed i [] = refl
names-zeroed i (x ∷ xs) = two-same (λ ns ks. ns ++ ks) (decl-names i x) (names-zeroed (suc i) xs) ∙ sym (map-append declared_at_0 (names_of i x) (names_from (suc i) xs))

redeclared-zeroed : (version : ℕ) (before : List Declared) (x : Declared) → is_redeclared version (map declared_at_0 before) (declared_at_0 x) ≡ is_redeclared version before x
redeclared-zeroed version [] x = refl
redeclared-zeroed version (y ∷ before) x = ap (λ b. forbids version x y || b) (redeclared-zeroed version before x)

first-redeclared-zeroed : (version : ℕ) (before xs : List Declared) → first_redeclared version (map declared_at_0 before) (map declared_at_0 xs) ≡ option_map (λ (at : ℕ). 0) (first_redeclared version before xs)
first-redeclared-zeroed version before [] = refl
first-redeclared-zeroed version before (x ∷ xs) =
    two-same (λ b ns. if b then Some 0 else first_redeclared version ns (map declared_at_0 xs)) (redeclared-zeroed version before x) (sym (map-append declared_at_0 before (x ∷ [])))
    ∙ ap (λ o. if is_redeclared version before x then Some 0 else o) (first-redeclared-zeroed version (before ++ x ∷ []) xs)
    ∙ if-map (λ (at : ℕ). 0) (is_redeclared version before x) x.at (first_redeclared version (before ++ x ∷ []) xs)

name-fault-zeroed : (s : Surface) → name_fault (without_places s) ≡ option_map (λ (at : ℕ). 0) (name_fault s)
unfolding name_fault
name-fault-zeroed s = ap (first_redeclared s.version []) (names-zeroed 0 s.decls) ∙ first-redeclared-zeroed s.version [] (declared_names s)

-- ---- whole texts

redeclared-first : (m : TypeFault) (o : Option ℕ) (u : Option TypeFault) → or_else (option_map (λ at. Redeclared at) (option_map (λ (at : ℕ). 0) o)) (fault_at_0 m u) ≡ fault_at_0 m (or_else (option_map (λ at. Redeclared at) o) u)
redeclared-first m None u = refl
redeclared-first m (Some at) u = refl

type-fault-zeroed : (m : TypeFault) (s : Surface) → type_fault (without_places s) ≡ fault_at_0 m (type_fault s)
type-fault-zeroed m s =
    two-same (λ n u. or_else (option_map (λ at. Redeclared at) n) u) (name-fault-zeroed s) (untyped-zeroed m s) ∙ redeclared-first m (name_fault s) (untyped s)

none-back : (m : TypeFault) (o : Option TypeFault) → fault_at_0 m o ≡ None → o ≡ None
none-back m None h = refl
none-back m (Some e) h = absurd (cc)

pub fault-without-places : (s u : Surface) → SameButPlaces s u → type_fault s ≡ None → type_fault u ≡ None
fault-without-places s u e h =
    none-back Memory (type_fault u) (sym (type-fault-zeroed Memory u) ∙ ap type_fault (sym e) ∙ type-fault-zeroed Memory s ∙ ap (fault_at_0 Memory) h)

-- no text has the fault for want of memory
pub never-memory : (s : Surface) → type_fault s ≢ Some Memory
never-memory s h =
    let a : type_fault (without_places s) ≡ Some Memory = type-fault-zeroed Memory s ∙ ap (fault_at_0 Memory) h in
    let b : type_fault (without_places s) ≡ Some (Unknown 0) = type-fault-zeroed (Unknown 0) s ∙ ap (fault_at_0 (Unknown 0)) h in
    let c : Some Memory ≡ Some (Unknown 0) = sym a ∙ b in absurd (cc)
