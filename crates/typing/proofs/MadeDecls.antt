-- The arrays of a text: those that its declarations write, and those that their constants and expressions make.
use Rattle.std.proofs.Common.{◌≡◌, ◌≤◌, ◌+◌, ℕ, suc, Bool, true, false, List, [], ◌∷◌, ◌++◌, map, length, length-append, refl, sym, ap, ◌∙◌, subst, arith}
use Rattle.std.specs.Prelude.{◌&&◌, ◌||◌, if◌then◌else◌, nat_lt, bytes_eq, Option, Some, None}
use Rattle.std.specs.List.{list_all, list_any, AllByRecursion}
use Rattle.std.proofs.lemmas.List.Folds.{list_any-append}
use Rattle.spec_text.specs.declared.surface.NameAt.{NameAt}
use Rattle.spec_text.specs.declared.surface.FieldForm.{FieldForm}
use Rattle.spec_text.specs.declared.surface.TypeForm.{TypeForm}
use Rattle.spec_text.specs.declared.surface.ConstForm.{ConstForm}
use Rattle.spec_text.specs.declared.surface.Expr.{Expr}
use Rattle.spec_text.specs.declared.surface.Decl.{Decl}
use Rattle.spec_text.specs.declared.surface.Decl.TheVariants as d
use Rattle.spec_text.specs.Form.{forms, form_of_type, form_of_const, form_of_expr}
use Rattle.spec_text.specs.Extent.{list_count, list_counts}
use Rattle.type_check.specs.declared.fault.TypeFault.TheVariants.{TypeTooWide, TypeClash}
use Rattle.type_check.specs.NamedType.{NamedType, struct, bool, same_type, Declarations, Struct, struct_in, most_words}
use Rattle.type_check.specs.Judged.{has, lacks, if_so, Judged, type_of, types_of, is_bool, judge_form, judge_const, judge_expr, elsewhere, Scope, Named}
use Rattle.type_check.specs.Judged.{extern_of, stream_of, def_of, named_in, declared, member_in}
use Rattle.type_check.specs.Untyped.{struct_width, judge_fields, judge_exprs, scope_of, of_type, agree, sent_types, first_sent, judge_decl}
use Rattle.type_check.specs.TypeOrder.{Event, met, ends, closings}
use Rattle.type_check.proofs.Placing.{among, or_right}
use Rattle.type_check.proofs.SoundTypes.{same_refl}
use Rattle.typing.proofs.MadeNodes.{Kept, AllKept, IsWithin, kept_on, all_on, IsMade, AreMade, no_parts, more_parts, node_made, over_two, if_fits, Fits}
use Rattle.typing.proofs.MadeForms.{form_made, const_made}
use Rattle.typing.proofs.MadeExprs.{IsKnownText, expr_made}

-- ---- more known types

within_same : (us : List NamedType) → IsWithin us us
within_same us = record { within = λ t h. h }

within_trans : (us vs ws : List NamedType) → IsWithin us vs → IsWithin vs ws → IsWithin us ws
within_trans us vs ws a b = record { within = λ t h. b.within t (a.within t h) }

within_back : (ms us : List NamedType) → IsWithin us (ms ++ us)
within_back ms us = record { within = λ t h. list_any-append (same_type t) ms us ∙ or_right (among t ms) (among t us) h }

either : (x y z : Bool) → (y ≡ true → z ≡ true) → (x || y) ≡ true → (x || z) ≡ true
either true y z f h = refl
either false y z f h = f h

within_tail : (ms us vs : List NamedType) → IsWithin us vs → IsWithin (ms ++ us) (ms ++ vs)
within_tail ms us vs w =
    record {
      within = λ t h. list_any-append (same_type t) ms vs
          ∙ either (among t ms) (among t us) (among t vs) (w.within t) (sym (list_any-append (same_type t) ms us) ∙ h);
    }

-- ---- the types that declarations write

abbrev pub written : Decl → List TypeForm
written (d.Struct at x fields) = map (λ (f : FieldForm). f.ty) fields
written (d.Extern at x ty) = ty ∷ []
written (d.Stream at x ty init e) = ty ∷ []
written (d.Def at x ty e) = ty ∷ []
written (d.Trigger at x guard args) = []
written (d.Observer at x e) = []

abbrev pub form_lists : List TypeForm → ℕ
form_lists [] = 0
form_lists (ty ∷ tys) = list_count (form_of_type ty) + form_lists tys

abbrev pub sum_of : (Decl → ℕ) → List Decl → ℕ
sum_of f [] = 0
sum_of f (x ∷ xs) = f x + sum_of f xs

abbrev pub writes_in : Decl → ℕ
writes_in x = form_lists (written x)

-- its type and those that it adds
abbrev pub FormKept : List NamedType → Declarations → TypeForm → Type 0
FormKept us before ty = Kept us (type_of (judge_form before ty)) × AllKept us (judge_form before ty).types

abbrev pub FormsKept : List NamedType → Declarations → List TypeForm → Type 0
FormsKept us before tys = AllByRecursion (FormKept us before) tys

forms_on : (us vs : List NamedType) → IsWithin us vs → (before : Declarations) (tys : List TypeForm) → FormsKept us before tys → FormsKept vs before tys
forms_on us vs w before [] h = tt
forms_on us vs w before (ty ∷ tys) h =
    ((kept_on us vs w (type_of (judge_form before ty)) h.0.0, all_on us vs w (judge_form before ty).types h.0.1), forms_on us vs w before tys h.1)

record AreWritten (known : List NamedType) (before : Declarations) (tys : List TypeForm) : Type 0 where
  made : List NamedType
  more : IsWithin known made
  few : length made ≤ form_lists tys + length known
  kept : FormsKept made before tys

forms_written : (known : List NamedType) (before : Declarations) (tys : List TypeForm) → AreWritten known before tys
forms_written known before [] = record { made = known; more = within_same known; few = omega arith; kept = tt }
forms_written known before (ty ∷ tys) =
    let r = forms_written known before tys in
    let j = form_made r.made before ty in
    let w = within_back j.made r.made in
    record {
      made = j.made ++ r.made;
      more = within_trans known r.made (j.made ++ r.made) r.more w;
      few = let e = length-append j.made r.made in omega (arith, e, j.few, r.few);
      kept = ((j.ty_is, j.types_are), forms_on r.made (j.made ++ r.made) w before tys r.kept);
    }

-- ---- all of a text

-- each declaration, with those before it
abbrev pub AllDecls : (Declarations → Decl → Type 0) → Declarations → Type 0
AllDecls P [] = Unit {0}
AllDecls P (x ∷ ds) = P ds x × AllDecls P ds

decls_weaker : (P Q : Declarations → Decl → Type 0) → ((before : Declarations) (x : Decl) → P before x → Q before x) → (ds : Declarations) → AllDecls P ds
    → AllDecls Q ds
decls_weaker P Q f [] h = tt
decls_weaker P Q f (x ∷ ds) h = (f ds x h.0, decls_weaker P Q f ds h.1)

abbrev pub WritesKept : List NamedType → Declarations → Decl → Type 0
WritesKept us before x = FormsKept us before (written x)

pub record IsWritten (ds : Declarations) : Type 0 where
  pub made : List NamedType
  pub few : length made ≤ sum_of writes_in ds
  pub names_are : (x : List ℕ) (n : Named) → named_in ds x ≡ Some n → Kept made (type_of (declared n))
  pub members_are : (x y : List ℕ) (s : Struct) (ty : TypeForm) → struct_in ds x ≡ Some s → member_in s.fields y ≡ Some ty
      → Kept made (type_of (judge_form s.before ty))
  pub forms_are : AllDecls (WritesKept made) ds

name_if : (us : List NamedType) (m n : Named) (o : Option Named) (b : Bool) → Kept us (type_of (declared m)) → (o ≡ Some n → Kept us (type_of (declared n)))
    → (if b then Some m else o) ≡ Some n → Kept us (type_of (declared n))
name_if us m n o true h f e = subst (λ (k : Named). Kept us (type_of (declared k))) (let q : m ≡ n = cc in q) h
name_if us m n o false h f e = f e

names_more : (us : List NamedType) (x : Decl) (ds : Declarations) (name : List ℕ) (n : Named) → WritesKept us ds x
    → (named_in ds name ≡ Some n → Kept us (type_of (declared n))) → named_in (x ∷ ds) name ≡ Some n → Kept us (type_of (declared n))
names_more us (d.Struct at x fields) ds name n w f e = f e
names_more us (d.Extern at x ty) ds name n w f e = name_if us (extern_of ds ty) n (named_in ds name) (bytes_eq x.name name) w.0.0 f e
names_more us (d.Stream at x ty init v) ds name n w f e = name_if us (stream_of ds ty (length init)) n (named_in ds name) (bytes_eq x.name name) w.0.0 f e
names_more us (d.Def at x ty v) ds name n w f e = name_if us (def_of ds ty) n (named_in ds name) (bytes_eq x.name name) w.0.0 f e
names_more us (d.Trigger at x guard args) ds name n w f e = f e
names_more us (d.Observer at x v) ds name n w f e = f e

field_if : (us : List NamedType) (before : Declarations) (own ty : TypeForm) (o : Option TypeForm) (b : Bool) → Kept us (type_of (judge_form before own))
    → (o ≡ Some ty → Kept us (type_of (judge_form before ty))) → (if b then Some own else o) ≡ Some ty
    → Kept us (type_of (judge_form before ty))
field_if us before own ty o true h f e = subst (λ (k : TypeForm). Kept us (type_of (judge_form before k))) (let q : own ≡ ty = cc in q) h
field_if us before own ty o false h f e = f e

field_kept : (us : List NamedType) (before : Declarations) (fs : List FieldForm) (y : List ℕ) (ty : TypeForm)
    → FormsKept us before (map (λ (f : FieldForm). f.ty) fs) → member_in fs y ≡ Some ty → Kept us (type_of (judge_form before ty))
field_kept us before [] y ty w e = absurd (cc)
field_kept us before (f ∷ fs) y ty w e =
    field_if us before f.ty ty (member_in fs y) (bytes_eq f.name.name y) w.0.0 (λ q. field_kept us before fs y ty w.1 q) e

struct_if : (us : List NamedType) (own s : Struct) (y : List ℕ) (ty : TypeForm) (o : Option Struct) (b : Bool)
    → (member_in own.fields y ≡ Some ty → Kept us (type_of (judge_form own.before ty)))
    → (o ≡ Some s → member_in s.fields y ≡ Some ty → Kept us (type_of (judge_form s.before ty)))
    → (if b then Some own else o) ≡ Some s → member_in s.fields y ≡ Some ty → Kept us (type_of (judge_form s.before ty))
struct_if us own s y ty o true h f e =
    subst (λ (k : Struct). member_in k.fields y ≡ Some ty → Kept us (type_of (judge_form k.before ty))) (let q : own ≡ s = cc in q) h
struct_if us own s y ty o false h f e = f e

members_more : (us : List NamedType) (z : Decl) (ds : Declarations) (x y : List ℕ) (s : Struct) (ty : TypeForm) → WritesKept us ds z
    → (struct_in ds x ≡ Some s → member_in s.fields y ≡ Some ty → Kept us (type_of (judge_form s.before ty)))
    → struct_in (z ∷ ds) x ≡ Some s → member_in s.fields y ≡ Some ty → Kept us (type_of (judge_form s.before ty))
members_more us (d.Struct at z fields) ds x y s ty w f =
    struct_if us (record { fields = fields; before = ds }) s y ty (struct_in ds x) (bytes_eq z.name x) (λ m. field_kept us ds fields y ty w m) f
members_more us (d.Extern at z t) ds x y s ty w f = f
members_more us (d.Stream at z t init v) ds x y s ty w f = f
members_more us (d.Def at z t v) ds x y s ty w f = f
members_more us (d.Trigger at z guard args) ds x y s ty w f = f
members_more us (d.Observer at z v) ds x y s ty w f = f

pub text_written : (ds : Declarations) → IsWritten ds
text_written [] = record { made = []; few = omega arith; names_are = λ x n e. absurd (cc); members_are = λ x y s ty e m. absurd (cc); forms_are = tt }
text_written (z ∷ ds) =
    let r = text_written ds in
    let w = forms_written r.made ds (written z) in
    record {
      made = w.made;
      few = omega (arith, w.few, r.few);
      names_are = λ x n e. names_more w.made z ds x n w.kept (λ q. kept_on r.made w.made w.more (type_of (declared n)) (r.names_are x n q)) e;
      members_are = λ x y s ty e m. members_more w.made z ds x y s ty w.kept
          (λ q p. kept_on r.made w.made w.more (type_of (judge_form s.before ty)) (r.members_are x y s ty q p)) e m;
      forms_are = (w.kept, decls_weaker (WritesKept r.made) (WritesKept w.made) (λ b x h. forms_on r.made w.made w.more b (written x) h) ds r.forms_are);
    }

known_named : (us : List NamedType) (n : Named) → Kept us (type_of (declared n)) → IsMade us (declared n) 0
known_named us (extern_of ds ty) h = record { made = []; few = omega arith; ty_is = h; types_are = tt }
known_named us (stream_of ds ty k) h = record { made = []; few = omega arith; ty_is = h; types_are = tt }
known_named us (def_of ds ty) h = record { made = []; few = omega arith; ty_is = h; types_are = tt }

pub known_text : (ds : Declarations) (w : IsWritten ds) → IsKnownText w.made ds
known_text ds w = record {
  names_are = λ x n e. known_named w.made n (w.names_are x n e);
  members_are = λ x y s ty e m. record { made = []; few = omega arith; ty_is = w.members_are x y s ty e m; types_are = tt };
}

-- ---- a declaration

abbrev pub owns_in : Decl → ℕ
owns_in (d.Struct at x fields) = 0
owns_in (d.Extern at x ty) = 0
owns_in (d.Stream at x ty init e) = list_counts (forms (map form_of_const init)) + list_count (form_of_expr e)
owns_in (d.Def at x ty e) = list_count (form_of_expr e)
owns_in (d.Trigger at x guard args) = list_count (form_of_expr guard) + list_counts (forms (map form_of_expr args))
owns_in (d.Observer at x e) = list_count (form_of_expr e)

known_form : (us : List NamedType) (before : Declarations) (ty : TypeForm) → FormKept us before ty → IsMade us (judge_form before ty) 0
known_form us before ty h = record { made = []; few = omega arith; ty_is = h.0; types_are = h.1 }

known_fields : (us : List NamedType) (before : Declarations) (fs : List FieldForm) → FormsKept us before (map (λ (f : FieldForm). f.ty) fs)
    → AreMade us (judge_fields before fs) 0
known_fields us before [] h = no_parts us
known_fields us before (f ∷ fs) h =
    more_parts us (judge_form before f.ty) (judge_fields before fs) 0 0 (known_form us before f.ty h.0) (known_fields us before fs h.1)

exprs_made : (us : List NamedType) (scope : Scope) → IsKnownText us scope.all → (es : List Expr)
    → AreMade us (judge_exprs scope es) (list_counts (forms (map form_of_expr es)))
exprs_made us scope g [] = no_parts us
exprs_made us scope g (e ∷ es) =
    more_parts us (judge_expr scope e) (judge_exprs scope es) (list_count (form_of_expr e)) (list_counts (forms (map form_of_expr es)))
    (expr_made us scope g e) (exprs_made us scope g es)

parts_within : (us : List NamedType) (ps : List Judged) (m n : ℕ) → m ≤ n → AreMade us ps m → AreMade us ps n
parts_within us ps m n l h = record { made = h.made; few = omega (arith, l, h.few); tys_are = h.tys_are; types_are = h.types_are }

values_made : (us : List NamedType) (scope : Scope) → IsKnownText us scope.all → (init : List ConstForm) (e : Expr)
    → AreMade us (map (judge_const scope) init ++ judge_expr scope e ∷ []) (list_counts (forms (map form_of_const init)) + list_count (form_of_expr e))
values_made us scope g [] e =
    parts_within us (judge_expr scope e ∷ []) (list_count (form_of_expr e) + 0) _ (omega arith)
    (more_parts us (judge_expr scope e) [] (list_count (form_of_expr e)) 0 (expr_made us scope g e) (no_parts us))
values_made us scope g (c ∷ init) e =
    let rest = list_counts (forms (map form_of_const init)) + list_count (form_of_expr e) in
    parts_within us (judge_const scope c ∷ map (judge_const scope) init ++ judge_expr scope e ∷ []) (list_count (form_of_const c) + rest) _ (omega arith)
    (more_parts us (judge_const scope c) (map (judge_const scope) init ++ judge_expr scope e ∷ []) (list_count (form_of_const c)) rest
    (const_made us scope c) (values_made us scope g init e))

width_fits : (us : List NamedType) (at : ℕ) (x : List ℕ) (b : Bool) → Fits us (if b then lacks (TypeTooWide at) else has (struct x))
width_fits us at x true = tt
width_fits us at x false = tt

pub decl_made : (us : List NamedType) (all before : Declarations) (x : Decl) → IsKnownText us all → WritesKept us before x
    → IsMade us (judge_decl all before x) (owns_in x)
decl_made us all before (d.Struct at x fields) g w =
    node_made us (judge_fields before fields) (if nat_lt most_words (struct_width before fields) then lacks (TypeTooWide at) else has (struct x.name)) 0 0
    (known_fields us before fields w)
    (λ vs h. width_fits vs at x.name (nat_lt most_words (struct_width before fields))) (omega arith)
decl_made us all before (d.Extern at x ty) g w = known_form us before ty w.0
decl_made us all before (d.Stream at x ty init e) g w =
    let t = judge_form before ty in
    let values = map (judge_const (scope_of before all)) init ++ judge_expr (scope_of before all) e ∷ [] in
    let n = list_counts (forms (map form_of_const init)) + list_count (form_of_expr e) in
    node_made us (t ∷ values) (of_type at (type_of t) (types_of values)) (0 + n) n
    (more_parts us t values 0 n (known_form us before ty w.0) (values_made us (scope_of before all) g init e))
    (λ vs h. if_fits vs (list_all (same_type (type_of t)) (types_of values)) bool (TypeClash at) tt) (omega arith)
decl_made us all before (d.Def at x ty e) g w =
    let t = judge_form before ty in
    let value = judge_expr (scope_of before all) e in
    let n = list_count (form_of_expr e) in
    over_two us t value (of_type at (type_of t) (type_of value ∷ [])) 0 n n (known_form us before ty w.0) (expr_made us (scope_of before all) g e)
    (λ vs p q. if_fits vs (list_all (same_type (type_of t)) (type_of value ∷ [])) bool (TypeClash at) tt) (omega arith)
decl_made us all before (d.Trigger at x guard args) g w =
    let gs = judge_expr (scope_of before all) guard in
    let as_ = judge_exprs (scope_of before all) args in
    let m = list_count (form_of_expr guard) in
    let n = list_counts (forms (map form_of_expr args)) in
    let fits = is_bool (type_of gs) && agree (sent_types all (first_sent (d.Trigger at x guard args ∷ before) x.name)) (types_of as_) in
    node_made us (gs ∷ as_) (if_so fits bool (TypeClash at)) (m + n) (m + n)
    (more_parts us gs as_ m n (expr_made us (scope_of before all) g guard) (exprs_made us (scope_of before all) g args))
    (λ vs h. if_fits vs fits bool (TypeClash at) tt) (omega arith)
decl_made us all before (d.Observer at x e) g w = expr_made us (scope_of before all) g e

-- ---- the events of a text

abbrev pub EventKept : List NamedType → Event → Type 0
EventKept us (met t) = Kept us t
EventKept us (ends x) = among (struct x) us ≡ true

abbrev pub DeclKept : List NamedType → Declarations → Declarations → Decl → Type 0
DeclKept us all before x = AllByRecursion (EventKept us) (map met (judge_decl all before x).types ++ closings x)

events_of : (us : List NamedType) (ts : List NamedType) (cs : List Event) → AllKept us ts → AllByRecursion (EventKept us) cs
    → AllByRecursion (EventKept us) (map met ts ++ cs)
events_of us [] cs h g = g
events_of us (t ∷ ts) cs h g = (h.0, events_of us ts cs h.1 g)

event_on : (us vs : List NamedType) → IsWithin us vs → (es : List Event) → AllByRecursion (EventKept us) es → AllByRecursion (EventKept vs) es
event_on us vs w [] h = tt
event_on us vs w (met t ∷ es) h = (kept_on us vs w t h.0, event_on us vs w es h.1)
event_on us vs w (ends x ∷ es) h = (w.within (struct x) h.0, event_on us vs w es h.1)

-- what a declaration adds to the types so far
record IsAdded (us : List NamedType) (all before : Declarations) (x : Decl) : Type 0 where
  made : List NamedType
  more : IsWithin us made
  few : length made ≤ suc (owns_in x) + length us
  kept : DeclKept made all before x

plain_added : (known us : List NamedType) (all before : Declarations) (x : Decl) → IsWithin known us → closings x ≡ []
    → IsMade known (judge_decl all before x) (owns_in x) → IsAdded us all before x
plain_added known us all before x w n h =
    let vs = h.made ++ us in
    record {
      made = vs;
      more = within_back h.made us;
      few = let e = length-append h.made us in omega (arith, e, h.few);
      kept = events_of vs (judge_decl all before x).types (closings x)
          (all_on (h.made ++ known) vs (within_tail h.made known us w) (judge_decl all before x).types h.types_are)
          (subst (AllByRecursion (EventKept vs)) (sym n) tt);
    }

struct_added : (known us : List NamedType) (all before : Declarations) (at : ℕ) (x : NameAt) (fields : List FieldForm) → IsWithin known us
    → IsMade known (judge_decl all before (d.Struct at x fields)) 0 → IsAdded us all before (d.Struct at x fields)
struct_added known us all before at x fields w h =
    let vs = (struct x.name ∷ h.made) ++ us in
    let ts = (judge_decl all before (d.Struct at x fields)).types in
    let tail = within_trans (h.made ++ known) (h.made ++ us) vs (within_tail h.made known us w) (within_back (struct x.name ∷ []) (h.made ++ us)) in
    record {
      made = vs;
      more = within_back (struct x.name ∷ h.made) us;
      few = let e = length-append h.made us in omega (arith, e, h.few);
      kept = events_of vs ts (ends x.name ∷ []) (all_on (h.made ++ known) vs tail ts h.types_are)
          (ap (λ b. b || among (struct x.name) (h.made ++ us)) (same_refl (struct x.name)), tt);
    }

decl_added : (known us : List NamedType) (all before : Declarations) (x : Decl) → IsWithin known us → IsMade known (judge_decl all before x) (owns_in x)
    → IsAdded us all before x
decl_added known us all before (d.Struct at x fields) w h = struct_added known us all before at x fields w h
decl_added known us all before (d.Extern at x ty) w h = plain_added known us all before (d.Extern at x ty) w refl h
decl_added known us all before (d.Stream at x ty init e) w h = plain_added known us all before (d.Stream at x ty init e) w refl h
decl_added known us all before (d.Def at x ty e) w h = plain_added known us all before (d.Def at x ty e) w refl h
decl_added known us all before (d.Trigger at x guard args) w h = plain_added known us all before (d.Trigger at x guard args) w refl h
decl_added known us all before (d.Observer at x e) w h = plain_added known us all before (d.Observer at x e) w refl h

-- the types of all of a text's events
pub record AreAll (known : List NamedType) (all ds : Declarations) : Type 0 where
  pub made : List NamedType
  pub more : IsWithin known made
  pub few : length made ≤ length ds + sum_of owns_in ds + length known
  pub kept : AllDecls (DeclKept made all) ds

pub all_added : (known : List NamedType) (all ds : Declarations) → IsKnownText known all → AllDecls (WritesKept known) ds → AreAll known all ds
all_added known all [] g w = record { made = known; more = within_same known; few = omega arith; kept = tt }
all_added known all (x ∷ ds) g w =
    let r = all_added known all ds g w.1 in
    let a = decl_added known r.made all ds x r.more (decl_made known all ds x g w.0) in
    record {
      made = a.made;
      more = within_trans known r.made a.made r.more a.more;
      few = omega (arith, a.few, r.few);
      kept = (
        a.kept,
        decls_weaker (DeclKept r.made all) (DeclKept a.made all)
            (λ b y h. event_on r.made a.made a.more (map met (judge_decl all b y).types ++ closings y) h) ds r.kept,
      );
    }
