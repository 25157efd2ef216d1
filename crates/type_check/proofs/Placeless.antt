-- Without places each node has the type that it had, and what is wrong with it stands at 0. The fault for want of memory
-- becomes any one that is asked for: so no node has it.
use Rattle.std.proofs.Common.{◌≡◌, ◌*◌, ℕ, suc, Bool, true, false, List, [], ◌∷◌, ◌++◌, length, map, refl, sym, ap, ◌∙◌, subst}
use Rattle.std.specs.Prelude.{◌&&◌, nat_lt, if◌then◌else◌, is_some, bytes_eq, sum, Option, Some, None}
use Rattle.std.specs.List.{list_all, list_any}
use Rattle.std.specs.Option.{option_map}
use Rattle.std.proofs.lemmas.List.{length-map}
use Rattle.stream_types.specs.declared.scalar.Scalar.TheVariants as s_
use Rattle.stream_types.specs.declared.scalar.Op1.{Op1}
use Rattle.stream_types.specs.declared.scalar.Op2.{Op2}
use Rattle.stream_types.specs.Scalars.{op1_fits, op2_fits, op2_gives, shift_fits, cast_fits}
use Rattle.spec_text.specs.declared.surface.NameAt.{NameAt}
use Rattle.spec_text.specs.declared.surface.FieldForm.{FieldForm}
use Rattle.spec_text.specs.declared.surface.TypeForm.{TypeForm, map-TypeForm, roll-TypeForm}
use Rattle.spec_text.specs.declared.surface.TypeForm.TheOpen.{TypeForm-F}
use Rattle.spec_text.specs.declared.surface.TypeForm.TheFolds.{fold-roll-TypeForm, ind-TypeForm}
use Rattle.spec_text.specs.declared.surface.ConstForm.{ConstForm, map-ConstForm, roll-ConstForm}
use Rattle.spec_text.specs.declared.surface.ConstForm.TheOpen.{ConstForm-F}
use Rattle.spec_text.specs.declared.surface.ConstForm.TheFolds.{fold-roll-ConstForm, ind-ConstForm}
use Rattle.spec_text.specs.declared.surface.Expr.{Expr, map-Expr, roll-Expr}
use Rattle.spec_text.specs.declared.surface.Expr.TheOpen.{Expr-F}
use Rattle.spec_text.specs.declared.surface.Expr.TheFolds.{fold-roll-Expr, ind-Expr}
use Rattle.spec_text.specs.declared.surface.Decl.{Decl}
use Rattle.spec_text.specs.declared.surface.Decl.TheVariants as d
use Rattle.spec_text.specs.WithoutPlaces.{name_without_place, type_at_0, type_without_places, const_at_0, const_without_places, expr_at_0, expr_without_places, field_without_places, decl_without_places}
use Rattle.type_check.specs.declared.fault.TypeFault.{TypeFault}
use Rattle.type_check.specs.declared.fault.TypeFault.TheVariants.{Redeclared, Unknown, TypeClash, NestedArray, TypeTooWide, DropOfNoBuffer, DropTooFar, Memory}
use Rattle.type_check.specs.NamedType.{NamedType, scalar, struct, array, bool, same_type, is_array, Declarations, Struct, struct_in, declares_struct, words_step, form_words, struct_words, words, most_words}
use Rattle.type_check.specs.Judged.{Verdict, has, lacks, Judged, or_else, first_of, have_types, all_types, over_parts, judged, type_of, types_of, if_so, is_scalar_that, any_scalar, is_bool, integral, on_one, on_two, on_shift, on_cast, is_too_wide, on_elements, on_items, on_index, form_step, judge_form, elsewhere, member_in, member_of, before_struct, over_member, over_field, over_part, are_fields, on_record, Scope, const_step, judge_const, Named, extern_of, stream_of, def_of, named_in, declared, over_name, on_drop, over_drop, on_truths, on_choice, on_integer, on_votes, expr_step, judge_expr}

pub two-same : {A B C : Type 0} (f : A → B → C) {a c : A} {b e : B} → a ≡ c → b ≡ e → f a b ≡ f c e
two-same f {a} {c} {b} {e} p q = ap (λ x. f x b) p ∙ ap (f c) q

three-same : {A B C D : Type 0} (f : A → B → C → D) {a a' : A} {b b' : B} {c c' : C} → a ≡ a' → b ≡ b' → c ≡ c' → f a b c ≡ f a' b' c'
three-same f {a} {a'} {b} {b'} {c} {c'} p q r = ap (λ x. f x b c) p ∙ two-same (f a') q r

pub if-map : {A B : Type 0} (f : A → B) (b : Bool) (a : A) (o : Option A) → (if b then Some (f a) else option_map f o) ≡ option_map f (if b then Some a else o)
if-map f true a o = refl
if-map f false a o = refl

some-map : {A B : Type 0} (f : A → B) (o : Option A) → is_some (option_map f o) ≡ is_some o
some-map f None = refl
some-map f (Some a) = refl

-- ---- faults at 0

abbrev pub zeroed : TypeFault → TypeFault → TypeFault
zeroed m (Redeclared at) = Redeclared 0
zeroed m (Unknown at) = Unknown 0
zeroed m (TypeClash at) = TypeClash 0
zeroed m (NestedArray at) = NestedArray 0
zeroed m (TypeTooWide at) = TypeTooWide 0
zeroed m (DropOfNoBuffer at) = DropOfNoBuffer 0
zeroed m (DropTooFar at) = DropTooFar 0
zeroed m Memory = m

abbrev pub fault_at_0 : TypeFault → Option TypeFault → Option TypeFault
fault_at_0 m o = option_map (λ (e : TypeFault). zeroed m e) o

abbrev node : Option NamedType → Option TypeFault → List NamedType → Judged
node t f ts = record { ty = t; fault = f; types = ts }

abbrev pub at_0 : TypeFault → Judged → Judged
at_0 m j = node j.ty (fault_at_0 m j.fault) j.types

abbrev verdict_at_0 : TypeFault → Verdict → Verdict
verdict_at_0 m (has t) = has t
verdict_at_0 m (lacks e) = lacks (zeroed m e)

pub or-zeroed : (m : TypeFault) (a b : Option TypeFault) → or_else (fault_at_0 m a) (fault_at_0 m b) ≡ fault_at_0 m (or_else a b)
or-zeroed m None b = refl
or-zeroed m (Some e) b = refl

first-zeroed : (m : TypeFault) (ps : List Judged) → first_of (map (at_0 m) ps) ≡ fault_at_0 m (first_of ps)
first-zeroed m [] = refl
first-zeroed m (p ∷ ps) = ap (λ o. or_else (fault_at_0 m p.fault) o) (first-zeroed m ps) ∙ or-zeroed m p.fault (first_of ps)

have-zeroed : (m : TypeFault) (ps : List Judged) → have_types (map (at_0 m) ps) ≡ have_types ps
have-zeroed m [] = refl
have-zeroed m (p ∷ ps) = ap (λ b. is_some p.ty && b) (have-zeroed m ps)

all-zeroed : (m : TypeFault) (ps : List Judged) → all_types (map (at_0 m) ps) ≡ all_types ps
all-zeroed m [] = refl
all-zeroed m (p ∷ ps) = ap (λ ts. p.types ++ ts) (all-zeroed m ps)

pub types-zeroed : (m : TypeFault) (ps : List Judged) → types_of (map (at_0 m) ps) ≡ types_of ps
types-zeroed m [] = refl
types-zeroed m (p ∷ ps) = ap (λ ts. type_of p ∷ ts) (types-zeroed m ps)

over-zeroed : (m : TypeFault) (b : Bool) (ps : List Judged) (v : Verdict) → over_parts b (map (at_0 m) ps) (verdict_at_0 m v) ≡ at_0 m (over_parts b ps v)
over-zeroed m false ps v = two-same (λ f ts. node None f ts) (first-zeroed m ps) (all-zeroed m ps)
over-zeroed m true ps (has t) = two-same (λ f ts. node (Some t) f (ts ++ t ∷ [])) (first-zeroed m ps) (all-zeroed m ps)
over-zeroed m true ps (lacks e) =
    two-same (λ f ts. node None (or_else f (Some (zeroed m e))) ts) (first-zeroed m ps) (all-zeroed m ps)
    ∙ ap (λ f. node None f (all_types ps)) (or-zeroed m (first_of ps) (Some e))

-- a node whose verdict w is its verdict v at 0
pub judged-zeroed : (m : TypeFault) (ps : List Judged) (v w : Verdict) → w ≡ verdict_at_0 m v → judged (map (at_0 m) ps) w ≡ at_0 m (judged ps v)
judged-zeroed m ps v w e =
    ap (λ u. judged (map (at_0 m) ps) u) e ∙ ap (λ b. over_parts b (map (at_0 m) ps) (verdict_at_0 m v)) (have-zeroed m ps) ∙ over-zeroed m (have_types ps) ps v

one-part : (m : TypeFault) (f g : NamedType → Verdict) → ((t : NamedType) → g t ≡ verdict_at_0 m (f t)) → (a b : Judged) → b ≡ at_0 m a → judged (b ∷ []) (g (type_of b)) ≡ at_0 m (judged (a ∷ []) (f (type_of a)))
one-part m f g h a b e = ap (λ (j : Judged). judged (j ∷ []) (g (type_of j))) e ∙ judged-zeroed m (a ∷ []) (f (type_of a)) (g (type_of a)) (h (type_of a))

pub two-parts : (m : TypeFault) (f g : NamedType → NamedType → Verdict) → ((t u : NamedType) → g t u ≡ verdict_at_0 m (f t u)) → (a b c k : Judged) → b ≡ at_0 m a → k ≡ at_0 m c
    → judged (b ∷ k ∷ []) (g (type_of b) (type_of k)) ≡ at_0 m (judged (a ∷ c ∷ []) (f (type_of a) (type_of c)))
two-parts m f g h a b c k e n =
    two-same (λ (j l : Judged). judged (j ∷ l ∷ []) (g (type_of j) (type_of l))) e n
    ∙ judged-zeroed m (a ∷ c ∷ []) (f (type_of a) (type_of c)) (g (type_of a) (type_of c)) (h (type_of a) (type_of c))

any-parts : (m : TypeFault) (f g : List NamedType → Verdict) → ((ts : List NamedType) → g ts ≡ verdict_at_0 m (f ts)) → (ps qs : List Judged) → qs ≡ map (at_0 m) ps
    → judged qs (g (types_of qs)) ≡ at_0 m (judged ps (f (types_of ps)))
any-parts m f g h ps qs e =
    ap (λ (rs : List Judged). judged rs (g (types_of rs))) e ∙ judged-zeroed m ps (f (types_of ps)) (g (types_of (map (at_0 m) ps))) (ap g (types-zeroed m ps) ∙ h (types_of ps))

-- ---- verdicts at 0

pub if-so-zeroed : (m : TypeFault) (b : Bool) (t : NamedType) (e : TypeFault) → if_so b t (zeroed m e) ≡ verdict_at_0 m (if_so b t e)
if-so-zeroed m true t e = refl
if-so-zeroed m false t e = refl

pub if-zeroed : (m : TypeFault) (b : Bool) (v w x y : Verdict) → x ≡ verdict_at_0 m v → y ≡ verdict_at_0 m w → (if b then x else y) ≡ verdict_at_0 m (if b then v else w)
if-zeroed m true v w x y e f = e
if-zeroed m false v w x y e f = f

on-one : (m : TypeFault) (at : ℕ) (op : Op1) (t : NamedType) → on_one 0 op t ≡ verdict_at_0 m (on_one at op t)
on-one m at op (scalar s) = if-so-zeroed m (op1_fits op s) (scalar s) (TypeClash at)
on-one m at op (struct x) = refl
on-one m at op (array t n) = refl

on-two : (m : TypeFault) (at : ℕ) (op : Op2) (t u : NamedType) → on_two 0 op t u ≡ verdict_at_0 m (on_two at op t u)
on-two m at op (scalar s) u = if-so-zeroed m (op2_fits op s && same_type (scalar s) u) (scalar (op2_gives op s)) (TypeClash at)
on-two m at op (struct x) u = refl
on-two m at op (array t n) u = refl

on-shift : (m : TypeFault) (at : ℕ) (t u : NamedType) → on_shift 0 t u ≡ verdict_at_0 m (on_shift at t u)
on-shift m at (scalar s) (scalar c) = if-so-zeroed m (shift_fits s c) (scalar s) (TypeClash at)
on-shift m at (scalar s) (struct x) = refl
on-shift m at (scalar s) (array t n) = refl
on-shift m at (struct x) u = refl
on-shift m at (array t n) u = refl

on-cast : (m : TypeFault) (at : ℕ) (t u : NamedType) → on_cast 0 t u ≡ verdict_at_0 m (on_cast at t u)
on-cast m at (scalar to) (scalar from) = if-so-zeroed m (cast_fits from to) (scalar to) (TypeClash at)
on-cast m at (scalar to) (struct x) = refl
on-cast m at (scalar to) (array t n) = refl
on-cast m at (struct x) u = refl
on-cast m at (array t n) u = refl

on-index : (m : TypeFault) (at : ℕ) (t u : NamedType) → on_index 0 t u ≡ verdict_at_0 m (on_index at t u)
on-index m at (scalar s) u = refl
on-index m at (struct x) u = refl
on-index m at (array t n) u = if-so-zeroed m (same_type u (scalar s_.Word32)) t (TypeClash at)

on-integer : (m : TypeFault) (at : ℕ) (t : NamedType) → on_integer 0 t ≡ verdict_at_0 m (on_integer at t)
on-integer m at t = if-so-zeroed m (integral t) t (TypeClash at)

on-truths : (m : TypeFault) (at : ℕ) (ts : List NamedType) → on_truths 0 ts ≡ verdict_at_0 m (on_truths at ts)
on-truths m at ts = if-so-zeroed m (list_all is_bool ts) bool (TypeClash at)

on-votes : (m : TypeFault) (at : ℕ) (gives : NamedType → NamedType) (ts : List NamedType) → on_votes 0 gives ts ≡ verdict_at_0 m (on_votes at gives ts)
on-votes m at gives [] = refl
on-votes m at gives (t ∷ ts) = if-so-zeroed m (is_scalar_that any_scalar t && list_all (same_type t) ts) (gives t) (TypeClash at)

-- ---- structs and words

abbrev pub placeless : Declarations → Declarations
placeless ds = map decl_without_places ds

abbrev struct_at_0 : Struct → Struct
struct_at_0 s = record { fields = map field_without_places s.fields; before = placeless s.before }

struct-zeroed : (ds : Declarations) (x : List ℕ) → struct_in (placeless ds) x ≡ option_map struct_at_0 (struct_in ds x)
struct-zeroed [] x = refl
struct-zeroed (d.Struct at y fields ∷ ds) x =
    ap (λ o. if bytes_eq y.name x then Some (struct_at_0 (record { fields = fields; before = ds })) else o) (struct-zeroed ds x)
    ∙ if-map struct_at_0 (bytes_eq y.name x) (record { fields = fields; before = ds }) (struct_in ds x)
struct-zeroed (d.Extern at y ty ∷ ds) x = struct-zeroed ds x
struct-zeroed (d.Stream at y ty init e ∷ ds) x = struct-zeroed ds x
struct-zeroed (d.Def at y ty e ∷ ds) x = struct-zeroed ds x
struct-zeroed (d.Trigger at y guard args ∷ ds) x = struct-zeroed ds x
struct-zeroed (d.Observer at y e ∷ ds) x = struct-zeroed ds x

declares-zeroed : (ds : Declarations) (x : List ℕ) → declares_struct (placeless ds) x ≡ declares_struct ds x
declares-zeroed ds x = ap is_some (struct-zeroed ds x) ∙ some-map struct_at_0 (struct_in ds x)

-- one level without places
abbrev type_bared : TypeForm-F TypeForm → TypeForm-F TypeForm
type_bared x = type_at_0 (map-TypeForm TypeForm TypeForm type_without_places x)

abbrev SameWords : (List ℕ → ℕ) → (List ℕ → ℕ) → TypeForm → Type 0
SameWords v w t = form_words v (type_without_places t) ≡ form_words w t

abbrev counted : (v w : List ℕ → ℕ) → TypeForm-F ((t : TypeForm) × SameWords v w t) → TypeForm-F TypeForm
counted v w y = map-TypeForm ((t : TypeForm) × SameWords v w t) TypeForm (λ e. e.0) y

words-rolled : (v w : List ℕ → ℕ) (x : TypeForm-F TypeForm) → words_step v (map-TypeForm TypeForm ℕ (form_words v) (type_bared x)) ≡ words_step w (map-TypeForm TypeForm ℕ (form_words w) x) → SameWords v w (roll-TypeForm x)
unfolding form_words type_without_places
words-rolled v w x h =
    ap (form_words v) (fold-roll-TypeForm TypeForm (λ z. roll-TypeForm (type_at_0 z)) x) ∙ fold-roll-TypeForm ℕ (words_step v) (type_bared x) ∙ h ∙ sym (fold-roll-TypeForm ℕ (words_step w) x)

words-counted : (v w : List ℕ → ℕ) → ((x : List ℕ) → v x ≡ w x) → (y : TypeForm-F ((t : TypeForm) × SameWords v w t))
    → words_step v (map-TypeForm TypeForm ℕ (form_words v) (type_bared (counted v w y))) ≡ words_step w (map-TypeForm TypeForm ℕ (form_words w) (counted v w y))
words-counted v w h (TypeForm-F.Scalar at s) = refl
words-counted v w h (TypeForm-F.Named x) = h x.name
words-counted v w h (TypeForm-F.Array at elem n) = ap (λ k. n * k) elem.1

form-words-zeroed : (v w : List ℕ → ℕ) → ((x : List ℕ) → v x ≡ w x) → (t : TypeForm) → SameWords v w t
form-words-zeroed v w h = ind-TypeForm (SameWords v w) (λ x y is. subst (λ z. SameWords v w (roll-TypeForm z)) is (words-rolled v w (counted v w y) (words-counted v w h y)))

pub widths-zeroed : (v w : List ℕ → ℕ) → ((x : List ℕ) → v x ≡ w x) → (fields : List FieldForm)
    → map (λ (f : FieldForm). form_words v f.ty) (map field_without_places fields) ≡ map (λ (f : FieldForm). form_words w f.ty) fields
widths-zeroed v w h [] = refl
widths-zeroed v w h (f ∷ fs) = two-same (λ (k : ℕ) ks. k ∷ ks) (form-words-zeroed v w h f.ty) (widths-zeroed v w h fs)

pub struct-words-zeroed : (ds : Declarations) (x : List ℕ) → struct_words (placeless ds) x ≡ struct_words ds x
struct-words-zeroed [] x = refl
struct-words-zeroed (d.Struct at y fields ∷ ds) x =
    two-same (λ (k n : ℕ). if bytes_eq y.name x then k else n) (ap sum (widths-zeroed (struct_words (placeless ds)) (struct_words ds) (struct-words-zeroed ds) fields)) (struct-words-zeroed ds x)
struct-words-zeroed (d.Extern at y ty ∷ ds) x = struct-words-zeroed ds x
struct-words-zeroed (d.Stream at y ty init e ∷ ds) x = struct-words-zeroed ds x
struct-words-zeroed (d.Def at y ty e ∷ ds) x = struct-words-zeroed ds x
struct-words-zeroed (d.Trigger at y guard args ∷ ds) x = struct-words-zeroed ds x
struct-words-zeroed (d.Observer at y e ∷ ds) x = struct-words-zeroed ds x

words-zeroed : (ds : Declarations) (t : NamedType) → words (placeless ds) t ≡ words ds t
words-zeroed ds (scalar s) = refl
words-zeroed ds (struct x) = struct-words-zeroed ds x
words-zeroed ds (array t n) = ap (λ k. n * k) (words-zeroed ds t)

on-elements : (m : TypeFault) (ds : Declarations) (at n : ℕ) (t : NamedType) → on_elements (placeless ds) 0 n t ≡ verdict_at_0 m (on_elements ds at n t)
on-elements m ds at n t =
    ap (λ k. if is_array t then lacks (NestedArray 0) else if nat_lt most_words (n * k) then lacks (TypeTooWide 0) else has (array t n)) (words-zeroed ds t)
    ∙ if-zeroed m (is_array t) (lacks (NestedArray at)) (if is_too_wide ds n t then lacks (TypeTooWide at) else has (array t n)) (lacks (NestedArray 0)) (if is_too_wide ds n t then lacks (TypeTooWide 0) else has (array t n)) refl
    (if-zeroed m (is_too_wide ds n t) (lacks (TypeTooWide at)) (has (array t n)) (lacks (TypeTooWide 0)) (has (array t n)) refl refl)

on-items : (m : TypeFault) (ds : Declarations) (at : ℕ) (ts : List NamedType) → on_items (placeless ds) 0 ts ≡ verdict_at_0 m (on_items ds at ts)
on-items m ds at [] = refl
on-items m ds at (t ∷ ts) =
    if-zeroed m (list_any is_array (t ∷ ts)) (lacks (NestedArray at)) (if list_all (same_type t) ts then on_elements ds at (suc (length ts)) t else lacks (TypeClash at))
    (lacks (NestedArray 0)) (if list_all (same_type t) ts then on_elements (placeless ds) 0 (suc (length ts)) t else lacks (TypeClash 0)) refl
    (if-zeroed m (list_all (same_type t) ts) (on_elements ds at (suc (length ts)) t) (lacks (TypeClash at)) (on_elements (placeless ds) 0 (suc (length ts)) t) (lacks (TypeClash 0)) (on-elements m ds at (suc (length ts)) t) refl)

-- ---- written types

abbrev SameType : TypeFault → Declarations → TypeForm → Type 0
SameType m ds t = judge_form (placeless ds) (type_without_places t) ≡ at_0 m (judge_form ds t)

abbrev typed : (m : TypeFault) (ds : Declarations) → TypeForm-F ((t : TypeForm) × SameType m ds t) → TypeForm-F TypeForm
typed m ds y = map-TypeForm ((t : TypeForm) × SameType m ds t) TypeForm (λ e. e.0) y

type-rolled : (m : TypeFault) (ds : Declarations) (x : TypeForm-F TypeForm) → form_step (placeless ds) (map-TypeForm TypeForm Judged (judge_form (placeless ds)) (type_bared x)) ≡ at_0 m (form_step ds (map-TypeForm TypeForm Judged (judge_form ds) x))
    → SameType m ds (roll-TypeForm x)
unfolding judge_form type_without_places
type-rolled m ds x h =
    ap (judge_form (placeless ds)) (fold-roll-TypeForm TypeForm (λ z. roll-TypeForm (type_at_0 z)) x) ∙ fold-roll-TypeForm Judged (form_step (placeless ds)) (type_bared x) ∙ h
    ∙ ap (at_0 m) (sym (fold-roll-TypeForm Judged (form_step ds) x))

type-typed : (m : TypeFault) (ds : Declarations) (y : TypeForm-F ((t : TypeForm) × SameType m ds t))
    → form_step (placeless ds) (map-TypeForm TypeForm Judged (judge_form (placeless ds)) (type_bared (typed m ds y))) ≡ at_0 m (form_step ds (map-TypeForm TypeForm Judged (judge_form ds) (typed m ds y)))
type-typed m ds (TypeForm-F.Scalar at s) = refl
type-typed m ds (TypeForm-F.Named x) =
    judged-zeroed m [] (if_so (declares_struct ds x.name) (struct x.name) (Unknown x.at)) (if_so (declares_struct (placeless ds) x.name) (struct x.name) (Unknown 0))
    (ap (λ b. if_so b (struct x.name) (Unknown 0)) (declares-zeroed ds x.name) ∙ if-so-zeroed m (declares_struct ds x.name) (struct x.name) (Unknown x.at))
type-typed m ds (TypeForm-F.Array at elem n) =
    one-part m (λ t. on_elements ds at n t) (λ t. on_elements (placeless ds) 0 n t) (λ t. on-elements m ds at n t) (judge_form ds elem.0) (judge_form (placeless ds) (type_without_places elem.0)) elem.1

pub form-zeroed : (m : TypeFault) (ds : Declarations) (t : TypeForm) → SameType m ds t
form-zeroed m ds = ind-TypeForm (SameType m ds) (λ x y is. subst (λ z. SameType m ds (roll-TypeForm z)) is (type-rolled m ds (typed m ds y) (type-typed m ds y)))

elsewhere-zeroed : (m : TypeFault) (ds : Declarations) (ty : TypeForm) → elsewhere (placeless ds) (type_without_places ty) ≡ at_0 m (elsewhere ds ty)
elsewhere-zeroed m ds ty = ap (λ (j : Judged). node j.ty None []) (form-zeroed m ds ty)

-- ---- members and records

member-in-zeroed : (fields : List FieldForm) (name : List ℕ) → member_in (map field_without_places fields) name ≡ option_map type_without_places (member_in fields name)
member-in-zeroed [] name = refl
member-in-zeroed (f ∷ fs) name =
    ap (λ o. if bytes_eq f.name.name name then Some (type_without_places f.ty) else o) (member-in-zeroed fs name) ∙ if-map type_without_places (bytes_eq f.name.name name) f.ty (member_in fs name)

member-of-zeroed : (o : Option Struct) (name : List ℕ) → member_of (option_map struct_at_0 o) name ≡ option_map type_without_places (member_of o name)
member-of-zeroed None name = refl
member-of-zeroed (Some s) name = member-in-zeroed s.fields name

before-zeroed : (o : Option Struct) → before_struct (option_map struct_at_0 o) ≡ placeless (before_struct o)
before-zeroed None = refl
before-zeroed (Some s) = refl

over-member : (m : TypeFault) (a : Judged) (ds : Declarations) (x : NameAt) (o : Option TypeForm) → over_member (at_0 m a) (placeless ds) (name_without_place x) (option_map type_without_places o) ≡ at_0 m (over_member a ds x o)
over-member m a ds x None = judged-zeroed m (a ∷ []) (lacks (Unknown x.at)) (lacks (Unknown 0)) refl
over-member m a ds x (Some ty) =
    ap (λ (j : Judged). judged (at_0 m a ∷ j ∷ []) (has (type_of j))) (elsewhere-zeroed m ds ty)
    ∙ judged-zeroed m (a ∷ elsewhere ds ty ∷ []) (has (type_of (elsewhere ds ty))) (has (type_of (elsewhere ds ty))) refl

over-field : (m : TypeFault) (all : Declarations) (at : ℕ) (a : Judged) (x : NameAt) (t : NamedType) → over_field (placeless all) 0 (at_0 m a) (name_without_place x) t ≡ at_0 m (over_field all at a x t)
over-field m all at a x (scalar s) = judged-zeroed m (a ∷ []) (lacks (TypeClash at)) (lacks (TypeClash 0)) refl
over-field m all at a x (struct name) =
    ap (λ o. over_member (at_0 m a) (before_struct o) (name_without_place x) (member_of o x.name)) (struct-zeroed all name)
    ∙ two-same (λ ds o. over_member (at_0 m a) ds (name_without_place x) o) (before-zeroed (struct_in all name)) (member-of-zeroed (struct_in all name) x.name)
    ∙ over-member m a (before_struct (struct_in all name)) x (member_of (struct_in all name) x.name)
over-field m all at a x (array t n) = judged-zeroed m (a ∷ []) (lacks (TypeClash at)) (lacks (TypeClash 0)) refl

node-if : (m : TypeFault) (b : Bool) (j k l n : Judged) → l ≡ at_0 m j → n ≡ at_0 m k → (if b then l else n) ≡ at_0 m (if b then j else k)
node-if m true j k l n e f = e
node-if m false j k l n e f = f

over-part : (m : TypeFault) (all : Declarations) (at : ℕ) (a b : Judged) (x : NameAt) → b ≡ at_0 m a → over_part (placeless all) 0 b (name_without_place x) ≡ at_0 m (over_part all at a x)
over-part m all at a b x e =
    ap (λ (j : Judged). over_part (placeless all) 0 j (name_without_place x)) e
    ∙ node-if m (is_some a.ty) (over_field all at a x (type_of a)) a (over_field (placeless all) 0 (at_0 m a) (name_without_place x) (type_of a)) (at_0 m a) (over-field m all at a x (type_of a)) refl

are-fields : (m : TypeFault) (ds : Declarations) (fields : List FieldForm) (ts : List NamedType) → are_fields (placeless ds) (map field_without_places fields) ts ≡ are_fields ds fields ts
are-fields m ds [] [] = refl
are-fields m ds [] (t ∷ ts) = refl
are-fields m ds (f ∷ fs) [] = refl
are-fields m ds (f ∷ fs) (t ∷ ts) = two-same (λ (j : Judged) b. same_type (type_of j) t && b) (form-zeroed m ds f.ty) (are-fields m ds fs ts)

on-record : (m : TypeFault) (ds : Declarations) (at : ℕ) (x : NameAt) (ts : List NamedType) → on_record (struct_in (placeless ds) x.name) 0 (name_without_place x) ts ≡ verdict_at_0 m (on_record (struct_in ds x.name) at x ts)
on-record m ds at x ts = ap (λ o. on_record o 0 (name_without_place x) ts) (struct-zeroed ds x.name) ∙ by_struct (struct_in ds x.name)
  where
    by_struct : (o : Option Struct) → on_record (option_map struct_at_0 o) 0 (name_without_place x) ts ≡ verdict_at_0 m (on_record o at x ts)
    by_struct None = refl
    by_struct (Some s) = ap (λ b. if_so b (struct x.name) (TypeClash 0)) (are-fields m s.before s.fields ts) ∙ if-so-zeroed m (are_fields s.before s.fields ts) (struct x.name) (TypeClash at)

-- ---- constants

abbrev pub scope_at_0 : Scope → Scope
scope_at_0 s = record { before = placeless s.before; all = placeless s.all }

-- each of some parts, where that is known of each
abbrev Zeroed : {X : Type 0} → TypeFault → (X → X) → (X → Judged) → (X → Judged) → Type 0
Zeroed {X} m bared judge judge_0 = (x : X) × (judge_0 (bared x) ≡ at_0 m (judge x))

each-zeroed : {X : Type 0} (m : TypeFault) (bared : X → X) (judge judge_0 : X → Judged) (es : List (Zeroed m bared judge judge_0))
    → map judge_0 (map bared (map (λ (e : Zeroed m bared judge judge_0). e.0) es)) ≡ map (at_0 m) (map judge (map (λ (e : Zeroed m bared judge judge_0). e.0) es))
each-zeroed m bared judge judge_0 [] = refl
each-zeroed m bared judge judge_0 (e ∷ es) = two-same (λ (j : Judged) js. j ∷ js) e.1 (each-zeroed m bared judge judge_0 es)

pub parts-zeroed : {X : Type 0} (m : TypeFault) (bared : X → X) (judge judge_0 : X → Judged) → ((x : X) → judge_0 (bared x) ≡ at_0 m (judge x)) → (xs : List X) → map judge_0 (map bared xs) ≡ map (at_0 m) (map judge xs)
parts-zeroed m bared judge judge_0 h [] = refl
parts-zeroed m bared judge judge_0 h (x ∷ xs) = two-same (λ (j : Judged) js. j ∷ js) (h x) (parts-zeroed m bared judge judge_0 h xs)

abbrev SameConst : TypeFault → Scope → ConstForm → Type 0
SameConst m s c = judge_const (scope_at_0 s) (const_without_places c) ≡ at_0 m (judge_const s c)

abbrev KnownConst : TypeFault → Scope → Type 0
KnownConst m s = (c : ConstForm) × SameConst m s c

abbrev const_of : (m : TypeFault) (s : Scope) → ConstForm-F (KnownConst m s) → ConstForm-F ConstForm
const_of m s y = map-ConstForm (KnownConst m s) ConstForm (λ e. e.0) y

abbrev const_bared : ConstForm-F ConstForm → ConstForm-F ConstForm
const_bared x = const_at_0 (map-ConstForm ConstForm ConstForm const_without_places x)

const-rolled : (m : TypeFault) (s : Scope) (x : ConstForm-F ConstForm) → const_step (scope_at_0 s) (map-ConstForm ConstForm Judged (judge_const (scope_at_0 s)) (const_bared x)) ≡ at_0 m (const_step s (map-ConstForm ConstForm Judged (judge_const s) x))
    → SameConst m s (roll-ConstForm x)
unfolding judge_const const_without_places
const-rolled m s x h =
    ap (judge_const (scope_at_0 s)) (fold-roll-ConstForm ConstForm (λ z. roll-ConstForm (const_at_0 z)) x) ∙ fold-roll-ConstForm Judged (const_step (scope_at_0 s)) (const_bared x) ∙ h
    ∙ ap (at_0 m) (sym (fold-roll-ConstForm Judged (const_step s) x))

const-stepped : (m : TypeFault) (s : Scope) (y : ConstForm-F (KnownConst m s))
    → const_step (scope_at_0 s) (map-ConstForm ConstForm Judged (judge_const (scope_at_0 s)) (const_bared (const_of m s y))) ≡ at_0 m (const_step s (map-ConstForm ConstForm Judged (judge_const s) (const_of m s y)))
const-stepped m s (ConstForm-F.Lit at k w) = refl
const-stepped m s (ConstForm-F.Array at items) =
    let f : List NamedType → Verdict = λ ts. on_items s.all at ts in
    let g : List NamedType → Verdict = λ ts. on_items (placeless s.all) 0 ts in
    any-parts m f g (λ ts. on-items m s.all at ts) (map (judge_const s) (map (λ (e : KnownConst m s). e.0) items)) (map (judge_const (scope_at_0 s)) (map const_without_places (map (λ (e : KnownConst m s). e.0) items)))
    (each-zeroed m const_without_places (judge_const s) (judge_const (scope_at_0 s)) items)
const-stepped m s (ConstForm-F.Record at x items) =
    let f : List NamedType → Verdict = λ ts. on_record (struct_in s.before x.name) at x ts in
    let g : List NamedType → Verdict = λ ts. on_record (struct_in (placeless s.before) x.name) 0 (name_without_place x) ts in
    any-parts m f g (λ ts. on-record m s.before at x ts) (map (judge_const s) (map (λ (e : KnownConst m s). e.0) items)) (map (judge_const (scope_at_0 s)) (map const_without_places (map (λ (e : KnownConst m s). e.0) items)))
    (each-zeroed m const_without_places (judge_const s) (judge_const (scope_at_0 s)) items)

pub const-zeroed : (m : TypeFault) (s : Scope) (c : ConstForm) → SameConst m s c
const-zeroed m s = ind-ConstForm (SameConst m s) (λ x y is. subst (λ z. SameConst m s (roll-ConstForm z)) is (const-rolled m s (const_of m s y) (const-stepped m s y)))

-- ---- names

abbrev named_at_0 : Named → Named
named_at_0 (extern_of ds ty) = extern_of (placeless ds) (type_without_places ty)
named_at_0 (stream_of ds ty n) = stream_of (placeless ds) (type_without_places ty) n
named_at_0 (def_of ds ty) = def_of (placeless ds) (type_without_places ty)

named-zeroed : (ds : Declarations) (x : List ℕ) → named_in (placeless ds) x ≡ option_map named_at_0 (named_in ds x)
named-zeroed [] x = refl
named-zeroed (d.Struct at y fields ∷ ds) x = named-zeroed ds x
named-zeroed (d.Extern at y ty ∷ ds) x =
    ap (λ o. if bytes_eq y.name x then Some (extern_of (placeless ds) (type_without_places ty)) else o) (named-zeroed ds x) ∙ if-map named_at_0 (bytes_eq y.name x) (extern_of ds ty) (named_in ds x)
named-zeroed (d.Stream at y ty init e ∷ ds) x =
    two-same (λ n o. if bytes_eq y.name x then Some (stream_of (placeless ds) (type_without_places ty) n) else o) (length-map init const_without_places) (named-zeroed ds x)
    ∙ if-map named_at_0 (bytes_eq y.name x) (stream_of ds ty (length init)) (named_in ds x)
named-zeroed (d.Def at y ty e ∷ ds) x =
    ap (λ o. if bytes_eq y.name x then Some (def_of (placeless ds) (type_without_places ty)) else o) (named-zeroed ds x) ∙ if-map named_at_0 (bytes_eq y.name x) (def_of ds ty) (named_in ds x)
named-zeroed (d.Trigger at y guard args ∷ ds) x = named-zeroed ds x
named-zeroed (d.Observer at y e ∷ ds) x = named-zeroed ds x

declared-zeroed : (m : TypeFault) (n : Named) → declared (named_at_0 n) ≡ at_0 m (declared n)
declared-zeroed m (extern_of ds ty) = elsewhere-zeroed m ds ty
declared-zeroed m (stream_of ds ty n) = elsewhere-zeroed m ds ty
declared-zeroed m (def_of ds ty) = elsewhere-zeroed m ds ty

over-name : (m : TypeFault) (x : NameAt) (o : Option Named) → over_name (name_without_place x) (option_map named_at_0 o) ≡ at_0 m (over_name x o)
over-name m x None = refl
over-name m x (Some n) = one-part m (λ t. has t) (λ t. has t) (λ t. refl) (declared n) (declared (named_at_0 n)) (declared-zeroed m n)

on-drop : (m : TypeFault) (at k : ℕ) (n : Named) (t : NamedType) → on_drop 0 k (named_at_0 n) t ≡ verdict_at_0 m (on_drop at k n t)
on-drop m at k (extern_of ds ty) t = refl
on-drop m at k (stream_of ds ty n) t = if-so-zeroed m (nat_lt k n) t (DropTooFar at)
on-drop m at k (def_of ds ty) t = refl

over-drop : (m : TypeFault) (at k : ℕ) (x : NameAt) (o : Option Named) → over_drop 0 k (name_without_place x) (option_map named_at_0 o) ≡ at_0 m (over_drop at k x o)
over-drop m at k x None = refl
over-drop m at k x (Some n) = one-part m (λ t. on_drop at k n t) (λ t. on_drop 0 k (named_at_0 n) t) (λ t. on-drop m at k n t) (declared n) (declared (named_at_0 n)) (declared-zeroed m n)

-- ---- expressions

abbrev SameExpr : TypeFault → Scope → Expr → Type 0
SameExpr m s e = judge_expr (scope_at_0 s) (expr_without_places e) ≡ at_0 m (judge_expr s e)

abbrev KnownExpr : TypeFault → Scope → Type 0
KnownExpr m s = (e : Expr) × SameExpr m s e

abbrev expr_of : (m : TypeFault) (s : Scope) → Expr-F (KnownExpr m s) → Expr-F Expr
expr_of m s y = map-Expr (KnownExpr m s) Expr (λ e. e.0) y

abbrev expr_bared : Expr-F Expr → Expr-F Expr
expr_bared x = expr_at_0 (map-Expr Expr Expr expr_without_places x)

expr-rolled : (m : TypeFault) (s : Scope) (x : Expr-F Expr) → expr_step (scope_at_0 s) (map-Expr Expr Judged (judge_expr (scope_at_0 s)) (expr_bared x)) ≡ at_0 m (expr_step s (map-Expr Expr Judged (judge_expr s) x))
    → SameExpr m s (roll-Expr x)
unfolding judge_expr expr_without_places
expr-rolled m s x h =
    ap (judge_expr (scope_at_0 s)) (fold-roll-Expr Expr (λ z. roll-Expr (expr_at_0 z)) x) ∙ fold-roll-Expr Judged (expr_step (scope_at_0 s)) (expr_bared x) ∙ h
    ∙ ap (at_0 m) (sym (fold-roll-Expr Judged (expr_step s) x))

-- an operand without places
abbrev bare_part : Scope → Expr → Judged
bare_part s e = judge_expr (scope_at_0 s) (expr_without_places e)

one-truth : (m : TypeFault) (s : Scope) (at : ℕ) (p : KnownExpr m s) → judged (bare_part s p.0 ∷ []) (on_truths 0 (types_of (bare_part s p.0 ∷ []))) ≡ at_0 m (judged (judge_expr s p.0 ∷ []) (on_truths at (types_of (judge_expr s p.0 ∷ []))))
one-truth m s at p = any-parts m (on_truths at) (on_truths 0) (λ ts. on-truths m at ts) (judge_expr s p.0 ∷ []) (bare_part s p.0 ∷ []) (ap (λ (j : Judged). j ∷ []) p.1)

two-truths : (m : TypeFault) (s : Scope) (at : ℕ) (p q : KnownExpr m s)
    → judged (bare_part s p.0 ∷ bare_part s q.0 ∷ []) (on_truths 0 (types_of (bare_part s p.0 ∷ bare_part s q.0 ∷ [])))
    ≡ at_0 m (judged (judge_expr s p.0 ∷ judge_expr s q.0 ∷ []) (on_truths at (types_of (judge_expr s p.0 ∷ judge_expr s q.0 ∷ []))))
two-truths m s at p q =
    any-parts m (on_truths at) (on_truths 0) (λ ts. on-truths m at ts) (judge_expr s p.0 ∷ judge_expr s q.0 ∷ []) (bare_part s p.0 ∷ bare_part s q.0 ∷ []) (two-same (λ (j k : Judged). j ∷ k ∷ []) p.1 q.1)

one-integer : (m : TypeFault) (s : Scope) (at : ℕ) (p : KnownExpr m s) → judged (bare_part s p.0 ∷ []) (on_integer 0 (type_of (bare_part s p.0))) ≡ at_0 m (judged (judge_expr s p.0 ∷ []) (on_integer at (type_of (judge_expr s p.0))))
one-integer m s at p = one-part m (on_integer at) (on_integer 0) (λ t. on-integer m at t) (judge_expr s p.0) (bare_part s p.0) p.1

choice : (m : TypeFault) (at : ℕ) (c a b i j k : Judged) → i ≡ at_0 m c → j ≡ at_0 m a → k ≡ at_0 m b
    → judged (i ∷ j ∷ k ∷ []) (on_choice 0 (type_of i) (type_of j) (type_of k)) ≡ at_0 m (judged (c ∷ a ∷ b ∷ []) (on_choice at (type_of c) (type_of a) (type_of b)))
choice m at c a b i j k e f g =
    three-same (λ (x y z : Judged). judged (x ∷ y ∷ z ∷ []) (on_choice 0 (type_of x) (type_of y) (type_of z))) e f g
    ∙ judged-zeroed m (c ∷ a ∷ b ∷ []) (on_choice at (type_of c) (type_of a) (type_of b)) (on_choice 0 (type_of c) (type_of a) (type_of b))
    (if-so-zeroed m (is_bool (type_of c) && same_type (type_of a) (type_of b)) (type_of a) (TypeClash at))

-- a node over items
over-items : (m : TypeFault) (s : Scope) (f g : List NamedType → Verdict) → ((ts : List NamedType) → g ts ≡ verdict_at_0 m (f ts)) → (items : List (KnownExpr m s))
    → judged (map (judge_expr (scope_at_0 s)) (map expr_without_places (map (λ (e : KnownExpr m s). e.0) items))) (g (types_of (map (judge_expr (scope_at_0 s)) (map expr_without_places (map (λ (e : KnownExpr m s). e.0) items)))))
    ≡ at_0 m (judged (map (judge_expr s) (map (λ (e : KnownExpr m s). e.0) items)) (f (types_of (map (judge_expr s) (map (λ (e : KnownExpr m s). e.0) items)))))
over-items m s f g h items =
    any-parts m f g h (map (judge_expr s) (map (λ (e : KnownExpr m s). e.0) items)) (map (judge_expr (scope_at_0 s)) (map expr_without_places (map (λ (e : KnownExpr m s). e.0) items)))
    (each-zeroed m expr_without_places (judge_expr s) (judge_expr (scope_at_0 s)) items)

expr-stepped : (m : TypeFault) (s : Scope) (y : Expr-F (KnownExpr m s))
    → expr_step (scope_at_0 s) (map-Expr Expr Judged (judge_expr (scope_at_0 s)) (expr_bared (expr_of m s y))) ≡ at_0 m (expr_step s (map-Expr Expr Judged (judge_expr s) (expr_of m s y)))
expr-stepped m s (Expr-F.Lit at k w) = refl
expr-stepped m s (Expr-F.Name x) = ap (over_name (name_without_place x)) (named-zeroed s.all x.name) ∙ over-name m x (named_in s.all x.name)
expr-stepped m s (Expr-F.Drop at k x) = ap (over_drop 0 k (name_without_place x)) (named-zeroed s.all x.name) ∙ over-drop m at k x (named_in s.all x.name)
expr-stepped m s (Expr-F.Un at op a) = one-part m (on_one at op) (on_one 0 op) (λ t. on-one m at op t) (judge_expr s a.0) (bare_part s a.0) a.1
expr-stepped m s (Expr-F.Bin at op a b) = two-parts m (on_two at op) (on_two 0 op) (λ t u. on-two m at op t u) (judge_expr s a.0) (bare_part s a.0) (judge_expr s b.0) (bare_part s b.0) a.1 b.1
expr-stepped m s (Expr-F.Shift at dir a count) = two-parts m (on_shift at) (on_shift 0) (λ t u. on-shift m at t u) (judge_expr s a.0) (bare_part s a.0) (judge_expr s count.0) (bare_part s count.0) a.1 count.1
expr-stepped m s (Expr-F.And at a b) = two-truths m s at a b
expr-stepped m s (Expr-F.Or at a b) = two-truths m s at a b
expr-stepped m s (Expr-F.Implies at a b) = two-truths m s at a b
expr-stepped m s (Expr-F.If at c a b) = choice m at (judge_expr s c.0) (judge_expr s a.0) (judge_expr s b.0) (bare_part s c.0) (bare_part s a.0) (bare_part s b.0) c.1 a.1 b.1
expr-stepped m s (Expr-F.Cast at to a) =
    two-parts m (on_cast at) (on_cast 0) (λ t u. on-cast m at t u) (judge_form s.before to) (judge_form (placeless s.before) (type_without_places to)) (judge_expr s a.0) (bare_part s a.0) (form-zeroed m s.before to) a.1
expr-stepped m s (Expr-F.Abs at a) = one-integer m s at a
expr-stepped m s (Expr-F.Sign at a) = one-integer m s at a
expr-stepped m s (Expr-F.Index at a i) = two-parts m (on_index at) (on_index 0) (λ t u. on-index m at t u) (judge_expr s a.0) (bare_part s a.0) (judge_expr s i.0) (bare_part s i.0) a.1 i.1
expr-stepped m s (Expr-F.Field at a x) = over-part m s.all at (judge_expr s a.0) (bare_part s a.0) x a.1
expr-stepped m s (Expr-F.Array at items) = over-items m s (on_items s.all at) (on_items (placeless s.all) 0) (λ ts. on-items m s.all at ts) items
expr-stepped m s (Expr-F.Record at x items) =
    over-items m s (on_record (struct_in s.before x.name) at x) (on_record (struct_in (placeless s.before) x.name) 0 (name_without_place x)) (λ ts. on-record m s.before at x ts) items
expr-stepped m s (Expr-F.Once at p) = one-truth m s at p
expr-stepped m s (Expr-F.Historically at p) = one-truth m s at p
expr-stepped m s (Expr-F.Yesterday at p) = one-truth m s at p
expr-stepped m s (Expr-F.WeaklyYesterday at p) = one-truth m s at p
expr-stepped m s (Expr-F.Since at p q) = two-truths m s at p q
expr-stepped m s (Expr-F.OnceIn at low high p) = one-truth m s at p
expr-stepped m s (Expr-F.HistoricallyIn at low high p) = one-truth m s at p
expr-stepped m s (Expr-F.SinceIn at low high p q) = two-truths m s at p q
expr-stepped m s (Expr-F.Clock at period phase) = refl
expr-stepped m s (Expr-F.Majority at items) = over-items m s (on_votes at (λ t. t)) (on_votes 0 (λ t. t)) (λ ts. on-votes m at (λ t. t) ts) items
expr-stepped m s (Expr-F.Agreed at items) = over-items m s (on_votes at (λ t. bool)) (on_votes 0 (λ t. bool)) (λ ts. on-votes m at (λ t. bool) ts) items
expr-stepped m s (Expr-F.WindowMax at n e) = one-integer m s at e
expr-stepped m s (Expr-F.WindowMin at n e) = one-integer m s at e
expr-stepped m s (Expr-F.WindowSum at n e) = one-integer m s at e

pub expr-zeroed : (m : TypeFault) (s : Scope) (e : Expr) → SameExpr m s e
expr-zeroed m s = ind-Expr (SameExpr m s) (λ x y is. subst (λ z. SameExpr m s (roll-Expr z)) is (expr-rolled m s (expr_of m s y) (expr-stepped m s y)))
