-- What each name of a text stands for in its specification, and of which type that is.
use Rattle.std.proofs.Common.{◌≡◌, ℕ, zero, suc, ◌+◌, ◌<◌, ◌≤◌, Bool, true, false, List, [], ◌∷◌, ◌++◌, map, length, refl, sym, ap, ◌∙◌, subst, arith, inl, inr}
use Rattle.std.specs.Prelude.{◌⊎◌, nat_lt, ◌&&◌, ◌||◌, not, cond, if◌then◌else◌, is_some, slice_get, bytes_eq, Option, Some, None, IsTrue}
use Rattle.std.specs.List.{list_any, flat_map, position_or_len, AllByRecursion}
use Rattle.std.specs.Cmp.Lexicographic.{nat_list_eq_equiv}
use Rattle.stream_types.specs.declared.scalar.Ty.{Ty}
use Rattle.stream_types.specs.declared.types.TypeEntry.{TypeEntry}
use Rattle.stream_core.specs.declared.spec.ExternItem.{ExternItem}
use Rattle.stream_core.specs.Term.{TreeStream, TreeDef, value_count}
use Rattle.stream_core.specs.Signature.{StreamSignature, stream_signature}
use Rattle.spec_text.specs.declared.surface.NameAt.{NameAt}
use Rattle.spec_text.specs.declared.surface.FieldForm.{FieldForm}
use Rattle.spec_text.specs.declared.surface.TypeForm.{TypeForm}
use Rattle.spec_text.specs.declared.surface.ConstForm.{ConstForm}
use Rattle.spec_text.specs.declared.surface.Expr.{Expr}
use Rattle.spec_text.specs.declared.surface.Decl.{Decl}
use Rattle.spec_text.specs.declared.surface.Decl.TheVariants as d
use Rattle.spec_text.specs.declared.surface.Surface.{Surface}
use Rattle.type_check.specs.declared.fault.TypeFault.TheVariants.{TypeTooWide}
use Rattle.type_check.specs.NamedType.{NamedType, struct, most_words, Declarations, Struct, struct_in}
use Rattle.type_check.specs.Judged.{Verdict, has, lacks, Judged, or_else, first_of, all_types, have_types, over_parts, judged, type_of, types_of, judge_form, judge_const, judge_expr, Named, extern_of, stream_of, def_of, named_in, declared}
use Rattle.type_check.specs.Untyped.{judge_decl, judge_fields, scope_of, of_type, struct_width, reversed, all_of}
use Rattle.type_check.specs.TypeOrder.{Event, is_met, events, ty_of}
use Rattle.typed_text.specs.ReadSpec.{Numbers, Placed, extern_names, stream_names, def_names, is_in, number_in, placed, counts, reads, const_words, roots, first_root, extern_item, stream_item, def_item}
use Rattle.typed_text.proofs.Sound.{WellNamed, AllMet, IsTypedForm, both_none, all_split}
use Rattle.typed_text.proofs.FormTypes.{AreIn, IsTyped, form_typed}
use Rattle.typed_text.proofs.Names.{one_if, times, observer_names, item_names, by_kinds}
use Rattle.typed_text.proofs.Places.{EachDecl, IsDecl}

-- ---- where a name is declared

abbrev pub IsHere : Declarations → Decl → List ℕ → Named → Type 0
IsHere before (d.Extern at y ty) x n = (bytes_eq y.name x ≡ true) × (n ≡ extern_of before ty)
IsHere before (d.Stream at y ty init e) x n = (bytes_eq y.name x ≡ true) × (n ≡ stream_of before ty (length init))
IsHere before (d.Def at y ty e) x n = (bytes_eq y.name x ≡ true) × (n ≡ def_of before ty)
IsHere before _ x n = ⊥

abbrev pub IsAt : List ℕ → Named → Declarations → List Decl → Type 0
IsAt x n before [] = ⊥
IsAt x n before (y ∷ ys) = IsHere before y x n ⊎ IsAt x n (y ∷ before) ys

one_of : (b : Bool) (m n : Named) (o : Option Named) → (if b then Some m else o) ≡ Some n → ((b ≡ true) × (n ≡ m)) ⊎ (o ≡ Some n)
one_of true m n o h = inl (refl, cc)
one_of false m n o h = inr h

-- in front, or among these declarations
located_more : (before : Declarations) (y : Decl) (ys : List Decl) (x : List ℕ) (n : Named) → named_in (y ∷ before) x ≡ Some n → (named_in before x ≡ Some n) ⊎ IsAt x n before (y ∷ ys)
located_more before (d.Struct at z fields) ys x n h = inl h
located_more before (d.Trigger at z guard args) ys x n h = inl h
located_more before (d.Observer at z e) ys x n h = inl h
located_more before (d.Extern at z ty) ys x n h = elim (one_of (bytes_eq z.name x) (extern_of before ty) n (named_in before x) h) [ inl p ↦ inr (inl p) | inr q ↦ inl q ]
located_more before (d.Stream at z ty init e) ys x n h = elim (one_of (bytes_eq z.name x) (stream_of before ty (length init)) n (named_in before x) h) [ inl p ↦ inr (inl p) | inr q ↦ inl q ]
located_more before (d.Def at z ty e) ys x n h = elim (one_of (bytes_eq z.name x) (def_of before ty) n (named_in before x) h) [ inl p ↦ inr (inl p) | inr q ↦ inl q ]

located : (before : Declarations) (ys : List Decl) (x : List ℕ) (n : Named) → named_in (reversed before ys) x ≡ Some n → (named_in before x ≡ Some n) ⊎ IsAt x n before ys
located before [] x n h = inl h
located before (y ∷ ys) x n h = elim (located (y ∷ before) ys x n h) [ inl p ↦ located_more before y ys x n p | inr q ↦ inr (inr q) ]

pub found_name : (s : Surface) (x : List ℕ) (n : Named) → named_in (all_of s) x ≡ Some n → IsAt x n [] s.decls
found_name s x n h = elim (located [] s.decls x n h) [ inl p ↦ absurd (cc) | inr q ↦ q ]

-- the declaration of a name
pub record IsFoundAt (Q : Declarations → Decl → Type 0) (x : List ℕ) (n : Named) : Type 0 where
  pub before : Declarations
  pub decl : Decl
  pub known : Q before decl
  pub here : IsHere before decl x n

pub found_at : (Q : Declarations → Decl → Type 0) (x : List ℕ) (n : Named) (before : Declarations) (ys : List Decl) → EachDecl Q before ys → IsAt x n before ys → IsFoundAt Q x n
found_at Q x n before [] q h = absurd h
found_at Q x n before (y ∷ ys) q (inl h) = record { before = before; decl = y; known = q.0; here = h }
found_at Q x n before (y ∷ ys) q (inr h) = found_at Q x n (y ∷ before) ys q.1 h

-- ---- parts of a declaration without a fault

pub parts_none : (es : List Event) (qs : List Judged) (b : Bool) (v : Verdict) → (over_parts b qs v).fault ≡ None → AllMet es (over_parts b qs v).types → (first_of qs ≡ None) × AllMet es (all_types qs)
parts_none es qs false v h m = (h, m)
parts_none es qs true (has u) h m = (h, (all_split (λ w. IsTrue (list_any (is_met w) es)) (all_types qs) (u ∷ []) m).0)
parts_none es qs true (lacks g) h m = (absurd (let p = both_none (first_of qs) (Some g) h in let no : Some g ≡ None = p.1 in cc))

pub within_text : (s : Surface) (before : Declarations) (x : Decl) → IsDecl s before x → AreIn before (all_of s)
within_text s before x h y b = found (struct_in before y) refl b
  where
    found : (o : Option Struct) → struct_in before y ≡ o → IsTrue (is_some o) → IsTrue (is_some (struct_in (all_of s) y))
    found None e g = absurd (cc)
    found (Some st) e g = ap is_some (h.same y st e)

-- the written type of a declaration
abbrev pub IsWritten : Surface → Declarations → TypeForm → Type 0
IsWritten s before ty = IsTyped (events s) (all_of s) (judge_form before ty)

written_first : (s : Surface) (before : Declarations) (x : Decl) (ty : TypeForm) (qs : List Judged) (v : Verdict) → IsDecl s before x → (judged (judge_form before ty ∷ qs) v).fault ≡ None → AllMet (events s) (judged (judge_form before ty ∷ qs) v).types → IsWritten s before ty
written_first s before x ty qs v h f m =
    let p = parts_none (events s) (judge_form before ty ∷ qs) (have_types (judge_form before ty ∷ qs)) v f m in
    let e = both_none (judge_form before ty).fault (first_of qs) p.0 in
    let t = all_split (λ w. IsTrue (list_any (is_met w) (events s))) (judge_form before ty).types (all_types qs) p.1 in
    form_typed (events s) before (all_of s) (within_text s before x h) ty e.0 t.0

pub extern_written : (s : Surface) (before : Declarations) (at : ℕ) (x : NameAt) (ty : TypeForm) → IsDecl s before (d.Extern at x ty) → IsWritten s before ty
extern_written s before at x ty h = form_typed (events s) before (all_of s) (within_text s before (d.Extern at x ty) h) ty h.faultless h.met

abbrev pub values_of : Surface → Declarations → List ConstForm → Expr → List Judged
values_of s before init e = map (judge_const (scope_of before (all_of s))) init ++ judge_expr (scope_of before (all_of s)) e ∷ []

pub stream_written : (s : Surface) (before : Declarations) (at : ℕ) (x : NameAt) (ty : TypeForm) (init : List ConstForm) (e : Expr) → IsDecl s before (d.Stream at x ty init e) → IsWritten s before ty
stream_written s before at x ty init e h = written_first s before (d.Stream at x ty init e) ty (values_of s before init e) (of_type at (type_of (judge_form before ty)) (types_of (values_of s before init e))) h h.faultless h.met

pub def_written : (s : Surface) (before : Declarations) (at : ℕ) (x : NameAt) (ty : TypeForm) (e : Expr) → IsDecl s before (d.Def at x ty e) → IsWritten s before ty
def_written s before at x ty e h = written_first s before (d.Def at x ty e) ty (judge_expr (scope_of before (all_of s)) e ∷ []) (of_type at (type_of (judge_form before ty)) (type_of (judge_expr (scope_of before (all_of s)) e) ∷ [])) h h.faultless h.met

-- a name has a type
pub record HasDeclared (all : Declarations) (n : Named) : Type 0 where
  pub there : IsTrue (is_some (declared n).ty)
  pub well : WellNamed all (type_of (declared n))

pub declared_here : (s : Surface) (before : Declarations) (y : Decl) (x : List ℕ) (n : Named) → IsDecl s before y → IsHere before y x n → HasDeclared (all_of s) n
declared_here s before (d.Struct at z fields) x n h k = absurd k
declared_here s before (d.Trigger at z guard args) x n h k = absurd k
declared_here s before (d.Observer at z e) x n h k = absurd k
declared_here s before (d.Extern at z ty) x n h k = let w = extern_written s before at z ty h in subst (HasDeclared (all_of s)) (sym k.1) (record { there = w.there; well = w.well })
declared_here s before (d.Stream at z ty init e) x n h k = let w = stream_written s before at z ty init e h in subst (HasDeclared (all_of s)) (sym k.1) (record { there = w.there; well = w.well })
declared_here s before (d.Def at z ty e) x n h k = let w = def_written s before at z ty e h in subst (HasDeclared (all_of s)) (sym k.1) (record { there = w.there; well = w.well })

-- ---- how often a name stands among those of its kind

abbrev pub kind_names : Named → List Decl → List (List ℕ)
kind_names (extern_of ds ty) ys = extern_names ys
kind_names (stream_of ds ty n) ys = stream_names ys
kind_names (def_of ds ty) ys = def_names ys

kind_more : (x : List ℕ) (n : Named) (y : Decl) (ys : List Decl) → times x (kind_names n ys) ≤ times x (kind_names n (y ∷ ys))
kind_more x (extern_of ds ty) (d.Extern at z f) ys = omega arith
kind_more x (extern_of ds ty) _ ys = omega arith
kind_more x (stream_of ds ty n) (d.Stream at z f init e) ys = omega arith
kind_more x (stream_of ds ty n) _ ys = omega arith
kind_more x (def_of ds ty) (d.Def at z f e) ys = omega arith
kind_more x (def_of ds ty) _ ys = omega arith

turned : (x y : List ℕ) → bytes_eq y x ≡ true → bytes_eq x y ≡ true
turned x y h = nat_list_eq_equiv.symm x y ∙ h

kind_here : (x : List ℕ) (n : Named) (before : Declarations) (y : Decl) (ys : List Decl) → IsHere before y x n → 1 ≤ times x (kind_names n (y ∷ ys))
kind_here x n before (d.Struct at z fields) ys h = absurd h
kind_here x n before (d.Trigger at z guard args) ys h = absurd h
kind_here x n before (d.Observer at z e) ys h = absurd h
kind_here x n before (d.Extern at z ty) ys h =
    let e : one_if (bytes_eq x z.name) ≡ 1 = ap one_if (turned x z.name h.0) in
    subst (λ m. 1 ≤ times x (kind_names m (d.Extern at z ty ∷ ys))) (sym h.1) (omega (arith, e))
kind_here x n before (d.Stream at z ty init v) ys h =
    let e : one_if (bytes_eq x z.name) ≡ 1 = ap one_if (turned x z.name h.0) in
    subst (λ m. 1 ≤ times x (kind_names m (d.Stream at z ty init v ∷ ys))) (sym h.1) (omega (arith, e))
kind_here x n before (d.Def at z ty v) ys h =
    let e : one_if (bytes_eq x z.name) ≡ 1 = ap one_if (turned x z.name h.0) in
    subst (λ m. 1 ≤ times x (kind_names m (d.Def at z ty v ∷ ys))) (sym h.1) (omega (arith, e))

pub kind_at : (x : List ℕ) (n : Named) (before : Declarations) (ys : List Decl) → IsAt x n before ys → 1 ≤ times x (kind_names n ys)
kind_at x n before [] h = absurd h
kind_at x n before (y ∷ ys) (inl h) = kind_here x n before y ys h
kind_at x n before (y ∷ ys) (inr h) = let a = kind_at x n (y ∷ before) ys h in let b = kind_more x n y ys in omega (arith, a, b)

of_kind : (x : List ℕ) (n : Named) (ys : List Decl) → times x (kind_names n ys) ≤ times x (item_names ys)
of_kind x (extern_of ds ty) ys = let e = by_kinds x ys in omega (arith, e)
of_kind x (stream_of ds ty n) ys = let e = by_kinds x ys in omega (arith, e)
of_kind x (def_of ds ty) ys = let e = by_kinds x ys in omega (arith, e)

pub item_at : (x : List ℕ) (n : Named) (before : Declarations) (ys : List Decl) → IsAt x n before ys → 1 ≤ times x (item_names ys)
item_at x n before ys h = let a = kind_at x n before ys h in let b = of_kind x n ys in omega (arith, a, b)

pub in_names : (x : List ℕ) (names : List (List ℕ)) → 1 ≤ times x names → is_in names x ≡ true
in_names x [] h = absurd (omega (arith, h))
in_names x (y ∷ names) h = by (bytes_eq x y) refl (λ g. in_names x names g)
  where
    by : (b : Bool) → bytes_eq x y ≡ b → (1 ≤ times x names → is_in names x ≡ true) → (bytes_eq x y || is_in names x) ≡ true
    by true e r = ap (λ b. b || is_in names x) e
    by false e r = ap (λ b. b || is_in names x) e ∙ r (let f : one_if (bytes_eq x y) ≡ 0 = ap one_if e in omega (arith, f, h))

pub not_in_names : (x : List ℕ) (names : List (List ℕ)) → times x names ≡ 0 → is_in names x ≡ false
not_in_names x [] h = refl
not_in_names x (y ∷ names) h = by (bytes_eq x y) refl (λ g. not_in_names x names g)
  where
    by : (b : Bool) → bytes_eq x y ≡ b → (times x names ≡ 0 → is_in names x ≡ false) → (bytes_eq x y || is_in names x) ≡ false
    by true e r = absurd (let f : one_if (bytes_eq x y) ≡ 1 = ap one_if e in omega (arith, f, h))
    by false e r = ap (λ b. b || is_in names x) e ∙ r (let f : one_if (bytes_eq x y) ≡ 0 = ap one_if e in omega (arith, f, h))

-- ---- numbers

pub number_here : {X : Type 0} (x y : List ℕ) (names : List (List ℕ)) (w : X) (ws : List X) → bytes_eq y x ≡ true → slice_get (w ∷ ws) (number_in (y ∷ names) x) ≡ Some w
number_here x y names w ws h = ap (λ b. slice_get (w ∷ ws) (cond (not b) (1 + number_in names x) 0)) (turned x y h)

pub number_later : {X : Type 0} (x y : List ℕ) (names : List (List ℕ)) (v w : X) (ws : List X) → bytes_eq x y ≡ false → slice_get ws (number_in names x) ≡ Some v → slice_get (w ∷ ws) (number_in (y ∷ names) x) ≡ Some v
number_later x y names v w ws h e =
    let one : 1 + number_in names x ≡ suc (number_in names x) = omega arith in
    ap (λ b. slice_get (w ∷ ws) (cond (not b) (1 + number_in names x) 0)) h ∙ ap (slice_get (w ∷ ws)) one ∙ e

pub not_here : (b : Bool) (n : ℕ) → one_if b + n ≤ 1 → 1 ≤ n → b ≡ false
not_here true n h k = absurd (omega (arith, h, k))
not_here false n h k = refl

pub fewer : (b : Bool) (n : ℕ) → one_if b + n ≤ 1 → n ≤ 1
fewer b n h = omega (arith, h)

module _ (numbers : Numbers) (all : Declarations) (types : List TypeEntry) where
  abbrev pub externs_from : Declarations → ℕ → List Decl → List ExternItem
  externs_from before k ys = flat_map (λ (p : Placed). extern_item numbers p p.decl) (placed numbers all before k ys)

  abbrev pub streams_from : Declarations → ℕ → List Decl → List TreeStream
  streams_from before k ys = flat_map (λ (p : Placed). stream_item numbers p (first_root (roots numbers all p)) p.decl) (placed numbers all before k ys)

  abbrev pub defs_from : Declarations → ℕ → List Decl → List TreeDef
  defs_from before k ys = flat_map (λ (p : Placed). def_item numbers p (first_root (roots numbers all p)) p.decl) (placed numbers all before k ys)

  abbrev next : Declarations → ℕ → Decl → ℕ
  next before k y = k + counts (reads numbers all before y)

  abbrev named_ty : Named → Ty
  named_ty n = ty_of numbers.order (type_of (declared n))

  pub extern_number : (x : List ℕ) (n : Named) (ds : Declarations) (ty : TypeForm) → n ≡ extern_of ds ty → (before : Declarations) (k : ℕ) (ys : List Decl) → times x (item_names ys) ≤ 1 → IsAt x n before ys
      → slice_get (map (λ (e : ExternItem). e.ty) (externs_from before k ys)) (number_in (extern_names ys) x) ≡ Some (named_ty n)
  extern_number x n ds ty e before k [] o h = absurd h
  extern_number x n ds ty e before k (d.Struct at z fields ∷ ys) o (inl h) = absurd h
  extern_number x n ds ty e before k (d.Struct at z fields ∷ ys) o (inr h) = extern_number x n ds ty e (d.Struct at z fields ∷ before) (next before k (d.Struct at z fields)) ys o h
  extern_number x n ds ty e before k (d.Trigger at z guard args ∷ ys) o (inl h) = absurd h
  extern_number x n ds ty e before k (d.Trigger at z guard args ∷ ys) o (inr h) = extern_number x n ds ty e (d.Trigger at z guard args ∷ before) (next before k (d.Trigger at z guard args)) ys o h
  extern_number x n ds ty e before k (d.Observer at z v ∷ ys) o (inl h) = absurd h
  extern_number x n ds ty e before k (d.Observer at z v ∷ ys) o (inr h) = extern_number x n ds ty e (d.Observer at z v ∷ before) (next before k (d.Observer at z v)) ys (fewer (bytes_eq x z.name) (times x (item_names ys)) o) h
  extern_number x n ds ty e before k (d.Stream at z f init v ∷ ys) o (inl h) = absurd (let q = sym e ∙ h.1 in cc)
  extern_number x n ds ty e before k (d.Stream at z f init v ∷ ys) o (inr h) = extern_number x n ds ty e (d.Stream at z f init v ∷ before) (next before k (d.Stream at z f init v)) ys (fewer (bytes_eq x z.name) (times x (item_names ys)) o) h
  extern_number x n ds ty e before k (d.Def at z f v ∷ ys) o (inl h) = absurd (let q = sym e ∙ h.1 in cc)
  extern_number x n ds ty e before k (d.Def at z f v ∷ ys) o (inr h) = extern_number x n ds ty e (d.Def at z f v ∷ before) (next before k (d.Def at z f v)) ys (fewer (bytes_eq x z.name) (times x (item_names ys)) o) h
  extern_number x n ds ty e before k (d.Extern at z f ∷ ys) o (inl h) =
      number_here x z.name (extern_names ys) (named_ty (extern_of before f)) (map (λ (i : ExternItem). i.ty) (externs_from (d.Extern at z f ∷ before) (next before k (d.Extern at z f)) ys)) h.0
      ∙ ap (λ m. Some (named_ty m)) (sym h.1)
  extern_number x n ds ty e before k (d.Extern at z f ∷ ys) o (inr h) =
      number_later x z.name (extern_names ys) (named_ty n) (named_ty (extern_of before f)) (map (λ (i : ExternItem). i.ty) (externs_from (d.Extern at z f ∷ before) (next before k (d.Extern at z f)) ys))
      (not_here (bytes_eq x z.name) (times x (item_names ys)) o (item_at x n (d.Extern at z f ∷ before) ys h))
      (extern_number x n ds ty e (d.Extern at z f ∷ before) (next before k (d.Extern at z f)) ys (fewer (bytes_eq x z.name) (times x (item_names ys)) o) h)

  pub def_number : (x : List ℕ) (n : Named) (ds : Declarations) (ty : TypeForm) → n ≡ def_of ds ty → (before : Declarations) (k : ℕ) (ys : List Decl) → times x (item_names ys) ≤ 1 → IsAt x n before ys
      → slice_get (map (λ (e : TreeDef). e.ty) (defs_from before k ys)) (number_in (def_names ys) x) ≡ Some (named_ty n)
  def_number x n ds ty e before k [] o h = absurd h
  def_number x n ds ty e before k (d.Struct at z fields ∷ ys) o (inl h) = absurd h
  def_number x n ds ty e before k (d.Struct at z fields ∷ ys) o (inr h) = def_number x n ds ty e (d.Struct at z fields ∷ before) (next before k (d.Struct at z fields)) ys o h
  def_number x n ds ty e before k (d.Trigger at z guard args ∷ ys) o (inl h) = absurd h
  def_number x n ds ty e before k (d.Trigger at z guard args ∷ ys) o (inr h) = def_number x n ds ty e (d.Trigger at z guard args ∷ before) (next before k (d.Trigger at z guard args)) ys o h
  def_number x n ds ty e before k (d.Observer at z v ∷ ys) o (inl h) = absurd h
  def_number x n ds ty e before k (d.Observer at z v ∷ ys) o (inr h) = def_number x n ds ty e (d.Observer at z v ∷ before) (next before k (d.Observer at z v)) ys (fewer (bytes_eq x z.name) (times x (item_names ys)) o) h
  def_number x n ds ty e before k (d.Stream at z f init v ∷ ys) o (inl h) = absurd (let q = sym e ∙ h.1 in cc)
  def_number x n ds ty e before k (d.Stream at z f init v ∷ ys) o (inr h) = def_number x n ds ty e (d.Stream at z f init v ∷ before) (next before k (d.Stream at z f init v)) ys (fewer (bytes_eq x z.name) (times x (item_names ys)) o) h
  def_number x n ds ty e before k (d.Extern at z f ∷ ys) o (inl h) = absurd (let q = sym e ∙ h.1 in cc)
  def_number x n ds ty e before k (d.Extern at z f ∷ ys) o (inr h) = def_number x n ds ty e (d.Extern at z f ∷ before) (next before k (d.Extern at z f)) ys (fewer (bytes_eq x z.name) (times x (item_names ys)) o) h
  def_number x n ds ty e before k (d.Def at z f v ∷ ys) o (inl h) =
      number_here x z.name (def_names ys) (named_ty (def_of before f)) (map (λ (i : TreeDef). i.ty) (defs_from (d.Def at z f v ∷ before) (next before k (d.Def at z f v)) ys)) h.0
      ∙ ap (λ m. Some (named_ty m)) (sym h.1)
  def_number x n ds ty e before k (d.Def at z f v ∷ ys) o (inr h) =
      number_later x z.name (def_names ys) (named_ty n) (named_ty (def_of before f)) (map (λ (i : TreeDef). i.ty) (defs_from (d.Def at z f v ∷ before) (next before k (d.Def at z f v)) ys))
      (not_here (bytes_eq x z.name) (times x (item_names ys)) o (item_at x n (d.Def at z f v ∷ before) ys h))
      (def_number x n ds ty e (d.Def at z f v ∷ before) (next before k (d.Def at z f v)) ys (fewer (bytes_eq x z.name) (times x (item_names ys)) o) h)

  abbrev signature_at : Declarations → TypeForm → List ConstForm → StreamSignature
  signature_at before ty init = record { ty = ty_of numbers.order (type_of (judge_form before ty)); count = value_count types (ty_of numbers.order (type_of (judge_form before ty))) (flat_map const_words init) }

  -- the stream of a number
  pub record IsStreamAt (Q : Declarations → Decl → Type 0) (n : Named) (o : Option StreamSignature) : Type 0 where
    pub before : Declarations
    pub at : ℕ
    pub name : NameAt
    pub form : TypeForm
    pub init : List ConstForm
    pub expr : Expr
    pub known : Q before (d.Stream at name form init expr)
    pub n_is : n ≡ stream_of before form (length init)
    pub is : o ≡ Some (signature_at before form init)

  moved : (Q : Declarations → Decl → Type 0) (n : Named) (o p : Option StreamSignature) → IsStreamAt Q n o → ((v : StreamSignature) → o ≡ Some v → p ≡ Some v) → IsStreamAt Q n p
  moved Q n o p h f = record { before = h.before; at = h.at; name = h.name; form = h.form; init = h.init; expr = h.expr; known = h.known; n_is = h.n_is; is = f (signature_at h.before h.form h.init) h.is }

  pub stream_number : (Q : Declarations → Decl → Type 0) (x : List ℕ) (n : Named) (ds : Declarations) (ty : TypeForm) (c : ℕ) → n ≡ stream_of ds ty c → (before : Declarations) (k : ℕ) (ys : List Decl) → EachDecl Q before ys → times x (item_names ys) ≤ 1 → IsAt x n before ys
      → IsStreamAt Q n (slice_get (map (stream_signature types) (streams_from before k ys)) (number_in (stream_names ys) x))
  stream_number Q x n ds ty c e before k [] q o h = absurd h
  stream_number Q x n ds ty c e before k (d.Struct at z fields ∷ ys) q o (inl h) = absurd h
  stream_number Q x n ds ty c e before k (d.Struct at z fields ∷ ys) q o (inr h) = stream_number Q x n ds ty c e (d.Struct at z fields ∷ before) (next before k (d.Struct at z fields)) ys q.1 o h
  stream_number Q x n ds ty c e before k (d.Trigger at z guard args ∷ ys) q o (inl h) = absurd h
  stream_number Q x n ds ty c e before k (d.Trigger at z guard args ∷ ys) q o (inr h) = stream_number Q x n ds ty c e (d.Trigger at z guard args ∷ before) (next before k (d.Trigger at z guard args)) ys q.1 o h
  stream_number Q x n ds ty c e before k (d.Observer at z v ∷ ys) q o (inl h) = absurd h
  stream_number Q x n ds ty c e before k (d.Observer at z v ∷ ys) q o (inr h) = stream_number Q x n ds ty c e (d.Observer at z v ∷ before) (next before k (d.Observer at z v)) ys q.1 (fewer (bytes_eq x z.name) (times x (item_names ys)) o) h
  stream_number Q x n ds ty c e before k (d.Extern at z f ∷ ys) q o (inl h) = absurd (let g = sym e ∙ h.1 in cc)
  stream_number Q x n ds ty c e before k (d.Extern at z f ∷ ys) q o (inr h) = stream_number Q x n ds ty c e (d.Extern at z f ∷ before) (next before k (d.Extern at z f)) ys q.1 (fewer (bytes_eq x z.name) (times x (item_names ys)) o) h
  stream_number Q x n ds ty c e before k (d.Def at z f v ∷ ys) q o (inl h) = absurd (let g = sym e ∙ h.1 in cc)
  stream_number Q x n ds ty c e before k (d.Def at z f v ∷ ys) q o (inr h) = stream_number Q x n ds ty c e (d.Def at z f v ∷ before) (next before k (d.Def at z f v)) ys q.1 (fewer (bytes_eq x z.name) (times x (item_names ys)) o) h
  stream_number Q x n ds ty c e before k (d.Stream at z f init v ∷ ys) q o (inl h) = record {
    before = before;
    at = at;
    name = z;
    form = f;
    init = init;
    expr = v;
    known = q.0;
    n_is = h.1;
    is = number_here x z.name (stream_names ys) (signature_at before f init) (map (stream_signature types) (streams_from (d.Stream at z f init v ∷ before) (next before k (d.Stream at z f init v)) ys)) h.0;
  }
  stream_number Q x n ds ty c e before k (d.Stream at z f init v ∷ ys) q o (inr h) =
      let rest = map (stream_signature types) (streams_from (d.Stream at z f init v ∷ before) (next before k (d.Stream at z f init v)) ys) in
      moved Q n (slice_get rest (number_in (stream_names ys) x)) (slice_get (signature_at before f init ∷ rest) (number_in (z.name ∷ stream_names ys) x))
      (stream_number Q x n ds ty c e (d.Stream at z f init v ∷ before) (next before k (d.Stream at z f init v)) ys q.1 (fewer (bytes_eq x z.name) (times x (item_names ys)) o) h)
      (λ w g. number_later x z.name (stream_names ys) w (signature_at before f init) rest (not_here (bytes_eq x z.name) (times x (item_names ys)) o (item_at x n (d.Stream at z f init v ∷ before) ys h)) g)

-- ---- structs

pub record IsStructFound (s : Surface) (x : List ℕ) (st : Struct) : Type 0 where
  pub at : ℕ
  pub name : NameAt
  pub known : IsDecl s st.before (d.Struct at name st.fields)
  pub named : bytes_eq name.name x ≡ true

one_struct : (s : Surface) (before : Declarations) (at : ℕ) (z : NameAt) (fields : List FieldForm) (x : List ℕ) (st : Struct) (b : Bool) → bytes_eq z.name x ≡ b → IsDecl s before (d.Struct at z fields)
    → (if b then Some (record { fields = fields; before = before }) else struct_in before x) ≡ Some st → (struct_in before x ≡ Some st) ⊎ IsStructFound s x st
one_struct s before at z fields x st true q h e =
    let own : Struct = record { fields = fields; before = before } in
    let f : own ≡ st = cc in inr (subst (IsStructFound s x) f (record { at = at; name = z; known = h; named = q }))
one_struct s before at z fields x st false q h e = inl e

struct_more : (s : Surface) (before : Declarations) (y : Decl) (x : List ℕ) (st : Struct) → IsDecl s before y → struct_in (y ∷ before) x ≡ Some st → (struct_in before x ≡ Some st) ⊎ IsStructFound s x st
struct_more s before (d.Struct at z fields) x st h e = one_struct s before at z fields x st (bytes_eq z.name x) refl h e
struct_more s before (d.Extern at z ty) x st h e = inl e
struct_more s before (d.Stream at z ty init v) x st h e = inl e
struct_more s before (d.Def at z ty v) x st h e = inl e
struct_more s before (d.Trigger at z guard args) x st h e = inl e
struct_more s before (d.Observer at z v) x st h e = inl e

struct_located : (s : Surface) (before : Declarations) (ys : List Decl) (x : List ℕ) (st : Struct) → EachDecl (IsDecl s) before ys → struct_in (reversed before ys) x ≡ Some st → (struct_in before x ≡ Some st) ⊎ IsStructFound s x st
struct_located s before [] x st q e = inl e
struct_located s before (y ∷ ys) x st q e = elim (struct_located s (y ∷ before) ys x st q.1 e) [ inl p ↦ struct_more s before y x st q.0 p | inr r ↦ inr r ]

pub struct_found : (s : Surface) (x : List ℕ) (st : Struct) → EachDecl (IsDecl s) [] s.decls → struct_in (all_of s) x ≡ Some st → IsStructFound s x st
struct_found s x st q e = elim (struct_located s [] s.decls x st q e) [ inl p ↦ absurd (cc) | inr r ↦ r ]

fields_typed : (s : Surface) (before : Declarations) → AreIn before (all_of s) → (fs : List FieldForm) → first_of (judge_fields before fs) ≡ None → AllMet (events s) (all_types (judge_fields before fs)) → AllByRecursion (IsTypedForm (all_of s) before) fs
fields_typed s before within [] h m = tt
fields_typed s before within (f ∷ fs) h m =
    let e = both_none (judge_form before f.ty).fault (first_of (judge_fields before fs)) h in
    let t = all_split (λ w. IsTrue (list_any (is_met w) (events s))) (judge_form before f.ty).types (all_types (judge_fields before fs)) m in
    let own = form_typed (events s) before (all_of s) within f.ty e.0 t.0 in
    (record { there = own.there; well = own.well }, fields_typed s before within fs e.1 t.1)

pub members_typed : (s : Surface) (x : List ℕ) (st : Struct) → EachDecl (IsDecl s) [] s.decls → struct_in (all_of s) x ≡ Some st → AllByRecursion (IsTypedForm (all_of s) st.before) st.fields
members_typed s x st q e =
    let r = struct_found s x st q e in
    let js = judge_fields st.before st.fields in
    let p = parts_none (events s) js (have_types js) (if nat_lt most_words (struct_width st.before st.fields) then lacks (TypeTooWide r.at) else has (struct r.name.name)) r.known.faultless r.known.met in
    fields_typed s st.before (within_text s st.before (d.Struct r.at r.name st.fields) r.known) st.fields p.0 p.1
