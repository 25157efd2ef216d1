-- An expression has a type exactly where the function finds it.
use Rattle.std.proofs.Common.{◌≡◌, ℕ, zero, suc, ◌≤◌, Bool, true, false, ◌&&◌, if◌then◌else◌, List, [], ◌∷◌, replicate, Option, Some, None, refl, sym, ap, ◌∙◌}
use Rattle.std.specs.Prelude.{slice_get, nat_le, nat_lt, IsTrue}
use Rattle.std.specs.Option.{option_map}
use Rattle.std.proofs.lemmas.Bool.{and_parts, and_from, eqb-true, eq-eqb, leb-true, le-leb, ltb-true, lt-ltb}
use Rattle.stream_types.specs.declared.scalar.Scalar.{Scalar}
use Rattle.stream_types.specs.declared.scalar.Scalar.TheVariants as scalar
use Rattle.stream_types.specs.declared.scalar.Ty.{Ty}
use Rattle.stream_types.specs.declared.scalar.Ty.TheVariants as ty
use Rattle.stream_types.specs.declared.types.Field.{Field}
use Rattle.stream_types.specs.declared.types.TypeEntry.{TypeEntry}
use Rattle.stream_types.specs.declared.types.TypeEntry.TheVariants as entry
use Rattle.stream_types.specs.Scalars.{is_integer, op1_fits, op2_fits, op2_gives, shift_fits, cast_fits}
use Rattle.stream_types.specs.Numbers.{is_word}
use Rattle.stream_core.specs.declared.node.LibForm.{LibForm}
use Rattle.stream_core.specs.declared.node.LibForm.TheVariants as form
use Rattle.stream_core.specs.Term.{Term, Terms, lit, extern, stream, def, named, missing, dropped, un, bin, shift, cast, and, or, implies, choose, index, field, array, struct, abs, sign, majority, agreed, lib, end, more}
use Rattle.stream_core.specs.Signature.{Signature, StreamSignature}
use Rattle.stream_core.specs.WellTyped.{bool, word32, HasType, HaveTypes, IsArrayOf, IsStructOf, HasMember, StreamHasType, DropHasType, IsGoodForm, AreVotes, operand_types, form_gives, terms_length, field_types}
use Rattle.stream_core.specs.TypeOf.{scalar_place, same_type, same_types, is_found, both_found, are_found, array_entry, struct_entry, elem_type, elem_types, member_types, member_type, stream_type, drop_type, are_votes, are_bounds, is_window, is_good_form, first_then, type_of, types_of}

-- ---- types compared

abbrev scalar_at : ℕ → Scalar
scalar_at zero = scalar.Bool
scalar_at (suc zero) = scalar.Int8
scalar_at (suc (suc zero)) = scalar.Int16
scalar_at (suc (suc (suc zero))) = scalar.Int32
scalar_at (suc (suc (suc (suc zero)))) = scalar.Int64
scalar_at (suc (suc (suc (suc (suc zero))))) = scalar.Word8
scalar_at (suc (suc (suc (suc (suc (suc zero)))))) = scalar.Word16
scalar_at (suc (suc (suc (suc (suc (suc (suc zero))))))) = scalar.Word32
scalar_at _ = scalar.Word64

at_place : (s : Scalar) → scalar_at (scalar_place s) ≡ s
at_place scalar.Bool = refl
at_place scalar.Int8 = refl
at_place scalar.Int16 = refl
at_place scalar.Int32 = refl
at_place scalar.Int64 = refl
at_place scalar.Word8 = refl
at_place scalar.Word16 = refl
at_place scalar.Word32 = refl
at_place scalar.Word64 = refl

pub type_says : (t u : Ty) → same_type t u ≡ true → t ≡ u
type_says (ty.Scalar a) (ty.Scalar b) h = ap ty.Scalar (sym (at_place a) ∙ ap scalar_at (eqb-true (scalar_place a) (scalar_place b) h) ∙ at_place b)
type_says (ty.Array i) (ty.Array j) h = ap ty.Array (eqb-true i j h)
type_says (ty.Struct i) (ty.Struct j) h = ap ty.Struct (eqb-true i j h)
type_says (ty.Scalar a) (ty.Array j) h = absurd (cc)
type_says (ty.Scalar a) (ty.Struct j) h = absurd (cc)
type_says (ty.Array i) (ty.Scalar b) h = absurd (cc)
type_says (ty.Array i) (ty.Struct j) h = absurd (cc)
type_says (ty.Struct i) (ty.Scalar b) h = absurd (cc)
type_says (ty.Struct i) (ty.Array j) h = absurd (cc)

pub type_passes : (t : Ty) → same_type t t ≡ true
type_passes (ty.Scalar a) = eq-eqb (scalar_place a) (scalar_place a) refl
type_passes (ty.Array i) = eq-eqb i i refl
type_passes (ty.Struct i) = eq-eqb i i refl

types_say : (ts us : List Ty) → same_types ts us ≡ true → ts ≡ us
types_say [] [] h = refl
types_say [] (u ∷ us) h = absurd (cc)
types_say (t ∷ ts) [] h = absurd (cc)
types_say (t ∷ ts) (u ∷ us) h =
    let p = and_parts (same_type t u) (same_types ts us) h in
    let e = type_says t u p.0 in
    let r = types_say ts us p.1 in
    cc

types_pass : (ts : List Ty) → same_types ts ts ≡ true
types_pass [] = refl
types_pass (t ∷ ts) = and_from (same_type t t) (same_types ts ts) (type_passes t) (types_pass ts)

found_same : (o p : Option Ty) → is_found o p ≡ true → o ≡ p
found_same (Some t) (Some u) h = ap Some (type_says t u h)
found_same (Some t) None h = absurd (cc)
found_same None p h = absurd (cc)

found_is : (o : Option Ty) (t : Ty) → o ≡ Some t → is_found o (Some t) ≡ true
found_is o t e = ap (λ x. is_found x (Some t)) e ∙ type_passes t

found_both : (o p : Option Ty) (t : Ty) → o ≡ Some t → p ≡ Some t → is_found o p ≡ true
found_both o p t e f = ap (is_found o) f ∙ found_is o t e

both_say : (a b : Option Ty) (t u : Ty) → both_found a t b u ≡ true → (a ≡ Some t) × (b ≡ Some u)
both_say a b t u h = let p = and_parts (is_found a (Some t)) (is_found b (Some u)) h in (found_same a (Some t) p.0, found_same b (Some u) p.1)

both_are : (a b : Option Ty) (t u : Ty) → a ≡ Some t → b ≡ Some u → both_found a t b u ≡ true
both_are a b t u e f = and_from (is_found a (Some t)) (is_found b (Some u)) (found_is a t e) (found_is b u f)

found_lists : (o p : Option (List Ty)) → are_found o p ≡ true → (ts : List Ty) × (o ≡ Some ts) × (p ≡ Some ts)
found_lists (Some ts) (Some us) h = (us, ap Some (types_say ts us h), refl)
found_lists (Some ts) None h = absurd (cc)
found_lists None p h = absurd (cc)

lists_are : (o p : Option (List Ty)) (ts : List Ty) → o ≡ Some ts → p ≡ Some ts → are_found o p ≡ true
lists_are o p ts e f = ap (are_found o) f ∙ ap (λ x. are_found x (Some ts)) e ∙ types_pass ts

some_same : {X : Type 0} (a b : X) → Some a ≡ Some b → a ≡ b
some_same a b e = cc

-- ---- tests

if_some : {X : Type 0} (b : Bool) (o : Option X) (x : X) → (if b then o else None) ≡ Some x → (b ≡ true) × (o ≡ Some x)
if_some true o x e = (refl, e)
if_some false o x e = absurd (cc)

if_passes : {X : Type 0} (b : Bool) (o : Option X) (x : X) → b ≡ true → o ≡ Some x → (if b then o else None) ≡ Some x
if_passes true o x h e = e
if_passes false o x h e = absurd (cc)

votes_say : (es : Terms) → are_votes es ≡ true → AreVotes es
votes_say es h = let p = and_parts (nat_le 1 (terms_length es)) (nat_le (terms_length es) 9) h in (leb-true 1 (terms_length es) p.0, leb-true (terms_length es) 9 p.1)

votes_pass : (es : Terms) → AreVotes es → are_votes es ≡ true
votes_pass es h = and_from (nat_le 1 (terms_length es)) (nat_le (terms_length es) 9) (le-leb 1 (terms_length es) h.0) (le-leb (terms_length es) 9 h.1)

bounds_say : (low high : ℕ) → are_bounds low high ≡ true → (low ≤ high) × (high ≤ 128)
bounds_say low high h = let p = and_parts (nat_le low high) (nat_le high 128) h in (leb-true low high p.0, leb-true high 128 p.1)

bounds_pass : (low high : ℕ) → (low ≤ high) × (high ≤ 128) → are_bounds low high ≡ true
bounds_pass low high h = and_from (nat_le low high) (nat_le high 128) (le-leb low high h.0) (le-leb high 128 h.1)

window_says : (n : ℕ) (s : Scalar) → is_window n s ≡ true → (1 ≤ n) × (n ≤ 12) × IsTrue (is_integer s)
window_says n s h =
    let p = and_parts (nat_le 1 n && nat_le n 12) (is_integer s) h in
    let q = and_parts (nat_le 1 n) (nat_le n 12) p.0 in
    (leb-true 1 n q.0, leb-true n 12 q.1, p.1)

window_passes : (n : ℕ) (s : Scalar) → (1 ≤ n) × (n ≤ 12) × IsTrue (is_integer s) → is_window n s ≡ true
window_passes n s h = and_from (nat_le 1 n && nat_le n 12) (is_integer s) (and_from (nat_le 1 n) (nat_le n 12) (le-leb 1 n h.0) (le-leb n 12 h.1)) h.2

form_says : (f : LibForm) → is_good_form f ≡ true → IsGoodForm f
form_says form.Once h = tt
form_says form.Historically h = tt
form_says form.Yesterday h = tt
form_says form.WeaklyYesterday h = tt
form_says form.Since h = tt
form_says (form.OnceIn low high) h = bounds_say low high h
form_says (form.HistoricallyIn low high) h = bounds_say low high h
form_says (form.SinceIn low high) h = bounds_say low high h
form_says (form.Clock period phase) h =
    let p = and_parts (nat_le 1 period && nat_le period 4294967295) (nat_lt phase period) h in
    let q = and_parts (nat_le 1 period) (nat_le period 4294967295) p.0 in
    (leb-true 1 period q.0, leb-true period 4294967295 q.1, ltb-true phase period p.1)
form_says (form.WindowMax n s) h = window_says n s h
form_says (form.WindowMin n s) h = window_says n s h
form_says (form.WindowSum n s) h = window_says n s h

form_passes : (f : LibForm) → IsGoodForm f → is_good_form f ≡ true
form_passes form.Once h = refl
form_passes form.Historically h = refl
form_passes form.Yesterday h = refl
form_passes form.WeaklyYesterday h = refl
form_passes form.Since h = refl
form_passes (form.OnceIn low high) h = bounds_pass low high h
form_passes (form.HistoricallyIn low high) h = bounds_pass low high h
form_passes (form.SinceIn low high) h = bounds_pass low high h
form_passes (form.Clock period phase) h =
    and_from (nat_le 1 period && nat_le period 4294967295) (nat_lt phase period)
    (and_from (nat_le 1 period) (nat_le period 4294967295) (le-leb 1 period h.0) (le-leb period 4294967295 h.1))
    (lt-ltb phase period h.2)
form_passes (form.WindowMax n s) h = window_passes n s h
form_passes (form.WindowMin n s) h = window_passes n s h
form_passes (form.WindowSum n s) h = window_passes n s h

-- ---- streams, arrays and structs

stream_says : (sig : Signature) (x : ℕ) (o : Option StreamSignature) (t : Ty) → slice_get sig.streams x ≡ o → stream_type o ≡ Some t → StreamHasType sig x t
stream_says sig x None t e h = absurd (cc)
stream_says sig x (Some y) t e h = record { stream = y; is = e; type_is = some_same y.ty t h }

stream_passes : (sig : Signature) (x : ℕ) (t : Ty) → StreamHasType sig x t → stream_type (slice_get sig.streams x) ≡ Some t
stream_passes sig x t h = ap stream_type h.is ∙ ap Some h.type_is

drop_says : (sig : Signature) (x k : ℕ) (o : Option StreamSignature) (t : Ty) → slice_get sig.streams x ≡ o → drop_type k o ≡ Some t → DropHasType sig x k t
drop_says sig x k None t e h = absurd (cc)
drop_says sig x k (Some y) t e h =
    let p = if_some (nat_lt k y.count) (Some y.ty) t h in
    record { stream = y; is = e; type_is = some_same y.ty t p.1; within = ltb-true k y.count p.0 }

drop_passes : (sig : Signature) (x k : ℕ) (t : Ty) → DropHasType sig x k t → drop_type k (slice_get sig.streams x) ≡ Some t
drop_passes sig x k t h = ap (drop_type k) h.is ∙ if_passes (nat_lt k h.stream.count) (Some h.stream.ty) t (lt-ltb k h.stream.count h.within) (ap Some h.type_is)

elem_says : (types : List TypeEntry) (of t : Ty) → elem_type (array_entry types of) ≡ Some t → (n : ℕ) × IsArrayOf types of t n
elem_says types (ty.Scalar s) t h = absurd (cc)
elem_says types (ty.Struct i) t h = absurd (cc)
elem_says types (ty.Array i) t h = by (slice_get types i) refl h
  where
    by : (o : Option TypeEntry) → slice_get types i ≡ o → elem_type o ≡ Some t → (n : ℕ) × IsArrayOf types (ty.Array i) t n
    by None e h = absurd (cc)
    by (Some (entry.Struct name fields)) e h = absurd (cc)
    by (Some (entry.Array elem n)) e h = (n, e ∙ ap (λ u. Some (entry.Array u n)) (some_same elem t h))

elem_passes : (types : List TypeEntry) (of t : Ty) (n : ℕ) → IsArrayOf types of t n → elem_type (array_entry types of) ≡ Some t
elem_passes types (ty.Scalar s) t n h = absurd h
elem_passes types (ty.Struct i) t n h = absurd h
elem_passes types (ty.Array i) t n h = ap elem_type h

elems_say : (types : List TypeEntry) (of : Ty) (ts : List Ty) → elem_types (array_entry types of) ≡ Some ts → (elem : Ty) × (n : ℕ) × IsArrayOf types of elem n × (ts ≡ replicate n elem)
elems_say types (ty.Scalar s) ts h = absurd (cc)
elems_say types (ty.Struct i) ts h = absurd (cc)
elems_say types (ty.Array i) ts h = by (slice_get types i) refl h
  where
    by : (o : Option TypeEntry) → slice_get types i ≡ o → elem_types o ≡ Some ts → (elem : Ty) × (n : ℕ) × IsArrayOf types (ty.Array i) elem n × (ts ≡ replicate n elem)
    by None e h = absurd (cc)
    by (Some (entry.Struct name fields)) e h = absurd (cc)
    by (Some (entry.Array elem n)) e h = (elem, n, e, sym (some_same (replicate n elem) ts h))

elems_pass : (types : List TypeEntry) (of elem : Ty) (n : ℕ) → IsArrayOf types of elem n → elem_types (array_entry types of) ≡ Some (replicate n elem)
elems_pass types (ty.Scalar s) elem n h = absurd h
elems_pass types (ty.Struct i) elem n h = absurd h
elems_pass types (ty.Array i) elem n h = ap elem_types h

members_say : (types : List TypeEntry) (of : Ty) (ts : List Ty) → member_types (struct_entry types of) ≡ Some ts → (fields : List Field) × IsStructOf types of fields × (ts ≡ field_types fields)
members_say types (ty.Scalar s) ts h = absurd (cc)
members_say types (ty.Array i) ts h = absurd (cc)
members_say types (ty.Struct i) ts h = by (slice_get types i) refl h
  where
    by : (o : Option TypeEntry) → slice_get types i ≡ o → member_types o ≡ Some ts → (fields : List Field) × IsStructOf types (ty.Struct i) fields × (ts ≡ field_types fields)
    by None e h = absurd (cc)
    by (Some (entry.Array elem n)) e h = absurd (cc)
    by (Some (entry.Struct name fields)) e h = (fields, (name, e), sym (some_same (field_types fields) ts h))

members_pass : (types : List TypeEntry) (of : Ty) (fields : List Field) → IsStructOf types of fields → member_types (struct_entry types of) ≡ Some (field_types fields)
members_pass types (ty.Scalar s) fields h = absurd h
members_pass types (ty.Array i) fields h = absurd h
members_pass types (ty.Struct i) fields h = ap member_types h.1

mapped_says : (o : Option Field) (t : Ty) → option_map (λ (f : Field). f.ty) o ≡ Some t → (f : Field) × (o ≡ Some f) × (f.ty ≡ t)
mapped_says None t h = absurd (cc)
mapped_says (Some f) t h = (f, refl, some_same f.ty t h)

member_says : (types : List TypeEntry) (of : Ty) (k : ℕ) (t : Ty) → member_type k (struct_entry types of) ≡ Some t → HasMember types of k t
member_says types (ty.Scalar s) k t h = absurd (cc)
member_says types (ty.Array i) k t h = absurd (cc)
member_says types (ty.Struct i) k t h = by (slice_get types i) refl h
  where
    by : (o : Option TypeEntry) → slice_get types i ≡ o → member_type k o ≡ Some t → HasMember types (ty.Struct i) k t
    by None e h = absurd (cc)
    by (Some (entry.Array elem n)) e h = absurd (cc)
    by (Some (entry.Struct name fields)) e h = let m = mapped_says (slice_get fields k) t h in record { fields = fields; struct_is = (name, e); member = m.0; is = m.1; type_is = m.2 }

member_passes : (types : List TypeEntry) (of : Ty) (k : ℕ) (t : Ty) → HasMember types of k t → member_type k (struct_entry types of) ≡ Some t
member_passes types (ty.Scalar s) k t h = absurd h.struct_is
member_passes types (ty.Array i) k t h = absurd h.struct_is
member_passes types (ty.Struct i) k t h = ap (member_type k) h.struct_is.1 ∙ ap (option_map (λ (f : Field). f.ty)) h.is ∙ ap Some h.type_is

then_says : (o : Option Ty) (p : Option (List Ty)) (ts : List Ty) → first_then o p ≡ Some ts → (u : Ty) × (us : List Ty) × (o ≡ Some u) × (p ≡ Some us) × (ts ≡ u ∷ us)
then_says None p ts h = absurd (cc)
then_says (Some u) None ts h = absurd (cc)
then_says (Some u) (Some us) ts h = (u, us, refl, refl, sym (some_same (u ∷ us) ts h))

-- ---- expressions

module _ (sig : Signature) where
  -- a test over one operand, over two, or over all
  of_one : (b : Bool) (a : Term) (u v t : Ty) → (if b && is_found (type_of sig a) (Some u) then Some v else None) ≡ Some t → (b ≡ true) × (type_of sig a ≡ Some u) × (t ≡ v)
  of_one b a u v t h =
      let p = if_some (b && is_found (type_of sig a) (Some u)) (Some v) t h in
      let q = and_parts b (is_found (type_of sig a) (Some u)) p.0 in
      (q.0, found_same (type_of sig a) (Some u) q.1, sym (some_same v t p.1))

  of_two : (f : Bool) (a b : Term) (u w v t : Ty) → (if f && both_found (type_of sig a) u (type_of sig b) w then Some v else None) ≡ Some t → (f ≡ true) × (type_of sig a ≡ Some u) × (type_of sig b ≡ Some w) × (t ≡ v)
  of_two f a b u w v t h =
      let p = if_some (f && both_found (type_of sig a) u (type_of sig b) w) (Some v) t h in
      let q = and_parts f (both_found (type_of sig a) u (type_of sig b) w) p.0 in
      let r = both_say (type_of sig a) (type_of sig b) u w q.1 in
      (q.0, r.0, r.1, sym (some_same v t p.1))

  of_tests : (a b : Term) (t : Ty) → (if both_found (type_of sig a) bool (type_of sig b) bool then Some bool else None) ≡ Some t → (type_of sig a ≡ Some bool) × (type_of sig b ≡ Some bool) × (t ≡ bool)
  of_tests a b t h =
      let p = if_some (both_found (type_of sig a) bool (type_of sig b) bool) (Some bool) t h in
      let r = both_say (type_of sig a) (type_of sig b) bool bool p.0 in
      (r.0, r.1, sym (some_same bool t p.1))

  of_all : (f : Bool) (es : Terms) (ts : List Ty) (v t : Ty) → (if f && are_found (types_of sig es) (Some ts) then Some v else None) ≡ Some t → (f ≡ true) × (types_of sig es ≡ Some ts) × (t ≡ v)
  of_all f es ts v t h =
      let p = if_some (f && are_found (types_of sig es) (Some ts)) (Some v) t h in
      let q = and_parts f (are_found (types_of sig es) (Some ts)) p.0 in
      let r = found_lists (types_of sig es) (Some ts) q.1 in
      (q.0, r.1 ∙ sym r.2, sym (some_same v t p.1))

  mutual
    -- a type that is found is the expression's
    pub of_type : (e : Term) (t : Ty) → type_of sig e ≡ Some t → HasType sig e t
    of_type (lit c w) t h = let p = if_some (is_word c w) (Some (ty.Scalar c)) t h in (p.0, sym (some_same (ty.Scalar c) t p.1))
    of_type (extern x) t h = h
    of_type (stream x) t h = stream_says sig x (slice_get sig.streams x) t refl h
    of_type (def d) t h = h
    of_type (named d a) t h =
        let p = if_some (is_found (slice_get sig.defs d) (type_of sig a)) (type_of sig a) t h in
        (found_same (slice_get sig.defs d) (type_of sig a) p.0 ∙ p.1, of_type a t p.1)
    of_type missing t h = absurd (cc)
    of_type (dropped x k) t h = drop_says sig x k (slice_get sig.streams x) t refl h
    of_type (un o c a) t h = let r = of_one (op1_fits o c) a (ty.Scalar c) (ty.Scalar c) t h in (r.0, of_type a (ty.Scalar c) r.1, r.2)
    of_type (bin o c a b) t h = let r = of_two (op2_fits o c) a b (ty.Scalar c) (ty.Scalar c) (ty.Scalar (op2_gives o c)) t h in (r.0, of_type a (ty.Scalar c) r.1, of_type b (ty.Scalar c) r.2, r.3)
    of_type (shift d c a cs b) t h = let r = of_two (shift_fits c cs) a b (ty.Scalar c) (ty.Scalar cs) (ty.Scalar c) t h in (r.0, of_type a (ty.Scalar c) r.1, of_type b (ty.Scalar cs) r.2, r.3)
    of_type (cast from to a) t h = let r = of_one (cast_fits from to) a (ty.Scalar from) (ty.Scalar to) t h in (r.0, of_type a (ty.Scalar from) r.1, r.2)
    of_type (and a b) t h = let r = of_tests a b t h in (of_type a bool r.0, of_type b bool r.1, r.2)
    of_type (or a b) t h = let r = of_tests a b t h in (of_type a bool r.0, of_type b bool r.1, r.2)
    of_type (implies a b) t h = let r = of_tests a b t h in (of_type a bool r.0, of_type b bool r.1, r.2)
    of_type (choose c a b) t h =
        let p = if_some (is_found (type_of sig c) (Some bool) && is_found (type_of sig a) (type_of sig b)) (type_of sig a) t h in
        let q = and_parts (is_found (type_of sig c) (Some bool)) (is_found (type_of sig a) (type_of sig b)) p.0 in
        (of_type c bool (found_same (type_of sig c) (Some bool) q.0), of_type a t p.1, of_type b t (sym (found_same (type_of sig a) (type_of sig b) q.1) ∙ p.1))
    of_type (index of a i) t h =
        let p = if_some (both_found (type_of sig a) of (type_of sig i) word32) (elem_type (array_entry sig.types of)) t h in
        let q = both_say (type_of sig a) (type_of sig i) of word32 p.0 in
        let r = elem_says sig.types of t p.1 in
        (r.0, r.1, of_type a of q.0, of_type i word32 q.1)
    of_type (field of k a) t h =
        let p = if_some (is_found (type_of sig a) (Some of)) (member_type k (struct_entry sig.types of)) t h in
        (member_says sig.types of k t p.1, of_type a of (found_same (type_of sig a) (Some of) p.0))
    of_type (array of es) t h =
        let p = if_some (are_found (types_of sig es) (elem_types (array_entry sig.types of))) (Some of) t h in
        let q = found_lists (types_of sig es) (elem_types (array_entry sig.types of)) p.0 in
        let r = elems_say sig.types of q.0 q.2 in
        (r.0, r.1, r.2, of_types es (replicate r.1 r.0) (q.1 ∙ ap Some r.3), sym (some_same of t p.1))
    of_type (struct of es) t h =
        let p = if_some (are_found (types_of sig es) (member_types (struct_entry sig.types of))) (Some of) t h in
        let q = found_lists (types_of sig es) (member_types (struct_entry sig.types of)) p.0 in
        let r = members_say sig.types of q.0 q.2 in
        (r.0, r.1, of_types es (field_types r.0) (q.1 ∙ ap Some r.2), sym (some_same of t p.1))
    of_type (abs c a) t h = let r = of_one (is_integer c) a (ty.Scalar c) (ty.Scalar c) t h in (r.0, of_type a (ty.Scalar c) r.1, r.2)
    of_type (sign c a) t h = let r = of_one (is_integer c) a (ty.Scalar c) (ty.Scalar c) t h in (r.0, of_type a (ty.Scalar c) r.1, r.2)
    of_type (majority c es) t h =
        let r = of_all (are_votes es) es (replicate (terms_length es) (ty.Scalar c)) (ty.Scalar c) t h in
        (votes_say es r.0, of_types es (replicate (terms_length es) (ty.Scalar c)) r.1, r.2)
    of_type (agreed c es) t h =
        let r = of_all (are_votes es) es (replicate (terms_length es) (ty.Scalar c)) bool t h in
        (votes_say es r.0, of_types es (replicate (terms_length es) (ty.Scalar c)) r.1, r.2)
    of_type (lib k form es) t h =
        let r = of_all (is_good_form form) es (operand_types form) (form_gives form) t h in
        (form_says form r.0, of_types es (operand_types form) r.1, r.2)

    pub of_types : (es : Terms) (ts : List Ty) → types_of sig es ≡ Some ts → HaveTypes sig es ts
    of_types end [] h = tt
    of_types end (t ∷ ts) h = absurd (cc)
    of_types (more a es) [] h = let r = then_says (type_of sig a) (types_of sig es) [] h in let e = r.4 in absurd (cc)
    of_types (more a es) (t ∷ ts) h =
        let r = then_says (type_of sig a) (types_of sig es) (t ∷ ts) h in
        let head : r.0 ≡ t = let e = r.4 in cc in
        let tail : r.1 ≡ ts = let e = r.4 in cc in
        (of_type a t (r.2 ∙ ap Some head), of_types es ts (r.3 ∙ ap Some tail))

  -- ---- and back

  one_is : (b : Bool) (a : Term) (u v t : Ty) → b ≡ true → type_of sig a ≡ Some u → t ≡ v → (if b && is_found (type_of sig a) (Some u) then Some v else None) ≡ Some t
  one_is b a u v t p q e = if_passes (b && is_found (type_of sig a) (Some u)) (Some v) t (and_from b (is_found (type_of sig a) (Some u)) p (found_is (type_of sig a) u q)) (ap Some (sym e))

  two_are : (f : Bool) (a b : Term) (u w v t : Ty) → f ≡ true → type_of sig a ≡ Some u → type_of sig b ≡ Some w → t ≡ v → (if f && both_found (type_of sig a) u (type_of sig b) w then Some v else None) ≡ Some t
  two_are f a b u w v t p q r e =
      if_passes (f && both_found (type_of sig a) u (type_of sig b) w) (Some v) t
      (and_from f (both_found (type_of sig a) u (type_of sig b) w) p (both_are (type_of sig a) (type_of sig b) u w q r)) (ap Some (sym e))

  tests_are : (a b : Term) (t : Ty) → type_of sig a ≡ Some bool → type_of sig b ≡ Some bool → t ≡ bool → (if both_found (type_of sig a) bool (type_of sig b) bool then Some bool else None) ≡ Some t
  tests_are a b t q r e = if_passes (both_found (type_of sig a) bool (type_of sig b) bool) (Some bool) t (both_are (type_of sig a) (type_of sig b) bool bool q r) (ap Some (sym e))

  all_are : (f : Bool) (es : Terms) (ts : List Ty) (v t : Ty) → f ≡ true → types_of sig es ≡ Some ts → t ≡ v → (if f && are_found (types_of sig es) (Some ts) then Some v else None) ≡ Some t
  all_are f es ts v t p q e = if_passes (f && are_found (types_of sig es) (Some ts)) (Some v) t (and_from f (are_found (types_of sig es) (Some ts)) p (lists_are (types_of sig es) (Some ts) ts q refl)) (ap Some (sym e))

  mutual
    -- an expression's type is found
    pub type_is : (e : Term) (t : Ty) → HasType sig e t → type_of sig e ≡ Some t
    type_is (lit c w) t h = if_passes (is_word c w) (Some (ty.Scalar c)) t h.0 (ap Some (sym h.1))
    type_is (extern x) t h = h
    type_is (stream x) t h = stream_passes sig x t h
    type_is (def d) t h = h
    type_is (named d a) t h = let e = type_is a t h.1 in if_passes (is_found (slice_get sig.defs d) (type_of sig a)) (type_of sig a) t (found_both (slice_get sig.defs d) (type_of sig a) t h.0 e) e
    type_is missing t h = absurd h
    type_is (dropped x k) t h = drop_passes sig x k t h
    type_is (un o c a) t h = one_is (op1_fits o c) a (ty.Scalar c) (ty.Scalar c) t h.0 (type_is a (ty.Scalar c) h.1) h.2
    type_is (bin o c a b) t h = two_are (op2_fits o c) a b (ty.Scalar c) (ty.Scalar c) (ty.Scalar (op2_gives o c)) t h.0 (type_is a (ty.Scalar c) h.1) (type_is b (ty.Scalar c) h.2) h.3
    type_is (shift d c a cs b) t h = two_are (shift_fits c cs) a b (ty.Scalar c) (ty.Scalar cs) (ty.Scalar c) t h.0 (type_is a (ty.Scalar c) h.1) (type_is b (ty.Scalar cs) h.2) h.3
    type_is (cast from to a) t h = one_is (cast_fits from to) a (ty.Scalar from) (ty.Scalar to) t h.0 (type_is a (ty.Scalar from) h.1) h.2
    type_is (and a b) t h = tests_are a b t (type_is a bool h.0) (type_is b bool h.1) h.2
    type_is (or a b) t h = tests_are a b t (type_is a bool h.0) (type_is b bool h.1) h.2
    type_is (implies a b) t h = tests_are a b t (type_is a bool h.0) (type_is b bool h.1) h.2
    type_is (choose c a b) t h =
        let e = type_is a t h.1 in
        if_passes (is_found (type_of sig c) (Some bool) && is_found (type_of sig a) (type_of sig b)) (type_of sig a) t
        (and_from (is_found (type_of sig c) (Some bool)) (is_found (type_of sig a) (type_of sig b)) (found_is (type_of sig c) bool (type_is c bool h.0)) (found_both (type_of sig a) (type_of sig b) t e (type_is b t h.2))) e
    type_is (index of a i) t h =
        if_passes (both_found (type_of sig a) of (type_of sig i) word32) (elem_type (array_entry sig.types of)) t
        (both_are (type_of sig a) (type_of sig i) of word32 (type_is a of h.2) (type_is i word32 h.3)) (elem_passes sig.types of t h.0 h.1)
    type_is (field of k a) t h = if_passes (is_found (type_of sig a) (Some of)) (member_type k (struct_entry sig.types of)) t (found_is (type_of sig a) of (type_is a of h.1)) (member_passes sig.types of k t h.0)
    type_is (array of es) t h =
        let ts = replicate h.1 h.0 in
        if_passes (are_found (types_of sig es) (elem_types (array_entry sig.types of))) (Some of) t
        (lists_are (types_of sig es) (elem_types (array_entry sig.types of)) ts (types_are es ts h.3) (elems_pass sig.types of h.0 h.1 h.2)) (ap Some (sym h.4))
    type_is (struct of es) t h =
        let ts = field_types h.0 in
        if_passes (are_found (types_of sig es) (member_types (struct_entry sig.types of))) (Some of) t
        (lists_are (types_of sig es) (member_types (struct_entry sig.types of)) ts (types_are es ts h.2) (members_pass sig.types of h.0 h.1)) (ap Some (sym h.3))
    type_is (abs c a) t h = one_is (is_integer c) a (ty.Scalar c) (ty.Scalar c) t h.0 (type_is a (ty.Scalar c) h.1) h.2
    type_is (sign c a) t h = one_is (is_integer c) a (ty.Scalar c) (ty.Scalar c) t h.0 (type_is a (ty.Scalar c) h.1) h.2
    type_is (majority c es) t h = let ts = replicate (terms_length es) (ty.Scalar c) in all_are (are_votes es) es ts (ty.Scalar c) t (votes_pass es h.0) (types_are es ts h.1) h.2
    type_is (agreed c es) t h = let ts = replicate (terms_length es) (ty.Scalar c) in all_are (are_votes es) es ts bool t (votes_pass es h.0) (types_are es ts h.1) h.2
    type_is (lib k form es) t h = all_are (is_good_form form) es (operand_types form) (form_gives form) t (form_passes form h.0) (types_are es (operand_types form) h.1) h.2

    pub types_are : (es : Terms) (ts : List Ty) → HaveTypes sig es ts → types_of sig es ≡ Some ts
    types_are end [] h = refl
    types_are end (t ∷ ts) h = absurd h
    types_are (more a es) [] h = absurd h
    types_are (more a es) (t ∷ ts) h = ap (λ o. first_then o (types_of sig es)) (type_is a t h.0) ∙ ap (first_then (Some t)) (types_are es ts h.1)
