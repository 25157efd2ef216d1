-- What a verdict that has a type says of the operands, and of the tree over them.
use Rattle.std.proofs.Common.{◌≡◌, ℕ, zero, suc, ◌+◌, ◌≤◌, Bool, true, false, List, [], ◌∷◌, map, length, replicate, refl, sym, ap, ◌∙◌, subst, arith}
use Rattle.std.specs.Prelude.{◌&&◌, not, cond, if◌then◌else◌, is_some, slice_get, bytes_eq, Option, Some, None, IsTrue}
use Rattle.std.specs.List.{list_all, list_any, position_or_len, AllByRecursion}
use Rattle.std.proofs.lemmas.Bool.{and_parts}
use Rattle.stream_types.specs.declared.scalar.Scalar.{Scalar}
use Rattle.stream_types.specs.declared.scalar.Op1.{Op1}
use Rattle.stream_types.specs.declared.scalar.Op2.{Op2}
use Rattle.stream_types.specs.declared.scalar.Dir.{Dir}
use Rattle.stream_types.specs.declared.scalar.Ty.{Ty}
use Rattle.stream_types.specs.declared.scalar.Ty.TheVariants as ty
use Rattle.stream_types.specs.declared.types.Field.{Field}
use Rattle.stream_types.specs.Scalars.{is_integer, op1_fits, op2_fits, op2_gives, shift_fits, cast_fits}
use Rattle.stream_core.specs.Term as t
use Rattle.stream_core.specs.Term.{Term, Terms}
use Rattle.stream_core.specs.Signature.{Signature}
use Rattle.stream_core.specs.WellTyped.{HasType, HaveTypes, ListHasTypes, AreVotes, terms_length, field_types}
use Rattle.stream_core.specs.WellTyped.{bool as ty_bool}
use Rattle.spec_text.specs.declared.surface.FieldForm.{FieldForm}
use Rattle.spec_text.specs.declared.surface.NameAt.{NameAt}
use Rattle.spec_text.specs.declared.surface.TypeForm.{TypeForm}
use Rattle.type_check.specs.declared.fault.TypeFault.{TypeFault}
use Rattle.type_check.specs.declared.fault.TypeFault.TheVariants.{Unknown, NestedArray, TypeTooWide, TypeClash}
use Rattle.type_check.specs.NamedType.{NamedType, scalar, struct, array, bool, word32, same_type, is_array, Declarations, Struct, struct_in}
use Rattle.type_check.specs.Judged.{Verdict, has, lacks, if_so, Judged, type_of, types_of, judge_form, on_one, on_two, on_shift, on_cast, on_truths, on_choice, on_integer, integral, on_index, on_items, on_elements, is_too_wide, on_votes, is_scalar_that, any_scalar, is_bool, on_record, are_fields, member_in}
use Rattle.type_check.specs.TypeOrder.{number_of, ty_of, field_of, fields_of}
use Rattle.type_check.proofs.Meaning.{same_true}
use Rattle.typed_text.specs.ReadSpec.{Read, terms_from, terms, scalar_in, first_scalar, is_member}
use Rattle.typed_text.proofs.Sound.{WellNamed, IsEntered, judged_of, own_type, own_ty, IsSound, AllSound, Gives, IsTypedForm}

pub if_has : (b : Bool) (u w : NamedType) (e : TypeFault) → if_so b u e ≡ has w → (b ≡ true) × (u ≡ w)
if_has true u w e h = (refl, cc)
if_has false u w e h = absurd (cc)

else_has : (b : Bool) (e : TypeFault) (v : Verdict) (w : NamedType) → (if b then lacks e else v) ≡ has w → (b ≡ false) × (v ≡ has w)
else_has true e v w h = absurd (cc)
else_has false e v w h = (refl, h)

then_has : (b : Bool) (e : TypeFault) (v : Verdict) (w : NamedType) → (if b then v else lacks e) ≡ has w → (b ≡ true) × (v ≡ has w)
then_has true e v w h = (refl, h)
then_has false e v w h = absurd (cc)

-- ---- operators

pub un_gives : (order : List NamedType) (all : Declarations) (sig : Signature) (at : ℕ) (op : Op1) (u w : NamedType) (x : Term) → on_one at op u ≡ has w → HasType sig x (ty_of order u) → Gives order all sig w (t.un op (scalar_in u) x)
un_gives order all sig at op (scalar s) w x e h =
    let p = if_has (op1_fits op s) (scalar s) w (TypeClash at) e in
    (subst (WellNamed all) p.1 tt, (p.0, h, sym (ap (ty_of order) p.1)))
un_gives order all sig at op (struct y) w x e h = absurd (cc)
un_gives order all sig at op (array u n) w x e h = absurd (cc)

pub bin_gives : (order : List NamedType) (all : Declarations) (sig : Signature) (at : ℕ) (op : Op2) (u v w : NamedType) (x y : Term) → on_two at op u v ≡ has w → HasType sig x (ty_of order u) → HasType sig y (ty_of order v)
    → Gives order all sig w (t.bin op (scalar_in u) x y)
bin_gives order all sig at op (scalar s) v w x y e h k =
    let p = if_has (op2_fits op s && same_type (scalar s) v) (scalar (op2_gives op s)) w (TypeClash at) e in
    let q = and_parts (op2_fits op s) (same_type (scalar s) v) p.0 in
    let own : HasType sig y (ty.Scalar s) = subst (λ z. HasType sig y (ty_of order z)) (sym (same_true (scalar s) v q.1)) k in
    (subst (WellNamed all) p.1 tt, (q.0, h, own, sym (ap (ty_of order) p.1)))
bin_gives order all sig at op (struct z) v w x y e h k = absurd (cc)
bin_gives order all sig at op (array u n) v w x y e h k = absurd (cc)

pub shift_gives : (order : List NamedType) (all : Declarations) (sig : Signature) (at : ℕ) (dir : Dir) (u v w : NamedType) (x y : Term) → on_shift at u v ≡ has w → HasType sig x (ty_of order u) → HasType sig y (ty_of order v)
    → Gives order all sig w (t.shift dir (scalar_in u) x (scalar_in v) y)
shift_gives order all sig at dir (scalar s) (scalar c) w x y e h k =
    let p = if_has (shift_fits s c) (scalar s) w (TypeClash at) e in
    (subst (WellNamed all) p.1 tt, (p.0, h, k, sym (ap (ty_of order) p.1)))
shift_gives order all sig at dir (scalar s) (struct z) w x y e h k = absurd (cc)
shift_gives order all sig at dir (scalar s) (array v n) w x y e h k = absurd (cc)
shift_gives order all sig at dir (struct z) v w x y e h k = absurd (cc)
shift_gives order all sig at dir (array u n) v w x y e h k = absurd (cc)

pub cast_gives : (order : List NamedType) (all : Declarations) (sig : Signature) (at : ℕ) (to from w j : NamedType) (x : Term) → on_cast at to from ≡ has w → j ≡ w → HasType sig x (ty_of order from)
    → Gives order all sig w (t.cast (scalar_in from) (scalar_in j) x)
cast_gives order all sig at (scalar to) (scalar from) w j x e f h =
    let p = if_has (cast_fits from to) (scalar to) w (TypeClash at) e in
    let own : Gives order all sig (scalar to) (t.cast from (scalar_in (scalar to)) x) = (tt, (p.0, h, refl)) in
    let moved : Gives order all sig w (t.cast from (scalar_in w) x) = subst (λ z. Gives order all sig z (t.cast from (scalar_in z) x)) p.1 own in
    subst (λ z. Gives order all sig w (t.cast from (scalar_in z) x)) (sym f) moved
cast_gives order all sig at (scalar to) (struct z) w j x e f h = absurd (cc)
cast_gives order all sig at (scalar to) (array v n) w j x e f h = absurd (cc)
cast_gives order all sig at (struct z) v w j x e f h = absurd (cc)
cast_gives order all sig at (array u n) v w j x e f h = absurd (cc)

-- ---- truth values

truth_is : (u : NamedType) → is_bool u ≡ true → u ≡ bool
truth_is u h = same_true u bool h

truth_typed : (order : List NamedType) (sig : Signature) (u : NamedType) (x : Term) → is_bool u ≡ true → HasType sig x (ty_of order u) → HasType sig x ty_bool
truth_typed order sig u x e h = subst (λ z. HasType sig x (ty_of order z)) (truth_is u e) h

pub truths_typed : (order : List NamedType) (all : Declarations) (sig : Signature) (ps : List Read) → AllSound order all sig ps → list_all is_bool (types_of (map judged_of ps)) ≡ true → (k : ℕ) → ListHasTypes sig (terms_from k ps) (map (λ (p : Read). ty_bool) ps)
truths_typed order all sig [] h e k = tt
truths_typed order all sig (p ∷ ps) h e k =
    let q = and_parts (is_bool (type_of p.judged)) (list_all is_bool (types_of (map judged_of ps))) e in
    (truth_typed order sig (type_of p.judged) (p.term k) q.0 (h.0.typed k), truths_typed order all sig ps h.1 q.1 (k + p.count))

-- operands that are truth values, and a truth value over them
pub record AreTruths (ts : List NamedType) (w : NamedType) : Type 0 where
  pub each : list_all is_bool ts ≡ true
  pub truth : bool ≡ w

pub truths_has : (at : ℕ) (ts : List NamedType) (w : NamedType) → on_truths at ts ≡ has w → AreTruths ts w
truths_has at ts w e = let p = if_has (list_all is_bool ts) bool w (TypeClash at) e in record { each = p.0; truth = p.1 }

pub choice_gives : (order : List NamedType) (all : Declarations) (sig : Signature) (at : ℕ) (c u v w : NamedType) (x y z : Term) → on_choice at c u v ≡ has w → WellNamed all u → HasType sig x (ty_of order c) → HasType sig y (ty_of order u) → HasType sig z (ty_of order v)
    → Gives order all sig w (t.choose x y z)
choice_gives order all sig at c u v w x y z e good h k l =
    let p = if_has (is_bool c && same_type u v) u w (TypeClash at) e in
    let q = and_parts (is_bool c) (same_type u v) p.0 in
    let other : HasType sig z (ty_of order u) = subst (λ a. HasType sig z (ty_of order a)) (sym (same_true u v q.1)) l in
    subst (λ a. Gives order all sig a (t.choose x y z)) p.1 (good, (truth_typed order sig c x q.0 h, k, other))

-- ---- integers

-- an operand that is an integer, of the type of what is made of it
pub record IsInteger (order : List NamedType) (u w : NamedType) : Type 0 where
  pub fits : IsTrue (is_integer (scalar_in u))
  pub own_is : ty_of order u ≡ ty.Scalar (scalar_in u)
  pub same : ty_of order w ≡ ty.Scalar (scalar_in u)

integer_has : (order : List NamedType) (at : ℕ) (u w : NamedType) → on_integer at u ≡ has w → IsInteger order u w
integer_has order at (scalar s) w e = let p = if_has (is_integer s) (scalar s) w (TypeClash at) e in record { fits = p.0; own_is = refl; same = sym (ap (ty_of order) p.1) }
integer_has order at (struct z) w e = absurd (cc)
integer_has order at (array u n) w e = absurd (cc)

pub integer_named : (all : Declarations) (at : ℕ) (u w : NamedType) → on_integer at u ≡ has w → WellNamed all u → WellNamed all w
integer_named all at u w e h = subst (WellNamed all) (if_has (integral u) u w (TypeClash at) e).1 h

pub integer_of : (order : List NamedType) (at : ℕ) (u w : NamedType) → on_integer at u ≡ has w → IsInteger order u w
integer_of order at u w e = integer_has order at u w e

pub integer_typed : (order : List NamedType) (sig : Signature) (u w : NamedType) (x : Term) → IsInteger order u w → HasType sig x (ty_of order u) → HasType sig x (ty.Scalar (scalar_in u))
integer_typed order sig u w x i h = subst (HasType sig x) i.own_is h

-- ---- arrays and structs

pub index_gives : (order : List NamedType) (all : Declarations) (sig : Signature) (at : ℕ) (u v w : NamedType) (x y : Term) → on_index at u v ≡ has w → WellNamed all u → IsEntered all order sig.types u → HasType sig x (ty_of order u) → HasType sig y (ty_of order v)
    → Gives order all sig w (t.index (ty_of order u) x y)
index_gives order all sig at (scalar s) v w x y e good there h k = absurd (cc)
index_gives order all sig at (struct z) v w x y e good there h k = absurd (cc)
index_gives order all sig at (array u n) v w x y e good there h k =
    let p = if_has (same_type v word32) u w (TypeClash at) e in
    let own : HasType sig y (ty_of order word32) = subst (λ a. HasType sig y (ty_of order a)) (same_true v word32 p.0) k in
    subst (λ a. Gives order all sig a (t.index (ty_of order (array u n)) x y)) p.1 (good, (n, there, h, own))

-- the elements that are written one by one
pub record AreItems (ts : List NamedType) (w : NamedType) : Type 0 where
  pub first : NamedType
  pub rest : List NamedType
  pub ts_are : ts ≡ first ∷ rest
  pub alike : list_all (same_type first) rest ≡ true
  pub ty_is : array first (suc (length rest)) ≡ w

pub elements_has : (ds : Declarations) (at n : ℕ) (u w : NamedType) → on_elements ds at n u ≡ has w → array u n ≡ w
elements_has ds at n u w e =
    let p = else_has (is_array u) (NestedArray at) (if is_too_wide ds n u then lacks (TypeTooWide at) else has (array u n)) w e in
    let q = else_has (is_too_wide ds n u) (TypeTooWide at) (has (array u n)) w p.1 in
    let r = q.1 in cc

pub items_has : (ds : Declarations) (at : ℕ) (ts : List NamedType) (w : NamedType) → on_items ds at ts ≡ has w → AreItems ts w
items_has ds at [] w e = absurd (cc)
items_has ds at (u ∷ ts) w e =
    let p = else_has (list_any is_array (u ∷ ts)) (NestedArray at) (if list_all (same_type u) ts then on_elements ds at (suc (length ts)) u else lacks (TypeClash at)) w e in
    let q = then_has (list_all (same_type u) ts) (TypeClash at) (on_elements ds at (suc (length ts)) u) w p.1 in
    record { first = u; rest = ts; ts_are = refl; alike = q.0; ty_is = elements_has ds at (suc (length ts)) u w q.1 }

-- expressions of one type
pub alike_typed : (order : List NamedType) (all : Declarations) (sig : Signature) (u : NamedType) (ps : List Read) → AllSound order all sig ps → list_all (same_type u) (types_of (map judged_of ps)) ≡ true → (k : ℕ)
    → HaveTypes sig (terms (terms_from k ps)) (replicate (length (types_of (map judged_of ps))) (ty_of order u))
alike_typed order all sig u [] h e k = tt
alike_typed order all sig u (p ∷ ps) h e k =
    let q = and_parts (same_type u (type_of p.judged)) (list_all (same_type u) (types_of (map judged_of ps))) e in
    (subst (λ z. HasType sig (p.term k) (ty_of order z)) (sym (same_true u (type_of p.judged) q.0)) (h.0.typed k), alike_typed order all sig u ps h.1 q.1 (k + p.count))

pub as_many : (ps : List Read) (k : ℕ) → terms_length (terms (terms_from k ps)) ≡ length (types_of (map judged_of ps))
as_many [] k = refl
as_many (p ∷ ps) k = ap suc (as_many ps (k + p.count))

pub array_gives : (order : List NamedType) (all : Declarations) (sig : Signature) (ds : Declarations) (at : ℕ) (ps : List Read) (w j : NamedType) → on_items ds at (types_of (map judged_of ps)) ≡ has w → j ≡ w → AllSound order all sig ps
    → (WellNamed all w → IsEntered all order sig.types w) → (k : ℕ) → Gives order all sig w (t.array (ty_of order j) (terms (terms_from k ps)))
array_gives order all sig ds at [] w j e f h there k = absurd (cc)
array_gives order all sig ds at (p ∷ ps) w j e f h there k =
    let i = items_has ds at (types_of (map judged_of (p ∷ ps))) w e in
    let u = type_of p.judged in
    let n = length (types_of (map judged_of ps)) in
    let own = first_of_items i.first i.rest u (types_of (map judged_of ps)) w i.ts_are i.alike i.ty_is in
    let good : WellNamed all w = subst (WellNamed all) own.1 h.0.well in
    let entered : IsEntered all order sig.types (array u (suc n)) = subst (IsEntered all order sig.types) (sym own.1) (there good) in
    let many : HaveTypes sig (terms (terms_from k (p ∷ ps))) (replicate (suc n) (ty_of order u)) = (h.0.typed k, alike_typed order all sig u ps h.1 own.0 (k + p.count)) in
    let whole : Gives order all sig (array u (suc n)) (t.array (ty_of order (array u (suc n))) (terms (terms_from k (p ∷ ps)))) = (h.0.well, (ty_of order u, suc n, entered, many, refl)) in
    let moved = subst (λ z. Gives order all sig z (t.array (ty_of order z) (terms (terms_from k (p ∷ ps))))) own.1 whole in
    subst (λ z. Gives order all sig w (t.array (ty_of order z) (terms (terms_from k (p ∷ ps))))) (sym f) moved
  where
    first_of_items : (a : NamedType) (as_ : List NamedType) (b : NamedType) (bs : List NamedType) (c : NamedType) → b ∷ bs ≡ a ∷ as_ → list_all (same_type a) as_ ≡ true → array a (suc (length as_)) ≡ c
        → (list_all (same_type b) bs ≡ true) × (array b (suc (length bs)) ≡ c)
    first_of_items a as_ b bs c e g q =
        let x : a ≡ b = cc in
        let y : as_ ≡ bs = cc in
        (subst (λ z. list_all (same_type b) z ≡ true) y (subst (λ z. list_all (same_type z) as_ ≡ true) x g), sym (ap (λ z. array z (suc (length as_))) x ∙ ap (λ z. array b (suc (length z))) y) ∙ q)

-- expressions of the fields' types
pub fields_typed : (order : List NamedType) (all : Declarations) (sig : Signature) (before : Declarations) (fs : List FieldForm) (ps : List Read) → AllSound order all sig ps → are_fields before fs (types_of (map judged_of ps)) ≡ true → (k : ℕ)
    → HaveTypes sig (terms (terms_from k ps)) (field_types (map (field_of order before) fs))
fields_typed order all sig before [] [] h e k = tt
fields_typed order all sig before [] (p ∷ ps) h e k = absurd (cc)
fields_typed order all sig before (f ∷ fs) [] h e k = absurd (cc)
fields_typed order all sig before (f ∷ fs) (p ∷ ps) h e k =
    let own = type_of (judge_form before f.ty) in
    let q = and_parts (same_type own (type_of p.judged)) (are_fields before fs (types_of (map judged_of ps))) e in
    (subst (λ z. HasType sig (p.term k) (ty_of order z)) (sym (same_true own (type_of p.judged) q.0)) (h.0.typed k), fields_typed order all sig before fs ps h.1 q.1 (k + p.count))

pub record_gives : (order : List NamedType) (all : Declarations) (sig : Signature) (o : Option Struct) (at : ℕ) (x : NameAt) (ps : List Read) (w j : NamedType) → on_record o at x (types_of (map judged_of ps)) ≡ has w → j ≡ w
    → ((st : Struct) → o ≡ Some st → struct_in all x.name ≡ Some st) → AllSound order all sig ps → (WellNamed all w → IsEntered all order sig.types w) → (k : ℕ) → Gives order all sig w (t.struct (ty_of order j) (terms (terms_from k ps)))
record_gives order all sig None at x ps w j e f same h there k = absurd (cc)
record_gives order all sig (Some st) at x ps w j e f same h there k =
    let p = if_has (are_fields st.before st.fields (types_of (map judged_of ps))) (struct x.name) w (TypeClash at) e in
    let found = same st refl in
    let good : WellNamed all (struct x.name) = ap is_some found in
    let entered : IsEntered all order sig.types (struct x.name) = subst (IsEntered all order sig.types) (sym p.1) (there (subst (WellNamed all) p.1 good)) in
    let each = subst (λ o. HaveTypes sig (terms (terms_from k ps)) (field_types (fields_of order o))) (sym found) (fields_typed order all sig st.before st.fields ps h p.0 k) in
    let whole : Gives order all sig (struct x.name) (t.struct (ty_of order (struct x.name)) (terms (terms_from k ps))) = (good, (fields_of order (struct_in all x.name), (x.name, entered), each, refl)) in
    let moved = subst (λ z. Gives order all sig z (t.struct (ty_of order z) (terms (terms_from k ps)))) p.1 whole in
    subst (λ z. Gives order all sig w (t.struct (ty_of order z) (terms (terms_from k ps)))) (sym f) moved

-- the first member of a name
pub record IsFound (before all : Declarations) (fs : List FieldForm) (name : List ℕ) (form : TypeForm) : Type 0 where
  pub field : FieldForm
  pub is : slice_get fs (position_or_len (is_member name) fs) ≡ Some field
  pub form_is : field.ty ≡ form
  pub typed : IsTypedForm all before field

pub member_found : (before all : Declarations) (fs : List FieldForm) (name : List ℕ) (form : TypeForm) → AllByRecursion (IsTypedForm all before) fs → member_in fs name ≡ Some form → IsFound before all fs name form
member_found before all [] name form h e = absurd (cc)
member_found before all (f ∷ fs) name form h e = by (bytes_eq f.name.name name) refl (member_found before all fs name form h.1)
  where
    by : (b : Bool) → bytes_eq f.name.name name ≡ b → (member_in fs name ≡ Some form → IsFound before all fs name form) → IsFound before all (f ∷ fs) name form
    by true q more =
        let g : Some f.ty ≡ Some form = sym (ap (λ b. if b then Some f.ty else member_in fs name) q) ∙ e in
        record { field = f; is = ap (λ b. slice_get (f ∷ fs) (cond (not b) (1 + position_or_len (is_member name) fs) 0)) q; form_is = cc; typed = h.0 }
    by false q more =
        let r = more (sym (ap (λ b. if b then Some f.ty else member_in fs name) q) ∙ e) in
        let one : 1 + position_or_len (is_member name) fs ≡ suc (position_or_len (is_member name) fs) = omega arith in
        record { field = r.field; is = ap (λ b. slice_get (f ∷ fs) (cond (not b) (1 + position_or_len (is_member name) fs) 0)) q ∙ ap (slice_get (f ∷ fs)) one ∙ r.is; form_is = r.form_is; typed = r.typed }

-- ---- votes

-- votes of one scalar type
pub record AreAlike (gives : NamedType → NamedType) (ts : List NamedType) (w : NamedType) : Type 0 where
  pub first : NamedType
  pub rest : List NamedType
  pub ts_are : ts ≡ first ∷ rest
  pub any : is_scalar_that any_scalar first ≡ true
  pub alike : list_all (same_type first) rest ≡ true
  pub ty_is : gives first ≡ w

pub votes_has : (at : ℕ) (gives : NamedType → NamedType) (ts : List NamedType) (w : NamedType) → on_votes at gives ts ≡ has w → AreAlike gives ts w
votes_has at gives [] w e = absurd (cc)
votes_has at gives (u ∷ ts) w e =
    let p = if_has (is_scalar_that any_scalar u && list_all (same_type u) ts) (gives u) w (TypeClash at) e in
    let q = and_parts (is_scalar_that any_scalar u) (list_all (same_type u) ts) p.0 in
    record { first = u; rest = ts; ts_are = refl; any = q.0; alike = q.1; ty_is = p.1 }

any_scalar_is : (u : NamedType) → is_scalar_that any_scalar u ≡ true → u ≡ scalar (scalar_in u)
any_scalar_is (scalar s) h = refl
any_scalar_is (struct x) h = absurd (cc)
any_scalar_is (array u n) h = absurd (cc)

-- what votes give, whichever their answer's type
pub record HaveVotes (order : List NamedType) (sig : Signature) (gives : NamedType → NamedType) (ps : List Read) (w : NamedType) : Type 0 where
  pub answer : gives (scalar (first_scalar ps)) ≡ w
  pub typed : (k : ℕ) → AreVotes (terms (terms_from k ps)) × HaveTypes sig (terms (terms_from k ps)) (replicate (terms_length (terms (terms_from k ps))) (ty.Scalar (first_scalar ps)))

pub votes_typed : (order : List NamedType) (all : Declarations) (sig : Signature) (at : ℕ) (gives : NamedType → NamedType) (ps : List Read) (w : NamedType) → on_votes at gives (types_of (map judged_of ps)) ≡ has w
    → 1 ≤ length ps → length ps ≤ 9 → AllSound order all sig ps → HaveVotes order sig gives ps w
votes_typed order all sig at gives [] w e low high h = absurd (cc)
votes_typed order all sig at gives (p ∷ ps) w e low high h =
    let u = type_of p.judged in
    let ts = types_of (map judged_of ps) in
    let q = if_has (is_scalar_that any_scalar u && list_all (same_type u) ts) (gives u) w (TypeClash at) e in
    let r = and_parts (is_scalar_that any_scalar u) (list_all (same_type u) ts) q.0 in
    let s = any_scalar_is u r.0 in
    record {
      answer = ap gives (sym s) ∙ q.1;
      typed = λ k.
          let n : terms_length (terms (terms_from k (p ∷ ps))) ≡ length (types_of (map judged_of (p ∷ ps))) = as_many (p ∷ ps) k in
          let m : length (types_of (map judged_of (p ∷ ps))) ≡ length (p ∷ ps) = counted (p ∷ ps) in
          let a : HaveTypes sig (terms (terms_from k (p ∷ ps))) (replicate (length (types_of (map judged_of (p ∷ ps)))) (ty_of order u)) = (h.0.typed k, alike_typed order all sig u ps h.1 r.1 (k + p.count)) in
          let b = subst (λ i. HaveTypes sig (terms (terms_from k (p ∷ ps))) (replicate i (ty_of order u))) (sym n) a in
          ((subst (λ i. 1 ≤ i) (sym (n ∙ m)) low, subst (λ i. i ≤ 9) (sym (n ∙ m)) high), subst (λ v. HaveTypes sig (terms (terms_from k (p ∷ ps))) (replicate (terms_length (terms (terms_from k (p ∷ ps)))) v)) (ap (ty_of order) s) b);
    }
  where
    counted : (rs : List Read) → length (types_of (map judged_of rs)) ≡ length rs
    counted [] = refl
    counted (r ∷ rs) = ap suc (counted rs)
