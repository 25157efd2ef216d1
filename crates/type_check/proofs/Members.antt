-- Members of structs.
use Rattle.std.proofs.Common.{◌≡◌, ℕ, Bool, false, List, [], ◌∷◌, ◌++◌, refl, sym, ap, ◌∙◌, subst}
use Rattle.std.specs.Prelude.{◌&&◌, if◌then◌else◌, is_some, slice_get, Option, Some, None}
use Rattle.std.specs.Option.{option_map_or, unwrap_or}
use Rattle.stream_types.specs.declared.scalar.Scalar.TheVariants as s_
use Rattle.spec_text.specs.declared.surface.NameAt.{NameAt}
use Rattle.spec_text.specs.declared.surface.FieldForm.{FieldForm}
use Rattle.spec_text.specs.declared.surface.TypeForm.{TypeForm}
use Rattle.type_check.specs.declared.fault.TypeFault.{TypeFault}
use Rattle.type_check.specs.declared.fault.TypeFault.TheVariants.{Unknown}
use Rattle.type_check.specs.declared.known.Known.{Known}
use Rattle.type_check.specs.declared.known.Known.TheVariants as known
use Rattle.type_check.specs.declared.known.Element.TheVariants as element
use Rattle.type_check.specs.contracts.known.KnownPartialEq.TheImpl.{ghosts as known_eq}
use Rattle.type_check.specs.declared.structs.Struct.{Struct as CodeStruct}
use Rattle.type_check.specs.declared.structs.Member.{Member}
use Rattle.type_check.specs.declared.order.Order.{Order}
use Rattle.type_check.specs.NamedType.{NamedType, scalar, struct, bool, words, Declarations, Struct}
use Rattle.type_check.specs.Judged.{Judged, Scope, judged, has, lacks, type_of, elsewhere, judge_form, member_in, member_of, before_struct, are_fields, over_member, over_field, over_part}
use Rattle.type_check.specs.Standing.{IsDistinct, Means, MeansOption, both_some, AllMean, all_more, HasWords, ItemsHaveWords, capped, AreMembers, no_members, more_members, IsMemberIn, IsStructAt, IsTyped, is_fault}
use Rattle.type_check.proofs.Meaning.{some_struct, same_means}
use Rattle.type_check.proofs.Nodes.{grows_none, node_fault, parts_one, parts_typed}

-- the struct that an operand is
pub record IsOperand (names : List (List ℕ)) (s : Scope) (all : List CodeStruct) (at : ℕ) (j : Judged) (x : NameAt) (i : ℕ) : Type 0 where
  pub name : List ℕ
  pub there : IsStructAt names s.all all name i
  pub is : over_part s.all at j x ≡ over_member j there.declared.before x (member_in there.declared.fields x.name)

struct_type : (names : List (List ℕ)) (i : ℕ) (o : Option NamedType) → MeansOption names (Some (known.Element (element.Struct i))) o → (y : List ℕ) × (o ≡ Some (struct y)) × (slice_get names i ≡ Some y)
struct_type names i None h = elim h [ ]
struct_type names i (Some t) (both_some m) = let p = some_struct (slice_get names i) t m.is in (p.0, ap Some p.2, p.1)

pub operand_of : (names : List (List ℕ)) (s : Scope) (all : List CodeStruct) (n : ℕ) (a b : Order) (at : ℕ) (j : Judged) (x : NameAt) (i : ℕ)
    → ((k : ℕ) (y : List ℕ) → slice_get names k ≡ Some y → IsStructAt names s.all all y k) → IsTyped names n a b j (Some (known.Element (element.Struct i))) → IsOperand names s all at j x i
operand_of names s all n a b at j x i f t =
    let y = struct_type names i j.ty t.type_is in
    let h = f i y.0 y.2 in
    let e : type_of j ≡ struct y.0 = ap (λ (o : Option NamedType). option_map_or (λ u. u) o bool) y.1 in
    record {
      name = y.0;
      there = h;
      is = ap (λ b. if b then over_field s.all at j x (type_of j) else j) (ap is_some y.1)
          ∙ ap (over_field s.all at j x) e
          ∙ ap (λ (o : Option Struct). over_member j (before_struct o) x (member_of o x.name)) h.is;
    }

pub some_code : (a b : CodeStruct) → Some a ≡ Some b → a ≡ b
some_code a b e = cc

-- the members of the struct that was found
pub members_at : (names : List (List ℕ)) (ds : Declarations) (all : List CodeStruct) (y : List ℕ) (i : ℕ) (h : IsStructAt names ds all y i) (found : CodeStruct) → slice_get all i ≡ Some found → AreMembers names h.declared.before h.declared.fields found.members
members_at names ds all y i h found e = let f : h.kept ≡ found = some_code h.kept found (sym h.kept_is ∙ e) in subst (λ (k : CodeStruct). AreMembers names h.declared.before h.declared.fields k.members) f h.members

no_struct : (names : List (List ℕ)) (ds : Declarations) (all : List CodeStruct) (y : List ℕ) (i : ℕ) (h : IsStructAt names ds all y i) → slice_get all i ≡ None → ⊥
no_struct names ds all y i h e = let f = sym h.kept_is ∙ e in absurd (cc)

pub missing : (names : List (List ℕ)) (s : Scope) (all : List CodeStruct) (at : ℕ) (j : Judged) (x : NameAt) (i : ℕ) (o : IsOperand names s all at j x i) (e : Option TypeFault) → slice_get all i ≡ None → (over_part s.all at j x).fault ≡ e
missing names s all at j x i o e h = absurd (no_struct names s.all all o.name i o.there h)

-- ---- what a member is

no_member : (names : List (List ℕ)) (before : Declarations) (o : Option TypeForm) → IsMemberIn names before o None → o ≡ None
no_member names before None h = refl
no_member names before (Some ty) h = absurd h

a_member : (names : List (List ℕ)) (before : Declarations) (o : Option TypeForm) (k : Option Known) → IsMemberIn names before o (Some k) → (ty : TypeForm) × (o ≡ Some ty) × MeansOption names k (judge_form before ty).ty
a_member names before None k h = absurd h
a_member names before (Some ty) k h = (ty, refl, h)

pub member_unknown : (names : List (List ℕ)) (n : ℕ) (a b : Order) (j : Judged) (k : Known) (before : Declarations) (x : NameAt) (o : Option TypeForm) → IsTyped names n a b j (Some k) → IsMemberIn names before o None → (over_member j before x o).fault ≡ Some (Unknown x.at)
member_unknown names n a b j k before x o t h = ap (λ (p : Option TypeForm). (over_member j before x p).fault) (no_member names before o h) ∙ node_fault names n a b (j ∷ []) (lacks (Unknown x.at)) (Unknown x.at) (parts_typed (parts_one t) refl) is_fault

elsewhere_typed : (names : List (List ℕ)) (n : ℕ) (a : Order) (before : Declarations) (ty : TypeForm) (k : Option Known) → MeansOption names k (judge_form before ty).ty → IsTyped names n a a (elsewhere before ty) k
elsewhere_typed names n a before ty k m = record { faultless = refl; type_is = m; grows = grows_none names n a }

-- a member, and what is told of it
pub record IsMemberOf (names : List (List ℕ)) (n : ℕ) (b : Order) (j : Judged) (before : Declarations) (x : NameAt) (o : Option TypeForm) (k : Option Known) : Type 0 where
  pub part : Judged
  pub is : over_member j before x o ≡ judged (j ∷ part ∷ []) (has (type_of part))
  pub typed : IsTyped names n b b part k

pub member_is : (names : List (List ℕ)) (n : ℕ) (b : Order) (j : Judged) (before : Declarations) (x : NameAt) (o : Option TypeForm) (k : Option Known) → IsMemberIn names before o (Some k) → IsMemberOf names n b j before x o k
member_is names n b j before x o k h =
    let m = a_member names before o k h in
    record { part = elsewhere before m.0; is = ap (over_member j before x) m.1; typed = elsewhere_typed names n b before m.0 k m.2 }

-- ---- all of a text's types have their words

pub scope_words : (names : List (List ℕ)) (s : Scope) (all : List CodeStruct) → ((k : ℕ) (y : List ℕ) → slice_get names k ≡ Some y → IsStructAt names s.all all y k) → (k : Known) (t : NamedType) → Means names k t → HasWords all k s.all t
scope_words names s all f (known.Element (element.Scalar x)) t m = let e : scalar x ≡ t = (let q = m.is in cc) in ap (λ u. capped (words s.all u)) e
scope_words names s all f (known.Element (element.Struct i)) t m =
    let p = some_struct (slice_get names i) t m.is in
    let h = f i p.0 p.1 in
    ap (λ (o : Option CodeStruct). option_map_or (λ (x : CodeStruct). x.words) o 0) h.kept_is ∙ h.words ∙ ap (λ u. capped (words s.all u)) (sym p.2)
scope_words names s all f (known.Array e n) t m = tt

pub items_words : (names : List (List ℕ)) (s : Scope) (all : List CodeStruct) → ((k : ℕ) (y : List ℕ) → slice_get names k ≡ Some y → IsStructAt names s.all all y k) → (ks : List Known) (ts : List NamedType) → AllMean names ks ts → ItemsHaveWords all s.all ks ts
items_words names s all f [] ts h = tt
items_words names s all f (k ∷ ks) [] h = tt
items_words names s all f (k ∷ ks) (t ∷ ts) (all_more m ms) = scope_words names s all f k t m

no_type : (names : List (List ℕ)) (o : Option NamedType) → MeansOption names None o → is_some o ≡ false
no_type names None h = refl
no_type names (Some t) h = elim h [ ]

-- a part without a type has no members
pub part_none : (names : List (List ℕ)) (ds : Declarations) (n : ℕ) (a b : Order) (at : ℕ) (j : Judged) (x : NameAt) → IsTyped names n a b j None → IsTyped names n a b (over_part ds at j x) None
part_none names ds n a b at j x t = subst (λ (c : Bool). IsTyped names n a b (if c then over_field ds at j x (type_of j) else j) None) (sym (no_type names j.ty t.type_is)) t

-- ---- items for members

means_or : (names : List (List ℕ)) (k : Option Known) (t : Option NamedType) → MeansOption names k t → Means names (unwrap_or k (known.Element (element.Scalar s_.Bool))) (option_map_or (λ u. u) t bool)
means_or names None None h = record { is = refl }
means_or names (Some k) None h = elim h [ ]
means_or names None (Some t) h = elim h [ ]
means_or names (Some k) (Some t) (both_some m) = m

-- the first member and the first item
pub record AreItems (names : List (List ℕ)) (before : Declarations) (m : Member) (ms : List Member) (k : Known) (ks : List Known) (fields : List FieldForm) (ts : List NamedType) : Type 0 where
  pub fields_left : List FieldForm
  pub types_left : List NamedType
  pub members : AreMembers names before fields_left ms
  pub mean : AllMean names ks types_left
  pub is : are_fields before fields ts ≡ (known_eq.eq (unwrap_or m.ty (known.Element (element.Scalar s_.Bool))) k && are_fields before fields_left types_left)

pub items_of_members : (names : List (List ℕ)) → IsDistinct names → (before : Declarations) (m : Member) (ms : List Member) (k : Known) (ks : List Known) (fields : List FieldForm) (ts : List NamedType)
    → AreMembers names before fields (m ∷ ms) → AllMean names (k ∷ ks) ts → AreItems names before m ms k ks fields ts
items_of_members names d before m ms k ks [] ts h g = elim h [ ]
items_of_members names d before m ms k ks (f ∷ fs) [] h g = elim g [ ]
items_of_members names d before m ms k ks (f ∷ fs) (t ∷ ts) (more_members n mt rest) (all_more mk mks) = record {
  fields_left = fs;
  types_left = ts;
  members = rest;
  mean = mks;
  is = ap (λ b. b && are_fields before fs ts) (same_means names d (unwrap_or m.ty (known.Element (element.Scalar s_.Bool))) k (type_of (judge_form before f.ty)) t (means_or names m.ty (judge_form before f.ty).ty mt) mk);
}

-- a member more
pub members_more : (names : List (List ℕ)) (before : Declarations) (fs : List FieldForm) (ms : List Member) (f : FieldForm) (m : Member) → AreMembers names before fs ms → m.name ≡ f.name.name → MeansOption names m.ty (judge_form before f.ty).ty
    → AreMembers names before (fs ++ f ∷ []) (ms ++ m ∷ [])
members_more names before [] [] f m h e t = more_members e t no_members
members_more names before [] (n ∷ ms) f m h e t = elim h [ ]
members_more names before (g ∷ fs) [] f m h e t = elim h [ ]
members_more names before (g ∷ fs) (n ∷ ms) f m (more_members a b r) e t = more_members a b (members_more names before fs ms f m r e t)
