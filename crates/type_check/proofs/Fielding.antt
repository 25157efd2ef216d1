-- The fields and the entry of a struct, by its members, and the entries of an order.
use Rattle.std.proofs.Common.{◌≡◌, ◌<◌, ◌≤◌, ◌+◌, ℕ, zero, suc, List, [], ◌∷◌, ◌++◌, length, take, get_or, map, refl, sym, ap, ◌∙◌, subst, arith, append-nil, append_assoc}
use Rattle.std.specs.Prelude.{slice_get, Option, Some, None}
use Rattle.std.specs.Option.{option_map_or}
use Rattle.std.proofs.lemmas.List.{take_all, map-append}
use Rattle.stream_types.specs.declared.scalar.Scalar.TheVariants as s_
use Rattle.stream_types.specs.declared.scalar.Scalar.{Scalar}
use Rattle.stream_types.specs.declared.scalar.Ty.{Ty}
use Rattle.stream_types.specs.declared.types.TypeEntry.TheVariants as entry
use Rattle.stream_types.specs.declared.types.Field.{Field}
use Rattle.spec_text.specs.declared.surface.FieldForm.{FieldForm}
use Rattle.type_check.specs.declared.known.Known.{Known}
use Rattle.type_check.specs.declared.known.Known.TheVariants as known
use Rattle.type_check.specs.declared.known.Element.{Element}
use Rattle.type_check.specs.declared.known.Element.TheVariants as element
use Rattle.type_check.specs.declared.structs.Member.{Member}
use Rattle.type_check.specs.declared.structs.Struct.{Struct as CodeStruct}
use Rattle.type_check.specs.NamedType.{NamedType, scalar, bool, Declarations, Struct}
use Rattle.type_check.specs.Judged.{judge_form, type_of}
use Rattle.type_check.specs.TypeOrder.{ty_of, field_of, fields_of, entry_of, entries}
use Rattle.type_check.specs.Standing.{named_element, Means, AllMean, all_more, MeansOption, both_some, AreMembers, more_members}
use Rattle.type_check.specs.Listed.{AreStructs}
use Rattle.type_check.proofs.Meaning.{some_struct, some_array}
use Rattle.type_check.proofs.Members.{some_code, members_at}

member_means : (names : List (List ℕ)) (k : Option Known) (t : Option NamedType) → MeansOption names k t → Means names (option_map_or (λ j. j) k (known.Element (element.Scalar s_.Bool))) (option_map_or (λ u. u) t bool)
member_means names None None h = record { is = refl }
member_means names None (Some t) h = elim h [ ]
member_means names (Some k) None h = elim h [ ]
member_means names (Some k) (Some t) (both_some m) = m

-- the field form of the next member
pub record IsNext (names : List (List ℕ)) (before : Declarations) (forms : List FieldForm) (i : ℕ) (m : Member) : Type 0 where
  pub form : FieldForm
  pub taken : take (i + 1) forms ≡ take i forms ++ form ∷ []
  pub named : m.name ≡ form.name.name
  pub means : Means names (option_map_or (λ j. j) m.ty (known.Element (element.Scalar s_.Bool))) (type_of (judge_form before form.ty))

next_more : (names : List (List ℕ)) (before : Declarations) (f : FieldForm) (forms : List FieldForm) (i : ℕ) (m : Member) → IsNext names before forms i m → IsNext names before (f ∷ forms) (suc i) m
next_more names before f forms i m n =
    let e : suc i + 1 ≡ suc (i + 1) = omega arith in
    record { form = n.form; taken = ap (λ k. take k (f ∷ forms)) e ∙ ap (λ fs. f ∷ fs) n.taken; named = n.named; means = n.means }

pub next_member : (names : List (List ℕ)) (before : Declarations) (forms : List FieldForm) (ms : List Member) (i : ℕ) (m out : Member) → AreMembers names before forms ms → i < length ms → m ≡ get_or ms i out → IsNext names before forms i m
next_member names before [] [] i m out h low is = absurd (omega (arith, low))
next_member names before [] (n ∷ ms) i m out h low is = elim h [ ]
next_member names before (f ∷ forms) [] i m out h low is = elim h [ ]
next_member names before (f ∷ forms) (n ∷ ms) zero m out (more_members a b c) low is = subst (λ (x : Member). IsNext names before (f ∷ forms) zero x) (sym is)
    (record { form = f; taken = refl; named = a; means = member_means names n.ty (judge_form before f.ty).ty b })
next_member names before (f ∷ forms) (n ∷ ms) (suc i) m out (more_members a b c) low is = next_more names before f forms i m (next_member names before forms ms i m out c (omega (arith, low)) is)

as_many : (names : List (List ℕ)) (before : Declarations) (forms : List FieldForm) (ms : List Member) → AreMembers names before forms ms → length forms ≡ length ms
as_many names before [] [] h = refl
as_many names before [] (n ∷ ms) h = elim h [ ]
as_many names before (f ∷ forms) [] h = elim h [ ]
as_many names before (f ∷ forms) (n ∷ ms) (more_members a b c) = ap suc (as_many names before forms ms c)

pub fields_more : (names : List (List ℕ)) (order : List NamedType) (before : Declarations) (forms : List FieldForm) (i : ℕ) (m : Member) (old : List Field) (name : List ℕ) (t : Ty) → (n : IsNext names before forms i m) → name ≡ m.name
    → t ≡ ty_of order (type_of (judge_form before n.form.ty)) → old ≡ map (field_of order before) (take i forms) → old ++ record { name = name; ty = t } ∷ [] ≡ map (field_of order before) (take (i + 1) forms)
fields_more names order before forms i m old name t n e f h =
    ap (λ fs. fs ++ record { name = name; ty = t } ∷ []) h
    ∙ ap (λ x. map (field_of order before) (take i forms) ++ record { name = x; ty = t } ∷ []) (e ∙ n.named)
    ∙ ap (λ u. map (field_of order before) (take i forms) ++ record { name = n.form.name.name; ty = u } ∷ []) f
    ∙ sym (ap (map (field_of order before)) n.taken ∙ map-append (field_of order before) (take i forms) (n.form ∷ []))

pub fields_whole : (names : List (List ℕ)) (order : List NamedType) (before : Declarations) (forms : List FieldForm) (ms : List Member) (i : ℕ) (all : List Field) → AreMembers names before forms ms → length ms ≤ i
    → all ≡ map (field_of order before) (take i forms) → all ≡ map (field_of order before) forms
fields_whole names order before forms ms i all h high e = e ∙ ap (map (field_of order before)) (take_all i forms (omega (arith, high, as_many names before forms ms h)))

-- ---- entries

pub scalar_entry : (names : List (List ℕ)) (order : List NamedType) (all : Declarations) (s : Scalar) (t : NamedType) → Means names (known.Element (element.Scalar s)) t → [] ≡ entry_of all order t
scalar_entry names order all s t m = let g : Some (scalar s) ≡ Some t = m.is in let e : scalar s ≡ t = cc in ap (entry_of all order) e

-- the entry of the struct that was found
pub struct_entry : (names : List (List ℕ)) (order : List NamedType) (all : Declarations) (structs : List CodeStruct) (i : ℕ) (t : NamedType) (found : CodeStruct) (name : List ℕ) (fields : List Field) → AreStructs names all structs → Means names (known.Element (element.Struct i)) t
    → slice_get structs i ≡ Some found → name ≡ found.name → ((before : Declarations) (forms : List FieldForm) → AreMembers names before forms found.members → fields ≡ map (field_of order before) forms) → entry.Struct name fields ∷ [] ≡ entry_of all order t
struct_entry names order all structs i t found name fields h m f n g =
    let p = some_struct (slice_get names i) t m.is in
    let s = h.structs_are i p.0 p.1 in
    let k : s.kept ≡ found = some_code s.kept found (sym s.kept_is ∙ f) in
    let e : name ≡ p.0 = n ∙ ap (λ (c : CodeStruct). c.name) (sym k) ∙ s.kept_name in
    let w : fields ≡ map (field_of order s.declared.before) s.declared.fields = g s.declared.before s.declared.fields (members_at names all structs p.0 i s found f) in
    ap (λ x. entry.Struct x fields ∷ []) e ∙ ap (λ fs. entry.Struct p.0 fs ∷ []) w
    ∙ ap (λ (o : Option Struct). entry.Struct p.0 (fields_of order o) ∷ []) (sym s.is) ∙ sym (ap (entry_of all order) p.2)

pub no_entry : (names : List (List ℕ)) (all : Declarations) (structs : List CodeStruct) (i : ℕ) (t : NamedType) → AreStructs names all structs → Means names (known.Element (element.Struct i)) t → slice_get structs i ≡ None → ⊥
no_entry names all structs i t h m e =
    let p = some_struct (slice_get names i) t m.is in
    let s = h.structs_are i p.0 p.1 in
    let f = sym s.kept_is ∙ e in absurd (cc)

pub array_entry : (names : List (List ℕ)) (order : List NamedType) (all : Declarations) (a : Element) (n : ℕ) (t : NamedType) (elem : Ty) → Means names (known.Array a n) t → ((u : NamedType) → Means names (known.Element a) u → elem ≡ ty_of order u) → entry.Array elem n ∷ [] ≡ entry_of all order t
array_entry names order all a n t elem m f =
    let p = some_array (named_element names a) n t m.is in
    ap (λ x. entry.Array x n ∷ []) (f p.0 (record { is = p.1 })) ∙ sym (ap (entry_of all order) p.2)

pub entries_last : (all : Declarations) (order ts : List NamedType) (t : NamedType) → entries all order (ts ++ t ∷ []) ≡ entries all order ts ++ entry_of all order t
entries_last all order [] t = append-nil (entry_of all order t)
entries_last all order (u ∷ ts) t = ap (λ es. entry_of all order u ++ es) (entries_last all order ts t) ∙ sym (append_assoc (entry_of all order u) (entries all order ts) (entry_of all order t))

-- the type that the next one of the order stands for
pub record IsNextType (names : List (List ℕ)) (ts : List NamedType) (i : ℕ) (k : Known) : Type 0 where
  pub ty : NamedType
  pub at : slice_get ts i ≡ Some ty
  pub low : i < length ts
  pub taken : take (i + 1) ts ≡ take i ts ++ ty ∷ []
  pub means : Means names k ty

type_more : (names : List (List ℕ)) (t : NamedType) (ts : List NamedType) (i : ℕ) (k : Known) → IsNextType names ts i k → IsNextType names (t ∷ ts) (suc i) k
type_more names t ts i k n =
    let e : suc i + 1 ≡ suc (i + 1) = omega arith in
    record { ty = n.ty; at = n.at; low = omega (arith, n.low); taken = ap (λ j. take j (t ∷ ts)) e ∙ ap (λ us. t ∷ us) n.taken; means = n.means }

pub next_type : (names : List (List ℕ)) (ks : List Known) (ts : List NamedType) (i : ℕ) (k out : Known) → AllMean names ks ts → i < length ks → k ≡ get_or ks i out → IsNextType names ts i k
next_type names [] [] i k out h low is = absurd (omega (arith, low))
next_type names [] (t ∷ ts) i k out h low is = elim h [ ]
next_type names (j ∷ ks) [] i k out h low is = elim h [ ]
next_type names (j ∷ ks) (t ∷ ts) zero k out (all_more m ms) low is = subst (λ (l : Known). IsNextType names (t ∷ ts) zero l) (sym is) (record { ty = t; at = refl; low = omega arith; taken = refl; means = m })
next_type names (j ∷ ks) (t ∷ ts) (suc i) k out (all_more m ms) low is = type_more names t ts i k (next_type names ks ts i k out ms (omega (arith, low)) is)
