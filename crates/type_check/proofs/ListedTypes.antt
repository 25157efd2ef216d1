-- What is told of the entries of the first types of an order, and what is new to them.
use Rattle.std.proofs.Common.{◌≡◌, ◌≢◌, ◌≤◌, ◌+◌, ◌*◌, ℕ, zero, suc, true, false, List, [], ◌∷◌, ◌++◌, map, length, refl, sym, ap, ◌∙◌, subst, arith}
use Rattle.std.specs.Prelude.{slice_get, Option, Some, None, All}
use Rattle.std.specs.List.{AllByRecursion}
use Rattle.std.specs.Option.{option_map}
use Rattle.std.proofs.lemmas.Option.{slice_get-map}
use Rattle.sm_io.proofs.Elements.{all_by_place}
use Rattle.stream_types.specs.declared.scalar.Scalar.{Scalar}
use Rattle.stream_types.specs.declared.scalar.Ty.{Ty}
use Rattle.stream_types.specs.declared.types.Field.{Field}
use Rattle.stream_types.specs.declared.types.TypeEntry.{TypeEntry}
use Rattle.stream_types.specs.declared.types.TypeEntry.TheVariants as entry
use Rattle.stream_types.specs.Types.{fields_words}
use Rattle.stream_types.specs.Types.{words as words_in}
use Rattle.stream_types.specs.TypeList.{IsArrayEntry, IsStructEntry, Stands, IsElement, IsNewName, HasTwins, IsTypeList}
use Rattle.spec_text.specs.declared.surface.FieldForm.{FieldForm}
use Rattle.type_check.specs.NamedType.{NamedType, scalar, struct, array, is_array, Declarations, Struct, struct_in, words}
use Rattle.type_check.specs.Judged.{judge_form, type_of}
use Rattle.type_check.specs.TypeOrder.{number_of, ty_of, field_of, fields_of, entries}
use Rattle.type_check.specs.Standing.{IsDistinct}
use Rattle.type_check.specs.NextEntries.{IsNextArray, IsNextStruct, MayBeAdded}
use Rattle.type_check.proofs.SoundForms.{map_count}
use Rattle.type_check.proofs.Placing.{among, Stood, AllStood, IsNewStruct, IsNewArray, MayStand}
use Rattle.type_check.proofs.GoodStructs.{type_words, AreGoodStructs}
use Rattle.type_check.proofs.Numbered.{one_entry, number_at, among_at}

-- an element of an array stands, and is no array
pub record IsPart (before : List NamedType) (t : NamedType) : Type 0 where
  pub stood : Stood before t
  pub plain : is_array t ≡ false

pub record IsListed (all : Declarations) (order before : List NamedType) : Type 0 where
  pub types : IsTypeList (entries all order before)
  pub are : entries all order before ≡ map (one_entry all order) before
  pub no_scalar : (i : ℕ) (s : Scalar) → slice_get before i ≡ Some (scalar s) → ⊥
  pub parts : (i : ℕ) (t : NamedType) (n : ℕ) → slice_get before i ≡ Some (array t n) → IsPart before t
  pub words_are : (t : NamedType) → Stood before t → words_in (entries all order before) (ty_of order t) ≡ words all t

-- ---- types that stand

pub entry_at : (all : Declarations) (order before post : List NamedType) (es : List TypeEntry) (t : NamedType) → es ≡ map (one_entry all order) before → order ≡ before ++ post → among t before ≡ true → slice_get es (number_of order t) ≡ Some (one_entry all order t)
entry_at all order before post es t are split h =
    ap (λ l. slice_get l (number_of order t)) are ∙ slice_get-map (one_entry all order) before (number_of order t)
    ∙ ap (option_map (one_entry all order)) (ap (λ o. slice_get before (number_of o t)) split ∙ number_at before post t h)

pub stands : (all : Declarations) (order before post : List NamedType) (es : List TypeEntry) (t : NamedType) → es ≡ map (one_entry all order) before → order ≡ before ++ post → Stood before t → Stands es (ty_of order t)
stands all order before post es (scalar s) are split h = tt
stands all order before post es (struct x) are split h = subst IsStructEntry (sym (entry_at all order before post es (struct x) are split h)) tt
stands all order before post es (array t n) are split h = subst IsArrayEntry (sym (entry_at all order before post es (array t n) are split h)) tt

pub stands_element : (all : Declarations) (order before post : List NamedType) (es : List TypeEntry) (t : NamedType) → es ≡ map (one_entry all order) before → order ≡ before ++ post → IsPart before t → IsElement es (ty_of order t)
stands_element all order before post es (scalar s) are split p = tt
stands_element all order before post es (struct x) are split p = subst IsStructEntry (sym (entry_at all order before post es (struct x) are split p.stood)) tt
stands_element all order before post es (array t n) are split p = absurd (let e = p.plain in cc)

-- ---- elements of one number are the same

struct_same : (before : List NamedType) (i j : ℕ) (t u : NamedType) → i ≡ j → slice_get before i ≡ Some t → slice_get before j ≡ Some u → t ≡ u
struct_same before i j t u e p q = let f : Some t ≡ Some u = sym p ∙ ap (slice_get before) e ∙ q in cc

number_in : (order before post : List NamedType) (t : NamedType) → order ≡ before ++ post → among t before ≡ true → slice_get before (number_of order t) ≡ Some t
number_in order before post t split h = ap (λ o. slice_get before (number_of o t)) split ∙ number_at before post t h

same_element : (order before post : List NamedType) (t u : NamedType) → order ≡ before ++ post → IsPart before t → IsPart before u → ty_of order t ≡ ty_of order u → t ≡ u
same_element order before post (scalar s) (scalar c) split p q e = cc
same_element order before post (scalar s) (struct y) split p q e = absurd (cc)
same_element order before post (struct x) (scalar c) split p q e = absurd (cc)
same_element order before post (struct x) (struct y) split p q e =
    let f : number_of order (struct x) ≡ number_of order (struct y) = cc in
    struct_same before (number_of order (struct x)) (number_of order (struct y)) (struct x) (struct y) f (number_in order before post (struct x) split p.stood) (number_in order before post (struct y) split q.stood)
same_element order before post (array t n) u split p q e = absurd (let f = p.plain in cc)
same_element order before post t (array u n) split p q e = absurd (let f = q.plain in cc)

-- ---- what is new

record IsReadAs (all : Declarations) (order before : List NamedType) (e : TypeEntry) (i : ℕ) : Type 0 where
  ty : NamedType
  ty_is : slice_get before i ≡ Some ty
  entry_is : one_entry all order ty ≡ e

read_if : (all : Declarations) (order before : List NamedType) (e : TypeEntry) (i : ℕ) (o : Option NamedType) → slice_get before i ≡ o → option_map (one_entry all order) o ≡ Some e → IsReadAs all order before e i
read_if all order before e i None p q = absurd (cc)
read_if all order before e i (Some t) p q = record { ty = t; ty_is = p; entry_is = cc }

read : (all : Declarations) (order before : List NamedType) (e : TypeEntry) (i : ℕ) → IsListed all order before → slice_get (entries all order before) i ≡ Some e → IsReadAs all order before e i
read all order before e i l h = read_if all order before e i (slice_get before i) refl (sym (slice_get-map (one_entry all order) before i) ∙ ap (λ es. slice_get es i) (sym l.are) ∙ h)

array_entry : (elem other : Ty) (m n : ℕ) → entry.Array elem m ≡ entry.Array other n → (elem ≡ other) × (m ≡ n)
array_entry elem other m n e = (cc, cc)

array_fresh : (all : Declarations) (order before post : List NamedType) (t u : NamedType) (n i : ℕ) → IsListed all order before → order ≡ before ++ post → IsPart before t → among (array t n) before ≡ false → slice_get before i ≡ Some u → one_entry all order u ≡ entry.Array (ty_of order t) n → ⊥
array_fresh all order before post t (scalar s) n i l split p f g e = l.no_scalar i s g
array_fresh all order before post t (struct y) n i l split p f g e = cc
array_fresh all order before post t (array u m) n i l split p f g e =
    let q = array_entry (ty_of order u) (ty_of order t) m n e in
    let same = same_element order before post u t split (l.parts i u m g) p q.0 in
    let h : array u m ≡ array t n = ap (λ v. array v m) same ∙ ap (array t) q.1 in
    let k : among (array t n) before ≡ true = subst (λ v. among v before ≡ true) h (among_at before i (array u m) g) in
    let no : true ≡ false = sym k ∙ f in cc

pub new_array : (all : Declarations) (order before post : List NamedType) (t : NamedType) (n : ℕ) → IsListed all order before → order ≡ before ++ post → IsPart before t → among (array t n) before ≡ false → (i : ℕ) → slice_get (entries all order before) i ≢ Some (entry.Array (ty_of order t) n)
new_array all order before post t n l split p f i h =
    let r = read all order before (entry.Array (ty_of order t) n) i l h in
    array_fresh all order before post t r.ty n i l split p f r.ty_is r.entry_is

struct_fresh : (all : Declarations) (order before : List NamedType) (x : List ℕ) (fields : List Field) (u : NamedType) (i : ℕ) → IsListed all order before → among (struct x) before ≡ false → slice_get before i ≡ Some u → one_entry all order u ≡ entry.Struct x fields → ⊥
struct_fresh all order before x fields (scalar s) i l f g e = l.no_scalar i s g
struct_fresh all order before x fields (array t n) i l f g e = cc
struct_fresh all order before x fields (struct y) i l f g e =
    let q : y ≡ x = cc in
    let k : among (struct x) before ≡ true = subst (λ z. among (struct z) before ≡ true) q (among_at before i (struct y) g) in
    let no : true ≡ false = sym k ∙ f in cc

pub new_struct : (all : Declarations) (order before : List NamedType) (x : List ℕ) → IsListed all order before → among (struct x) before ≡ false → IsNewName (entries all order before) x
new_struct all order before x l f i fields h = let r = read all order before (entry.Struct x fields) i l h in struct_fresh all order before x fields r.ty i l f r.ty_is r.entry_is

-- ---- fields

fields_stand : (all : Declarations) (order before post : List NamedType) (es : List TypeEntry) (ds : Declarations) (fs : List FieldForm) → es ≡ map (one_entry all order) before → order ≡ before ++ post → AllStood before ds fs → AllByRecursion (λ (f : Field). Stands es f.ty) (map (field_of order ds) fs)
fields_stand all order before post es ds [] are split h = tt
fields_stand all order before post es ds (f ∷ fs) are split h = (stands all order before post es (type_of (judge_form ds f.ty)) are split h.0, fields_stand all order before post es ds fs are split h.1)

pub fields_wide : (all : Declarations) (order before : List NamedType) (es : List TypeEntry) (ds : Declarations) (fs : List FieldForm) → ((t : NamedType) → Stood before t → words_in es (ty_of order t) ≡ words all t) → AllStood before ds fs → fields_words es (map (field_of order ds) fs) ≡ type_words all ds fs
fields_wide all order before es ds [] w h = refl
fields_wide all order before es ds (f ∷ fs) w h =
    ap (λ n. n + fields_words es (map (field_of order ds) fs)) (w (type_of (judge_form ds f.ty)) h.0) ∙ ap (λ n. words all (type_of (judge_form ds f.ty)) + n) (fields_wide all order before es ds fs w h.1)

names_read : (order : List NamedType) (ds : Declarations) (fs : List FieldForm) (i : ℕ) (g : Field) → slice_get (map (field_of order ds) fs) i ≡ Some g → slice_get (map (λ (f : FieldForm). f.name.name) fs) i ≡ Some g.name
names_read order ds [] i g h = absurd (cc)
names_read order ds (f ∷ fs) zero g h = let e : field_of order ds f ≡ g = cc in ap (λ (k : Field). Some k.name) e
names_read order ds (f ∷ fs) (suc i) g h = names_read order ds fs i g h

no_twins : (order : List NamedType) (ds : Declarations) (fs : List FieldForm) → IsDistinct (map (λ (f : FieldForm). f.name.name) fs) → HasTwins (map (field_of order ds) fs) → ⊥
no_twins order ds fs k h =
    let e = k.once h.i h.j h.other.name (names_read order ds fs h.i h.one h.one_is ∙ ap Some h.alike) (names_read order ds fs h.j h.other h.other_is) in
    let l = h.before in omega arith

-- ---- the next type

-- what is known of a text's structs
pub record AreKnown (all : Declarations) : Type 0 where
  pub good : AreGoodStructs all all
  pub apart : (x : List ℕ) (s : Struct) → struct_in all x ≡ Some s → IsDistinct (map (λ (f : FieldForm). f.name.name) s.fields)

pub next_struct : (all : Declarations) (order before post : List NamedType) (x : List ℕ) → AreKnown all → IsListed all order before → order ≡ before ++ post → IsNewStruct all before x → IsNextStruct all order (entries all order before) x
next_struct all order before post x k l split m =
    let es = entries all order before in
    let g = k.good.good x m.found m.is in
    let fields = map (field_of order m.found.before) m.found.fields in
    let e : fields_of order (struct_in all x) ≡ fields = ap (fields_of order) m.is in
    let count = map_count (field_of order m.found.before) m.found.fields in
    record {
      found = m.found;
      is = m.is;
      parts = subst (λ fs. All (λ (f : Field). Stands es f.ty) fs) (sym e) (all_by_place (λ (f : Field). Stands es f.ty) fields (fields_stand all order before post es m.found.before m.found.fields l.are split m.parts));
      least = subst (λ fs. 1 ≤ length fs) (sym e) (subst (λ n. 1 ≤ n) (sym count) g.least);
      most = subst (λ fs. length fs ≤ 64) (sym e) (subst (λ n. n ≤ 64) (sym count) g.most);
      apart = λ h. no_twins order m.found.before m.found.fields (k.apart x m.found m.is) (subst HasTwins e h);
      fresh = new_struct all order before x l m.fresh;
      narrow = subst (λ fs. fields_words es fs ≤ 1024) (sym e) (subst (λ n. n ≤ 1024) (sym (fields_wide all order before es m.found.before m.found.fields l.words_are m.parts ∙ g.words_are)) g.narrow);
    }

pub next_array : (all : Declarations) (order before post : List NamedType) (t : NamedType) (n : ℕ) → IsListed all order before → order ≡ before ++ post → IsNewArray all before t n → IsNextArray order (entries all order before) t n
next_array all order before post t n l split m =
    let p : IsPart before t = record { stood = m.part; plain = m.sound.0 } in
    record {
      element = stands_element all order before post (entries all order before) t l.are split p;
      least = m.sound.2;
      most = m.sound.3;
      fresh = new_array all order before post t n l split p m.fresh;
      narrow = subst (λ k. n * k ≤ 1024) (sym (l.words_are t m.part)) m.sound.4;
    }

pub next_type : (all : Declarations) (order before post : List NamedType) (t : NamedType) → AreKnown all → IsListed all order before → order ≡ before ++ post → MayStand all before t → MayBeAdded all order (entries all order before) t
next_type all order before post (scalar s) k l split m = elim m [ ]
next_type all order before post (struct x) k l split m = next_struct all order before post x k l split m
next_type all order before post (array t n) k l split m = next_array all order before post t n l split m
