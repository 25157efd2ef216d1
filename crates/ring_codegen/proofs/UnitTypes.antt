-- The definitions of types of a translation: their names, that they are told apart, their order, and their sizes.
use Rattle.std.proofs.Common.{◌≡◌, ℕ, zero, suc, ◌≤◌, Bool, true, false, not, ◌&&◌, ◌||◌, List, [], ◌∷◌, length, map, take, Option, Some, None, refl, sym, ap, ◌∙◌, subst, arith}
use Rattle.std.specs.Prelude.{slice_get, nat_eq, nat_le, All}
use Rattle.std.specs.List.{list_all, list_any, filter_map}
use Rattle.std.proofs.lemmas.Bool.{and_from, and_parts, or_left, or_right, le-leb, eqb-true, eq-eqb, false_from_ne_true}
use Rattle.std.proofs.lemmas.List.{length-map}
use Rattle.std.specs.Cmp.Lexicographic.{nat_list_eq_equiv}
use Rattle.sm_io.specs.Words.{is_name}
use Rattle.stream_types.specs.declared.scalar.Scalar.{Scalar}
use Rattle.stream_types.specs.declared.scalar.Scalar.TheVariants as scalar
use Rattle.stream_types.specs.declared.scalar.Ty.{Ty}
use Rattle.stream_types.specs.declared.scalar.Ty.TheVariants as ty
use Rattle.stream_types.specs.declared.types.Field.{Field}
use Rattle.stream_types.specs.declared.types.TypeEntry.{TypeEntry}
use Rattle.stream_types.specs.declared.types.TypeEntry.TheVariants as entry
use Rattle.stream_types.specs.TypeList.{IsArrayEntry, IsStructEntry, Stands, IsElement, IsGoodEntry, IsTypeList}
use Rattle.stream_types.proofs.GrownLists.{at_take}
use Rattle.stream_types.proofs.TypeLists.{Stands-take}
use Rattle.stream_types.proofs.Widths.{Stands-element}
use Rattle.stream_core.specs.WellTyped.{HasNames, IsName}
use Rattle.stream_core.proofs.SameNode.{list_same}
use Rattle.c99_tree.specs.declared.types.CScalar.{CScalar}
use Rattle.c99_tree.specs.declared.types.CScalar.TheVariants as c
use Rattle.c99_tree.specs.declared.types.CTy.{CTy}
use Rattle.c99_tree.specs.declared.types.CTy.TheVariants as cty
use Rattle.c99_tree.specs.declared.types.CVar.{CVar}
use Rattle.c99_tree.specs.declared.types.CDef.{CDef}
use Rattle.c99_tree.specs.Words.{is_same, is_element, elem_type}
use Rattle.c99_tree.specs.Lookup.{structs_in, arrays_in, is_array, is_defined}
use Rattle.c99_tree.specs.WellFormed.{has_names_type, has_names_var, has_names_def, are_distinct, are_distinct_fields, types_are_distinct, is_built_from, types_are_built_in_order, has_few_fields, has_array_length}
use Rattle.c99_tree.proofs.LookedUp.{all_at, same_number}
use Rattle.ring_codegen.specs.CTypes.{c_scalar, c_type, c_field, c_def, element_word, array_type, struct_name}
use Rattle.ring_codegen.specs.Standing.{HasStructName}
use Rattle.ring_codegen.proofs.NamedOnce.{element_type, fields_once}
use Rattle.ring_codegen.proofs.UnitLists.{all_mapped, each_after_by, take-map, take_get, any_there, distinct_names}

-- ---- entries

pub array_at : (o : Option TypeEntry) → IsArrayEntry o → (elem : Ty) × (n : ℕ) × (o ≡ Some (entry.Array elem n))
array_at None h = absurd h
array_at (Some (entry.Array elem n)) h = (elem, n, refl)
array_at (Some (entry.Struct name fields)) h = absurd h

pub struct_at : (o : Option TypeEntry) → IsStructEntry o → (name : List ℕ) × (fields : List Field) × (o ≡ Some (entry.Struct name fields))
struct_at None h = absurd h
struct_at (Some (entry.Array elem n)) h = absurd h
struct_at (Some (entry.Struct name fields)) h = (name, fields, refl)

pub struct_named : (e : TypeEntry) → HasNames e → HasStructName e
struct_named (entry.Array elem n) h = tt
struct_named (entry.Struct name fields) h = h.0

-- an array's elements are of a type of the whole list
pub element_whole : (types : List TypeEntry) (i : ℕ) (elem : Ty) → IsElement (take i types) elem → IsElement types elem
element_whole types i (ty.Scalar s) h = tt
element_whole types i (ty.Array j) h = absurd h
element_whole types i (ty.Struct j) h = at_take types i j IsStructEntry (λ n. n) h

scalar_word : (s : Scalar) → is_element (element_word [] (ty.Scalar s)) ≡ true
scalar_word scalar.Bool = or_right _ _ refl
scalar_word scalar.Int8 = or_right _ _ refl
scalar_word scalar.Int16 = or_right _ _ refl
scalar_word scalar.Int32 = or_right _ _ refl
scalar_word scalar.Int64 = or_right _ _ refl
scalar_word scalar.Word8 = or_right _ _ refl
scalar_word scalar.Word16 = or_right _ _ refl
scalar_word scalar.Word32 = or_right _ _ refl
scalar_word scalar.Word64 = or_right _ _ refl

-- the scalar of a C type
abbrev scalar_back : CScalar → Scalar
scalar_back c.Bool = scalar.Bool
scalar_back c.I8 = scalar.Int8
scalar_back c.I16 = scalar.Int16
scalar_back c.I32 = scalar.Int32
scalar_back c.I64 = scalar.Int64
scalar_back c.U8 = scalar.Word8
scalar_back c.U16 = scalar.Word16
scalar_back c.U32 = scalar.Word32
scalar_back c.U64 = scalar.Word64

back-is : (s : Scalar) → scalar_back (c_scalar s) ≡ s
back-is scalar.Bool = refl
back-is scalar.Int8 = refl
back-is scalar.Int16 = refl
back-is scalar.Int32 = refl
back-is scalar.Int64 = refl
back-is scalar.Word8 = refl
back-is scalar.Word16 = refl
back-is scalar.Word32 = refl
back-is scalar.Word64 = refl

-- ---- what stands in a list of definitions

arrays_there : (types es : List TypeEntry) (j n : ℕ) (elem : Ty) → slice_get es j ≡ Some (entry.Array elem n) → list_any (is_array (element_word types elem) n) (arrays_in (map (c_def types) es)) ≡ true
arrays_there types [] j n elem e = absurd (cc e)
arrays_there types (entry.Array x m ∷ es) zero n elem e =
    let s : x ≡ elem = cc e in
    let t : m ≡ n = cc e in
    or_left _ _ (and_from _ _ (ap (λ (y : Ty). is_same (element_word types elem) (element_word types y)) s ∙ nat_list_eq_equiv.refl (element_word types elem)) (eq-eqb n m (sym t)))
arrays_there types (entry.Array x m ∷ es) (suc j) n elem e = or_right _ _ (arrays_there types es j n elem e)
arrays_there types (entry.Struct x fields ∷ es) zero n elem e = absurd (cc e)
arrays_there types (entry.Struct x fields ∷ es) (suc j) n elem e = arrays_there types es j n elem e

structs_there : (types es : List TypeEntry) (j : ℕ) (name : List ℕ) (fields : List Field) → slice_get es j ≡ Some (entry.Struct name fields) → list_any (λ (s : List ℕ × List CVar). is_same name s.0) (structs_in (map (c_def types) es)) ≡ true
structs_there types [] j name fields e = absurd (cc e)
structs_there types (entry.Array x m ∷ es) zero name fields e = absurd (cc e)
structs_there types (entry.Array x m ∷ es) (suc j) name fields e = structs_there types es j name fields e
structs_there types (entry.Struct x gs ∷ es) zero name fields e =
    let s : x ≡ name = cc e in
    or_left _ _ (ap (is_same name) s ∙ nat_list_eq_equiv.refl name)
structs_there types (entry.Struct x gs ∷ es) (suc j) name fields e = or_right _ _ (structs_there types es j name fields e)

-- the C type of a type that stands in the front of the list is defined there
pub defined_in : (types es : List TypeEntry) → ((j : ℕ) (e : TypeEntry) → slice_get es j ≡ Some e → slice_get types j ≡ Some e) → (t : Ty) → Stands es t → is_defined (map (c_def types) es) (c_type types t) ≡ true
defined_in types es front (ty.Scalar s) h = refl
defined_in types es front (ty.Array j) h =
    let a = array_at (slice_get es j) h in
    ap (λ (o : Option TypeEntry). is_defined (map (c_def types) es) (array_type types o)) (front j (entry.Array a.0 a.1) a.2)
    ∙ arrays_there types es j a.1 a.0 a.2
defined_in types es front (ty.Struct j) h =
    let a = struct_at (slice_get es j) h in
    ap (λ (o : Option TypeEntry). is_defined (map (c_def types) es) (cty.Struct (struct_name o))) (front j (entry.Struct a.0 a.1) a.2)
    ∙ structs_there types es j a.0 a.1 a.2

-- a test of every array among the definitions
arrays_pass : (types : List TypeEntry) (p : (List ℕ × ℕ) → Bool) (es : List TypeEntry) → ((i n : ℕ) (elem : Ty) → slice_get es i ≡ Some (entry.Array elem n) → p (element_word types elem, n) ≡ true) → list_all p (arrays_in (map (c_def types) es)) ≡ true
arrays_pass types p [] h = refl
arrays_pass types p (entry.Array elem n ∷ es) h = and_from _ _ (h 0 n elem refl) (arrays_pass types p es (λ i m x e. h (suc i) m x e))
arrays_pass types p (entry.Struct name fields ∷ es) h = arrays_pass types p es (λ i m x e. h (suc i) m x e)

-- where a struct of a name stands
record StructAt (es : List TypeEntry) (name : List ℕ) : Type 0 where
  place : ℕ
  fields : List Field
  there : slice_get es place ≡ Some (entry.Struct name fields)

later_struct : (e : TypeEntry) (es : List TypeEntry) (name : List ℕ) → StructAt es name → StructAt (e ∷ es) name
later_struct e es name h = record { place = suc h.place; fields = h.fields; there = h.there }

struct_of : (types es : List TypeEntry) (name : List ℕ) → list_any (is_same name) (map (λ (s : List ℕ × List CVar). s.0) (structs_in (map (c_def types) es))) ≡ true → StructAt es name
struct_of types [] name h = absurd (cc h)
struct_of types (entry.Array elem n ∷ es) name h = later_struct (entry.Array elem n) es name (struct_of types es name h)
struct_of types (entry.Struct x fields ∷ es) name h = by (λ g. struct_of types es name g) (is_same name x) refl h
  where
    by : (list_any (is_same name) (map (λ (s : List ℕ × List CVar). s.0) (structs_in (map (c_def types) es))) ≡ true → StructAt es name) → (b : Bool) → is_same name x ≡ b
        → (b || list_any (is_same name) (map (λ (s : List ℕ × List CVar). s.0) (structs_in (map (c_def types) es)))) ≡ true → StructAt (entry.Struct x fields ∷ es) name
    by rest true e g = record { place = 0; fields = fields; there = ap (λ (n : List ℕ). Some (entry.Struct n fields)) (sym (list_same name x e)) }
    by rest false e g = later_struct (entry.Struct x fields) es name (rest g)

-- where an array of a word and a length stands
record ArrayAt (types es : List TypeEntry) (word : List ℕ) (n : ℕ) : Type 0 where
  place : ℕ
  elem : Ty
  there : slice_get es place ≡ Some (entry.Array elem n)
  worded : word ≡ element_word types elem

later_array : (types : List TypeEntry) (e : TypeEntry) (es : List TypeEntry) (word : List ℕ) (n : ℕ) → ArrayAt types es word n → ArrayAt types (e ∷ es) word n
later_array types e es word n h = record { place = suc h.place; elem = h.elem; there = h.there; worded = h.worded }

array_of : (types es : List TypeEntry) (word : List ℕ) (n : ℕ) → list_any (is_array word n) (arrays_in (map (c_def types) es)) ≡ true → ArrayAt types es word n
array_of types [] word n h = absurd (cc h)
array_of types (entry.Struct x fields ∷ es) word n h = later_array types (entry.Struct x fields) es word n (array_of types es word n h)
array_of types (entry.Array elem m ∷ es) word n h = by (λ g. array_of types es word n g) (is_array word n (element_word types elem, m)) refl h
  where
    by : (list_any (is_array word n) (arrays_in (map (c_def types) es)) ≡ true → ArrayAt types es word n) → (b : Bool) → is_array word n (element_word types elem, m) ≡ b
        → (b || list_any (is_array word n) (arrays_in (map (c_def types) es))) ≡ true → ArrayAt types (entry.Array elem m ∷ es) word n
    by rest true e g =
        let p = and_parts (is_same word (element_word types elem)) (nat_eq n m) e in
        record { place = 0; elem = elem; there = ap (λ (k : ℕ). Some (entry.Array elem k)) (sym (same_number n m p.1)); worded = list_same word (element_word types elem) p.0 }
    by rest false e g = later_array types (entry.Array elem m) es word n (rest g)

-- structs of different names, one behind another
structs_apart : (types es : List TypeEntry) → ((i j : ℕ) (name : List ℕ) (fs gs : List Field) → slice_get es i ≡ Some (entry.Struct name fs) → slice_get es j ≡ Some (entry.Struct name gs) → i ≡ j)
    → are_distinct is_same (map (λ (s : List ℕ × List CVar). s.0) (structs_in (map (c_def types) es))) ≡ true
structs_apart types [] once = refl
structs_apart types (entry.Array elem n ∷ es) once =
    structs_apart types es (λ i j name fs gs e f. let s : suc i ≡ suc j = once (suc i) (suc j) name fs gs e f in omega (arith, s))
structs_apart types (entry.Struct x fields ∷ es) once =
    let apart : list_any (is_same x) (map (λ (s : List ℕ × List CVar). s.0) (structs_in (map (c_def types) es))) ≡ false = false_from_ne_true _
    (λ there. let a = struct_of types es x there in let z : 0 ≡ suc a.place = once 0 (suc a.place) x fields a.fields refl a.there in absurd (omega (arith, z))) in
    and_from _ _ (ap not apart)
    (structs_apart types es (λ i j name fs gs e f. let s : suc i ≡ suc j = once (suc i) (suc j) name fs gs e f in omega (arith, s)))

-- arrays of different elements or lengths
arrays_apart : (types es : List TypeEntry) → ((i j n : ℕ) (a b : Ty) → slice_get es i ≡ Some (entry.Array a n) → slice_get es j ≡ Some (entry.Array b n) → element_word types a ≡ element_word types b → i ≡ j)
    → are_distinct (λ (a b : List ℕ × ℕ). is_same a.0 b.0 && nat_eq a.1 b.1) (arrays_in (map (c_def types) es)) ≡ true
arrays_apart types [] once = refl
arrays_apart types (entry.Struct x fields ∷ es) once =
    arrays_apart types es (λ i j n a b e f g. let s : suc i ≡ suc j = once (suc i) (suc j) n a b e f g in omega (arith, s))
arrays_apart types (entry.Array elem n ∷ es) once =
    let apart : list_any (is_array (element_word types elem) n) (arrays_in (map (c_def types) es)) ≡ false = false_from_ne_true _
    (λ there. let a = array_of types es (element_word types elem) n there in let z : 0 ≡ suc a.place = once 0 (suc a.place) n elem a.elem refl a.there a.worded in absurd (omega (arith, z))) in
    and_from _ _ (ap not apart)
    (arrays_apart types es (λ i j m a b e f g. let s : suc i ≡ suc j = once (suc i) (suc j) m a b e f g in omega (arith, s)))

module _ (types : List TypeEntry) (good : IsTypeList types) (names : All HasNames types) where
  pub structs_named : All HasStructName types
  structs_named k d b = struct_named _ (names k d b)

  -- ---- names

  pub element_named : (elem : Ty) → IsElement types elem → is_element (element_word types elem) ≡ true
  element_named (ty.Scalar s) h = scalar_word s
  element_named (ty.Array j) h = absurd h
  element_named (ty.Struct j) h =
      let a = struct_at (slice_get types j) h in
      let n : is_name a.0 ≡ true = (all_at HasNames types j (entry.Struct a.0 a.1) names a.2).0 in
      ap (λ (o : Option TypeEntry). is_element (struct_name o)) a.2 ∙ or_left _ _ n

  pub element_at : (i n : ℕ) (elem : Ty) → slice_get types i ≡ Some (entry.Array elem n) → IsElement types elem
  element_at i n elem e = element_whole types i elem (good.each i (entry.Array elem n) e).0

  pub type_named : (t : Ty) → Stands types t → has_names_type (c_type types t) ≡ true
  type_named (ty.Scalar s) h = refl
  type_named (ty.Array j) h =
      let a = array_at (slice_get types j) h in
      ap (λ (o : Option TypeEntry). has_names_type (array_type types o)) a.2 ∙ element_named a.0 (element_at j a.1 a.0 a.2)
  type_named (ty.Struct j) h =
      let a = struct_at (slice_get types j) h in
      let n : is_name a.0 ≡ true = (all_at HasNames types j (entry.Struct a.0 a.1) names a.2).0 in
      ap (λ (o : Option TypeEntry). is_name (struct_name o)) a.2 ∙ n

  def_named : (i : ℕ) (e : TypeEntry) → slice_get types i ≡ Some e → has_names_def (c_def types e) ≡ true
  def_named i (entry.Array elem n) e = element_named elem (element_at i n elem e)
  def_named i (entry.Struct name fields) e =
      let h = all_at HasNames types i (entry.Struct name fields) names e in
      let stand = (good.each i (entry.Struct name fields) e).0 in
      and_from _ _ h.0 (all_mapped has_names_var (c_field types) fields
      (λ k f g. and_from _ _ (all_at (λ (x : Field). IsName x.name) fields k f h.1 g) (type_named f.ty (Stands-take types i f.ty (all_at (λ (x : Field). Stands (take i types) x.ty) fields k f stand g)))))

  pub defs_named : list_all has_names_def (map (c_def types) types) ≡ true
  defs_named = all_mapped has_names_def (c_def types) types def_named

  -- ---- told apart

  -- elements of one word are one type
  one_element : (a b : Ty) → IsElement types a → IsElement types b → c_type types a ≡ c_type types b → a ≡ b
  one_element (ty.Scalar s) (ty.Scalar t) h g e =
      let same : c_scalar s ≡ c_scalar t = cc e in
      ap ty.Scalar (sym (back-is s) ∙ ap scalar_back same ∙ back-is t)
  one_element (ty.Scalar s) (ty.Array j) h g e = absurd g
  one_element (ty.Scalar s) (ty.Struct j) h g e = absurd (cc e)
  one_element (ty.Array i) b h g e = absurd h
  one_element (ty.Struct i) (ty.Scalar t) h g e = absurd (cc e)
  one_element (ty.Struct i) (ty.Array j) h g e = absurd g
  one_element (ty.Struct i) (ty.Struct j) h g e =
      let a = struct_at (slice_get types i) h in
      let b = struct_at (slice_get types j) g in
      let named : struct_name (slice_get types i) ≡ struct_name (slice_get types j) = cc e in
      let same : a.0 ≡ b.0 = sym (ap struct_name a.2) ∙ named ∙ ap struct_name b.2 in
      ap ty.Struct (good.structs i j b.0 a.1 b.1 (a.2 ∙ ap (λ (n : List ℕ). Some (entry.Struct n a.1)) same) b.2)

  arrays_once : (i j n : ℕ) (a b : Ty) → slice_get types i ≡ Some (entry.Array a n) → slice_get types j ≡ Some (entry.Array b n) → element_word types a ≡ element_word types b → i ≡ j
  arrays_once i j n a b e f w =
      let h = element_at i n a e in
      let g = element_at j n b f in
      let same : a ≡ b = one_element a b h g (sym (element_type types structs_named a h) ∙ ap elem_type w ∙ element_type types structs_named b g) in
      good.arrays i j b n (e ∙ ap (λ (t : Ty). Some (entry.Array t n)) same) f

  pub types_distinct : types_are_distinct (map (c_def types) types) ≡ true
  types_distinct = and_from _ _ (structs_apart types types good.structs) (arrays_apart types types arrays_once)

  fields_distinct : (i : ℕ) (e : TypeEntry) → slice_get types i ≡ Some e → are_distinct_fields (c_def types e) ≡ true
  fields_distinct i (entry.Array elem n) e = refl
  fields_distinct i (entry.Struct name fields) e =
      distinct_names (c_field types) (λ (v : CVar). v.name) (λ (f : Field). f.name) (λ f. refl) fields (fields_once fields (good.each i (entry.Struct name fields) e).3)

  pub members_distinct : list_all are_distinct_fields (map (c_def types) types) ≡ true
  members_distinct = all_mapped are_distinct_fields (c_def types) types fields_distinct

  -- ---- in order

  pub defined : (t : Ty) → Stands types t → is_defined (map (c_def types) types) (c_type types t) ≡ true
  defined t h = defined_in types types (λ j e g. g) t h

  front_defined : (i : ℕ) (t : Ty) → Stands (take i types) t → is_defined (map (c_def types) (take i types)) (c_type types t) ≡ true
  front_defined i t h = defined_in types (take i types) (λ j e g. take_get i types j e g) t h

  built : (i : ℕ) (e : TypeEntry) → slice_get types i ≡ Some e → is_built_from (map (c_def types) (take i types)) (c_def types e) ≡ true
  built i (entry.Array elem n) e =
      let h = (good.each i (entry.Array elem n) e).0 in
      ap (is_defined (map (c_def types) (take i types))) (element_type types structs_named elem (element_whole types i elem h))
      ∙ front_defined i elem (Stands-element (take i types) elem h)
  built i (entry.Struct name fields) e =
      let stand = (good.each i (entry.Struct name fields) e).0 in
      all_mapped (λ (v : CVar). is_defined (map (c_def types) (take i types)) v.ty) (c_field types) fields
      (λ k f g. front_defined i f.ty (all_at (λ (x : Field). Stands (take i types) x.ty) fields k f stand g))

  record DefOf (i : ℕ) (d : CDef) : Type 0 where
    made : TypeEntry
    there : slice_get types i ≡ Some made
    is : c_def types made ≡ d

  def_of : (es : List TypeEntry) (i k : ℕ) (d : CDef) → ((e : TypeEntry) → slice_get es i ≡ Some e → slice_get types k ≡ Some e) → slice_get (map (c_def types) es) i ≡ Some d → DefOf k d
  def_of [] i k d there e = absurd (cc e)
  def_of (x ∷ es) zero k d there e = record { made = x; there = there x refl; is = cc e }
  def_of (x ∷ es) (suc i) k d there e = def_of es i k d there e

  pub in_order : types_are_built_in_order (map (c_def types) types) ≡ true
  in_order = each_after_by is_built_from [] (map (c_def types) types)
      (λ i d e.
      let a = def_of types i i d (λ x g. g) e in
      subst (λ (front : List CDef). is_built_from front d ≡ true) (sym (take-map (c_def types) i types))
      (subst (λ (x : CDef). is_built_from (map (c_def types) (take i types)) x ≡ true) a.is (built i a.made a.there)))

  -- ---- sizes

  few : (i : ℕ) (e : TypeEntry) → slice_get types i ≡ Some e → has_few_fields (c_def types e) ≡ true
  few i (entry.Array elem n) e = refl
  few i (entry.Struct name fields) e =
      let h = good.each i (entry.Struct name fields) e in
      let some = h.1 in
      let most = h.2 in
      let same : length (map (c_field types) fields) ≡ length fields = length-map fields (c_field types) in
      and_from _ _ (le-leb 1 (length (map (c_field types) fields)) (omega (arith, same, some))) (le-leb (length (map (c_field types) fields)) 64 (omega (arith, same, most)))

  pub few_fields : list_all has_few_fields (map (c_def types) types) ≡ true
  few_fields = all_mapped has_few_fields (c_def types) types few

  pub array_lengths : list_all has_array_length (arrays_in (map (c_def types) types)) ≡ true
  array_lengths = arrays_pass types has_array_length types
      (λ i n elem e. let h = good.each i (entry.Array elem n) e in let some = h.1 in let most = h.2 in and_from _ _ (le-leb 1 n some) (le-leb n 1024 most))
