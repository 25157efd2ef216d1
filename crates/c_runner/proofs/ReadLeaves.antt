-- The scalars of a type that a unit's type reads as are those of its shape, and their words are those of its values.
use Rattle.std.proofs.Common.{◌≡◌, ℕ, zero, suc, ◌+◌, ◌<◌, ◌≤◌, true, List, [], ◌∷◌, ◌++◌, length, length-append, map, Option, Some, None, refl, sym}
use Rattle.std.proofs.Common.{ap, ◌∙◌, arith, unwrap_or}
use Rattle.std.specs.Prelude.{slice_get}
use Rattle.std.specs.Option.{option_map, option_and_then}
use Rattle.std.specs.List.{AllByRecursion}
use Rattle.std.proofs.lemmas.Option.{slice_get-map}
use Rattle.stream_types.specs.declared.scalar.Scalar.{Scalar}
use Rattle.stream_types.specs.declared.scalar.Ty.{Ty}
use Rattle.stream_types.specs.declared.scalar.Ty.TheVariants as typed
use Rattle.stream_types.specs.declared.types.Field.{Field}
use Rattle.stream_types.specs.declared.types.TypeEntry.{TypeEntry}
use Rattle.stream_types.specs.declared.types.TypeEntry.TheVariants as entry
use Rattle.stream_types.specs.Types.{repeated, leaves_at, leaves_of_fields, leaves_of_entry, all_leaves, leaves}
use Rattle.c99_tree.specs.declared.types.CScalar.{CScalar}
use Rattle.c99_tree.specs.declared.types.CTy.{CTy}
use Rattle.c99_tree.specs.declared.types.CTy.TheVariants as ty
use Rattle.c99_tree.specs.declared.types.CVar.{CVar}
use Rattle.c99_tree.specs.declared.types.CDef.{CDef}
use Rattle.c99_tree.specs.declared.types.CDef.TheVariants as def
use Rattle.c99_tree.specs.Words.{elem_type}
use Rattle.c99_tree.specs.Lookup.{fields_of, is_defined}
use Rattle.c99_tree.specs.Values.{Shape, Shapes, scalar, members, elements, no_shape, and_shape, shapes_of_fields, shape_of_element, shape_over}
use Rattle.c99_tree.specs.Values.{shape_within, shape_of}
use Rattle.c99_tree.specs.WellFormed.{types_are_built_in_order}
use Rattle.c99_tree.proofs.Shapes.{shape_within-suc, shape_within-zero}
use Rattle.c99_tree.proofs.TypedShapes.{fields_split}
use Rattle.c_runner.specs.Read.{read_entry, read_field, read_type, read_types, scalar_of}
use Rattle.c_runner.proofs.ReadPlaces.{Below, Placed, PlacedDef, all_placed, array_there, struct_there}

-- ---- the scalars of an entry come from those before it

get-append : {X : Type 0} (xs ys : List X) (i : ℕ) → i < length xs → slice_get (xs ++ ys) i ≡ slice_get xs i
get-append [] ys i h = absurd (omega arith)
get-append (x ∷ xs) ys zero h = refl
get-append (x ∷ xs) ys (suc i) h = get-append xs ys i (omega arith)

get-last : {X : Type 0} (xs : List X) (x : X) (i : ℕ) → i ≡ length xs → slice_get (xs ++ x ∷ []) i ≡ Some x
get-last [] x zero h = refl
get-last [] x (suc i) h = absurd (omega arith)
get-last (y ∷ xs) x zero h = absurd (omega arith)
get-last (y ∷ xs) x (suc i) h = get-last xs x i (omega arith)

leaves_keep : (before : List (List Scalar)) (es : List TypeEntry) (i : ℕ) → i < length before → slice_get (all_leaves before es) i ≡ slice_get before i
leaves_keep before [] i h = refl
leaves_keep before (x ∷ es) i h =
    leaves_keep (before ++ leaves_of_entry before x ∷ []) es i (omega (arith, length-append before (leaves_of_entry before x ∷ [])))
    ∙ get-append before (leaves_of_entry before x ∷ []) i h

type_keeps : (before : List (List Scalar)) (es : List TypeEntry) (n : ℕ) (t : Ty) → n ≤ length before → Below n t
    → leaves_at (all_leaves before es) t ≡ leaves_at before t
type_keeps before es n (typed.Scalar s) h b = refl
type_keeps before es n (typed.Array i) h b = ap (λ (o : Option (List Scalar)). unwrap_or o []) (leaves_keep before es i (omega (arith, h, b)))
type_keeps before es n (typed.Struct i) h b = ap (λ (o : Option (List Scalar)). unwrap_or o []) (leaves_keep before es i (omega (arith, h, b)))

abbrev BelowEntry : ℕ → TypeEntry → Type 0
BelowEntry n (entry.Struct name fields) = AllByRecursion (λ (f : Field). Below n f.ty) fields
BelowEntry n (entry.Array elem k) = Below n elem

fields_keep : (before : List (List Scalar)) (es : List TypeEntry) (n : ℕ) (fs : List Field) → n ≤ length before
    → AllByRecursion (λ (f : Field). Below n f.ty) fs
    → leaves_of_fields (all_leaves before es) fs ≡ leaves_of_fields before fs
fields_keep before es n [] h b = refl
fields_keep before es n (f ∷ fs) h b =
    ap (λ (ss : List Scalar). ss ++ leaves_of_fields (all_leaves before es) fs) (type_keeps before es n f.ty h b.0)
    ∙ ap (λ (ss : List Scalar). leaves_at before f.ty ++ ss) (fields_keep before es n fs h b.1)

entry_keeps : (before : List (List Scalar)) (es : List TypeEntry) (n : ℕ) (e : TypeEntry) → n ≤ length before → BelowEntry n e
    → leaves_of_entry (all_leaves before es) e ≡ leaves_of_entry before e
entry_keeps before es n (entry.Struct name fields) h b = fields_keep before es n fields h b
entry_keeps before es n (entry.Array elem k) h b = ap (repeated k) (type_keeps before es n elem h b)

entry_at : (before : List (List Scalar)) (es : List TypeEntry) (i j : ℕ) (e : TypeEntry) → slice_get es i ≡ Some e → j ≡ length before + i → BelowEntry j e
    → slice_get (all_leaves before es) j ≡ Some (leaves_of_entry (all_leaves before es) e)
entry_at before [] i j e h p b = absurd (cc h)
entry_at before (x ∷ es) zero j e h p b =
    let same : x ≡ e = cc h in
    let long = length-append before (leaves_of_entry before x ∷ []) in
    leaves_keep (before ++ leaves_of_entry before x ∷ []) es j (omega (arith, p, long))
    ∙ get-last before (leaves_of_entry before x) j (omega (arith, p))
    ∙ ap (λ (y : TypeEntry). Some (leaves_of_entry before y)) same
    ∙ ap Some (sym (entry_keeps before (x ∷ es) j e (omega (arith, p)) b))
entry_at before (x ∷ es) (suc i) j e h p b =
    let long = length-append before (leaves_of_entry before x ∷ []) in
    entry_at (before ++ leaves_of_entry before x ∷ []) es i j e h (omega (arith, p, long)) b

-- ---- those of a definition

fields_below : (ds : List CDef) (n : ℕ) (fields : List CVar) → AllByRecursion (λ (v : CVar). Placed ds n v.ty) fields
    → AllByRecursion (λ (f : Field). Below n f.ty) (map (read_field ds) fields)
fields_below ds n [] h = tt
fields_below ds n (v ∷ fields) h = (h.0.below, fields_below ds n fields h.1)

def_below : (ds : List CDef) (n : ℕ) (d : CDef) → PlacedDef ds n d → BelowEntry n (read_entry ds d)
def_below ds n (def.Struct x fields) h = fields_below ds n fields h
def_below ds n (def.Array x k) h = h.below

def_leaves : (ds : List CDef) → types_are_built_in_order ds ≡ true → (i : ℕ) (d : CDef) → slice_get ds i ≡ Some d
    → unwrap_or (slice_get (all_leaves [] (read_types ds)) i) [] ≡ leaves_of_entry (all_leaves [] (read_types ds)) (read_entry ds d)
def_leaves ds ordered i d e =
    let there : slice_get (read_types ds) i ≡ Some (read_entry ds d) = slice_get-map (read_entry ds) ds i ∙ ap (option_map (read_entry ds)) e in
    ap (λ (o : Option (List Scalar)). unwrap_or o [])
    (entry_at [] (read_types ds) i i (read_entry ds d) there (omega arith) (def_below ds i d (all_placed ds ordered i d e)))

-- ---- the scalars of a shape

abbrev mutual
  pub shape_scalars : Shape → List Scalar
  shape_scalars (scalar t) = scalar_of t ∷ []
  shape_scalars (members shapes) = shapes_scalars shapes
  shape_scalars (elements n shape) = repeated n (shape_scalars shape)

  pub shapes_scalars : Shapes → List Scalar
  shapes_scalars no_shape = []
  shapes_scalars (and_shape s shapes) = shape_scalars s ++ shapes_scalars shapes

abbrev table : List CDef → List (List Scalar)
table ds = all_leaves [] (read_types ds)

-- a defined type's scalars are those of its shape
abbrev Reads : List CDef → (CTy → Option Shape) → Type 0
Reads ds f = (r : CTy) (s : Shape) → is_defined ds r ≡ true → f r ≡ Some s → leaves_at (table ds) (read_type ds r) ≡ shape_scalars s

scalar_reads : (t : CScalar) (s : Shape) → Some (scalar t) ≡ Some s → scalar_of t ∷ [] ≡ shape_scalars s
scalar_reads t s e = let same : scalar t ≡ s = cc e in ap shape_scalars same

fields_read : (ds : List CDef) (f : CTy → Option Shape) → Reads ds f → (n : ℕ) (fields : List CVar) (ss : Shapes)
    → AllByRecursion (λ (v : CVar). Placed ds n v.ty) fields → shapes_of_fields f fields ≡ Some ss
    → leaves_of_fields (table ds) (map (read_field ds) fields) ≡ shapes_scalars ss
fields_read ds f m n [] no_shape h e = refl
fields_read ds f m n [] (and_shape s ss) h e = absurd (cc e)
fields_read ds f m n (v ∷ fields) ss h e =
    let p = fields_split (f v.ty) (shapes_of_fields f fields) ss e in
    ap (λ (xs : List Scalar). xs ++ leaves_of_fields (table ds) (map (read_field ds) fields)) (m v.ty p.one h.0.defined p.one_is)
    ∙ ap (λ (xs : List Scalar). shape_scalars p.one ++ xs) (fields_read ds f m n fields p.others h.1 p.others_are)
    ∙ ap shapes_scalars p.both

members_read : (ds : List CDef) (f : CTy → Option Shape) → Reads ds f → (n : ℕ) (fields : List CVar) (o : Option Shapes) (s : Shape)
    → AllByRecursion (λ (v : CVar). Placed ds n v.ty) fields → shapes_of_fields f fields ≡ o
    → option_map members o ≡ Some s → leaves_of_fields (table ds) (map (read_field ds) fields) ≡ shape_scalars s
members_read ds f m n fields None s h e g = absurd (cc g)
members_read ds f m n fields (Some ss) s h e g =
    let same : members ss ≡ s = cc g in
    fields_read ds f m n fields ss h e ∙ ap shape_scalars same

struct_reads : (ds : List CDef) → types_are_built_in_order ds ≡ true → (f : CTy → Option Shape) → Reads ds f
    → (x : List ℕ) (o : Option (List CVar)) (s : Shape) → fields_of ds x ≡ o
    → option_and_then (λ fields. option_map members (shapes_of_fields f fields)) o ≡ Some s
    → leaves_at (table ds) (read_type ds (ty.Struct x)) ≡ shape_scalars s
struct_reads ds ordered f m x None s g e = absurd (cc e)
struct_reads ds ordered f m x (Some fields) s g e =
    let there = struct_there x fields ds g in
    let place = all_placed ds ordered _ _ there.1 in
    def_leaves ds ordered _ (def.Struct there.0 fields) there.1
    ∙ members_read ds f m _ fields (shapes_of_fields f fields) s place refl e

element_reads : (ds : List CDef) → types_are_built_in_order ds ≡ true → (f : CTy → Option Shape) → Reads ds f → Reads ds (shape_of_element f ds)
element_reads ds ordered f m (ty.Scalar t) s d e = scalar_reads t s e
element_reads ds ordered f m (ty.Struct x) s d e = struct_reads ds ordered f m x (fields_of ds x) s refl e
element_reads ds ordered f m (ty.Array x n) s d e = absurd (cc e)

array_reads : (ds : List CDef) → types_are_built_in_order ds ≡ true → (f : CTy → Option Shape) → Reads ds f
    → (x : List ℕ) (n : ℕ) (o : Option Shape) (s : Shape) → is_defined ds (ty.Array x n) ≡ true
    → shape_of_element f ds (elem_type x) ≡ o → option_map (elements n) o ≡ Some s → leaves_at (table ds) (read_type ds (ty.Array x n)) ≡ shape_scalars s
array_reads ds ordered f m x n None s d g e = absurd (cc e)
array_reads ds ordered f m x n (Some r) s d g e =
    let there = array_there x n ds d in
    let place = all_placed ds ordered _ _ there in
    let same : elements n r ≡ s = cc e in
    def_leaves ds ordered _ (def.Array x n) there
    ∙ ap (repeated n) (element_reads ds ordered f m (elem_type x) r place.defined g)
    ∙ ap shape_scalars same

over_reads : (ds : List CDef) → types_are_built_in_order ds ≡ true → (f : CTy → Option Shape) → Reads ds f → Reads ds (shape_over f ds)
over_reads ds ordered f m (ty.Scalar t) s d e = scalar_reads t s e
over_reads ds ordered f m (ty.Struct x) s d e = struct_reads ds ordered f m x (fields_of ds x) s refl e
over_reads ds ordered f m (ty.Array x n) s d e = array_reads ds ordered f m x n (shape_of_element f ds (elem_type x)) s d refl e

within_reads : (n : ℕ) (ds : List CDef) → types_are_built_in_order ds ≡ true → Reads ds (shape_within n ds)
within_reads zero ds ordered r s d e = absurd (cc (shape_within-zero ds r, e))
within_reads (suc n) ds ordered r s d e =
    over_reads ds ordered (shape_within n ds) (within_reads n ds ordered) r s d (sym (shape_within-suc n ds r) ∙ e)

pub leaves_read : (ds : List CDef) → types_are_built_in_order ds ≡ true → (r : CTy) (s : Shape) → is_defined ds r ≡ true → shape_of ds r ≡ Some s
    → leaves (read_types ds) (read_type ds r) ≡ shape_scalars s
leaves_read ds ordered r s d e = within_reads (length ds + 1) ds ordered r s d e
