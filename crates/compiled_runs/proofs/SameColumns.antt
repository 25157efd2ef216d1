-- The definitions and types of a translation read back as the types that they were made from, and so its columns are those
-- of its specification.
use Rattle.std.proofs.Common.{◌≡◌, ℕ, zero, suc, ◌+◌, Bool, true, false, not, cond, List, [], ◌∷◌, ◌++◌, map, take, Option, Some}
use Rattle.std.proofs.Common.{refl, sym, ap, ◌∙◌, subst, arith}
use Rattle.std.specs.Prelude.{slice_get, nat_eq, All}
use Rattle.std.specs.Option.{option_map}
use Rattle.std.specs.List.{position_or_len, flat_map}
use Rattle.std.specs.Cmp.Lexicographic.{nat_list_eq_equiv}
use Rattle.std.proofs.lemmas.Bool.{and_from, and_parts, eq-eqb}
use Rattle.std.proofs.lemmas.Option.{slice_get-map}
use Rattle.stream_types.specs.declared.scalar.Scalar.{Scalar}
use Rattle.stream_types.specs.declared.scalar.Scalar.TheVariants as scalar
use Rattle.stream_types.specs.declared.scalar.Ty.{Ty}
use Rattle.stream_types.specs.declared.scalar.Ty.TheVariants as ty
use Rattle.stream_types.specs.declared.types.Field.{Field}
use Rattle.stream_types.specs.declared.types.TypeEntry.{TypeEntry}
use Rattle.stream_types.specs.declared.types.TypeEntry.TheVariants as entry
use Rattle.stream_types.specs.TypeList.{Stands, IsElement, IsTypeList}
use Rattle.stream_types.proofs.TypeLists.{Stands-take}
use Rattle.stream_core.specs.declared.spec.ExternItem.{ExternItem}
use Rattle.stream_core.specs.declared.spec.Root.{Root}
use Rattle.stream_core.specs.declared.spec.TriggerItem.{TriggerItem}
use Rattle.stream_core.specs.Value.{SpecValue}
use Rattle.stream_core.specs.Term.{Term, TreeRoot, TreeTrigger, tree, tree_root, trees}
use Rattle.stream_core.specs.WellTyped.{HasNames, WellTyped}
use Rattle.stream_core.proofs.SameNode.{list_same}
use Rattle.c99_tree.specs.declared.types.CTy.TheVariants as cty
use Rattle.c99_tree.specs.declared.types.CVar.{CVar}
use Rattle.c99_tree.specs.declared.types.CDef.{CDef}
use Rattle.c99_tree.specs.declared.unit.Unit.{Unit as CUnit}
use Rattle.c99_tree.specs.Words.{is_same, elem_type}
use Rattle.c99_tree.proofs.LookedUp.{all_at, same_number}
use Rattle.extern_rows.specs.declared.header.Leaf.{Leaf}
use Rattle.extern_rows.specs.Leaves.{leaf_columns}
use Rattle.interpreter.specs.Interpreted.{columns_of}
use Rattle.interpreter.proofs.RootsStand.{args_stand}
use Rattle.ring_codegen.specs.CTypes.{c_scalar, c_type, c_field, c_def, c_extern, c_arguments, element_word, array_type, struct_name}
use Rattle.ring_codegen.specs.Simulation.{Simulates}
use Rattle.ring_codegen.proofs.NamedOnce.{from_map, element_type}
use Rattle.ring_codegen.proofs.UnitTypes.{array_at, struct_at, structs_named, element_at}
use Rattle.c_runner.specs.Read.{scalar_of, defines_struct, defines_array, read_type, read_field, read_entry, read_types}
use Rattle.c_runner.specs.Executed.{unit_columns}

-- ---- lists

-- the place of the only element that passes
only_place : {A : Type 0} (p : A → Bool) (xs : List A) (k : ℕ) (x : A) → slice_get xs k ≡ Some x → p x ≡ true
    → ((i : ℕ) (y : A) → slice_get xs i ≡ Some y → p y ≡ true → i ≡ k) → position_or_len p xs ≡ k
only_place p [] k x e h only = absurd (cc e)
only_place p (y ∷ xs) zero x e h only =
    let s : y ≡ x = cc e in
    ap (λ (b : Bool). cond (not b) (1 + position_or_len p xs) 0) (ap p s ∙ h)
only_place {A = A} p (y ∷ xs) (suc k) x e h only =
    by (only_place p xs k x e h (λ i z f g. let s : suc i ≡ suc k = only (suc i) z f g in omega (arith, s))) (p y) refl
  where
    by : position_or_len p xs ≡ k → (b : Bool) → p y ≡ b → position_or_len p (y ∷ xs) ≡ suc k
    by rest true s = let z : 0 ≡ suc k = only 0 y refl s in absurd (omega (arith, z))
    by rest false s = ap (λ (b : Bool). cond (not b) (1 + position_or_len p xs) 0) s ∙ omega (arith, rest)

-- a list changed element by element and back
back_again : {A B : Type 0} (f : A → B) (g : B → A) (xs : List A) → ((k : ℕ) (x : A) → slice_get xs k ≡ Some x → g (f x) ≡ x)
    → map g (map f xs) ≡ xs
back_again f g [] h = refl
back_again f g (x ∷ xs) h =
    let a : g (f x) ≡ x = h 0 x refl in
    let b : map g (map f xs) ≡ xs = back_again f g xs (λ k y e. h (suc k) y e) in
    λ j. a j ∷ b j

-- what the elements of a changed list give
same_parts : {A B C : Type 0} (f : A → B) (g : B → List C) (h : A → List C) (xs : List A)
    → ((k : ℕ) (x : A) → slice_get xs k ≡ Some x → g (f x) ≡ h x)
    → flat_map g (map f xs) ≡ flat_map h xs
same_parts f g h [] e = refl
same_parts f g h (x ∷ xs) e =
    let a = e 0 x refl in
    let b = same_parts f g h xs (λ k y i. e (suc k) y i) in
    λ j. a j ++ b j

-- ---- types

scalar_again : (s : Scalar) → scalar_of (c_scalar s) ≡ s
scalar_again scalar.Bool = refl
scalar_again scalar.Int8 = refl
scalar_again scalar.Int16 = refl
scalar_again scalar.Int32 = refl
scalar_again scalar.Int64 = refl
scalar_again scalar.Word8 = refl
scalar_again scalar.Word16 = refl
scalar_again scalar.Word32 = refl
scalar_again scalar.Word64 = refl

-- an entry whose definition is that of a struct of a name, or of an array of a word and a length
struct_defined : (ts : List TypeEntry) (x : List ℕ) (e : TypeEntry) → defines_struct x (c_def ts e) ≡ true
    → (fields : List Field) × (e ≡ entry.Struct x fields)
struct_defined ts x (entry.Array elem n) h = absurd (cc h)
struct_defined ts x (entry.Struct name fields) h = (fields, ap (λ (y : List ℕ). entry.Struct y fields) (sym (list_same x name h)))

array_defined : (ts : List TypeEntry) (x : List ℕ) (n : ℕ) (e : TypeEntry) → defines_array x n (c_def ts e) ≡ true
    → (elem : Ty) × (e ≡ entry.Array elem n) × (x ≡ element_word ts elem)
array_defined ts x n (entry.Struct name fields) h = absurd (cc h)
array_defined ts x n (entry.Array elem m) h =
    let p = and_parts (is_same x (element_word ts elem)) (nat_eq n m) h in
    (elem, ap (entry.Array elem) (sym (same_number n m p.1)), list_same x (element_word ts elem) p.0)

same_field : (f : Field) (t : Ty) → t ≡ f.ty → record { name = f.name; ty = t } ≡ f
same_field f t h = λ j. record { name = f.name; ty = h j }

module _ (ts : List TypeEntry) (good : IsTypeList ts) (names : All HasNames ts) where
  abbrev ds : List CDef
  ds = map (c_def ts) ts

  def_at : (i : ℕ) (e : TypeEntry) → slice_get ts i ≡ Some e → slice_get ds i ≡ Some (c_def ts e)
  def_at i e h = slice_get-map (c_def ts) ts i ∙ ap (option_map (c_def ts)) h

  struct_place : (i : ℕ) (x : List ℕ) (fields : List Field) → slice_get ts i ≡ Some (entry.Struct x fields)
      → position_or_len (defines_struct x) ds ≡ i
  struct_place i x fields e =
      only_place (defines_struct x) ds i (c_def ts (entry.Struct x fields)) (def_at i (entry.Struct x fields) e) (nat_list_eq_equiv.refl x)
      (λ j d g h.
      let a = from_map (c_def ts) ts j d g in
      let b = struct_defined ts x a.origin (subst (λ (y : CDef). defines_struct x y ≡ true) (sym a.is) h) in
      good.structs j i x b.0 fields (a.there ∙ ap (λ (y : TypeEntry). Some y) b.1) e)

  -- a struct, a scalar, and what an array is made of
  struct_again : (i : ℕ) → Stands ts (ty.Struct i) → read_type ds (c_type ts (ty.Struct i)) ≡ ty.Struct i
  struct_again i h =
      let a = struct_at (slice_get ts i) h in
      ap (λ (o : Option TypeEntry). read_type ds (cty.Struct (struct_name o))) a.2 ∙ ap ty.Struct (struct_place i a.0 a.1 a.2)

  element_again : (t : Ty) → IsElement ts t → read_type ds (c_type ts t) ≡ t
  element_again (ty.Scalar s) h = ap ty.Scalar (scalar_again s)
  element_again (ty.Array i) h = absurd h
  element_again (ty.Struct i) h = struct_again i h

  -- the type of an array's elements by their word
  word_type : (t : Ty) → IsElement ts t → elem_type (element_word ts t) ≡ c_type ts t
  word_type t h = element_type ts (structs_named ts good names) t h

  word_again : (t : Ty) → IsElement ts t → read_type ds (elem_type (element_word ts t)) ≡ t
  word_again t h = ap (read_type ds) (word_type t h) ∙ element_again t h

  one_element : (a b : Ty) → IsElement ts a → IsElement ts b → element_word ts a ≡ element_word ts b → a ≡ b
  one_element a b h g e = sym (word_again a h) ∙ ap (λ (w : List ℕ). read_type ds (elem_type w)) e ∙ word_again b g

  array_place : (i n : ℕ) (elem : Ty) → slice_get ts i ≡ Some (entry.Array elem n)
      → position_or_len (defines_array (element_word ts elem) n) ds ≡ i
  array_place i n elem e =
      only_place (defines_array (element_word ts elem) n) ds i (c_def ts (entry.Array elem n)) (def_at i (entry.Array elem n) e)
      (and_from _ _ (nat_list_eq_equiv.refl (element_word ts elem)) (eq-eqb n n refl))
      (λ j d g h.
      let a = from_map (c_def ts) ts j d g in
      let b = array_defined ts (element_word ts elem) n a.origin
      (subst (λ (y : CDef). defines_array (element_word ts elem) n y ≡ true) (sym a.is) h) in
      let there : slice_get ts j ≡ Some (entry.Array b.0 n) = a.there ∙ ap (λ (y : TypeEntry). Some y) b.1 in
      let same : elem ≡ b.0 = one_element elem b.0 (element_at ts good names i n elem e) (element_at ts good names j n b.0 there) b.2 in
      good.arrays j i elem n (there ∙ ap (λ (t : Ty). Some (entry.Array t n)) (sym same)) e)

  -- a type of the list reads as itself
  pub same_type : (t : Ty) → Stands ts t → read_type (map (c_def ts) ts) (c_type ts t) ≡ t
  same_type (ty.Scalar s) h = ap ty.Scalar (scalar_again s)
  same_type (ty.Struct i) h = struct_again i h
  same_type (ty.Array i) h =
      let a = array_at (slice_get ts i) h in
      ap (λ (o : Option TypeEntry). read_type ds (array_type ts o)) a.2 ∙ ap ty.Array (array_place i a.1 a.0 a.2)

  field_again : (f : Field) → Stands ts f.ty → read_field ds (c_field ts f) ≡ f
  field_again f h = same_field f (read_type ds (c_type ts f.ty)) (same_type f.ty h)

  entry_again : (i : ℕ) (e : TypeEntry) → slice_get ts i ≡ Some e → read_entry ds (c_def ts e) ≡ e
  entry_again i (entry.Array elem n) e = ap (λ (t : Ty). entry.Array t n) (word_again elem (element_at ts good names i n elem e))
  entry_again i (entry.Struct name fields) e =
      let stand = (good.each i (entry.Struct name fields) e).0 in
      ap (entry.Struct name) (back_again (c_field ts) (read_field ds) fields
      (λ k f g. field_again f (Stands-take ts i f.ty (all_at (λ (x : Field). Stands (take i ts) x.ty) fields k f stand g))))

  -- and so does each entry
  pub same_entries : read_types (map (c_def ts) ts) ≡ ts
  same_entries = back_again (c_def ts) (read_entry ds) ts entry_again

  -- the types of some roots
  roots_again : (rs : List TreeRoot) → ((k : ℕ) (r : TreeRoot) → slice_get rs k ≡ Some r → Stands ts r.ty)
      → map (read_type ds) (map (λ (r : TreeRoot). c_type ts r.ty) rs) ≡ map (λ (r : TreeRoot). r.ty) rs
  roots_again [] h = refl
  roots_again (r ∷ rs) h =
      let a : read_type ds (c_type ts r.ty) ≡ r.ty = same_type r.ty (h 0 r refl) in
      let b = roots_again rs (λ k x e. h (suc k) x e) in
      λ j. a j ∷ b j

-- ---- arguments

-- the types of a trigger's arguments
pub same_arguments : (s : SpecValue) → WellTyped s → (i : ℕ) (x : TreeTrigger) → slice_get (trees s).triggers i ≡ Some x
    → map (read_type (map (c_def s.types) s.types)) (c_arguments s.types x) ≡ map (λ (r : TreeRoot). r.ty) x.args
same_arguments s w i x e =
    let ds : List CDef = map (c_def s.types) s.types in
    let at : ℕ → Term = tree s.nodes s.libs in
    let of_item : TriggerItem → TreeTrigger = λ y. record { name = y.name; guard = tree_root at y.guard; args = map (tree_root at) y.args } in
    let a = from_map of_item s.triggers i x e in
    subst (λ (y : TreeTrigger). map (read_type ds) (c_arguments s.types y) ≡ map (λ (r : TreeRoot). r.ty) y.args) a.is
    (roots_again s.types w.types w.names.types (map (tree_root at) a.origin.args)
    (λ k r g.
    let b = from_map (tree_root at) a.origin.args k r g in
    let h = all_at (λ (q : Root). Stands s.types q.ty) a.origin.args k b.origin (args_stand s w i a.origin a.there) b.there in
    subst (λ (q : TreeRoot). Stands s.types q.ty) b.is h))

-- ---- columns

-- the columns of a program are those of the specification that it simulates
pub same_columns : (s : SpecValue) (name : List ℕ) (u : CUnit) → WellTyped s → Simulates s name u → unit_columns u ≡ columns_of (trees s)
same_columns s name u w is =
    let ds : List CDef = map (c_def s.types) s.types in
    let columns : List CDef → CVar → List Leaf = λ cs x. leaf_columns (read_types cs) x.name (read_type cs x.ty) in
    ap (λ (cs : List CDef). flat_map (columns cs) u.externs) is.types
    ∙ ap (flat_map (columns ds)) is.externs
    ∙ same_parts (c_extern s.types) (columns ds) (λ (x : ExternItem). leaf_columns s.types x.name x.ty) s.externs
    (λ k x e.
    let h : Stands s.types x.ty = all_at (λ (y : ExternItem). Stands s.types y.ty) s.externs k x w.externs e in
    let a : read_types ds ≡ s.types = same_entries s.types w.types w.names.types in
    let b : read_type ds (c_type s.types x.ty) ≡ x.ty = same_type s.types w.types w.names.types x.ty h in
    λ j. leaf_columns (a j) x.name (b j))
