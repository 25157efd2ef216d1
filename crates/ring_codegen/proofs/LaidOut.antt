-- A translation has its specification's storage, and its copies stand before its calls.
use Rattle.std.proofs.Common.{◌≡◌, ℕ, zero, suc, ◌+◌, ◌*◌, ◌<◌, ◌≤◌, Bool, true, false, not, ◌||◌, ◌&&◌, List, [], ◌∷◌, ◌++◌, length, map, append_assoc, Option, Some, refl, sym, ap, ◌∙◌, subst, arith}
use Rattle.std.specs.Prelude.{slice_get, nat_le, sum, IsTrue, All, if◌then◌else◌}
use Rattle.std.specs.List.{list_all, list_any, flat_map, sum_by}
use Rattle.std.proofs.lemmas.Bool.{and_from}
use Rattle.std.proofs.lemmas.Bool.Decides.{nat_tests}
use Rattle.std.proofs.lemmas.List.Sums.{sum_by-cons}
use Rattle.std.proofs.lemmas.List.Folds.{list_any-append, list_all-append}
use Rattle.stream_types.specs.declared.scalar.Scalar.{Scalar}
use Rattle.stream_types.specs.declared.scalar.Scalar.TheVariants as scalar
use Rattle.stream_types.specs.declared.scalar.Ty.{Ty}
use Rattle.stream_types.specs.declared.scalar.Ty.TheVariants as ty
use Rattle.stream_types.specs.declared.types.Field.{Field}
use Rattle.stream_types.specs.declared.types.TypeEntry.{TypeEntry}
use Rattle.stream_types.specs.declared.types.TypeEntry.TheVariants as entry
use Rattle.stream_types.specs.Types.{scalar_bytes, entry_bytes, at_fields, size}
use Rattle.stream_types.specs.TypeList.{Stands, IsTypeList}
use Rattle.stream_types.proofs.Widths.{measure_is}
use Rattle.stream_core.specs.declared.spec.ExternItem.{ExternItem}
use Rattle.stream_core.specs.Value.{SpecValue}
use Rattle.stream_core.specs.Term.{Term, TreeSpec, TreeStream, TreeTrigger, TreeLib, initial_count, trees, defs_of, written_out}
use Rattle.stream_core.specs.WellTyped.{WellTyped, field_types}
use Rattle.stream_core.specs.Plain.{IsPlainSpec}
use Rattle.stream_core.specs.Soundness.{HasNoCycle}
use Rattle.stream_core.specs.Limits.{ring_bytes}
use Rattle.stream_core.specs.Lower.{lowered, buffer_of, all_buffers}
use Rattle.stream_core.specs.Meaning.{closed_spec, storage}
use Rattle.c99_tree.specs.declared.types.CDef.{CDef}
use Rattle.c99_tree.specs.declared.expr.CExpr.TheVariants as e
use Rattle.c99_tree.specs.declared.unit.CStmt.{CStmt}
use Rattle.c99_tree.specs.declared.unit.CStmt.TheVariants as s
use Rattle.c99_tree.specs.declared.unit.Unit.{Unit as CUnit}
use Rattle.c99_tree.specs.Tree.{Stmt, statement, statements}
use Rattle.c99_tree.specs.Values.{Shape, Shapes, scalar, members, elements, no_shape, and_shape}
use Rattle.c99_tree.specs.Storage.{scalar_size, size_of_shape, size_of_shapes, size_or_none, size_of, ring_storage, copy_storage, storage_of}
use Rattle.c99_tree.specs.WellFormed.{each_after}
use Rattle.c99_tree.proofs.LookedUp.{all_at}
use Rattle.ring_codegen.specs.CTypes.{c_scalar, c_type, c_def, c_extern}
use Rattle.ring_codegen.specs.Simulation.{is_copy, is_call, copies_stand_first}
use Rattle.ring_codegen.specs.Translation.{copy_statement, trigger_statement, next_statement, write_statements, is_indexed, place_behind, ring_of, translation}
use Rattle.ring_codegen.specs.Standing.{HasStructName, IsRingLong, IsProgramOf, HasSteps}
use Rattle.ring_codegen.proofs.ShapedTypes.{IsShapeOf, AreShapesOf, has_shape}
use Rattle.ring_codegen.proofs.StepWhole.{statements_are}
use Rattle.ring_codegen.proofs.PlainPrograms.{program_is, has_steps}

-- ---- sizes

scalar_kept : (t : Scalar) → scalar_size (c_scalar t) ≡ scalar_bytes t
scalar_kept scalar.Bool = refl
scalar_kept scalar.Int8 = refl
scalar_kept scalar.Int16 = refl
scalar_kept scalar.Int32 = refl
scalar_kept scalar.Int64 = refl
scalar_kept scalar.Word8 = refl
scalar_kept scalar.Word16 = refl
scalar_kept scalar.Word32 = refl
scalar_kept scalar.Word64 = refl

module _ (types : List TypeEntry) (good : IsTypeList types) where
  mutual
    size_kept : (s : Shape) (t : Ty) → IsShapeOf types t s → size_of_shape s ≡ size types t
    size_kept (scalar k) (ty.Scalar t) h = ap scalar_size h ∙ scalar_kept t
    size_kept (scalar k) (ty.Array i) h = absurd h
    size_kept (scalar k) (ty.Struct i) h = absurd h
    size_kept (elements n s) (ty.Scalar t) h = absurd h
    size_kept (elements n s) (ty.Struct i) h = absurd h
    size_kept (elements n s) (ty.Array i) h = ap (λ (k : ℕ). n * k) (size_kept s h.0 h.2) ∙ sym (measure_is scalar_bytes types i (entry.Array h.0 n) good h.1)
    size_kept (members ss) (ty.Scalar t) h = absurd h
    size_kept (members ss) (ty.Array i) h = absurd h
    size_kept (members ss) (ty.Struct i) h = sizes_kept ss h.1 h.3 ∙ sym (measure_is scalar_bytes types i (entry.Struct h.0 h.1) good h.2)

    sizes_kept : (ss : Shapes) (fields : List Field) → AreShapesOf types (field_types fields) ss → size_of_shapes ss ≡ at_fields scalar_bytes (entry_bytes types) fields
    sizes_kept no_shape [] h = refl
    sizes_kept no_shape (f ∷ fields) h = absurd h
    sizes_kept (and_shape s ss) [] h = absurd h
    sizes_kept (and_shape s ss) (f ∷ fields) h = λ j. size_kept s f.ty h.0 j + sizes_kept ss fields h.1 j

  module _ (named : All HasStructName types) where
    abbrev ds : List CDef
    ds = map (c_def types) types

    type_size : (t : Ty) → Stands types t → size_of ds (c_type types t) ≡ size types t
    type_size t h = let s = has_shape types good named t h in ap size_or_none s.is ∙ size_kept s.shape t s.fits

    ring_size : (x : TreeStream) → IsRingLong types x → ring_storage ds (ring_of types x) ≡ ring_bytes (initial_count types x) (size types x.ty)
    ring_size x h = by (nat_le 2 (initial_count types x)) refl
      where
        by : (b : Bool) → nat_le 2 (initial_count types x) ≡ b → (if b then initial_count types x * size_of ds (c_type types x.ty) + 4 else size_of ds (c_type types x.ty))
            ≡ (if b then initial_count types x * size types x.ty + 4 else initial_count types x * size types x.ty)
        by true q = ap (λ (k : ℕ). initial_count types x * k + 4) (type_size x.ty h.stands)
        by false q =
            let few : initial_count types x < 2 = grind (arith, nat_tests, q) in
            let some = h.some in
            let one : 1 ≡ initial_count types x = omega (arith, few, some) in
            let self : size types x.ty ≡ 1 * size types x.ty = omega arith in
            type_size x.ty h.stands ∙ self ∙ ap (λ (n : ℕ). n * size types x.ty) one

same_sums : {A B : Type 0} (f : B → ℕ) (g : A → B) (h : A → ℕ) (xs : List A) → ((k : ℕ) (x : A) → slice_get xs k ≡ Some x → f (g x) ≡ h x) → sum_by f (map g xs) ≡ sum (map h xs)
same_sums f g h [] e = refl
same_sums f g h (x ∷ xs) e = sum_by-cons f (g x) (map g xs) ∙ (λ j. e 0 x refl j + same_sums f g h xs (λ k y q. e (suc k) y q) j) ∙ sym (sum_by-cons (λ (k : ℕ). k) (h x) (map h xs))

-- ---- order

abbrev in_order : List Stmt → Stmt → Bool
in_order before s = not (is_copy s) || not (list_any is_call before)

abbrev no_copy : Stmt → Bool
no_copy s = not (is_copy s)

behind : (before ss : List Stmt) → list_all no_copy ss ≡ true → each_after in_order before ss ≡ true
behind before [] h = refl
behind before (s ∷ ss) h = by (behind (before ++ s ∷ []) ss) (not (is_copy s)) h
  where
    by : (list_all no_copy ss ≡ true → each_after in_order (before ++ s ∷ []) ss ≡ true) → (b : Bool) → (b && list_all no_copy ss) ≡ true → ((b || not (list_any is_call before)) && each_after in_order (before ++ s ∷ []) ss) ≡ true
    by rest true g = rest g
    by rest false g = absurd (cc g)

in_front : (es : List ExternItem) (before ss : List Stmt) → list_any is_call before ≡ false → list_all no_copy ss ≡ true → each_after in_order before (map statement (map copy_statement es) ++ ss) ≡ true
in_front [] before ss h g = behind before ss g
in_front (x ∷ es) before ss h g =
    and_from _ _ (ap not h) (in_front es (before ++ statement (copy_statement x) ∷ []) ss (list_any-append is_call before (statement (copy_statement x) ∷ []) ∙ ap (λ (b : Bool). b || false) h) g)

calls_copy_nothing : (spec : TreeSpec) (xs : List TreeTrigger) → list_all no_copy (map statement (map (trigger_statement spec) xs)) ≡ true
calls_copy_nothing spec [] = refl
calls_copy_nothing spec (x ∷ xs) = calls_copy_nothing spec xs

nexts_copy_nothing : (spec : TreeSpec) (xs : List TreeStream) → list_all no_copy (map statement (map (next_statement spec) xs)) ≡ true
nexts_copy_nothing spec [] = refl
nexts_copy_nothing spec (x ∷ xs) = nexts_copy_nothing spec xs

-- the writes of a ring with or without an index
abbrev written : List TypeEntry → TreeStream → Bool → List CStmt
written types x b = if b then s.Store x.name (e.Head x.name) ∷ s.Move x.name (place_behind types x 1) ∷ [] else s.Put x.name ∷ []

writes_copy_nothing : (types : List TypeEntry) (xs : List TreeStream) → list_all no_copy (map statement (flat_map (write_statements types) xs)) ≡ true
writes_copy_nothing types [] = refl
writes_copy_nothing types (x ∷ xs) = by (writes_copy_nothing types xs) (is_indexed types x) refl
  where
    by : list_all no_copy (map statement (flat_map (write_statements types) xs)) ≡ true → (b : Bool) → is_indexed types x ≡ b → list_all no_copy (map statement (flat_map (write_statements types) (x ∷ xs))) ≡ true
    by rest true q = ap (λ (b : Bool). list_all no_copy (map statement (written types x b ++ flat_map (write_statements types) xs))) q ∙ rest
    by rest false q = ap (λ (b : Bool). list_all no_copy (map statement (written types x b ++ flat_map (write_statements types) xs))) q ∙ rest

module _ (spec : TreeSpec) (u : CUnit) (has : HasSteps spec) (is : IsProgramOf spec u) where
  pub copies_first : IsTrue (copies_stand_first u)
  copies_first =
      let a = map statement (map copy_statement spec.externs) in
      let b = map statement (map (trigger_statement spec) spec.triggers) in
      let c = map statement (map (next_statement spec) spec.streams) in
      let d = map statement (flat_map (write_statements spec.types) spec.streams) in
      let grouped : a ++ b ++ c ++ d ≡ a ++ (b ++ c ++ d) = ap (λ (z : List Stmt). z ++ d) (append_assoc a b c) ∙ append_assoc a (b ++ c) d in
      ap (each_after in_order []) (statements_are spec u has is ∙ grouped)
      ∙ in_front spec.externs [] (b ++ c ++ d) refl
      (list_all-append no_copy (b ++ c) d ∙ and_from _ _ (list_all-append no_copy b c ∙ and_from _ _ (calls_copy_nothing spec spec.triggers) (nexts_copy_nothing spec spec.streams)) (writes_copy_nothing spec.types spec.streams))

-- ---- the translation

module _ (s : SpecValue) (w : WellTyped s) (plain : IsPlainSpec (trees s)) (none : HasNoCycle (defs_of s)) where
  abbrev spec : TreeSpec
  spec = closed_spec s

  abbrev bytes : TreeStream → ℕ
  bytes x = ring_bytes (initial_count s.types x) (size s.types x.ty)

  same_rings : (f g : Term → Term) (xs : List TreeStream) → map bytes (map (λ (x : TreeStream). record x { expr = f x.expr }) xs) ≡ map bytes (map (λ (x : TreeStream). record x { expr = g x.expr }) xs ++ [])
  same_rings f g [] = refl
  same_rings f g (x ∷ xs) = ap (λ (r : List ℕ). bytes x ∷ r) (same_rings f g xs)

  pub storage_kept : (name : List ℕ) → storage_of (translation spec name) ≡ storage s
  storage_kept name =
      let t = (has_steps s w plain none).translatable in
      let f = lowered (buffer_of (length (trees s).streams) (trees s).libs) in
      (λ j. same_sums (ring_storage (map (c_def s.types) s.types)) (ring_of s.types) bytes spec.streams (λ k x e. ring_size s.types t.types t.structs x (all_at (IsRingLong s.types) spec.streams k x t.long e)) j
      + same_sums (copy_storage (map (c_def s.types) s.types)) (c_extern s.types) (λ (x : ExternItem). size s.types x.ty) s.externs (λ k x e. type_size s.types t.types t.structs x.ty (all_at (λ (y : ExternItem). Stands s.types y.ty) s.externs k x t.standing e)) j)
      ∙ (λ j. sum ((same_rings (written_out (trees s).defs) f (trees s).streams ∙ ap (λ (ls : List TreeLib). map bytes (map (λ (x : TreeStream). record x { expr = f x.expr }) (trees s).streams ++ all_buffers f 1 (length (trees s).streams) ls)) (sym plain.libs)) j)
      + sum (map (λ (x : ExternItem). size s.types x.ty) s.externs))

  pub copied_first : (name : List ℕ) → IsTrue (copies_stand_first (translation spec name))
  copied_first name = copies_first spec (translation spec name) (has_steps s w plain none) (program_is spec name)
