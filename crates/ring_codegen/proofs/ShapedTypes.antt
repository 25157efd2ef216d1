-- The C type of each type that stands has a shape, and words of the type fill it.
use Rattle.std.proofs.Common.{◌≡◌, ℕ, zero, suc, ◌+◌, ◌*◌, ◌<◌, ◌≤◌, Bool, List, [], ◌∷◌, ◌++◌, length, take, drop, map, replicate, append_assoc, Option, Some, None, refl, sym, ap, ◌∙◌, subst, arith}
use Rattle.std.specs.Prelude.{slice_get, slice_index_or, if◌then◌else◌, All}
use Rattle.std.specs.Option.{option_map, option_and_then}
use Rattle.std.specs.List.{flat_map}
use Rattle.std.proofs.lemmas.List.{length-map, take-append-drop}
use Rattle.std.proofs.lemmas.List.Folds.{flat_map-map}
use Rattle.stream_types.specs.declared.scalar.Scalar.{Scalar}
use Rattle.stream_types.specs.declared.scalar.Ty.{Ty}
use Rattle.stream_types.specs.declared.scalar.Ty.TheVariants as ty
use Rattle.stream_types.specs.declared.types.Field.{Field}
use Rattle.stream_types.specs.declared.types.TypeEntry.{TypeEntry}
use Rattle.stream_types.specs.declared.types.TypeEntry.TheVariants as entry
use Rattle.stream_types.specs.Numbers as of
use Rattle.stream_types.specs.Types.{leaves, words, AreWords}
use Rattle.stream_types.specs.Types as wide
use Rattle.stream_types.specs.TypeList.{IsArrayEntry, IsStructEntry, Stands, IsElement, IsTypeList}
use Rattle.stream_types.proofs.GrownLists.{at_take, within}
use Rattle.stream_types.proofs.LeafWords.{length-leaves}
use Rattle.stream_types.proofs.LeafEntries.{leaves-array, leaves-struct}
use Rattle.stream_types.proofs.LeafParts.{AreWords-take, AreWords-drop}
use Rattle.stream_core.specs.declared.spec.ExternItem.{ExternItem}
use Rattle.stream_core.specs.WellTyped.{field_types}
use Rattle.stream_core.specs.Eval.{part_of, chunks}
use Rattle.c99_tree.specs.declared.types.CScalar.{CScalar}
use Rattle.c99_tree.specs.declared.types.CTy.{CTy}
use Rattle.c99_tree.specs.declared.types.CTy.TheVariants as cty
use Rattle.c99_tree.specs.declared.types.CDef.{CDef}
use Rattle.c99_tree.specs.CTypes.{num}
use Rattle.c99_tree.specs.Values.{Value, Values, number, struct_of, array_of, no_value, and_value, values, value_list, is_word, number_of_word, Shape, Shapes, scalar, members, elements, no_shape, and_shape, shapes_of_fields, shape_within, shape_of, repeated, filled, filled_all, row_values}
use Rattle.c99_tree.proofs.Shapes.{shape_within-suc, shape-Array, shape-Struct}
use Rattle.c99_tree.proofs.LookedUp.{all_at}
use Rattle.ring_codegen.specs.CTypes.{c_scalar, c_type, c_field, c_def, c_extern, element_word, array_type, struct_name}
use Rattle.ring_codegen.specs.Standing.{HasWords, HaveWords, HoldsAt, HasStructName}
use Rattle.ring_codegen.proofs.WordNumbers.{c_word, c_number}
use Rattle.ring_codegen.proofs.NamedOnce.{struct_first, element_type}

drop_none : (n : ℕ) → drop {A = ℕ} n [] ≡ []
drop_none zero = refl
drop_none (suc n) = refl

-- ---- shapes

abbrev mutual
  -- the shape of a type, by its entry
  pub IsShapeOf : List TypeEntry → Ty → Shape → Type 0
  IsShapeOf types (ty.Scalar t) (scalar k) = k ≡ c_scalar t
  IsShapeOf types (ty.Array i) (elements n s) = (elem : Ty) × (slice_get types i ≡ Some (entry.Array elem n)) × IsShapeOf types elem s
  IsShapeOf types (ty.Struct i) (members ss) = (name : List ℕ) × (fields : List Field) × (slice_get types i ≡ Some (entry.Struct name fields)) × AreShapesOf types (field_types fields) ss
  IsShapeOf types _ _ = ⊥

  pub AreShapesOf : List TypeEntry → List Ty → Shapes → Type 0
  AreShapesOf types [] no_shape = Unit {0}
  AreShapesOf types (t ∷ ts) (and_shape s ss) = IsShapeOf types t s × AreShapesOf types ts ss
  AreShapesOf types _ _ = ⊥

-- how deep a type can nest
abbrev rank : Ty → ℕ
rank (ty.Scalar s) = 0
rank (ty.Array i) = suc i
rank (ty.Struct i) = suc i

take_short : {A : Type 0} (xs : List A) (i : ℕ) → length (take i xs) ≤ i
take_short [] zero = omega arith
take_short [] (suc i) = omega arith
take_short (x ∷ xs) zero = omega arith
take_short (x ∷ xs) (suc i) = let h = take_short xs i in omega (arith, h)

rank_below : (types : List TypeEntry) (i : ℕ) (t : Ty) → Stands (take i types) t → rank t ≤ i
rank_below types i (ty.Scalar s) h = omega arith
rank_below types i (ty.Array j) h = let a = within (take i types) j IsArrayEntry (λ n. n) h in let b = take_short types i in omega (arith, a, b)
rank_below types i (ty.Struct j) h = let a = within (take i types) j IsStructEntry (λ n. n) h in let b = take_short types i in omega (arith, a, b)

stands_whole : (types : List TypeEntry) (i : ℕ) (t : Ty) → Stands (take i types) t → Stands types t
stands_whole types i (ty.Scalar s) h = tt
stands_whole types i (ty.Array j) h = at_take types i j IsArrayEntry (λ n. n) h
stands_whole types i (ty.Struct j) h = at_take types i j IsStructEntry (λ n. n) h

rank_within : (types : List TypeEntry) (t : Ty) → Stands types t → rank t ≤ length types
rank_within types (ty.Scalar s) h = omega arith
rank_within types (ty.Array j) h = let a = within types j IsArrayEntry (λ n. n) h in omega (arith, a)
rank_within types (ty.Struct j) h = let a = within types j IsStructEntry (λ n. n) h in omega (arith, a)

array_entry : (o : Option TypeEntry) → IsArrayEntry o → (elem : Ty) × (n : ℕ) × (o ≡ Some (entry.Array elem n))
array_entry None h = absurd h
array_entry (Some (entry.Array elem n)) h = (elem, n, refl)
array_entry (Some (entry.Struct name fields)) h = absurd h

struct_entry : (o : Option TypeEntry) → IsStructEntry o → (name : List ℕ) × (fields : List Field) × (o ≡ Some (entry.Struct name fields))
struct_entry None h = absurd h
struct_entry (Some (entry.Array elem n)) h = absurd h
struct_entry (Some (entry.Struct name fields)) h = (name, fields, refl)

-- the shape that a function gives for a type
record ShapeBy (types : List TypeEntry) (f : CTy → Option Shape) (t : Ty) : Type 0 where
  shape : Shape
  is : f (c_type types t) ≡ Some shape
  good : IsShapeOf types t shape

record ShapesBy (types : List TypeEntry) (f : CTy → Option Shape) (fields : List Field) : Type 0 where
  shapes : Shapes
  are : shapes_of_fields f (map (c_field types) fields) ≡ Some shapes
  good : AreShapesOf types (field_types fields) shapes

fields_shape : (types : List TypeEntry) (f : CTy → Option Shape) (fields : List Field) → ((k : ℕ) (x : Field) → slice_get fields k ≡ Some x → ShapeBy types f x.ty) → ShapesBy types f fields
fields_shape types f [] h = record { shapes = no_shape; are = refl; good = tt }
fields_shape types f (x ∷ fields) h =
    let a = h 0 x refl in
    let b = fields_shape types f fields (λ k y e. h (suc k) y e) in
    record {
      shapes = and_shape a.shape b.shapes;
      are = ap (λ (o : Option Shape). option_and_then (λ (s : Shape). option_map (and_shape s) (shapes_of_fields f (map (c_field types) fields))) o) a.is ∙ ap (option_map (and_shape a.shape)) b.are;
      good = (a.good, b.good);
    }

module _ (types : List TypeEntry) (good : IsTypeList types) (named : All HasStructName types) where
  abbrev ds : List CDef
  ds = map (c_def types) types

  abbrev Within : ℕ → Ty → Type 0
  Within n t = ShapeBy types (shape_within (suc n) ds) t

  scalar_shape : (n : ℕ) (t : Scalar) → Within n (ty.Scalar t)
  scalar_shape n t = record { shape = scalar (c_scalar t); is = shape_within-suc n ds (cty.Scalar (c_scalar t)); good = refl }

  struct_shape : (n i : ℕ) (name : List ℕ) (fields : List Field) → slice_get types i ≡ Some (entry.Struct name fields) → ((t : Ty) → rank t ≤ n → Stands types t → Within n t) → i ≤ n → Within (suc n) (ty.Struct i)
  struct_shape n i name fields e ih b =
      let stand = (good.each i (entry.Struct name fields) e).0 in
      let all = fields_shape types (shape_within (suc n) ds) fields
      (λ k x g. let s = all_at (λ (f : Field). Stands (take i types) f.ty) fields k x stand g in let r = rank_below types i x.ty s in ih x.ty (omega (arith, r, b)) (stands_whole types i x.ty s)) in
      record {
        shape = members all.shapes;
        is = ap (λ (o : Option TypeEntry). shape_within (suc (suc n)) ds (cty.Struct (struct_name o))) e
            ∙ shape-Struct (suc n) ds name (map (c_field types) fields) (struct_first types types i name fields e (λ j gs g. good.structs j i name gs fields g e))
            ∙ ap (option_map members) all.are;
        good = (name, fields, e, all.good);
      }

  element_shape : (n i : ℕ) (elem : Ty) → IsElement (take i types) elem → ((t : Ty) → rank t ≤ n → Stands types t → Within n t) → i ≤ n → Within (suc n) elem
  element_shape n i (ty.Scalar s) h ih b = scalar_shape (suc n) s
  element_shape n i (ty.Array j) h ih b = absurd h
  element_shape n i (ty.Struct j) h ih b =
      let there = at_take types i j IsStructEntry (λ n. n) h in
      let below = rank_below types i (ty.Struct j) h in
      let x = struct_entry (slice_get types j) there in
      struct_shape n j x.0 x.1 x.2 ih (omega (arith, below, b))

  whole_element : (i : ℕ) (elem : Ty) → IsElement (take i types) elem → IsElement types elem
  whole_element i (ty.Scalar s) h = tt
  whole_element i (ty.Array j) h = absurd h
  whole_element i (ty.Struct j) h = at_take types i j IsStructEntry (λ n. n) h

  shape_for : (n : ℕ) (t : Ty) → rank t ≤ n → Stands types t → Within n t
  shape_for n (ty.Scalar t) b h = scalar_shape n t
  shape_for zero (ty.Array i) b h = absurd (omega (arith, b))
  shape_for zero (ty.Struct i) b h = absurd (omega (arith, b))
  shape_for (suc n) (ty.Struct i) b h =
      let x = struct_entry (slice_get types i) h in
      struct_shape n i x.0 x.1 x.2 (λ t c g. shape_for n t c g) (omega (arith, b))
  shape_for (suc n) (ty.Array i) b h =
      let x = array_entry (slice_get types i) h in
      let elem_good = (good.each i (entry.Array x.0 x.1) x.2).0 in
      let a = element_shape n i x.0 elem_good (λ t c g. shape_for n t c g) (omega (arith, b)) in
      record {
        shape = elements x.1 a.shape;
        is = ap (λ (o : Option TypeEntry). shape_within (suc (suc n)) ds (array_type types o)) x.2
            ∙ shape-Array (suc n) ds (element_word types x.0) x.1
            ∙ ap (λ (t : CTy). option_map (elements x.1) (shape_within (suc (suc n)) ds t)) (element_type types named x.0 (whole_element i x.0 elem_good))
            ∙ ap (option_map (elements x.1)) a.is;
        good = (x.0, x.2, a.good);
      }

  -- the shape of a type that stands
  pub record HasShape (t : Ty) : Type 0 where
    pub shape : Shape
    pub is : shape_of ds (c_type types t) ≡ Some shape
    pub fits : IsShapeOf types t shape

  pub has_shape : (t : Ty) → Stands types t → HasShape t
  has_shape t h =
      let l : length ds ≡ length types = length-map types (c_def types) in
      let r = rank_within types t h in
      let a = shape_for (length ds) t (omega (arith, l, r)) h in
      let n : length ds + 1 ≡ suc (length ds) = omega arith in
      record { shape = a.shape; is = ap (λ (k : ℕ). shape_within k ds (c_type types t)) n ∙ a.is; fits = a.good }

  -- ---- words that fill a shape

  -- words fill a shape, whatever stands behind them
  pub record Fills (t : Ty) (s : Shape) (ws : List ℕ) : Type 0 where
    pub value : Value
    pub is : (rest : List ℕ) → filled s (ws ++ rest) ≡ Some (value, rest)
    pub words : HasWords types t value ws

  pub record FillAll (ts : List Ty) (ss : Shapes) (ws : List ℕ) : Type 0 where
    pub all : Values
    pub are : (rest : List ℕ) → filled_all ss (ws ++ rest) ≡ Some (all, rest)
    pub words : HaveWords types ts all ws

  pub record FillTimes (t : Ty) (n : ℕ) (s : Shape) (ws : List ℕ) : Type 0 where
    pub all : List Value
    pub are : (rest : List ℕ) → repeated n (filled s) (ws ++ rest) ≡ Some (all, rest)
    pub words : HaveWords types (replicate n t) (values all) ws

  no_words : (ws : List ℕ) → AreWords [] ws → ws ≡ []
  no_words [] h = refl
  no_words (w ∷ ws) h = absurd h

  -- words of one list of scalars and of another, taken apart
  record Halves (ss ts : List Scalar) (ws : List ℕ) : Type 0 where
    front : List ℕ
    rest : List ℕ
    is : ws ≡ front ++ rest
    first : AreWords ss front
    second : AreWords ts rest

  halves : (ss ts : List Scalar) (ws : List ℕ) → AreWords (ss ++ ts) ws → Halves ss ts ws
  halves ss ts ws h = record {
    front = take (length ss) ws;
    rest = drop (length ss) ws;
    is = sym (take-append-drop (length ss) ws);
    first = AreWords-take ss ts ws h;
    second = AreWords-drop ss ts ws h;
  }

  moved : (ws front rest more : List ℕ) → ws ≡ front ++ rest → ws ++ more ≡ front ++ (rest ++ more)
  moved ws front rest more e = ap (λ (x : List ℕ). x ++ more) e ∙ append_assoc front rest more

  pub fill_times : (t : Ty) (s : Shape) → ((ws : List ℕ) → AreWords (leaves types t) ws → Fills t s ws) → (n : ℕ) (ws : List ℕ) → AreWords (wide.repeated n (leaves types t)) ws → FillTimes t n s ws
  fill_times t s fill zero ws h = let e = no_words ws h in record { all = []; are = λ rest. ap (λ (x : List ℕ). Some ([], x ++ rest)) e; words = e }
  fill_times t s fill (suc n) ws h =
      let p = halves (leaves types t) (wide.repeated n (leaves types t)) ws h in
      let a = fill p.front p.first in
      let b = fill_times t s fill n p.rest p.second in
      record {
        all = a.value ∷ b.all;
        are = λ more. ap (repeated (suc n) (filled s)) (moved ws p.front p.rest more p.is)
            ∙ ap (λ (o : Option (Value × List ℕ)). option_and_then (λ (x : Value × List ℕ). option_map (λ (y : List Value × List ℕ). (x.0 ∷ y.0, y.1)) (repeated n (filled s) x.1)) o) (a.is (p.rest ++ more))
            ∙ ap (λ (o : Option (List Value × List ℕ)). option_map (λ (y : List Value × List ℕ). (a.value ∷ y.0, y.1)) o) (b.are more);
        words = (p.front, p.rest, p.is, a.words, b.words);
      }

  scalar_fills : (t : Scalar) (k : CScalar) (ws : List ℕ) → k ≡ c_scalar t → AreWords (t ∷ []) ws → Fills (ty.Scalar t) (scalar k) ws
  scalar_fills t k [] e h = absurd h
  scalar_fills t k (w ∷ v ∷ ws) e h = absurd h.1
  scalar_fills t k (w ∷ []) e h = record {
    value = number (num (c_scalar t) (of.number t w));
    is = λ rest. ap (λ (c : CScalar). if is_word c w then Some (number (number_of_word c w), rest) else None) e
        ∙ ap (λ (b : Bool). if b then Some (number (number_of_word (c_scalar t) w), rest) else None) (c_word t w h.0)
        ∙ ap (λ x. Some (number x, rest)) (c_number t w h.0);
    words = record { word = w; words = refl; good = h.0; is = refl };
  }

  mutual
    pub fills : (s : Shape) (t : Ty) (ws : List ℕ) → IsShapeOf types t s → AreWords (leaves types t) ws → Fills t s ws
    fills (scalar k) (ty.Scalar t) ws h a = scalar_fills t k ws h a
    fills (scalar k) (ty.Array i) ws h a = absurd h
    fills (scalar k) (ty.Struct i) ws h a = absurd h
    fills (elements n s) (ty.Scalar t) ws h a = absurd h
    fills (elements n s) (ty.Struct i) ws h a = absurd h
    fills (elements n s) (ty.Array i) ws h a =
        let all = fill_times h.0 s (λ vs b. fills s h.0 vs h.2 b) n ws (subst (λ ss. AreWords ss ws) (leaves-array types i n h.0 good h.1) a) in
        record {
          value = array_of (values all.all);
          is = λ rest. ap (λ (o : Option (List Value × List ℕ)). option_map (λ (x : List Value × List ℕ). (array_of (values x.0), x.1)) o) (all.are rest);
          words = (h.0, n, h.1, all.words);
        }
    fills (members ss) (ty.Scalar t) ws h a = absurd h
    fills (members ss) (ty.Array i) ws h a = absurd h
    fills (members ss) (ty.Struct i) ws h a =
        let all = fill_all ss (field_types h.1) ws h.3 (subst (λ xs. AreWords xs ws) (leaves-struct types i h.0 h.1 good h.2 ∙ sym (flat_map-map (leaves types) (λ (f : Field). f.ty) h.1)) a) in
        record {
          value = struct_of all.all;
          is = λ rest. ap (λ (o : Option (Values × List ℕ)). option_map (λ (x : Values × List ℕ). (struct_of x.0, x.1)) o) (all.are rest);
          words = (h.0, h.1, h.2, all.words);
        }

    pub fill_all : (ss : Shapes) (ts : List Ty) (ws : List ℕ) → AreShapesOf types ts ss → AreWords (flat_map (leaves types) ts) ws → FillAll ts ss ws
    fill_all no_shape [] ws h a = let e = no_words ws a in record { all = no_value; are = λ rest. ap (λ (x : List ℕ). Some (no_value, x ++ rest)) e; words = e }
    fill_all no_shape (t ∷ ts) ws h a = absurd h
    fill_all (and_shape s ss) [] ws h a = absurd h
    fill_all (and_shape s ss) (t ∷ ts) ws h a =
        let p = halves (leaves types t) (flat_map (leaves types) ts) ws a in
        let x = fills s t p.front h.0 p.first in
        let y = fill_all ss ts p.rest h.1 p.second in
        record {
          all = and_value x.value y.all;
          are = λ more. ap (filled_all (and_shape s ss)) (moved ws p.front p.rest more p.is)
              ∙ ap (λ (o : Option (Value × List ℕ)). option_and_then (λ (v : Value × List ℕ). option_map (λ (w : Values × List ℕ). (and_value v.0 w.0, w.1)) (filled_all ss v.1)) o) (x.is (p.rest ++ more))
              ∙ ap (λ (o : Option (Values × List ℕ)). option_map (λ (w : Values × List ℕ). (and_value x.value w.0, w.1)) o) (y.are more);
          words = (p.front, p.rest, p.is, x.words, y.words);
        }

  -- ---- a row

  -- the values that a row gives, one for each extern
  pub record RowGives (xs : List ExternItem) (row : List ℕ) : Type 0 where
    pub all : List Value
    pub are : (rest : List ℕ) → row_values ds (map (c_extern types) xs) (row ++ rest) ≡ Some (all, rest)
    pub holds : (k : ℕ) (x : ExternItem) → slice_get xs k ≡ Some x → HoldsAt types x.ty all k (part_of types xs row k)
    pub long : length all ≡ length xs

  pub row_gives : (xs : List ExternItem) → ((k : ℕ) (x : ExternItem) → slice_get xs k ≡ Some x → Stands types x.ty) → (row : List ℕ) → AreWords (flat_map (λ (x : ExternItem). leaves types x.ty) xs) row → RowGives xs row
  unfolding halves
  row_gives [] stand row h = let e = no_words row h in record { all = []; are = λ rest. ap (λ (x : List ℕ). Some ([], x ++ rest)) e; holds = λ k x g. absurd (cc g); long = refl }
  row_gives (x ∷ xs) stand row h =
      let p = halves (leaves types x.ty) (flat_map (λ (y : ExternItem). leaves types y.ty) xs) row h in
      let s = has_shape x.ty (stand 0 x refl) in
      let a = fills s.shape x.ty p.front s.fits p.first in
      let b = row_gives xs (λ k y g. stand (suc k) y g) p.rest p.second in
      let width : length (leaves types x.ty) ≡ words types x.ty = length-leaves types x.ty in
      let first : take (words types x.ty) row ≡ p.front = ap (λ (n : ℕ). take n row) (sym width) in
      let later : drop (words types x.ty) row ≡ p.rest = ap (λ (n : ℕ). drop n row) (sym width) in
      record {
        all = a.value ∷ b.all;
        are = λ more. ap (row_values ds (map (c_extern types) (x ∷ xs))) (moved row p.front p.rest more p.is)
            ∙ ap (λ (o : Option Shape). option_and_then (λ (z : Shape). option_and_then (λ (v : Value × List ℕ). option_map (λ (w : List Value × List ℕ). (v.0 ∷ w.0, w.1)) (row_values ds (map (c_extern types) xs) v.1)) (filled z (p.front ++ (p.rest ++ more)))) o) s.is
            ∙ ap (λ (o : Option (Value × List ℕ)). option_and_then (λ (v : Value × List ℕ). option_map (λ (w : List Value × List ℕ). (v.0 ∷ w.0, w.1)) (row_values ds (map (c_extern types) xs) v.1)) o) (a.is (p.rest ++ more))
            ∙ ap (λ (o : Option (List Value × List ℕ)). option_map (λ (w : List Value × List ℕ). (a.value ∷ w.0, w.1)) o) (b.are more);
        holds = by a.value b.all (subst (HasWords types x.ty a.value) (sym first) a.words)
            (λ k y g. subst (λ (r : List ℕ). HoldsAt types y.ty b.all k (part_of types xs r k)) (sym later) (b.holds k y g));
        long = let l = b.long in omega (arith, l);
      }
    where
      by : (v : Value) (vs : List Value) → HasWords types x.ty v (take (words types x.ty) row) → ((k : ℕ) (y : ExternItem) → slice_get xs k ≡ Some y → HoldsAt types y.ty vs k (part_of types xs (drop (words types x.ty) row) k))
          → (k : ℕ) (y : ExternItem) → slice_get (x ∷ xs) k ≡ Some y → HoldsAt types y.ty (v ∷ vs) k (part_of types (x ∷ xs) row k)
      by v vs first later zero y g = let same : x ≡ y = cc g in record { value = v; is = refl; words = subst (λ (z : ExternItem). HasWords types z.ty v (take (words types x.ty) row)) same first }
      by v vs first later (suc k) y g = let r = later k y g in record { value = r.value; is = r.is; words = r.words }

  -- ---- the first values of a ring

  pub list_back : (vs : List Value) → value_list (values vs) ≡ vs
  list_back [] = refl
  list_back (v ∷ vs) = ap (λ r. v ∷ r) (list_back vs)

  pub chunk_at : (n w : ℕ) (xs : List ℕ) (j : ℕ) → j < n → slice_index_or (chunks n w xs) j [] ≡ take w (drop (j * w) xs)
  chunk_at zero w xs j b = absurd (omega (arith, b))
  chunk_at (suc n) w xs zero b = let z : 0 ≡ 0 * w = omega arith in ap (λ (k : ℕ). take w (drop k xs)) z
  chunk_at (suc n) w xs (suc j) b = chunk_at n w (drop w xs) j (omega (arith, b)) ∙ ap (λ r. take w r) (drop_drop w (j * w) xs) ∙ (let e : w + j * w ≡ suc j * w = omega arith in ap (λ (k : ℕ). take w (drop k xs)) e)
    where
      drop_drop : (a b : ℕ) (ys : List ℕ) → drop b (drop a ys) ≡ drop (a + b) ys
      drop_drop zero b ys = let e : b ≡ 0 + b = omega arith in ap (λ (k : ℕ). drop k ys) e
      drop_drop (suc a) b [] = drop_none b ∙ sym (drop_none (suc a + b))
      drop_drop (suc a) b (y ∷ ys) = drop_drop a b ys ∙ (let e : suc (a + b) ≡ suc a + b = omega arith in ap (λ (k : ℕ). drop k (y ∷ ys)) e)
