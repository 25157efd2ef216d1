-- The rings of a translation: each is filled by its constants, none of which is high, and is as long as it is used.
use Rattle.std.proofs.Common.{◌≡◌, ℕ, zero, suc, ◌+◌, ◌*◌, ◌<◌, ◌≤◌, Bool, true, false, ◌&&◌, ◌||◌, List, [], ◌∷◌, ◌++◌, length, map, take, drop, replicate, Option, Some, None, refl, sym, ap, ◌∙◌, subst, append-nil, length-append, arith}
use Rattle.std.specs.Prelude.{slice_get, slice_index, nat_eq, nat_le, max, if◌then◌else◌, All, ℤ, pos, negsuc}
use Rattle.std.specs.Option.{option_and_then}
use Rattle.std.specs.List.{list_all, AllByRecursion}
use Rattle.std.proofs.lemmas.Bool.{and_from, le-leb, eq-eqb}
use Rattle.std.proofs.lemmas.Bool.Decides.{nat_tests}
use Rattle.std.proofs.lemmas.List.{take-append-drop}
use Rattle.stream_types.specs.declared.scalar.Ty.{Ty}
use Rattle.stream_types.specs.declared.scalar.Ty.TheVariants as ty
use Rattle.stream_types.specs.declared.types.Field.{Field}
use Rattle.stream_types.specs.declared.types.TypeEntry.{TypeEntry}
use Rattle.stream_types.specs.declared.types.TypeEntry.TheVariants as entry
use Rattle.stream_types.specs.TypeList.{IsArrayEntry, IsStructEntry, Stands, IsTypeList}
use Rattle.stream_types.proofs.GrownLists.{within}
use Rattle.stream_types.proofs.Widths.{Stands-element}
use Rattle.stream_core.specs.Term.{TreeStream, initial_count}
use Rattle.stream_core.specs.WellTyped.{nesting, nesting_at, nestings, entry_nesting, deepest, field_types}
use Rattle.c99_tree.specs.declared.types.CDef.{CDef}
use Rattle.c99_tree.specs.Values.{Value, Values, number, struct_of, array_of, no_value, and_value, values, Shape, filled, repeated}
use Rattle.c99_tree.specs.Spelling.{most_height, number_height, constant_height, highest_constant}
use Rattle.c99_tree.specs.Filling.{low_list}
use Rattle.c99_tree.specs.Rules.{is_nothing_left, is_filled, is_long_as_used}
use Rattle.ring_codegen.specs.CTypes.{c_type, c_def}
use Rattle.ring_codegen.specs.Translation.{is_indexed, ring_of}
use Rattle.ring_codegen.specs.Standing.{HasWords, HaveWords, HasStructName, IsRingLong}
use Rattle.ring_codegen.proofs.Listing.{by_recursion, each_weaken}
use Rattle.ring_codegen.proofs.ShapedTypes.{has_shape, fills, fill_times}

number_low : (z : ℤ) → number_height z ≤ 2
number_low (pos n) = omega arith
number_low (negsuc n) = omega arith

-- ---- how deep types nest, by those before them

index_front : (xs ys : List ℕ) (i : ℕ) → i < length xs → slice_index (xs ++ ys) i ≡ slice_index xs i
index_front [] ys i h = absurd (omega (arith, h))
index_front (x ∷ xs) ys zero h = refl
index_front (x ∷ xs) ys (suc i) h = index_front xs ys i (omega (arith, h))

index_last : (xs : List ℕ) (x i : ℕ) → i ≡ length xs → slice_index (xs ++ x ∷ []) i ≡ x
index_last [] x zero h = refl
index_last [] x (suc i) h = absurd (omega (arith, h))
index_last (y ∷ xs) x zero h = absurd (omega (arith, h))
index_last (y ∷ xs) x (suc i) h = index_last xs x i (omega (arith, h))

length-nestings : (before : List ℕ) (es : List TypeEntry) → length (nestings before es) ≡ length before + length es
length-nestings before [] = omega arith
length-nestings before (e ∷ es) =
    let a = length-nestings (before ++ entry_nesting before e ∷ []) es in
    let b = length-append before (entry_nesting before e ∷ []) in
    omega (arith, a, b)

nestings-append : (before : List ℕ) (es more : List TypeEntry) → nestings before (es ++ more) ≡ nestings (nestings before es) more
nestings-append before [] more = refl
nestings-append before (e ∷ es) more = nestings-append (before ++ entry_nesting before e ∷ []) es more

nestings_keep : (before : List ℕ) (es : List TypeEntry) (i : ℕ) → i < length before → slice_index (nestings before es) i ≡ slice_index before i
nestings_keep before [] i h = refl
nestings_keep before (e ∷ es) i h =
    let b = length-append before (entry_nesting before e ∷ []) in
    nestings_keep (before ++ entry_nesting before e ∷ []) es i (omega (arith, b, h))
    ∙ index_front before (entry_nesting before e ∷ []) i h

nesting_is : (before : List ℕ) (es : List TypeEntry) (i j : ℕ) (e : TypeEntry) → slice_get es i ≡ Some e → j ≡ length before + i → slice_index (nestings before es) j ≡ entry_nesting (nestings before (take i es)) e
nesting_is before [] i j e h p = absurd (cc h)
nesting_is before (x ∷ es) zero j e h p =
    let q : x ≡ e = cc h in
    let b = length-append before (entry_nesting before x ∷ []) in
    nestings_keep (before ++ entry_nesting before x ∷ []) es j (omega (arith, b, p))
    ∙ index_last before (entry_nesting before x) j (omega (arith, p))
    ∙ ap (entry_nesting before) q
nesting_is before (x ∷ es) (suc i) j e h p =
    let b = length-append before (entry_nesting before x ∷ []) in
    nesting_is (before ++ entry_nesting before x ∷ []) es i j e h (omega (arith, b, p))

-- no member nests deeper than the deepest
fields_deep : (before : List ℕ) (fields : List Field) → AllByRecursion (λ (t : Ty). nesting_at before t ≤ deepest before fields) (field_types fields)
fields_deep before [] = tt
fields_deep before (f ∷ fields) = (
  omega arith,
  each_weaken (λ (t : Ty). nesting_at before t ≤ deepest before fields) (λ (t : Ty). nesting_at before t ≤ deepest before (f ∷ fields)) (λ t h. omega (arith, h)) (field_types fields) (fields_deep before fields),
)

as_often : (P : Ty → Type 0) (n : ℕ) (t : Ty) → P t → AllByRecursion P (replicate n t)
as_often P zero t h = tt
as_often P (suc n) t h = (h, as_often P n t h)

module _ (types : List TypeEntry) (good : IsTypeList types) where
  front_index : (i j : ℕ) → j < length (take i types) → slice_index (nestings [] (take i types)) j ≡ slice_index (nestings [] types) j
  front_index i j h =
      let l = length-nestings [] (take i types) in
      sym (nestings_keep (nestings [] (take i types)) (drop i types) j (omega (arith, l, h)))
      ∙ ap (λ (ns : List ℕ). slice_index ns j) (sym (nestings-append [] (take i types) (drop i types)))
      ∙ ap (λ (es : List TypeEntry). slice_index (nestings [] es) j) (take-append-drop i types)

  front_nesting : (i : ℕ) (t : Ty) → Stands (take i types) t → nesting_at (nestings [] (take i types)) t ≡ nesting types t
  front_nesting i (ty.Scalar s) h = refl
  front_nesting i (ty.Array j) h = front_index i j (within (take i types) j IsArrayEntry (λ n. n) h)
  front_nesting i (ty.Struct j) h = front_index i j (within (take i types) j IsStructEntry (λ n. n) h)

  front_deepest : (i : ℕ) (fields : List Field) → AllByRecursion (λ (f : Field). Stands (take i types) f.ty) fields → deepest (nestings [] (take i types)) fields ≡ deepest (nestings [] types) fields
  front_deepest i [] h = refl
  front_deepest i (f ∷ fields) h = λ j. max (front_nesting i f.ty h.0 j) (front_deepest i fields h.1 j)

  nesting-array : (i n : ℕ) (elem : Ty) → slice_get types i ≡ Some (entry.Array elem n) → nesting types (ty.Array i) ≡ 1 + nesting types elem
  nesting-array i n elem e =
      nesting_is [] types i i (entry.Array elem n) e (omega arith)
      ∙ ap (λ (k : ℕ). 1 + k) (front_nesting i elem (Stands-element (take i types) elem (good.each i (entry.Array elem n) e).0))

  nesting-struct : (i : ℕ) (name : List ℕ) (fields : List Field) → slice_get types i ≡ Some (entry.Struct name fields) → nesting types (ty.Struct i) ≡ 1 + deepest (nestings [] types) fields
  nesting-struct i name fields e =
      nesting_is [] types i i (entry.Struct name fields) e (omega arith)
      ∙ ap (λ (k : ℕ). 1 + k) (front_deepest i fields (by_recursion (λ (f : Field). Stands (take i types) f.ty) fields (good.each i (entry.Struct name fields) e).0))

  -- ---- how high constants are

  mutual
    low : (v : Value) (t : Ty) (ws : List ℕ) → HasWords types t v ws → constant_height v ≤ 2 * nesting types t + 2
    low (number x) (ty.Scalar t) ws h = let a = number_low x.n in omega (arith, a)
    low (number x) (ty.Array i) ws h = absurd h
    low (number x) (ty.Struct i) ws h = absurd h
    low (struct_of vs) (ty.Scalar t) ws h = absurd h
    low (struct_of vs) (ty.Array i) ws h = absurd h
    low (struct_of vs) (ty.Struct i) ws h =
        let e = nesting-struct i h.0 h.1 h.2 in
        let a = lows vs (field_types h.1) ws (deepest (nestings [] types) h.1) h.3 (fields_deep (nestings [] types) h.1) in
        omega (arith, e, a)
    low (array_of vs) (ty.Scalar t) ws h = absurd h
    low (array_of vs) (ty.Struct i) ws h = absurd h
    low (array_of vs) (ty.Array i) ws h =
        let e = nesting-array i h.1 h.0 h.2 in
        let one : nesting types h.0 ≤ nesting types h.0 = omega arith in
        let a = lows vs (replicate h.1 h.0) ws (nesting types h.0) h.3 (as_often (λ (t : Ty). nesting types t ≤ nesting types h.0) h.1 h.0 one) in
        omega (arith, e, a)

    lows : (vs : Values) (ts : List Ty) (ws : List ℕ) (b : ℕ) → HaveWords types ts vs ws → AllByRecursion (λ (t : Ty). nesting types t ≤ b) ts → highest_constant vs ≤ 2 * b + 2
    lows no_value ts ws b h d = omega arith
    lows (and_value v vs) [] ws b h d = absurd h
    lows (and_value v vs) (t ∷ ts) ws b h d =
        let a = low v t h.0 h.3 in
        let r = lows vs ts h.1 b h.4 d.1 in
        let c = d.0 in
        omega (arith, a, r, c)

  all_low : (vs : List Value) (n : ℕ) (t : Ty) (ws : List ℕ) → HaveWords types (replicate n t) (values vs) ws → nesting types t ≤ 64 → list_all (λ (v : Value). nat_le (constant_height v) most_height) vs ≡ true
  all_low [] n t ws h b = refl
  all_low (v ∷ vs) zero t ws h b = absurd h
  all_low (v ∷ vs) (suc n) t ws h b =
      let a = low v t h.0 h.3 in
      and_from _ _ (le-leb (constant_height v) 8192 (omega (arith, a, b))) (all_low vs n t h.1 h.4 b)

  -- ---- rings

  module _ (named : All HasStructName types) where
    abbrev ds : List CDef
    ds = map (c_def types) types

    pub ring_filled : (x : TreeStream) → IsRingLong types x → nesting types x.ty ≤ 64 → is_filled ds (ring_of types x) ≡ true
    ring_filled x l b =
        let count = initial_count types x in
        let s = has_shape types good named x.ty l.stands in
        let t = fill_times types good named x.ty s.shape (λ ws a. fills types good named s.shape x.ty ws s.fits a) count x.init l.initial in
        let filled_is : repeated count (filled s.shape) x.init ≡ Some (t.all, []) = ap (repeated count (filled s.shape)) (sym (append-nil x.init)) ∙ t.are [] in
        ap (λ (o : Option Shape). is_nothing_left (option_and_then (λ (z : Shape). option_and_then (low_list most_height) (repeated count (filled z) x.init)) o)) s.is
        ∙ ap (λ (o : Option (List Value × List ℕ)). is_nothing_left (option_and_then (low_list most_height) o)) filled_is
        ∙ ap (λ (d : Bool). is_nothing_left (if d then Some [] else None)) (all_low t.all count x.ty x.init t.words b)

  pub ring_used : (x : TreeStream) → IsRingLong types x → is_long_as_used (ring_of types x) ≡ true
  ring_used x l = by (nat_le 2 (initial_count types x)) refl
    where
      by : (b : Bool) → nat_le 2 (initial_count types x) ≡ b → (b || nat_eq (initial_count types x) 1) ≡ true
      by true q = refl
      by false q =
          let few : initial_count types x < 2 = grind (arith, nat_tests, q) in
          let some = l.some in
          eq-eqb (initial_count types x) 1 (omega (arith, few, some))

  pub ring_in_range : (x : TreeStream) → IsRingLong types x → (nat_le 1 (initial_count types x) && nat_le (initial_count types x) 65536) ≡ true
  ring_in_range x l = and_from _ _ (le-leb 1 (initial_count types x) l.some) (le-leb (initial_count types x) 65536 l.most)
