-- A value of a type has as many words as the type's width.
use Rattle.std.proofs.Common.{◌≡◌, ℕ, zero, suc, ◌+◌, ◌*◌, List, [], ◌∷◌, ◌++◌, length, Option, Some, None, refl, sym, ap, ◌∙◌, subst, arith}
use Rattle.std.specs.List.{sum_by}
use Rattle.std.specs.Option.{option_map, option_map_or, option_and_then}
use Rattle.std.proofs.lemmas.List.{length-append}
use Rattle.std.proofs.lemmas.List.Sums.{sum_by-cons}
use Rattle.c99_tree.specs.declared.types.CScalar.{CScalar}
use Rattle.c99_tree.specs.declared.types.CTy.{CTy}
use Rattle.c99_tree.specs.declared.types.CTy.TheVariants as ty
use Rattle.c99_tree.specs.declared.types.CVar.{CVar}
use Rattle.c99_tree.specs.declared.types.CDef.{CDef}
use Rattle.c99_tree.specs.Words.{elem_type}
use Rattle.c99_tree.specs.Lookup.{fields_of}
use Rattle.c99_tree.specs.Values.{Value, Values, number, struct_of, array_of, no_value, and_value, words_of, words_of_all, Shape, Shapes, scalar, members, elements, no_shape, and_shape, shapes_of_fields, shape_of_element, shape_over, shape_within, shape_of}
use Rattle.c99_tree.specs.Typed.{IsValueOf}
use Rattle.c99_tree.proofs.Shapes.{shape_within-suc, shape_within-zero}
use Rattle.c99_tree.proofs.TypedShapes.{HasShape, HaveShapes, Times, IfSome, fields_split, filled_has}
use Rattle.c99_tree.proofs.WordsBack.{words_back}
use Rattle.c_exec.specs.Layout.{element_width, width_over, width_within, width_of}
use Rattle.c_exec.proofs.Widths.{width_within-suc}

abbrev mutual
  -- how many words a value of a shape has
  pub shape_width : Shape → ℕ
  shape_width (scalar t) = 1
  shape_width (members shapes) = shapes_width shapes
  shape_width (elements n shape) = n * shape_width shape

  pub shapes_width : Shapes → ℕ
  shapes_width no_shape = 0
  shapes_width (and_shape s shapes) = shape_width s + shapes_width shapes

-- ---- values

times_long : (P : Value → Type 0) (k n : ℕ) (vs : Values) → ((v : Value) → P v → length (words_of v) ≡ k) → Times P n vs → length (words_of_all vs) ≡ n * k
times_long P k zero no_value m h = omega arith
times_long P k zero (and_value v vs) m h = absurd h
times_long P k (suc n) no_value m h = absurd h
times_long P k (suc n) (and_value v vs) m h =
    let a = length-append (words_of v) (words_of_all vs) in
    let b = m v h.0 in
    let c = times_long P k n vs m h.1 in
    let d : suc n * k ≡ k + n * k = omega arith in
    omega (arith, a, b, c, d)

mutual
  pub words_long : (s : Shape) (v : Value) → HasShape s v → length (words_of v) ≡ shape_width s
  words_long (scalar t) (number x) h = refl
  words_long (scalar t) (struct_of vs) h = absurd h
  words_long (scalar t) (array_of vs) h = absurd h
  words_long (members ss) (number x) h = absurd h
  words_long (members ss) (struct_of vs) h = all_long ss vs h
  words_long (members ss) (array_of vs) h = absurd h
  words_long (elements n s) (number x) h = absurd h
  words_long (elements n s) (struct_of vs) h = absurd h
  words_long (elements n s) (array_of vs) h = times_long (HasShape s) (shape_width s) n vs (words_long s) h

  all_long : (ss : Shapes) (vs : Values) → HaveShapes ss vs → length (words_of_all vs) ≡ shapes_width ss
  all_long no_shape no_value h = refl
  all_long no_shape (and_value v vs) h = absurd h
  all_long (and_shape s ss) no_value h = absurd h
  all_long (and_shape s ss) (and_value v vs) h =
      let a = length-append (words_of v) (words_of_all vs) in
      let b = words_long s v h.0 in
      let c = all_long ss vs h.1 in
      omega (arith, a, b, c)

-- ---- types

-- a type's width is that of its shape
abbrev Wide : (CTy → Option Shape) → (CTy → ℕ) → Type 0
Wide f g = (r : CTy) (s : Shape) → f r ≡ Some s → g r ≡ shape_width s

fields_wide : (f : CTy → Option Shape) (g : CTy → ℕ) → Wide f g → (fields : List CVar) (ss : Shapes) → shapes_of_fields f fields ≡ Some ss → sum_by (λ (v : CVar). g v.ty) fields ≡ shapes_width ss
fields_wide f g m [] no_shape e = refl
fields_wide f g m [] (and_shape s ss) e = absurd (cc e)
fields_wide f g m (x ∷ xs) ss e =
    let p = fields_split (f x.ty) (shapes_of_fields f xs) ss e in
    let a = m x.ty p.one p.one_is in
    let b = fields_wide f g m xs p.others p.others_are in
    let c = sum_by-cons (λ (v : CVar). g v.ty) x xs in
    let d : shape_width p.one + shapes_width p.others ≡ shapes_width ss = ap shapes_width p.both in
    omega (arith, a, b, c, d)

members_wide : (f : CTy → Option Shape) (g : CTy → ℕ) → Wide f g → (fields : List CVar) (o : Option Shapes) (s : Shape) → shapes_of_fields f fields ≡ o → option_map members o ≡ Some s → sum_by (λ (v : CVar). g v.ty) fields ≡ shape_width s
members_wide f g m fields None s e h = absurd (cc h)
members_wide f g m fields (Some ss) s e h =
    let same : members ss ≡ s = cc h in
    fields_wide f g m fields ss e ∙ ap shape_width same

struct_wide : (ds : List CDef) (f : CTy → Option Shape) (g : CTy → ℕ) → Wide f g → (o : Option (List CVar)) (s : Shape) → option_and_then (λ fields. option_map members (shapes_of_fields f fields)) o ≡ Some s
    → option_map_or (λ fields. sum_by (λ (v : CVar). g v.ty) fields) o 0 ≡ shape_width s
struct_wide ds f g m None s e = absurd (cc e)
struct_wide ds f g m (Some fields) s e = members_wide f g m fields (shapes_of_fields f fields) s refl e

scalar_wide : (c : CScalar) (s : Shape) → Some (scalar c) ≡ Some s → 1 ≡ shape_width s
scalar_wide c s e = let same : scalar c ≡ s = cc e in ap shape_width same

element_wide : (ds : List CDef) (f : CTy → Option Shape) (g : CTy → ℕ) → Wide f g → Wide (shape_of_element f ds) (element_width g ds)
element_wide ds f g m (ty.Scalar c) s e = scalar_wide c s e
element_wide ds f g m (ty.Struct x) s e = struct_wide ds f g m (fields_of ds x) s e
element_wide ds f g m (ty.Array x n) s e = absurd (cc e)

array_wide : (ds : List CDef) (f : CTy → Option Shape) (g : CTy → ℕ) → Wide f g → (x : List ℕ) (n : ℕ) (o : Option Shape) (s : Shape) → shape_of_element f ds (elem_type x) ≡ o → option_map (elements n) o ≡ Some s
    → n * element_width g ds (elem_type x) ≡ shape_width s
array_wide ds f g m x n None s e h = absurd (cc h)
array_wide ds f g m x n (Some r) s e h =
    let same : elements n r ≡ s = cc h in
    ap (λ k. n * k) (element_wide ds f g m (elem_type x) r e) ∙ ap shape_width same

over_wide : (ds : List CDef) (f : CTy → Option Shape) (g : CTy → ℕ) → Wide f g → Wide (shape_over f ds) (width_over g ds)
over_wide ds f g m (ty.Scalar c) s e = scalar_wide c s e
over_wide ds f g m (ty.Struct x) s e = struct_wide ds f g m (fields_of ds x) s e
over_wide ds f g m (ty.Array x n) s e = array_wide ds f g m x n (shape_of_element f ds (elem_type x)) s refl e

within_wide : (n : ℕ) (ds : List CDef) → Wide (shape_within n ds) (width_within n ds)
within_wide zero ds r s e = absurd (cc (shape_within-zero ds r, e))
within_wide (suc n) ds r s e =
    width_within-suc n ds r ∙ over_wide ds (shape_within n ds) (width_within n ds) (within_wide n ds) r s (sym (shape_within-suc n ds r) ∙ e)

pub width_is : (ds : List CDef) (r : CTy) (s : Shape) → shape_of ds r ≡ Some s → width_of ds r ≡ shape_width s
width_is ds r s e = within_wide (length ds + 1) ds r s e

value_has : (ds : List CDef) (r : CTy) (s : Shape) (v : Value) → shape_of ds r ≡ Some s → IsValueOf ds r v → HasShape s v
value_has ds r s v e h = subst (λ (o : Option (Value × List ℕ)). IfSome o (λ a. HasShape s a.0)) (words_back ds r s v [] e h) (filled_has s (words_of v ++ []))

pub value_long : (ds : List CDef) (r : CTy) (s : Shape) (v : Value) → shape_of ds r ≡ Some s → IsValueOf ds r v → length (words_of v) ≡ width_of ds r
value_long ds r s v e h = words_long s v (value_has ds r s v e h) ∙ sym (width_is ds r s e)
