-- The value of a type is made of those that the words give for its parts.
use Rattle.std.proofs.Common.{◌≡◌, ℕ, zero, suc, ◌+◌, List, [], ◌∷◌, Option, Some, None, ◌++◌, ◌<◌, ◌≤◌, length, drop, get_or, codes, refl, sym, ap, ◌∙◌, arith, append_assoc, append-nil}
use Rattle.std.proofs.lemmas.List.{drop_more, drop_all}
use Rattle.std.specs.Option.{option_map, option_and_then, option_map_or}
use Rattle.std.specs.List.{find}
use Rattle.c99_tree.specs.declared.types.CScalar.{CScalar}
use Rattle.c99_tree.specs.declared.types.CTy.{CTy}
use Rattle.c99_tree.specs.declared.types.CTy.TheVariants as ty
use Rattle.c99_tree.specs.declared.types.CVar.{CVar}
use Rattle.c99_tree.specs.declared.types.CDef.{CDef}
use Rattle.c99_tree.specs.declared.unit.CRing.{CRing}
use Rattle.c99_tree.specs.Words.{elem_type, word_of, is_same, scalars}
use Rattle.c99_tree.specs.Lookup.{fields_of}
use Rattle.c99_tree.specs.Values.{Value, Values, struct_of, array_of, no_value, and_value, values, Shape, Shapes, scalar, members, elements, and_shape, shape_within, shapes_of_fields, filled, filled_all, repeated, whole, first_values}
use Rattle.c99_tree.specs.Spelling.{constant, constants}
use Rattle.c99_tree.proofs.Shapes.{shape_within-zero, shape_within-suc, shape-Array, shape-Struct, elem_type-Scalar}
use Rattle.c99_print.specs.Given.{value_in, members_in, values_in}
use Rattle.std.proofs.lemmas.Option.{same_Some}

-- ---- options

never : {A : Type 0} {P : Type 0} (a : A) → None ≡ Some a → P
never a e = absurd (cc e)

-- ---- scalars by their type

pub scalar-given : (depth : ℕ) (ds : List CDef) (t : CScalar) (ws : List ℕ) (a : Value × List ℕ) → value_in depth ds (ty.Scalar t) ws ≡ Some a → filled (scalar t) ws ≡ Some a
scalar-given zero ds t ws a e = never a (rw (shape_within-zero ds (ty.Scalar t)) at e)
scalar-given (suc n) ds t ws a e = rw (shape_within-suc n ds (ty.Scalar t)) at e

-- ---- steps

mapped : {B C : Type 0} (o : Option B) (h : B → C) (c : C) → option_map h o ≡ Some c → (b : B) × (o ≡ Some b) × (c ≡ h b)
mapped None h c e = never c e
mapped (Some b) h c e = (b, refl, sym (same_Some (h b) c e))

record TwoSteps {A B C : Type 0} (o : Option A) (f : A → Option B) (g : A → B → C) (c : C) : Type 0 where
  pub first : A
  pub second : B
  pub first_is : o ≡ Some first
  pub second_is : f first ≡ Some second
  pub is : c ≡ g first second

two_steps : {A B C : Type 0} (o : Option A) (f : A → Option B) (g : A → B → C) (c : C) → option_and_then (λ a. option_map (g a) (f a)) o ≡ Some c → TwoSteps o f g c
two_steps None f g c e = never c e
two_steps (Some a) f g c e = let m = mapped (f a) (g a) c e in record { first = a; second = m.0; first_is = refl; second_is = m.1; is = m.2 }

-- ---- structs

members_of : (o : Option Shapes) (ws : List ℕ) (a : Value × List ℕ) → option_and_then (λ s. filled s ws) (option_map members o) ≡ Some a → (b : Values × List ℕ) × (option_and_then (λ s. filled_all s ws) o ≡ Some b) × (a ≡ (struct_of b.0, b.1))
members_of None ws a e = never a e
members_of (Some s) ws a e = mapped (filled_all s ws) (λ b. (struct_of b.0, b.1)) a e

pub struct-given : (depth inner : ℕ) (ds : List CDef) (x : List ℕ) (fields : List CVar) (ws : List ℕ) (a : Value × List ℕ) → depth ≡ inner + 1 → fields_of ds x ≡ Some fields → value_in depth ds (ty.Struct x) ws ≡ Some a → (b : Values × List ℕ) × (members_in inner ds fields ws ≡ Some b) × (a ≡ (struct_of b.0, b.1))
struct-given zero inner ds x fields ws a h f e = absurd (omega arith)
struct-given (suc n) inner ds x fields ws a h f e =
    let same : n ≡ inner = omega arith in
    rw (← same) (members_of (shapes_of_fields (shape_within n ds) fields) ws a (rw (shape-Struct n ds x fields f) at e))

pub struct-lacks_depth : (depth : ℕ) (ds : List CDef) (t : CTy) (ws : List ℕ) (a : Value × List ℕ) → depth ≡ 0 → value_in depth ds t ws ≡ Some a → ⊥
struct-lacks_depth zero ds t ws a h e = never a (rw (shape_within-zero ds t) at e)
struct-lacks_depth (suc n) ds t ws a h e = absurd (omega arith)

pub struct-lacks_fields : (depth : ℕ) (ds : List CDef) (x : List ℕ) (ws : List ℕ) (a : Value × List ℕ) → fields_of ds x ≡ None → value_in depth ds (ty.Struct x) ws ≡ Some a → ⊥
struct-lacks_fields zero ds x ws a f e = never a (rw (shape_within-zero ds (ty.Struct x)) at e)
struct-lacks_fields (suc n) ds x ws a f e = never a (rw (shape_within-suc n ds (ty.Struct x), f) at e)

record NextMember (o : Option Shape) (p : Option Shapes) (ws : List ℕ) (a : Values × List ℕ) : Type 0 where
  pub first : Value × List ℕ
  pub others : Values × List ℕ
  pub first_is : option_and_then (λ s. filled s ws) o ≡ Some first
  pub others_are : option_and_then (λ s. filled_all s first.1) p ≡ Some others
  pub is : a ≡ (and_value first.0 others.0, others.1)

next_member : (o : Option Shape) (p : Option Shapes) (ws : List ℕ) (a : Values × List ℕ) → option_and_then (λ s. filled_all s ws) (option_and_then (λ b. option_map (and_shape b) p) o) ≡ Some a → NextMember o p ws a
next_member None p ws a e = never a e
next_member (Some s) None ws a e = never a e
next_member (Some s) (Some shapes) ws a e =
    let t = two_steps (filled s ws) (λ (v : Value × List ℕ). filled_all shapes v.1) (λ (v : Value × List ℕ) (b : Values × List ℕ). (and_value v.0 b.0, b.1)) a e in
    record { first = t.first; others = t.second; first_is = t.first_is; others_are = t.second_is; is = t.is }

-- what is still to be written of a struct's members
pub record MembersLeft (depth : ℕ) (ds : List CDef) (fields : List CVar) (left before done : List ℕ) (a : Values × List ℕ) : Type 0 where
  pub rest : Values × List ℕ
  pub are : members_in depth ds fields left ≡ Some rest
  pub text : done ++ constants before rest.0 ≡ constants [] a.0
  pub behind : rest.1 ≡ a.1

pub members_start : (depth : ℕ) (ds : List CDef) (fields : List CVar) (given : List ℕ) (a : Values × List ℕ) → members_in depth ds fields given ≡ Some a → MembersLeft depth ds fields given [] [] a
members_start depth ds fields given a e = record { rest = a; are = e; text = refl; behind = refl }

regroup : (done before c rest : List ℕ) → done ++ before ++ c ++ rest ≡ done ++ (before ++ c ++ rest)
regroup done before c rest = simp append_assoc

-- one more constant behind those that are written
more_text : (done before c rest next wanted : List ℕ) → next ≡ before ++ c ++ rest → done ++ next ≡ wanted → done ++ before ++ c ++ rest ≡ wanted
more_text done before c rest next wanted h e = regroup done before c rest ∙ ap (λ (x : List ℕ). done ++ x) (sym h) ∙ e

member_step : (depth : ℕ) (ds : List CDef) (x : CVar) (xs : List CVar) (left before done : List ℕ) (a : Values × List ℕ) → MembersLeft depth ds (x ∷ xs) left before done a
    → (v : Value × List ℕ) × (value_in depth ds x.ty left ≡ Some v) × MembersLeft depth ds xs v.1 (codes ", ") (done ++ before ++ constant v.0) a
member_step depth ds x xs left before done a m =
    let n = next_member (shape_within depth ds x.ty) (shapes_of_fields (shape_within depth ds) xs) left m.rest m.are in (
      n.first,
      n.first_is,
      record {
        rest = n.others;
        are = n.others_are;
        text = more_text done before (constant n.first.0) (constants (codes ", ") n.others.0) (constants before m.rest.0) (constants [] a.0) (ap (λ (b : Values × List ℕ). constants before b.0) n.is) m.text;
        behind = sym (ap (λ (b : Values × List ℕ). b.1) n.is) ∙ m.behind;
      },
    )

pub members_step : (depth : ℕ) (ds : List CDef) (fields : List CVar) (i : ℕ) (x : CVar) (left before done : List ℕ) (a : Values × List ℕ) → i < length fields → x ≡ get_or fields i x → MembersLeft depth ds (drop i fields) left before done a
    → (v : Value × List ℕ) × (value_in depth ds x.ty left ≡ Some v) × MembersLeft depth ds (drop (i + 1) fields) v.1 (codes ", ") (done ++ before ++ constant v.0) a
members_step depth ds fields i x left before done a low is m =
    let first : drop i fields ≡ x ∷ drop (i + 1) fields = drop_more fields i x low ∙ ap (λ (y : CVar). y ∷ drop (i + 1) fields) (sym is) in
    member_step depth ds x (drop (i + 1) fields) left before done a (rw first at m)

members_over : (depth : ℕ) (ds : List CDef) (fields : List CVar) (left before done : List ℕ) (a : Values × List ℕ) → fields ≡ [] → MembersLeft depth ds fields left before done a → (done ≡ constants [] a.0) × (left ≡ a.1)
members_over depth ds [] left before done a h m =
    let is : m.rest ≡ (no_value, left) = sym (same_Some (no_value, left) m.rest m.are) in
    (sym (append-nil done) ∙ ap (λ (b : Values × List ℕ). done ++ constants before b.0) (sym is) ∙ m.text, ap (λ (b : Values × List ℕ). b.1) (sym is) ∙ m.behind)
members_over depth ds (x ∷ xs) left before done a h m = absurd (cc h)

pub members_end : (depth : ℕ) (ds : List CDef) (fields : List CVar) (i : ℕ) (left before done : List ℕ) (a : Values × List ℕ) → length fields ≤ i → MembersLeft depth ds (drop i fields) left before done a → (done ≡ constants [] a.0) × (left ≡ a.1)
members_end depth ds fields i left before done a high m = members_over depth ds (drop i fields) left before done a (drop_all i fields high) m

-- ---- arrays

elements_of : (n : ℕ) (o : Option Shape) (ws : List ℕ) (a : Value × List ℕ) → option_and_then (λ s. filled s ws) (option_map (elements n) o) ≡ Some a → (b : List Value × List ℕ) × (option_and_then (λ s. repeated n (filled s) ws) o ≡ Some b) × (a ≡ (array_of (values b.0), b.1))
elements_of n None ws a e = never a e
elements_of n (Some s) ws a e = mapped (repeated n (filled s) ws) (λ (b : List Value × List ℕ). (array_of (values b.0), b.1)) a e

pub array-given : (depth : ℕ) (ds : List CDef) (x : List ℕ) (n : ℕ) (ws : List ℕ) (a : Value × List ℕ) → value_in depth ds (ty.Array x n) ws ≡ Some a → (b : List Value × List ℕ) × (values_in n depth ds (elem_type x) ws ≡ Some b) × (a ≡ (array_of (values b.0), b.1))
array-given zero ds x n ws a e = never a (rw (shape_within-zero ds (ty.Array x n)) at e)
array-given (suc m) ds x n ws a e = elements_of n (shape_within (suc m) ds (elem_type x)) ws a (rw (shape-Array m ds x n) at e)

-- ---- values of one type

record NextValue (n : ℕ) (o : Option Shape) (ws : List ℕ) (a : List Value × List ℕ) : Type 0 where
  pub first : Value × List ℕ
  pub others : List Value × List ℕ
  pub first_is : option_and_then (λ s. filled s ws) o ≡ Some first
  pub others_are : option_and_then (λ s. repeated n (filled s) first.1) o ≡ Some others
  pub is : a ≡ (first.0 ∷ others.0, others.1)

next_value : (n : ℕ) (o : Option Shape) (ws : List ℕ) (a : List Value × List ℕ) → option_and_then (λ s. repeated (suc n) (filled s) ws) o ≡ Some a → NextValue n o ws a
next_value n None ws a e = never a e
next_value n (Some s) ws a e =
    let t = two_steps (filled s ws) (λ (v : Value × List ℕ). repeated n (filled s) v.1) (λ (v : Value × List ℕ) (b : List Value × List ℕ). (v.0 ∷ b.0, b.1)) a e in
    record { first = t.first; others = t.second; first_is = t.first_is; others_are = t.second_is; is = t.is }

-- what is still to be written of some values of one type
pub record ValuesLeft (n depth : ℕ) (ds : List CDef) (t : CTy) (left before done : List ℕ) (a : List Value × List ℕ) : Type 0 where
  pub rest : List Value × List ℕ
  pub are : values_in n depth ds t left ≡ Some rest
  pub text : done ++ constants before (values rest.0) ≡ constants [] (values a.0)
  pub behind : rest.1 ≡ a.1

pub values_start : (m n depth : ℕ) (ds : List CDef) (t : CTy) (given : List ℕ) (a : List Value × List ℕ) → n ≡ m → values_in n depth ds t given ≡ Some a → ValuesLeft m depth ds t given [] [] a
values_start m n depth ds t given a h e = record { rest = a; are = rw h at e; text = refl; behind = refl }

value_step : (n depth : ℕ) (ds : List CDef) (t : CTy) (left before done : List ℕ) (a : List Value × List ℕ) → ValuesLeft (suc n) depth ds t left before done a
    → (v : Value × List ℕ) × (value_in depth ds t left ≡ Some v) × ValuesLeft n depth ds t v.1 (codes ", ") (done ++ before ++ constant v.0) a
value_step n depth ds t left before done a m =
    let x = next_value n (shape_within depth ds t) left m.rest m.are in (
      x.first,
      x.first_is,
      record {
        rest = x.others;
        are = x.others_are;
        text = more_text done before (constant x.first.0) (constants (codes ", ") (values x.others.0)) (constants before (values m.rest.0)) (constants [] (values a.0)) (ap (λ (b : List Value × List ℕ). constants before (values b.0)) x.is) m.text;
        behind = sym (ap (λ (b : List Value × List ℕ). b.1) x.is) ∙ m.behind;
      },
    )

pub values_step : (n k depth : ℕ) (ds : List CDef) (t : CTy) (left before done : List ℕ) (a : List Value × List ℕ) → n ≡ suc k → ValuesLeft n depth ds t left before done a
    → (v : Value × List ℕ) × (value_in depth ds t left ≡ Some v) × ValuesLeft k depth ds t v.1 (codes ", ") (done ++ before ++ constant v.0) a
values_step n k depth ds t left before done a h m = value_step k depth ds t left before done a (rw h at m)

no_values : (o : Option Shape) (ws : List ℕ) (a : List Value × List ℕ) → option_and_then (λ s. repeated zero (filled s) ws) o ≡ Some a → a ≡ ([], ws)
no_values None ws a e = never a e
no_values (Some s) ws a e = sym (same_Some ([], ws) a e)

pub values_end : (n depth : ℕ) (ds : List CDef) (t : CTy) (left before done : List ℕ) (a : List Value × List ℕ) → n ≡ 0 → ValuesLeft n depth ds t left before done a → (done ≡ constants [] (values a.0)) × (left ≡ a.1)
values_end zero depth ds t left before done a h m =
    let is : m.rest ≡ ([], left) = no_values (shape_within depth ds t) left m.rest m.are in
    (sym (append-nil done) ∙ ap (λ (b : List Value × List ℕ). done ++ constants before (values b.0)) (sym is) ∙ m.text, ap (λ (b : List Value × List ℕ). b.1) (sym is) ∙ m.behind)
values_end (suc n) depth ds t left before done a h m = absurd (omega arith)

-- ---- the first values of a ring

whole_is : (o : Option (List Value × List ℕ)) (vs : List Value) → option_and_then whole o ≡ Some vs → o ≡ Some (vs, [])
whole_is None vs e = never vs e
whole_is (Some (us, [])) vs e = ap (λ (x : List Value). Some (x, [])) (same_Some us vs e)
whole_is (Some (us, w ∷ ws)) vs e = never vs e

whole_by : (n : ℕ) (o : Option Shape) (ws : List ℕ) (vs : List Value) → option_and_then (λ s. option_and_then whole (repeated n (filled s) ws)) o ≡ Some vs → option_and_then (λ s. repeated n (filled s) ws) o ≡ Some (vs, [])
whole_by n None ws vs e = never vs e
whole_by n (Some s) ws vs e = whole_is (repeated n (filled s) ws) vs e

pub ring-given : (ds : List CDef) (r : CRing) (vs : List Value) → first_values ds r ≡ Some vs → values_in r.len (length ds + 1) ds r.ty r.init ≡ Some (vs, [])
ring-given ds r vs e = whole_by r.len (shape_within (length ds + 1) ds r.ty) r.init vs e

-- ---- elements by their word

pub element-scalar : (depth : ℕ) (ds : List CDef) (x : List ℕ) (t : CScalar) (ws : List ℕ) (a : Value × List ℕ) → find (λ s. is_same (word_of s) x) scalars ≡ Some t → value_in depth ds (elem_type x) ws ≡ Some a → filled (scalar t) ws ≡ Some a
element-scalar depth ds x t ws a h e = scalar-given depth ds t ws a (rw (elem_type-Scalar x t h) at e)

pub elem_type-Struct : (x : List ℕ) → find (λ s. is_same (word_of s) x) scalars ≡ None → elem_type x ≡ ty.Struct x
elem_type-Struct x e = ap (λ (o : Option CScalar). option_map_or ty.Scalar o (ty.Struct x)) e
