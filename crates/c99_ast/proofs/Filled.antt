-- How the words that values leave follow from those that their parts leave.
use Rattle.std.proofs.Common.{◌≡◌, ℕ, zero, suc, ◌+◌, ◌<◌, max, List, [], ◌∷◌, Bool, true, false, ◌&&◌, Option, Some, None, refl, sym, ap, ◌∙◌, arith}
use Rattle.std.specs.Prelude.{nat_le, if◌then◌else◌, IsSome}
use Rattle.c99_tree.specs.declared.types.CScalar.{CScalar}
use Rattle.c99_tree.specs.declared.types.CDef.{CDef}
use Rattle.c99_tree.specs.declared.types.CTy.TheVariants as ty
use Rattle.c99_tree.specs.Words.{elem_type}
use Rattle.c99_tree.specs.Lookup.{fields_of}
use Rattle.c99_tree.proofs.Shapes.{shape_within-suc, shape_within-zero, shape-Array, shape-Struct}
use Rattle.std.specs.Option.{option_map, option_and_then}
use Rattle.std.specs.List.{list_all}
use Rattle.std.proofs.lemmas.Bool.Decides.{nat_tests}
use Rattle.c99_tree.specs.declared.types.CTy.{CTy}
use Rattle.c99_tree.specs.declared.types.CVar.{CVar}
use Rattle.c99_tree.specs.Values.{Value, Values, and_value, values, Shape, Shapes, and_shape, elements, members, array_of, struct_of, scalar, filled, filled_all, repeated, shape_within, shapes_of_fields}
use Rattle.c99_tree.specs.Spelling.{constant_height, highest_constant}
use Rattle.c99_tree.specs.Filling.{low_value, low_values, low_list, left_of, left_of_all, left_of_times}

-- a maximum is within a bound where both are
max_le : (a b m : ℕ) → nat_le (max a b) m ≡ (nat_le a m && nat_le b m)
max_le a b m = grind (arith, nat_tests)

-- a choice in two steps
if_and : {X : Type 0} (a b : Bool) (x : Option X) → (if a && b then x else None) ≡ (if a then (if b then x else None) else None)
if_and true b x = refl
if_and false b x = refl

option_after : {A : Type 0} (b : Bool) (x : A) (f : A → Option A) → option_and_then f (if b then Some x else None) ≡ (if b then f x else None)
option_after true x f = refl
option_after false x f = refl

none-if : {A : Type 0} (b : Bool) (x : Option A) → x ≡ (if b then x else x)
none-if true x = refl
none-if false x = refl

-- the first member and then the others
rest_values : (m : ℕ) (v : Value) (o : Option (Values × List ℕ)) → option_and_then (low_values m) (option_map (λ b. (and_value v b.0, b.1)) o) ≡ (if nat_le (constant_height v) m then option_and_then (low_values m) o else None)
rest_values m v None = none-if (nat_le (constant_height v) m) None
rest_values m v (Some b) = ap (λ (t : Bool). if t then Some b.1 else None) (max_le (constant_height v) (highest_constant b.0) m) ∙ if_and (nat_le (constant_height v) m) (nat_le (highest_constant b.0) m) (Some b.1)

first_values : (m : ℕ) (shapes : Shapes) (o : Option (Value × List ℕ)) →
    option_and_then (low_values m) (option_and_then (λ a. option_map (λ b. (and_value a.0 b.0, b.1)) (filled_all shapes a.1)) o)
    ≡ option_and_then (λ ws. option_and_then (low_values m) (filled_all shapes ws)) (option_and_then (low_value m) o)
first_values m shapes None = refl
first_values m shapes (Some a) =
    rest_values m a.0 (filled_all shapes a.1) ∙ sym (option_after (nat_le (constant_height a.0) m) a.1 (λ ws. option_and_then (low_values m) (filled_all shapes ws)))

no_more : {A B : Type 0} (o : Option A) (x : Option B) → x ≡ None → None ≡ option_and_then (λ a. x) o
no_more None x h = refl
no_more (Some a) x h = sym h

left-fields_by : (m : ℕ) (o : Option Shape) (p : Option Shapes) (ws : List ℕ) →
    left_of_all m (option_and_then (λ a. option_map (and_shape a) p) o) ws ≡ option_and_then (left_of_all m p) (left_of m o ws)
left-fields_by m None p ws = refl
left-fields_by m (Some s) None ws = no_more (option_and_then (low_value m) (filled s ws)) None refl
left-fields_by m (Some s) (Some shapes) ws = first_values m shapes (filled s ws)

pub left-fields : (m : ℕ) (f : CTy → Option Shape) (x : CVar) (xs : List CVar) (ws : List ℕ) →
    left_of_all m (shapes_of_fields f (x ∷ xs)) ws ≡ option_and_then (left_of_all m (shapes_of_fields f xs)) (left_of m (f x.ty) ws)
left-fields m f x xs ws = left-fields_by m (f x.ty) (shapes_of_fields f xs) ws

-- the first of n and then the others
rest_list : (m : ℕ) (v : Value) (o : Option (List Value × List ℕ)) → option_and_then (low_list m) (option_map (λ b. (v ∷ b.0, b.1)) o) ≡ (if nat_le (constant_height v) m then option_and_then (low_list m) o else None)
rest_list m v None = none-if (nat_le (constant_height v) m) None
rest_list m v (Some b) = if_and (nat_le (constant_height v) m) (list_all (λ w. nat_le (constant_height w) m) b.0) (Some b.1)

first_list : (m n : ℕ) (s : Shape) (o : Option (Value × List ℕ)) →
    option_and_then (low_list m) (option_and_then (λ a. option_map (λ b. (a.0 ∷ b.0, b.1)) (repeated n (filled s) a.1)) o)
    ≡ option_and_then (λ ws. option_and_then (low_list m) (repeated n (filled s) ws)) (option_and_then (low_value m) o)
first_list m n s None = refl
first_list m n s (Some a) =
    rest_list m a.0 (repeated n (filled s) a.1) ∙ sym (option_after (nat_le (constant_height a.0) m) a.1 (λ ws. option_and_then (low_list m) (repeated n (filled s) ws)))

pub left-times : (m n : ℕ) (o : Option Shape) (ws : List ℕ) → left_of_times m (suc n) o ws ≡ option_and_then (left_of_times m n o) (left_of m o ws)
left-times m n None ws = refl
left-times m n (Some s) ws = first_list m n s (filled s ws)

highest-list : (m : ℕ) (vs : List Value) → nat_le (highest_constant (values vs)) m ≡ list_all (λ v. nat_le (constant_height v) m) vs
highest-list m [] = grind (arith, nat_tests)
highest-list m (v ∷ vs) = max_le (constant_height v) (highest_constant (values vs)) m ∙ ap (λ (b : Bool). nat_le (constant_height v) m && b) (highest-list m vs)

more_le : (h m k : ℕ) → nat_le (h + k) (m + k) ≡ nat_le h m
more_le h m k = grind (arith, nat_tests)

array_low : (m : ℕ) (o : Option (List Value × List ℕ)) → option_and_then (low_value (m + 2)) (option_map (λ a. (array_of (values a.0), a.1)) o) ≡ option_and_then (low_list m) o
array_low m None = refl
array_low m (Some a) = ap (λ (b : Bool). if b then Some a.1 else None) (more_le (highest_constant (values a.0)) m 2 ∙ highest-list m a.0)

-- an array's braces are two
pub left-array : (m n : ℕ) (o : Option Shape) (ws : List ℕ) → left_of (m + 2) (option_map (elements n) o) ws ≡ left_of_times m n o ws
left-array m n None ws = refl
left-array m n (Some s) ws = array_low m (repeated n (filled s) ws)

never : (b : Bool) (x : Option (List ℕ)) → b ≡ false → (if b then x else None) ≡ None
never true x h = absurd (cc h)
never false x h = refl

too_high : (h m k : ℕ) → m < k → nat_le (h + k) m ≡ false
too_high h m k l = grind (arith, nat_tests)

over_two : (h m : ℕ) → m < 2 → (x : Option (List ℕ)) → (if nat_le (h + 2) m then x else None) ≡ None
over_two h m l x = never (nat_le (h + 2) m) x (too_high h m 2 l)

struct_low : (m : ℕ) (o : Option (Values × List ℕ)) → option_and_then (low_value (m + 1)) (option_map (λ a. (struct_of a.0, a.1)) o) ≡ option_and_then (low_values m) o
struct_low m None = refl
struct_low m (Some a) = ap (λ (b : Bool). if b then Some a.1 else None) (more_le (highest_constant a.0) m 1)

-- a struct's is one
pub left-struct : (m : ℕ) (o : Option Shapes) (ws : List ℕ) → left_of (m + 1) (option_map members o) ws ≡ left_of_all m o ws
left-struct m None ws = refl
left-struct m (Some s) ws = struct_low m (filled_all s ws)

-- ---- types by their depth

pub left-no_depth : (m n : ℕ) (ds : List CDef) (t : CTy) (ws : List ℕ) → n ≡ 0 → left_of m (shape_within n ds t) ws ≡ None
left-no_depth m zero ds t ws h = rw (shape_within-zero ds t)
left-no_depth m (suc n) ds t ws h = absurd (omega arith)

pub left-no_struct : (m n : ℕ) (ds : List CDef) (x : List ℕ) (ws : List ℕ) → fields_of ds x ≡ None → left_of m (shape_within n ds (ty.Struct x)) ws ≡ None
left-no_struct m zero ds x ws h = rw (shape_within-zero ds (ty.Struct x))
left-no_struct m (suc n) ds x ws h = rw (shape_within-suc n ds (ty.Struct x), h)

pub left-fields_of : (m k n l : ℕ) (ds : List CDef) (x : List ℕ) (fields : List CVar) (ws : List ℕ) → k ≡ l + 1 → m ≡ n + 1 → fields_of ds x ≡ Some fields →
    left_of m (shape_within k ds (ty.Struct x)) ws ≡ left_of_all n (shapes_of_fields (shape_within l ds) fields) ws
left-fields_of m zero n l ds x fields ws h g e = absurd (omega arith)
left-fields_of m (suc k) n l ds x fields ws h g e =
    let same : k ≡ l = omega arith in
    rw (g, ← same, shape-Struct k ds x fields e) (left-struct n (shapes_of_fields (shape_within k ds) fields) ws)

zero_struct : (o : Option (Values × List ℕ)) → option_and_then (low_value 0) (option_map (λ a. (struct_of a.0, a.1)) o) ≡ None
zero_struct None = refl
zero_struct (Some a) = never (nat_le (highest_constant a.0 + 1) 0) (Some a.1) (too_high (highest_constant a.0) 0 1 (omega arith))

zero_members : (o : Option Shapes) (ws : List ℕ) → left_of 0 (option_map members o) ws ≡ None
zero_members None ws = refl
zero_members (Some s) ws = zero_struct (filled_all s ws)

left-struct_zero : (m k : ℕ) (ds : List CDef) (x : List ℕ) (fields : List CVar) (ws : List ℕ) → m ≡ 0 → fields_of ds x ≡ Some fields → left_of m (shape_within k ds (ty.Struct x)) ws ≡ None
left-struct_zero m zero ds x fields ws h e = rw (shape_within-zero ds (ty.Struct x))
left-struct_zero m (suc k) ds x fields ws h e = rw (h, shape-Struct k ds x fields e) (zero_members (shapes_of_fields (shape_within k ds) fields) ws)

zero_by_fields : (m k : ℕ) (ds : List CDef) (x : List ℕ) (ws : List ℕ) → m ≡ 0 → (o : Option (List CVar)) → fields_of ds x ≡ o → left_of m (shape_within k ds (ty.Struct x)) ws ≡ None
zero_by_fields m k ds x ws h None e = left-no_struct m k ds x ws e
zero_by_fields m k ds x ws h (Some fields) e = left-struct_zero m k ds x fields ws h e

pub left-zero_struct : (m k : ℕ) (ds : List CDef) (x : List ℕ) (ws : List ℕ) → m ≡ 0 → left_of m (shape_within k ds (ty.Struct x)) ws ≡ None
left-zero_struct m k ds x ws h = zero_by_fields m k ds x ws h (fields_of ds x) refl

small_array : (m : ℕ) → m < 2 → (o : Option (List Value × List ℕ)) → option_and_then (low_value m) (option_map (λ a. (array_of (values a.0), a.1)) o) ≡ None
small_array m h None = refl
small_array m h (Some a) = over_two (highest_constant (values a.0)) m h (Some a.1)

small_elements : (m n : ℕ) → m < 2 → (o : Option Shape) (ws : List ℕ) → left_of m (option_map (elements n) o) ws ≡ None
small_elements m n h None ws = refl
small_elements m n h (Some s) ws = small_array m h (repeated n (filled s) ws)

pub left-small_array : (m k n : ℕ) (ds : List CDef) (x : List ℕ) (ws : List ℕ) → m < 2 → left_of m (shape_within k ds (ty.Array x n)) ws ≡ None
left-small_array m zero n ds x ws h = rw (shape_within-zero ds (ty.Array x n))
left-small_array m (suc k) n ds x ws h = rw (shape-Array k ds x n) (small_elements m n h (shape_within (suc k) ds (elem_type x)) ws)

pub left-elements : (m l k n : ℕ) (ds : List CDef) (x : List ℕ) (ws : List ℕ) → m ≡ l + 2 → left_of m (shape_within k ds (ty.Array x n)) ws ≡ left_of_times l n (shape_within k ds (elem_type x)) ws
left-elements m l zero n ds x ws h = rw (shape_within-zero ds (ty.Array x n), shape_within-zero ds (elem_type x))
left-elements m l (suc k) n ds x ws h = rw (h, shape-Array k ds x n) (left-array l n (shape_within (suc k) ds (elem_type x)) ws)

pub scalar-shape : (n : ℕ) (ds : List CDef) (t : CScalar) → IsSome (shape_within n ds (ty.Scalar t)) → shape_within n ds (ty.Scalar t) ≡ Some (scalar t)
scalar-shape zero ds t h = absurd (cc (shape_within-zero ds (ty.Scalar t), h))
scalar-shape (suc n) ds t h = shape_within-suc n ds (ty.Scalar t)

pub left-one_more : (m n k : ℕ) (o : Option Shape) (ws rest : List ℕ) → n ≡ suc k → left_of m o ws ≡ Some rest → left_of_times m n o ws ≡ left_of_times m k o rest
left-one_more m n k o ws rest h g = rw (h, left-times m k o ws, g)

pub left-none_more : (m n k : ℕ) (o : Option Shape) (ws : List ℕ) → n ≡ suc k → left_of m o ws ≡ None → left_of_times m n o ws ≡ None
left-none_more m n k o ws h g = rw (h, left-times m k o ws, g)

pub left-no_times : (m : ℕ) (o : Option Shape) (ws : List ℕ) → IsSome o → left_of_times m 0 o ws ≡ Some ws
left-no_times m None ws h = absurd (cc h)
left-no_times m (Some s) ws h = refl
