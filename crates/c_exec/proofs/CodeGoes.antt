-- The resolved form of each expression of a well formed program puts the words of its value on the pile.
use Rattle.std.proofs.Common.{◌≡◌, ℕ, zero, suc, ◌+◌, ◌*◌, ◌%◌, ◌^◌, ◌<◌, ◌≤◌, Bool, true, false, ◌&&◌, List, [], ◌∷◌, ◌++◌, length, map, take, drop, Option, Some, None, Result, Ok, Err, refl, sym, ap, ◌∙◌, subst, append_assoc, arith}
use Rattle.std.specs.Prelude.{pos, IfOk, nat_le, is_some, IsSome, replicate, slice_get, if◌then◌else◌}
use Rattle.std.specs.List.{list_all, flat_map, sum_by, AllZip}
use Rattle.std.specs.Option.{option_map, option_map_or, option_and_then}
use Rattle.std.proofs.lemmas.Bool.Decides.{nat_tests}
use Rattle.std.proofs.lemmas.List.Sums.{sum_by-cons}
use Rattle.std.proofs.Math.Seq.{take-append_seam, drop-append-add}
use Rattle.c99_tree.specs.declared.expr.CLit.{CLit}
use Rattle.c99_tree.specs.declared.expr.CLit.TheVariants as k
use Rattle.c99_tree.specs.declared.types.CScalar.{CScalar}
use Rattle.c99_tree.specs.declared.types.CScalar.TheVariants as t
use Rattle.c99_tree.specs.declared.types.CTy.{CTy}
use Rattle.c99_tree.specs.declared.types.CTy.TheVariants as ty
use Rattle.c99_tree.specs.declared.types.CVar.{CVar}
use Rattle.c99_tree.specs.declared.types.CDef.{CDef}
use Rattle.c99_tree.specs.declared.undefined.Undefined.{Undefined}
use Rattle.c99_tree.specs.declared.unit.CRing.{CRing}
use Rattle.c99_tree.specs.declared.unit.Unit.{Unit as CUnit}
use Rattle.c99_tree.specs.Tree.{Expr, Exprs, lit, yes, no, copy, head, cell, ring_at, un, bin, choose, cast, field, pick, arr, rec, none, more}
use Rattle.c99_tree.specs.CTypes.{num, truth, is_zero, converted}
use Rattle.c99_tree.specs.Words.{elem_type}
use Rattle.c99_tree.specs.Spelling.{most}
use Rattle.c99_tree.specs.Lookup.{fields_of, var_of, ring_of, place_of_var, is_defined}
use Rattle.c99_tree.specs.Values.{Value, number, number_in, parts, words_of, shape_of}
use Rattle.c99_tree.specs.Typing.{type_of, types_of, scalar_type, arms_type, arms_type_of, fields_in, fits, fits_in, where_scalar, where_type, where_true, fit_members, fit_elements, literal_type, unary_type, binary_type, is_same_type}
use Rattle.c99_tree.specs.Evaluation.{Met, done, after, meets, ◌>>=◌, Statics, value_at, copy_in, values_in, index_in, element, converted_to, settled, chosen, picked, evaluate, evaluate_all}
use Rattle.c99_tree.specs.WellFormed.{parts_of, parts_of_all, is_in_range, is_there}
use Rattle.c99_tree.specs.Typed.{IsValueOf}
use Rattle.c99_tree.proofs.NumberTypes.{converted-is}
use Rattle.c99_tree.proofs.TypedValues.{then_gives, number_result-is, same_type-eq, fit_types, members_fit, elements_fit}
use Rattle.c99_tree.proofs.TypedExpressions.{Gives, Premises, halves, ring_values, ring_long, index_small, evaluate_gives}
use Rattle.sm_io.proofs.Truths.{left_passes, right_passes}
use Rattle.c_exec.specs.Codes as codes
use Rattle.c_exec.specs.Codes.{Op}
use Rattle.c_exec.specs.Layout.{width_of, var_start, var_length, index_start, value_width, ring_length}
use Rattle.c_exec.specs.Resolving.{scalar_of, as_settled, code_of}
use Rattle.c_exec.proofs.ExpressionsGo.{Sims, word_sims, un_sims, conv_sims, met_sims, bin_sims, choose_sims, part_sims}
use Rattle.c_exec.proofs.ElementsGo.{Stand, IsArrayOf, load_sims, elem_sims, pick_sims}
use Rattle.c_exec.proofs.ListsGo.{AllSim, met_of, then_same, either_then, as_sims, settled_sims, array_sims, struct_sims}

-- ---- runs of words, one after another

-- from a place on there are these words, as many as it is said, and then others
pub record RunAt (ws : List ℕ) (start n : ℕ) (own : List ℕ) : Type 0 where
  pub others : List ℕ
  pub is : drop start ws ≡ own ++ others
  pub long : length own ≡ n

pub run_taken : (ws : List ℕ) (start n : ℕ) (own : List ℕ) → RunAt ws start n own → take n (drop start ws) ≡ own
run_taken ws start n own r = ap (λ (z : List ℕ). take n z) r.is ∙ ap (λ (j : ℕ). take j (own ++ r.others)) (sym r.long) ∙ take-append_seam own r.others

-- the run at a place, where each is as long as it should be
pub run_at : {A B : Type 0} (w : A → ℕ) (f : B → List ℕ) (xs : List A) (ys : List B) (rest : List ℕ) (k : ℕ) (x : A) (y : B)
    → AllZip (λ (a : A) (b : B). length (f b) ≡ w a) xs ys
    → slice_get xs k ≡ Some x → slice_get ys k ≡ Some y → RunAt (flat_map f ys ++ rest) (sum_by w (take k xs)) (w x) (f y)
run_at w f [] ys rest k x y h e g = absurd (cc e)
run_at w f (a ∷ xs) [] rest k x y h e g = absurd h
run_at w f (a ∷ xs) (b ∷ ys) rest zero x y h e g =
    let same : a ≡ x = cc e in
    let here : b ≡ y = cc g in
    record {
      others = flat_map f ys ++ rest;
      is = append_assoc (f b) (flat_map f ys) rest ∙ ap (λ (z : _). f z ++ (flat_map f ys ++ rest)) here;
      long = ap (λ (z : _). length (f z)) (sym here) ∙ h.0 ∙ ap w same;
    }
run_at w f (a ∷ xs) (b ∷ ys) rest (suc k) x y h e g =
    let r = run_at w f xs ys rest k x y h.1 e g in
    let regroup : (f b ++ flat_map f ys) ++ rest ≡ f b ++ (flat_map f ys ++ rest) = append_assoc (f b) (flat_map f ys) rest in
    let first : sum_by w (a ∷ take k xs) ≡ w a + sum_by w (take k xs) = sum_by-cons w a (take k xs) in
    let start : sum_by w (a ∷ take k xs) ≡ length (f b) + sum_by w (take k xs) = first ∙ ap (λ (j : ℕ). j + sum_by w (take k xs)) (sym h.0) in
    record {
      others = r.others;
      is = ap (λ (z : List ℕ). drop (sum_by w (a ∷ take k xs)) z) regroup ∙ ap (λ (j : ℕ). drop j (f b ++ (flat_map f ys ++ rest))) start
          ∙ drop-append-add (f b) (flat_map f ys ++ rest) (sum_by w (take k xs)) ∙ r.is;
      long = r.long;
    }

-- ---- where the code looks for what the statics hold

-- these and all expressions in them are in range, and what they name is there
pub record Good (u : CUnit) (es : List Expr) : Type 0 where
  pub ranges : list_all is_in_range es ≡ true
  pub there : list_all (is_there u) es ≡ true

pub record Laid (u : CUnit) (s : Statics) (ws : List ℕ) : Type 0 where
  pub given : Premises u s
  pub shaped : (e : Expr) (r : CTy) → Good u (parts_of e) → type_of u e ≡ Some r → IsSome (shape_of u.types r)
  pub copies : (x : List ℕ) (v : CVar) → var_of u.externs x ≡ Some v
      → take (var_length u.types u.externs x) (drop (var_start u.types u.externs x) ws) ≡ words_of (copy_in u s x)
  pub copy_long : (x : List ℕ) (v : CVar) → var_of u.externs x ≡ Some v → length (words_of (copy_in u s x)) ≡ var_length u.types u.externs x
  pub indices : (r : List ℕ) (ring : CRing) → ring_of u r ≡ Some ring → take 1 (drop (index_start u r) ws) ≡ index_in u s r ∷ []
  pub rings : (r : List ℕ) (ring : CRing) → ring_of u r ≡ Some ring → Stand ws (index_start u r + 1) (value_width u r) (values_in u s r)
  pub elements : (x : List ℕ) (n : ℕ) (v : Value) → is_defined u.types (ty.Array x n) ≡ true → IsValueOf u.types (ty.Array x n) v
      → IsArrayOf (width_of u.types (elem_type x)) n v
  pub members : (y x : List ℕ) (v : Value) (f : CVar) → IsSome (shape_of u.types (ty.Struct y)) → var_of (fields_in u.types (Some (ty.Struct y))) x ≡ Some f
      → IsValueOf u.types (ty.Struct y) v
      → take (var_length u.types (fields_in u.types (Some (ty.Struct y))) x) (drop (var_start u.types (fields_in u.types (Some (ty.Struct y))) x) (words_of v))
      ≡ words_of (value_at (parts v) (place_of_var (fields_in u.types (Some (ty.Struct y))) x))
  pub member_long : (y x : List ℕ) (v : Value) (f : CVar) → IsSome (shape_of u.types (ty.Struct y))
      → var_of (fields_in u.types (Some (ty.Struct y))) x ≡ Some f → IsValueOf u.types (ty.Struct y) v
      → length (words_of (value_at (parts v) (place_of_var (fields_in u.types (Some (ty.Struct y))) x))) ≡ var_length u.types (fields_in u.types (Some (ty.Struct y))) x

pub left_good : (u : CUnit) (xs ys : List Expr) → Good u (xs ++ ys) → Good u xs
left_good u xs ys g = record { ranges = (halves is_in_range xs ys g.ranges).0; there = (halves (is_there u) xs ys g.there).0 }

pub right_good : (u : CUnit) (xs ys : List Expr) → Good u (xs ++ ys) → Good u ys
right_good u xs ys g = record { ranges = (halves is_in_range xs ys g.ranges).1; there = (halves (is_there u) xs ys g.there).1 }

-- those in an expression
pub inner_good : (u : CUnit) (c : Bool) (es : List Expr) → list_all is_in_range es ≡ true → (c && list_all (is_there u) es) ≡ true → Good u es
inner_good u c es h g = record { ranges = h; there = right_passes c (list_all (is_there u) es) g }

-- ---- types that are there

some_there : {A : Type 0} (o : Option A) → is_some o ≡ true → (a : A) × (o ≡ Some a)
some_there None h = absurd (cc h)
some_there (Some a) h = (a, refl)

mapped_there : {A : Type 0} (o : Option A) (f : A → CTy) (r : CTy) → option_map f o ≡ Some r → (a : A) × (o ≡ Some a)
mapped_there None f r h = absurd (cc h)
mapped_there (Some a) f r h = (a, refl)

abbrev pub Scalar : Option CTy → Type 0
Scalar o = (c : CScalar) × (o ≡ Some (ty.Scalar c))

scalar_there : (o : Option CTy) (f : CScalar → CTy) (r : CTy) → option_map f (scalar_type o) ≡ Some r → Scalar o
scalar_there None f r h = absurd (cc h)
scalar_there (Some (ty.Scalar c)) f r h = (c, refl)
scalar_there (Some (ty.Struct x)) f r h = absurd (cc h)
scalar_there (Some (ty.Array x n)) f r h = absurd (cc h)

pub where_there : (o q : Option CTy) (r : CTy) → where_scalar o q ≡ Some r → Scalar o × (q ≡ Some r)
where_there None q r h = absurd (cc h)
where_there (Some (ty.Scalar c)) q r h = ((c, refl), h)
where_there (Some (ty.Struct x)) q r h = absurd (cc h)
where_there (Some (ty.Array x n)) q r h = absurd (cc h)

two_there : (o q : Option CTy) (f : CScalar → CScalar → CTy) (r : CTy)
    → option_and_then (λ (c : CScalar). option_map (f c) (scalar_type q)) (scalar_type o) ≡ Some r → Scalar o × Scalar q
two_there None q f r h = absurd (cc h)
two_there (Some (ty.Scalar c)) q f r h = ((c, refl), scalar_there q (f c) r h)
two_there (Some (ty.Struct x)) q f r h = absurd (cc h)
two_there (Some (ty.Array x n)) q f r h = absurd (cc h)

pub true_there : (c : Bool) (q : Option CTy) (r : CTy) → where_true c q ≡ Some r → c ≡ true
true_there true q r h = refl
true_there false q r h = absurd (cc h)

pub same_there : (o : Option CTy) (b : CTy) (q : Option CTy) (r : CTy) → where_type o b q ≡ Some r → (o ≡ Some b) × (q ≡ Some r)
same_there None b q r h = absurd (cc h)
same_there (Some a) b q r h = by_test (is_same_type a b) refl h
  where
    by_test : (c : Bool) → is_same_type a b ≡ c → (if c then q else None) ≡ Some r → (Some a ≡ Some b) × (q ≡ Some r)
    by_test true e g = (ap (λ (z : CTy). Some z) (same_type-eq a b e), g)
    by_test false e g = absurd (cc g)

members_there : (all : List (Option CTy)) (x : List ℕ) (o : Option (List CVar)) (r : CTy)
    → option_and_then (λ (fields : List CVar). where_true (fit_members all fields) (Some (ty.Struct x))) o ≡ Some r
    → fit_types all (map (λ (v : CVar). v.ty) (option_map_or (λ (fields : List CVar). fields) o [])) ≡ true
members_there all x None r h = absurd (cc h)
members_there all x (Some fields) r h = members_fit all fields (true_there (fit_members all fields) (Some (ty.Struct x)) r h)

pub one_of : (c : Bool) (a r : CTy) → (if c then Some a else None) ≡ Some r → a ≡ r
one_of true a r h = cc h
one_of false a r h = absurd (cc h)

-- the arms of a choice of a scalar type
arms_scalar : (a b : CTy) (q : CScalar) → arms_type a b ≡ Some (ty.Scalar q) → Scalar (Some a) × Scalar (Some b)
arms_scalar (ty.Scalar c) (ty.Scalar d) q h = ((c, refl), (d, refl))
arms_scalar (ty.Scalar c) (ty.Struct y) q h = absurd (cc h)
arms_scalar (ty.Scalar c) (ty.Array y n) q h = absurd (cc h)
arms_scalar (ty.Struct x) b q h = let e : ty.Struct x ≡ ty.Scalar q = one_of (is_same_type (ty.Struct x) b) (ty.Struct x) (ty.Scalar q) h in absurd (cc e)
arms_scalar (ty.Array x n) b q h = let e : ty.Array x n ≡ ty.Scalar q = one_of (is_same_type (ty.Array x n) b) (ty.Array x n) (ty.Scalar q) h in absurd (cc e)

pub arms_there : (o p : Option CTy) (r : CTy) → arms_type_of o p ≡ Some r → (a : CTy) × (b : CTy) × (o ≡ Some a) × (p ≡ Some b) × (arms_type a b ≡ Some r)
arms_there None p r h = absurd (cc h)
arms_there (Some a) None r h = absurd (cc h)
arms_there (Some a) (Some b) r h = (a, b, refl, refl, h)

pub fit_there : (o : Option CTy) (r : CTy) → fits_in o r ≡ true → (a : CTy) × (o ≡ Some a) × (fits a r ≡ true)
fit_there None r h = absurd (cc h)
fit_there (Some a) r h = (a, refl, h)

pub fit_scalar : (a : CTy) (q : CScalar) → fits a (ty.Scalar q) ≡ true → Scalar (Some a)
fit_scalar (ty.Scalar c) q h = (c, refl)
fit_scalar (ty.Struct x) q h = absurd (cc h)
fit_scalar (ty.Array x n) q h = absurd (cc h)

-- the members of what has members
pub struct_there : (ds : List CDef) (o : Option CTy) (x : List ℕ) (f : CVar) → var_of (fields_in ds o) x ≡ Some f → (y : List ℕ) × (o ≡ Some (ty.Struct y))
struct_there ds None x f h = absurd (cc h)
struct_there ds (Some (ty.Scalar c)) x f h = absurd (cc h)
struct_there ds (Some (ty.Struct y)) x f h = (y, refl)
struct_there ds (Some (ty.Array y n)) x f h = absurd (cc h)

-- ---- what an expression gives

pub typed : (u : CUnit) (s : Statics) (c : Premises u s) (e : Expr) (r : CTy) → list_all is_in_range (parts_of e) ≡ true → type_of u e ≡ Some r
    → IfOk (evaluate u s e).value (IsValueOf u.types r)
typed u s c e r h g = subst (λ (o : Option CTy). Gives u.types o (evaluate u s e).value) g (evaluate_gives u s c e h)

pub scalar_given : (u : CUnit) (s : Statics) (c : Premises u s) (e : Expr) → list_all is_in_range (parts_of e) ≡ true → Scalar (type_of u e)
    → IfOk (evaluate u s e).value (IsValueOf u.types (ty.Scalar (scalar_of u e)))
scalar_given u s c e h q =
    let same : scalar_of u e ≡ q.0 = ap (λ (o : Option CTy). option_map_or (λ (a : CScalar). a) (scalar_type o) t.I32) q.1 in
    subst (λ (a : CScalar). IfOk (evaluate u s e).value (IsValueOf u.types (ty.Scalar a))) (sym same) (typed u s c e (ty.Scalar q.0) h q.1)

-- ---- literals and loads

literal_word : (c : CLit) (n : ℕ) → nat_le n (most c) ≡ true → n % 2 ^ 64 ≡ n
literal_word k.I n h = let l : n ≤ most k.I = grind (arith, nat_tests, h) in omega (arith, l)
literal_word k.U n h = let l : n ≤ most k.U = grind (arith, nat_tests, h) in omega (arith, l)
literal_word k.LL n h = let l : n ≤ most k.LL = grind (arith, nat_tests, h) in omega (arith, l)
literal_word k.ULL n h = let l : n ≤ most k.ULL = grind (arith, nat_tests, h) in omega (arith, l)

small_word : (n : ℕ) → n < 2 ^ 32 → n % 2 ^ 64 ≡ n
small_word n h = omega (arith, h)

first_sims : (room : ℕ) (ws : List ℕ) (at n : ℕ) (vs : List Value) → 1 ≤ length vs → Stand ws at n vs
    → Sims room ws (codes.load at n) (done (Ok (value_at vs 0)))
first_sims room ws at n [] l s = absurd (omega (arith, l))
first_sims room ws at n (v ∷ vs) l s =
    let z : at ≡ at + 0 * n = omega arith in
    load_sims room ws at n v (ap (λ (j : ℕ). take n (drop j ws)) z ∙ s.words 0 v refl) (s.long 0 v refl)

-- ---- choices and subscripts

chosen_sims : (ds : List CDef) (room : ℕ) (ws : List ℕ) (to from : Option CTy) (s p q : CScalar) (c a b : Op) (m l r : Met Value) → from ≡ to
    → IfOk m.value (IsValueOf ds (ty.Scalar s))
    → ((d : CScalar) → from ≡ Some (ty.Scalar d) → IfOk l.value (IsValueOf ds (ty.Scalar p)))
    → ((d : CScalar) → from ≡ Some (ty.Scalar d) → IfOk r.value (IsValueOf ds (ty.Scalar q)))
    → Sims room ws c m → Sims room ws a l → Sims room ws b r
    → Sims room ws (codes.choose c (as_settled from p a) (as_settled from q b)) (meets 1 (chosen to m l r))
chosen_sims ds room ws to from s p q c a b m l r e h f g i j k =
    let last : Value → Met Value = λ y. done (settled from y) in
    subst (λ (o : Option CTy). Sims room ws (codes.choose c (as_settled from p a) (as_settled from q b)) (meets 1 (chosen o m l r))) e
    (subst (λ (z : Met Value). Sims room ws (codes.choose c (as_settled from p a) (as_settled from q b)) (meets 1 z))
    (then_same m (λ x. if is_zero (number_in x) then (r >>= last) else (l >>= last)) (λ x. (if is_zero (number_in x) then r else l) >>= last) (λ x. sym (either_then (is_zero (number_in x)) r l last)))
    (choose_sims ds room ws s c (as_settled from p a) (as_settled from q b) m (l >>= last) (r >>= last) h i (settled_sims ds room ws from p a l f j) (settled_sims ds room ws from q b r g k)))

meets_after : {A B : Type 0} (r : Result A Undefined) (n j : ℕ) (f : A → Met B) → after r (n + j) f ≡ meets n (after r j f)
meets_after (Ok x) n j f = let z : (n + j) + (f x).count ≡ n + (j + (f x).count) = omega arith in ap (λ (i : ℕ). met_of (f x).value i) z
meets_after (Err e) n j f = refl

after_then : {A B C : Type 0} (r : Result A Undefined) (n : ℕ) (f : A → Met B) (g : B → Met C) → (after r n f >>= g) ≡ after r n (λ x. f x >>= g)
after_then (Ok x) n f g = meets_after (f x).value n (f x).count g
after_then (Err e) n f g = refl

pub then_then : {A B C : Type 0} (m : Met A) (f : A → Met B) (g : B → Met C) → (m >>= f >>= g) ≡ (m >>= λ x. f x >>= g)
then_then m f g = after_then m.value m.count f g

pub index_given : (ds : List CDef) (c : CScalar) (m : Met Value) → IfOk m.value (IsValueOf ds (ty.Scalar c))
    → IfOk (m >>= λ x. done (converted_to (ty.Scalar t.U32) x)).value (IsValueOf ds (ty.Scalar t.U32))
index_given ds c m h =
    then_gives m (λ x. done (converted_to (ty.Scalar t.U32) x)) (IsValueOf ds (ty.Scalar c)) (IsValueOf ds (ty.Scalar t.U32)) h
    (λ x p. number_result-is ds t.U32 (converted t.U32 (number_in x)) (converted-is t.U32 (number_in x)))

array_given : (u : CUnit) (s : Statics) (ws : List ℕ) → Laid u s ws → (x : List ℕ) (n : ℕ) (r : Result Value Undefined)
    → is_defined u.types (ty.Array x n) ≡ true → IfOk r (IsValueOf u.types (ty.Array x n)) → IfOk r (IsArrayOf (width_of u.types (elem_type x)) n)
array_given u s ws l x n (Ok v) d h = l.elements x n v d h
array_given u s ws l x n (Err e) d h = tt

picked_sims : (u : CUnit) (s : Statics) (room : ℕ) (ws : List ℕ) (x : List ℕ) (n : ℕ) (c : CScalar) (a i : Op) (m r : Met Value) → Laid u s ws
    → is_defined u.types (ty.Array x n) ≡ true → IfOk m.value (IsValueOf u.types (ty.Array x n))
    → IfOk r.value (IsValueOf u.types (ty.Scalar c)) → Sims room ws a m → Sims room ws i r
    → Sims room ws (codes.pick (width_of u.types (elem_type x)) n a (codes.conv c t.U32 i)) (meets 2 (m >>= λ v. r >>= λ j. picked v j))
picked_sims u s room ws x n c a i m r l d h g p q =
    let index : Met Value = r >>= λ j. done (converted_to (ty.Scalar t.U32) j) in
    subst (λ (z : Met Value). Sims room ws (codes.pick (width_of u.types (elem_type x)) n a (codes.conv c t.U32 i)) (meets 2 z))
    (then_same m (λ v. index >>= λ j. done (element (parts v) (number_in j).n)) (λ v. r >>= λ j. picked v j)
    (λ v. then_then r (λ j. done (converted_to (ty.Scalar t.U32) j)) (λ j. done (element (parts v) (number_in j).n))))
    (pick_sims u.types room ws (width_of u.types (elem_type x)) n a (codes.conv c t.U32 i) m index (array_given u s ws l x n m.value d h) (index_given u.types c r g) p (conv_sims u.types room ws c t.U32 i r g q))

-- ---- members

member_sims : (u : CUnit) (s : Statics) (room : ℕ) (ws : List ℕ) → Laid u s ws → (o : Option CTy) (y x : List ℕ) (f : CVar) (a : Op) (m : Met Value)
    → o ≡ Some (ty.Struct y) → IsSome (shape_of u.types (ty.Struct y)) → var_of (fields_in u.types o) x ≡ Some f
    → IfOk m.value (IsValueOf u.types (ty.Struct y)) → Sims room ws a m
    → Sims room ws (codes.part (var_start u.types (fields_in u.types o) x) (var_length u.types (fields_in u.types o) x) a) (meets 1 (m >>= λ v. done (Ok (value_at (parts v) (place_of_var (fields_in u.types o) x)))))
member_sims u s room ws l None y x f a m e d g h p = absurd (cc e)
member_sims u s room ws l (Some (ty.Scalar c)) y x f a m e d g h p = absurd (cc e)
member_sims u s room ws l (Some (ty.Array z n)) y x f a m e d g h p = absurd (cc e)
member_sims u s room ws l (Some (ty.Struct z)) y x f a m e d g h p =
    let same : y ≡ z = cc e in
    let fields : List CVar = fields_in u.types (Some (ty.Struct z)) in
    let here : IsSome (shape_of u.types (ty.Struct z)) = subst (λ (b : List ℕ). IsSome (shape_of u.types (ty.Struct b))) same d in
    part_sims (IsValueOf u.types (ty.Struct z)) room ws (var_start u.types fields x) (var_length u.types fields x) a m (λ v. value_at (parts v) (place_of_var fields x))
    (subst (λ (b : List ℕ). IfOk m.value (IsValueOf u.types (ty.Struct b))) same h) p (λ v q. l.members z x v f here g q) (λ v q. l.member_long z x v f here g q)

-- ---- expressions

mutual
  unfolding evaluate evaluate_all

  pub code_sims : (u : CUnit) (s : Statics) (ws : List ℕ) (room : ℕ) (l : Laid u s ws) (e : Expr) (r : CTy) → Good u (parts_of e) → type_of u e ≡ Some r
      → Sims room ws (code_of u e) (evaluate u s e)
  code_sims u s ws room l (lit c n) r g h =
      word_sims room ws n (number (num (literal_type c) (pos n))) (ap (λ (w : ℕ). w ∷ []) (literal_word c n (left_passes (nat_le n (most c)) true g.ranges)))
  code_sims u s ws room l yes r g h = word_sims room ws 1 (number (truth true)) refl
  code_sims u s ws room l no r g h = word_sims room ws 0 (number (truth false)) refl
  code_sims u s ws room l (copy x) r g h =
      let v = mapped_there (var_of u.externs x) (λ (z : CVar). z.ty) r h in
      load_sims room ws (var_start u.types u.externs x) (var_length u.types u.externs x) (copy_in u s x) (l.copies x v.0 v.1) (l.copy_long x v.0 v.1)
  code_sims u s ws room l (head x) r g h =
      let ring = some_there (ring_of u x) (left_passes (is_some (ring_of u x)) true g.there) in
      load_sims room ws (index_start u x) 1 (number (num t.U32 (pos (index_in u s x))))
      (l.indices x ring.0 ring.1 ∙ ap (λ (w : ℕ). w ∷ []) (sym (small_word (index_in u s x) (index_small u s x l.given.statics)))) refl
  code_sims u s ws room l (cell x) r g h =
      let ring = some_there (ring_of u x) (left_passes (is_some (ring_of u x)) true g.there) in
      let many = (ring_values u s x ring.0 l.given.statics ring.1).0 in
      let some = ring_long u x ring.0 l.given.lengths ring.1 in
      first_sims room ws (index_start u x + 1) (value_width u x) (values_in u s x) (omega (arith, many, some)) (l.rings x ring.0 ring.1)
  code_sims u s ws room l (ring_at x a) r g h =
      let ring = some_there (ring_of u x) (left_passes (is_some (ring_of u x)) (list_all (is_there u) (parts_of a)) g.there) in
      let inner = inner_good u (is_some (ring_of u x)) (parts_of a) g.ranges g.there in
      let types = where_there (type_of u a) (option_map (λ (z : CRing). z.ty) (ring_of u x)) r h in
      let many : length (values_in u s x) ≡ ring_length u x = (ring_values u s x ring.0 l.given.statics ring.1).0 ∙ sym (ap (λ (o : Option CRing). option_map_or (λ (z : CRing). z.len) o 0) ring.1) in
      elem_sims u.types room ws (index_start u x + 1) (value_width u x) (ring_length u x) (scalar_of u a) (code_of u a) (evaluate u s a) (values_in u s x)
      (scalar_given u s l.given a inner.ranges types.0) (code_sims u s ws room l a (ty.Scalar types.0.0) inner types.0.1) many (l.rings x ring.0 ring.1)
  code_sims u s ws room l (un op a) r g h =
      let c = scalar_there (type_of u a) (λ (d : CScalar). ty.Scalar (unary_type op d)) r h in
      let inner : Good u (parts_of a) = record { ranges = g.ranges; there = g.there } in
      un_sims u.types room ws op (scalar_of u a) (code_of u a) (evaluate u s a) (scalar_given u s l.given a g.ranges c) (code_sims u s ws room l a (ty.Scalar c.0) inner c.1)
  code_sims u s ws room l (bin op a b) r g h =
      let both : Good u (parts_of a ++ parts_of b) = record { ranges = g.ranges; there = g.there } in
      let one = left_good u (parts_of a) (parts_of b) both in
      let two = right_good u (parts_of a) (parts_of b) both in
      let c = two_there (type_of u a) (type_of u b) (λ (d e : CScalar). ty.Scalar (binary_type op d e)) r h in
      bin_sims u.types room ws op (scalar_of u a) (scalar_of u b) (code_of u a) (code_of u b) (evaluate u s a) (evaluate u s b) (scalar_given u s l.given a one.ranges c.0) (scalar_given u s l.given b two.ranges c.1)
      (code_sims u s ws room l a (ty.Scalar c.0.0) one c.0.1) (code_sims u s ws room l b (ty.Scalar c.1.0) two c.1.1)
  code_sims u s ws room l (choose q a b) r g h =
      let all : Good u (parts_of q ++ (parts_of a ++ parts_of b)) = record { ranges = g.ranges; there = g.there } in
      let test = left_good u (parts_of q) (parts_of a ++ parts_of b) all in
      let both = right_good u (parts_of q) (parts_of a ++ parts_of b) all in
      let one = left_good u (parts_of a) (parts_of b) both in
      let two = right_good u (parts_of a) (parts_of b) both in
      let c = where_there (type_of u q) (arms_type_of (type_of u a) (type_of u b)) r h in
      let arms = arms_there (type_of u a) (type_of u b) r c.1 in
      chosen_sims u.types room ws (arms_type_of (type_of u a) (type_of u b)) (type_of u (choose q a b)) (scalar_of u q) (scalar_of u a) (scalar_of u b) (code_of u q) (code_of u a) (code_of u b)
      (evaluate u s q) (evaluate u s a) (evaluate u s b) (h ∙ sym c.1) (scalar_given u s l.given q test.ranges c.0)
      (λ d e. let k : arms_type arms.0 arms.1 ≡ Some (ty.Scalar d) = arms.4 ∙ sym h ∙ e in let both = arms_scalar arms.0 arms.1 d k in scalar_given u s l.given a one.ranges (both.0.0, arms.2 ∙ both.0.1))
      (λ d e. let k : arms_type arms.0 arms.1 ≡ Some (ty.Scalar d) = arms.4 ∙ sym h ∙ e in let both = arms_scalar arms.0 arms.1 d k in scalar_given u s l.given b two.ranges (both.1.0, arms.3 ∙ both.1.1))
      (code_sims u s ws room l q (ty.Scalar c.0.0) test c.0.1) (code_sims u s ws room l a arms.0 one arms.2) (code_sims u s ws room l b arms.1 two arms.3)
  code_sims u s ws room l (cast to a) r g h =
      let c = where_there (type_of u a) (Some (ty.Scalar to)) r h in
      let inner : Good u (parts_of a) = record { ranges = g.ranges; there = g.there } in
      met_sims room ws (codes.conv (scalar_of u a) to (code_of u a)) (evaluate u s a >>= λ x. done (converted_to (ty.Scalar to) x))
      (conv_sims u.types room ws (scalar_of u a) to (code_of u a) (evaluate u s a) (scalar_given u s l.given a g.ranges c.0) (code_sims u s ws room l a (ty.Scalar c.0.0) inner c.0.1))
  code_sims u s ws room l (field a x) r g h =
      let f = mapped_there (var_of (fields_in u.types (type_of u a)) x) (λ (z : CVar). z.ty) r h in
      let y = struct_there u.types (type_of u a) x f.0 f.1 in
      let inner = inner_good u (is_some (var_of (fields_in u.types (type_of u a)) x)) (parts_of a) g.ranges g.there in
      member_sims u s room ws l (type_of u a) y.0 x f.0 (code_of u a) (evaluate u s a) y.1 (l.shaped a (ty.Struct y.0) inner y.1) f.1 (typed u s l.given a (ty.Struct y.0) inner.ranges y.1) (code_sims u s ws room l a (ty.Struct y.0) inner y.1)
  code_sims u s ws room l (pick x n a i) r g h =
      let defined = left_passes (is_defined u.types (ty.Array x n)) (list_all (is_there u) (parts_of a ++ parts_of i)) g.there in
      let both = inner_good u (is_defined u.types (ty.Array x n)) (parts_of a ++ parts_of i) g.ranges g.there in
      let one = left_good u (parts_of a) (parts_of i) both in
      let two = right_good u (parts_of a) (parts_of i) both in
      let c = same_there (type_of u a) (ty.Array x n) (where_scalar (type_of u i) (Some (elem_type x))) r h in
      let d = where_there (type_of u i) (Some (elem_type x)) r c.1 in
      picked_sims u s room ws x n (scalar_of u i) (code_of u a) (code_of u i) (evaluate u s a) (evaluate u s i) l defined (typed u s l.given a (ty.Array x n) one.ranges c.0) (scalar_given u s l.given i two.ranges d.0)
      (code_sims u s ws room l a (ty.Array x n) one c.0) (code_sims u s ws room l i (ty.Scalar d.0.0) two d.0.1)
  code_sims u s ws room l (arr x n all) r g h =
      let fit = true_there (fit_elements (types_of u all) n (elem_type x)) (Some (ty.Array x n)) r h in
      let inner = inner_good u (is_defined u.types (ty.Array x n)) (parts_of_all all) g.ranges g.there in
      array_sims u s room ws (elem_type x) n all (all_sims u s ws room l (replicate n (elem_type x)) all inner (elements_fit (types_of u all) n (elem_type x) fit))
  code_sims u s ws room l (rec x all) r g h =
      let inner = inner_good u (is_defined u.types (ty.Struct x)) (parts_of_all all) g.ranges g.there in
      struct_sims u s room ws (map (λ (v : CVar). v.ty) (option_map_or (λ (fields : List CVar). fields) (fields_of u.types x) [])) all
      (all_sims u s ws room l (map (λ (v : CVar). v.ty) (option_map_or (λ (fields : List CVar). fields) (fields_of u.types x) [])) all inner (members_there (types_of u all) x (fields_of u.types x) r h))

  pub all_sims : (u : CUnit) (s : Statics) (ws : List ℕ) (room : ℕ) (l : Laid u s ws) (rs : List CTy) (es : Exprs) → Good u (parts_of_all es)
      → fit_types (types_of u es) rs ≡ true → AllSim u s room ws rs es
  all_sims u s ws room l [] none g h = tt
  all_sims u s ws room l (to ∷ rs) none g h = tt
  all_sims u s ws room l [] (more e es) g h = absurd (cc h)
  all_sims u s ws room l (to ∷ rs) (more e es) g h =
      let one = left_good u (parts_of e) (parts_of_all es) g in
      let two = right_good u (parts_of e) (parts_of_all es) g in
      let a = fit_there (type_of u e) to (left_passes (fits_in (type_of u e) to) (fit_types (types_of u es) rs) h) in (
        as_sims u.types room ws to (scalar_of u e) (code_of u e) (evaluate u s e)
            (λ q k. let c = fit_scalar a.0 q (subst (λ (z : CTy). fits a.0 z ≡ true) k a.2) in scalar_given u s l.given e one.ranges (c.0, a.1 ∙ c.1))
            (code_sims u s ws room l e a.0 one a.1),
        all_sims u s ws room l rs es two (right_passes (fits_in (type_of u e) to) (fit_types (types_of u es) rs) h),
      )
