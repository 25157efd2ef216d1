-- The values that expressions have, by those of their parts.
use Rattle.std.proofs.Common.{◌≡◌, ℕ, zero, suc, ◌+◌, ◌%◌, ◌^◌, ◌<◌, Bool, true, false, List, [], ◌∷◌, map, replicate, Option, Some, Result, Ok, Err, cond, is_eq, Less, Equal, Greater, lt-ltb, le-ltb, refl, ap, ◌∙◌, arith}
use Rattle.std.specs.Prelude.{pos, int_rem, if◌then◌else◌}
use Rattle.std.specs.Ordering.{int_eq}
use Rattle.std.specs.Option.{option_map_or}
use Rattle.c99_tree.specs.declared.expr.CLit.TheVariants as k
use Rattle.c99_tree.specs.declared.expr.CBin.TheVariants as o
use Rattle.c99_tree.specs.declared.types.CScalar.TheVariants as t
use Rattle.c99_tree.specs.declared.types.CTy.{CTy}
use Rattle.c99_tree.specs.declared.types.CVar.{CVar}
use Rattle.c99_tree.specs.declared.unit.Unit.{Unit as CUnit}
use Rattle.c99_tree.specs.declared.undefined.Undefined.{Undefined}
use Rattle.c99_tree.specs.declared.undefined.Undefined.TheVariants as why
use Rattle.c99_tree.specs.Tree.{Expr, Exprs, lit, copy, head, cell, ring_at, bin, choose, field, pick, arr, rec, none, more}
use Rattle.c99_tree.specs.CTypes.{Num, num, is_zero, converted}
use Rattle.c99_tree.specs.Words.{elem_type}
use Rattle.c99_tree.specs.Lookup.{fields_of, place_of_var}
use Rattle.c99_tree.specs.Values.{Value, Values, number, struct_of, array_of, no_value, and_value, parts, number_in}
use Rattle.c99_tree.specs.Typing.{type_of, arms_type_of, fields_in}
use Rattle.c99_tree.specs.Evaluation.{Met, done, after, ◌>>=◌, Statics, value_at, copy_in, values_in, index_in, element, binary, divided, converted_to, settled, picked, evaluate, evaluate_all, number_result}

-- first the one, which is defined, and then the other
pub then_value : {A B : Type 0} (m : Met A) (f : A → Met B) (x : A) → m.value ≡ Ok x → (m >>= f).value ≡ (f x).value
then_value {A = A} {B = B} m f x e = ap (λ (r : Result A Undefined). (after r m.count f).value) e

pub copy_value : (u : CUnit) (s : Statics) (x : List ℕ) → (evaluate u s (copy x)).value ≡ Ok (copy_in u s x)
unfolding evaluate
copy_value u s x = refl

pub cell_value : (u : CUnit) (s : Statics) (r : List ℕ) → (evaluate u s (cell r)).value ≡ Ok (value_at (values_in u s r) 0)
unfolding evaluate
cell_value u s r = refl

pub head_value : (u : CUnit) (s : Statics) (r : List ℕ) → (evaluate u s (head r)).value ≡ Ok (number (num t.U32 (pos (index_in u s r))))
unfolding evaluate
head_value u s r = refl

pub lit_value : (u : CUnit) (s : Statics) (n : ℕ) → (evaluate u s (lit k.U n)).value ≡ Ok (number (num t.U32 (pos n)))
unfolding evaluate
lit_value u s n = refl

pub ring_value : (u : CUnit) (s : Statics) (r : List ℕ) (a : Expr) (i : Value) → (evaluate u s a).value ≡ Ok i → (evaluate u s (ring_at r a)).value ≡ element (values_in u s r) (number_in i).n
unfolding evaluate
ring_value u s r a i e = then_value (evaluate u s a) (λ (i : Value). done (element (values_in u s r) (number_in i).n)) i e

pub sum_value : (u : CUnit) (s : Statics) (a b : Expr) (x y : Value) → (evaluate u s a).value ≡ Ok x → (evaluate u s b).value ≡ Ok y
    → (evaluate u s (bin o.Add a b)).value ≡ number_result (binary o.Add (number_in x) (number_in y))
unfolding evaluate
sum_value u s a b x y e f =
    then_value (evaluate u s a) (λ (x : Value). evaluate u s b >>= λ (y : Value). done (number_result (binary o.Add (number_in x) (number_in y)))) x e
    ∙ then_value (evaluate u s b) (λ (y : Value). done (number_result (binary o.Add (number_in x) (number_in y)))) y f

pub rem_value : (u : CUnit) (s : Statics) (a b : Expr) (x y : Value) → (evaluate u s a).value ≡ Ok x → (evaluate u s b).value ≡ Ok y
    → (evaluate u s (bin o.Rem a b)).value ≡ number_result (binary o.Rem (number_in x) (number_in y))
unfolding evaluate
rem_value u s a b x y e f =
    then_value (evaluate u s a) (λ (x : Value). evaluate u s b >>= λ (y : Value). done (number_result (binary o.Rem (number_in x) (number_in y)))) x e
    ∙ then_value (evaluate u s b) (λ (y : Value). done (number_result (binary o.Rem (number_in x) (number_in y)))) y f

-- ---- places in a ring

added : (i n : ℕ) → i + n < 2 ^ 32 → binary o.Add (num t.U32 (pos i)) (num t.U32 (pos n)) ≡ Ok (num t.U32 (pos (i + n)))
added i n h =
    let e : (i % 2 ^ 32 + n % 2 ^ 32) % 2 ^ 32 ≡ i + n = omega (arith, h) in
    ap (λ (z : ℕ). Ok (num t.U32 (pos z))) e

pub zero_test : (n : ℕ) → 0 < n → int_eq (pos n) (pos 0) ≡ false
zero_test zero p = absurd (omega (arith, p))
zero_test (suc n) p = λ j. is_eq (cond (le-ltb (suc n) 0 (omega arith) j) Less (cond (lt-ltb 0 (suc n) (omega arith) j) Greater Equal))

remaindered : (z len : ℕ) → 0 < len → z < 2 ^ 32 → len < 2 ^ 32 → binary o.Rem (num t.U32 (pos z)) (num t.U32 (pos len)) ≡ Ok (num t.U32 (pos (z % len)))
remaindered z len p a b =
    let e : z % 2 ^ 32 ≡ z = omega (arith, a) in
    let f : len % 2 ^ 32 ≡ len = omega (arith, b) in
    (λ j. divided int_rem t.U32 (pos (e j)) (pos (f j)))
    ∙ ap (λ (c : Bool). if c then Err why.ZeroDivisor else Ok (num t.U32 (pos (z % len)))) (zero_test len p)

-- so many places behind the index, counted around
pub place_value : (u : CUnit) (s : Statics) (r : List ℕ) (n len : ℕ) → 0 < len → index_in u s r + n < 2 ^ 32 → len < 2 ^ 32
    → (evaluate u s (bin o.Rem (bin o.Add (head r) (lit k.U n)) (lit k.U len))).value ≡ Ok (number (num t.U32 (pos ((index_in u s r + n) % len))))
place_value u s r n len p a b =
    let i = index_in u s r in
    rem_value u s (bin o.Add (head r) (lit k.U n)) (lit k.U len) (number (num t.U32 (pos (i + n)))) (number (num t.U32 (pos len)))
    (sum_value u s (head r) (lit k.U n) (number (num t.U32 (pos i))) (number (num t.U32 (pos n))) (head_value u s r) (lit_value u s n) ∙ ap number_result (added i n a))
    (lit_value u s len) ∙ ap number_result (remaindered (i + n) len p a b)

-- ---- choices, members and elements

pub choice_true : (u : CUnit) (s : Statics) (c a b : Expr) (x y : Value) → (evaluate u s c).value ≡ Ok x → is_zero (number_in x) ≡ false → (evaluate u s a).value ≡ Ok y
    → (evaluate u s (choose c a b)).value ≡ settled (arms_type_of (type_of u a) (type_of u b)) y
unfolding evaluate
choice_true u s c a b x y e z f =
    then_value (evaluate u s c) (λ (x : Value). (if is_zero (number_in x) then evaluate u s b else evaluate u s a) >>= λ (y : Value). done (settled (arms_type_of (type_of u a) (type_of u b)) y)) x e
    ∙ ap (λ (d : Bool). ((if d then evaluate u s b else evaluate u s a) >>= λ (y : Value). done (settled (arms_type_of (type_of u a) (type_of u b)) y)).value) z
    ∙ then_value (evaluate u s a) (λ (y : Value). done (settled (arms_type_of (type_of u a) (type_of u b)) y)) y f

pub choice_false : (u : CUnit) (s : Statics) (c a b : Expr) (x y : Value) → (evaluate u s c).value ≡ Ok x → is_zero (number_in x) ≡ true → (evaluate u s b).value ≡ Ok y
    → (evaluate u s (choose c a b)).value ≡ settled (arms_type_of (type_of u a) (type_of u b)) y
unfolding evaluate
choice_false u s c a b x y e z f =
    then_value (evaluate u s c) (λ (x : Value). (if is_zero (number_in x) then evaluate u s b else evaluate u s a) >>= λ (y : Value). done (settled (arms_type_of (type_of u a) (type_of u b)) y)) x e
    ∙ ap (λ (d : Bool). ((if d then evaluate u s b else evaluate u s a) >>= λ (y : Value). done (settled (arms_type_of (type_of u a) (type_of u b)) y)).value) z
    ∙ then_value (evaluate u s b) (λ (y : Value). done (settled (arms_type_of (type_of u a) (type_of u b)) y)) y f

pub field_value : (u : CUnit) (s : Statics) (a : Expr) (x : List ℕ) (v : Value) → (evaluate u s a).value ≡ Ok v
    → (evaluate u s (field a x)).value ≡ Ok (value_at (parts v) (place_of_var (fields_in u.types (type_of u a)) x))
unfolding evaluate
field_value u s a x v e = then_value (evaluate u s a) (λ (v : Value). done (Ok (value_at (parts v) (place_of_var (fields_in u.types (type_of u a)) x)))) v e

pub pick_value : (u : CUnit) (s : Statics) (x : List ℕ) (n : ℕ) (a i : Expr) (v j : Value) (m : Num) → (evaluate u s a).value ≡ Ok v → (evaluate u s i).value ≡ Ok j
    → converted t.U32 (number_in j) ≡ Ok m → (evaluate u s (pick x n a i)).value ≡ element (parts v) m.n
unfolding evaluate
pick_value u s x n a i v j m e f g =
    then_value (evaluate u s a) (λ (v : Value). evaluate u s i >>= λ (j : Value). picked v j) v e
    ∙ then_value (evaluate u s i) (λ (j : Value). picked v j) j f
    ∙ then_value (done (number_result (converted t.U32 (number_in j)))) (λ (k : Value). done (element (parts v) (number_in k).n)) (number m) (ap number_result g)

-- ---- lists

pub arr_value : (u : CUnit) (s : Statics) (x : List ℕ) (n : ℕ) (all : Exprs) (vs : Values) → (evaluate_all u s (replicate n (elem_type x)) all).value ≡ Ok vs
    → (evaluate u s (arr x n all)).value ≡ Ok (array_of vs)
unfolding evaluate
arr_value u s x n all vs e = then_value (evaluate_all u s (replicate n (elem_type x)) all) (λ (vs : Values). done (Ok (array_of vs))) vs e

pub rec_value : (u : CUnit) (s : Statics) (x : List ℕ) (all : Exprs) (fields : List CVar) (vs : Values) → fields_of u.types x ≡ Some fields
    → (evaluate_all u s (map (λ (v : CVar). v.ty) fields) all).value ≡ Ok vs → (evaluate u s (rec x all)).value ≡ Ok (struct_of vs)
unfolding evaluate
rec_value u s x all fields vs g e =
    ap (λ (fs : Option (List CVar)). (evaluate_all u s (map (λ (v : CVar). v.ty) (option_map_or (λ (fields : List CVar). fields) fs [])) all >>= λ (vs : Values). done (Ok (struct_of vs))).value) g
    ∙ then_value (evaluate_all u s (map (λ (v : CVar). v.ty) fields) all) (λ (vs : Values). done (Ok (struct_of vs))) vs e

pub none_value : (u : CUnit) (s : Statics) (ts : List CTy) → (evaluate_all u s ts none).value ≡ Ok no_value
unfolding evaluate evaluate_all
none_value u s ts = refl

pub more_value : (u : CUnit) (s : Statics) (r : CTy) (ts : List CTy) (a : Expr) (es : Exprs) (x v : Value) (vs : Values) → (evaluate u s a).value ≡ Ok x → converted_to r x ≡ Ok v
    → (evaluate_all u s ts es).value ≡ Ok vs → (evaluate_all u s (r ∷ ts) (more a es)).value ≡ Ok (and_value v vs)
unfolding evaluate evaluate_all
more_value u s r ts a es x v vs e f g =
    then_value (evaluate u s a) (λ (x : Value). done (converted_to r x) >>= λ (v : Value). evaluate_all u s ts es >>= λ (vs : Values). done (Ok (and_value v vs))) x e
    ∙ then_value (done (converted_to r x)) (λ (v : Value). evaluate_all u s ts es >>= λ (vs : Values). done (Ok (and_value v vs))) v f
    ∙ then_value (evaluate_all u s ts es) (λ (vs : Values). done (Ok (and_value v vs))) vs g
