-- An expression's value is one of its type.
use Rattle.std.proofs.Common.{◌≡◌, ℕ, zero, suc, ◌^◌, ◌<◌, ◌≤◌, Bool, true, false, ◌&&◌, ◌++◌, List, [], ◌∷◌, length, map, Option, Some, None, Result, Ok, refl, sym, ◌∙◌, subst, arith}
use Rattle.std.specs.Prelude.{pos, IfOk, nat_le, slice_get, replicate, All, if◌then◌else◌}
use Rattle.std.specs.List.{list_all, AllZip}
use Rattle.std.specs.Option.{option_map, option_map_or, option_and_then}
use Rattle.std.proofs.lemmas.Bool.Decides.{nat_tests}
use Rattle.std.proofs.lemmas.List.Folds.{list_all-append}
use Rattle.c99_tree.specs.declared.expr.CLit.{CLit}
use Rattle.c99_tree.specs.declared.expr.CLit.TheVariants as k
use Rattle.c99_tree.specs.declared.expr.CUn.{CUn}
use Rattle.c99_tree.specs.declared.expr.CBin.{CBin}
use Rattle.c99_tree.specs.declared.expr.CBin.TheVariants as o
use Rattle.c99_tree.specs.declared.types.CScalar.{CScalar}
use Rattle.c99_tree.specs.declared.types.CScalar.TheVariants as t
use Rattle.c99_tree.specs.declared.types.CTy.{CTy}
use Rattle.c99_tree.specs.declared.types.CTy.TheVariants as ty
use Rattle.c99_tree.specs.declared.types.CVar.{CVar}
use Rattle.c99_tree.specs.declared.types.CDef.{CDef}
use Rattle.c99_tree.specs.declared.undefined.Undefined.{Undefined}
use Rattle.c99_tree.specs.declared.unit.CRing.{CRing}
use Rattle.c99_tree.specs.declared.unit.Unit.{Unit as CUnit}
use Rattle.c99_tree.specs.Tree.{Expr, Exprs, lit, yes, no, copy, head, cell, ring_at, un, bin, choose, cast, field, pick, arr, rec, none, more}
use Rattle.c99_tree.specs.CTypes.{num, truth, is_zero, converted}
use Rattle.c99_tree.specs.Words.{elem_type, is_same}
use Rattle.c99_tree.specs.Lookup.{fields_of, var_of, ring_of, place_of_var, place_of_ring}
use Rattle.c99_tree.specs.Spelling.{most}
use Rattle.c99_tree.specs.Values.{Value, Values, number, struct_of, array_of, and_value, number_in, parts}
use Rattle.c99_tree.specs.Typing.{type_of, types_of, scalar_type, arms_type, arms_type_of, fields_in, fits_in, where_scalar, where_type, where_true, fit_members, fit_elements, literal_type, unary_type, binary_type, is_same_type}
use Rattle.c99_tree.specs.Evaluation.{Met, done, ◌>>=◌, number_result, unary, binary, decides, decided_at, Statics, RingState, value_at, copy_in, values_in, index_in, element, converted_to, settled, both, chosen, picked, evaluate, evaluate_all}
use Rattle.c99_tree.specs.WellFormed.{parts_of, parts_of_all, is_in_range}
use Rattle.c99_tree.specs.Typed.{IsNumberOf, IsValueOf, AreValuesOf, IsRingOf, IsStatics}
use Rattle.c99_tree.proofs.NumberRanges.{within_range}
use Rattle.c99_tree.proofs.NumberTypes.{truth-is, converted-is, unary-is, binary-is}
use Rattle.c99_tree.proofs.LookedUp.{Along, found_along, found_passes, all_at}
use Rattle.c99_tree.proofs.TypedValues.{then_gives, number_result-is, number_of_scalar, same_type-eq, converted_to-is, arms_fit, members_along, elements_are, element_is, fit_types, members_fit, elements_fit}
use Rattle.sm_io.proofs.Truths.{left_passes, right_passes}

-- a value of the type, where there is a type
abbrev pub Gives : List CDef → Option CTy → Result Value Undefined → Type 0
Gives ds None r = Unit {0}
Gives ds (Some a) r = IfOk r (IsValueOf ds a)

abbrev pub has_length : CRing → Bool
has_length r = nat_le 1 r.len && nat_le r.len 65536

-- ---- literals

literal_is : (c : CLit) (n : ℕ) → nat_le n (most c) ≡ true → IsNumberOf (literal_type c) (num (literal_type c) (pos n))
literal_is k.I n h = record { typed = refl; ranged = within_range t.I32 (pos n) (grind (arith, nat_tests, h)) }
literal_is k.U n h = record { typed = refl; ranged = within_range t.U32 (pos n) (grind (arith, nat_tests, h)) }
literal_is k.LL n h = record { typed = refl; ranged = within_range t.I64 (pos n) (grind (arith, nat_tests, h)) }
literal_is k.ULL n h = record { typed = refl; ranged = within_range t.U64 (pos n) (grind (arith, nat_tests, h)) }

-- ---- what the statics hold

copy_gives : (u : CUnit) (s : Statics) (x : List ℕ) → IsStatics u s → (v : Option CVar) → var_of u.externs x ≡ v → Gives u.types (option_map (λ (z : CVar). z.ty) v) (Ok (copy_in u s x))
copy_gives u s x h None e = tt
copy_gives u s x h (Some v) e =
    let f = found_along (λ (z : CVar) w. IsValueOf u.types z.ty w) (λ (z : CVar). is_same x z.name) u.externs s.copies v h.copies e in
    rw f.there f.related

-- the state of a ring
pub state_of : (u : CUnit) (s : Statics) (r : List ℕ) (ring : CRing) → IsStatics u s → ring_of u r ≡ Some ring → Along (IsRingOf u.types) ring s.rings (place_of_ring u r)
state_of u s r ring h e = found_along (IsRingOf u.types) (λ (z : CRing). is_same r z.name) u.rings s.rings ring h.rings e

pub ring_values : (u : CUnit) (s : Statics) (r : List ℕ) (ring : CRing) → IsStatics u s → ring_of u r ≡ Some ring
    → (length (values_in u s r) ≡ ring.len) × All (IsValueOf u.types ring.ty) (values_in u s r)
ring_values u s r ring h e = let f = state_of u s r ring h e in rw f.there (f.related.long, f.related.each)

index-at : (ds : List CDef) (rs : List CRing) (ss : List RingState) (n : ℕ) → AllZip (IsRingOf ds) rs ss → option_map_or (λ (z : RingState). z.index) (slice_get ss n) 0 < 2 ^ 32
index-at ds [] [] n h = omega arith
index-at ds [] (z ∷ ss) n h = absurd h
index-at ds (r ∷ rs) [] n h = absurd h
index-at ds (r ∷ rs) (z ∷ ss) zero h = h.0.index
index-at ds (r ∷ rs) (z ∷ ss) (suc n) h = index-at ds rs ss n h.1

pub index_small : (u : CUnit) (s : Statics) (r : List ℕ) → IsStatics u s → index_in u s r < 2 ^ 32
index_small u s r h = index-at u.types u.rings s.rings (place_of_ring u r) h.rings

index_is : (n : ℕ) → n < 2 ^ 32 → IsNumberOf t.U32 (num t.U32 (pos n))
index_is n h = record { typed = refl; ranged = within_range t.U32 (pos n) (grind (arith, nat_tests)) }

first_is : (P : Value → Type 0) (vs : List Value) → 1 ≤ length vs → All P vs → P (value_at vs 0)
first_is P [] l h = absurd (omega (arith, l))
first_is P (v ∷ vs) l h = all_at P (v ∷ vs) 0 v h refl

one_least : (n m : ℕ) → (nat_le 1 n && nat_le n m) ≡ true → 1 ≤ n
one_least n m h = let q = left_passes (nat_le 1 n) (nat_le n m) h in grind (arith, nat_tests, q)

pub ring_long : (u : CUnit) (r : List ℕ) (ring : CRing) → list_all has_length u.rings ≡ true → ring_of u r ≡ Some ring → 1 ≤ ring.len
ring_long u r ring l e = one_least ring.len 65536 (found_passes (λ (z : CRing). is_same r z.name) has_length u.rings ring l e)

cell_gives : (u : CUnit) (s : Statics) (r : List ℕ) → IsStatics u s → list_all has_length u.rings ≡ true → (v : Option CRing) → ring_of u r ≡ v
    → Gives u.types (option_map (λ (ring : CRing). ring.ty) v) (Ok (value_at (values_in u s r) 0))
cell_gives u s r h l None e = tt
cell_gives u s r h l (Some ring) e =
    let f = ring_values u s r ring h e in
    let n = ring_long u r ring l e in
    first_is (IsValueOf u.types ring.ty) (values_in u s r) (omega (arith, f.0, n)) f.1

ring_at_gives : (u : CUnit) (s : Statics) (r : List ℕ) (a : Option CTy) (m : Met Value) → IsStatics u s → (v : Option CRing) → ring_of u r ≡ v → Gives u.types a m.value
    → Gives u.types (where_scalar a (option_map (λ (ring : CRing). ring.ty) v)) (m >>= λ (i : Value). done (element (values_in u s r) (number_in i).n)).value
ring_at_gives u s r None m h v e g = tt
ring_at_gives u s r (Some (ty.Struct x)) m h v e g = tt
ring_at_gives u s r (Some (ty.Array x n)) m h v e g = tt
ring_at_gives u s r (Some (ty.Scalar c)) m h None e g = tt
ring_at_gives u s r (Some (ty.Scalar c)) m h (Some ring) e g =
    then_gives m (λ (i : Value). done (element (values_in u s r) (number_in i).n)) (IsValueOf u.types (ty.Scalar c)) (IsValueOf u.types ring.ty) g
    (λ i p. element_is u.types ring.ty (values_in u s r) (number_in i).n (ring_values u s r ring h e).1)

-- ---- operators

un_gives : (ds : List CDef) (op : CUn) (a : Option CTy) (m : Met Value) → Gives ds a m.value
    → Gives ds (option_map (λ c. ty.Scalar (unary_type op c)) (scalar_type a)) (m >>= λ (x : Value). done (number_result (unary op (number_in x)))).value
un_gives ds op None m h = tt
un_gives ds op (Some (ty.Struct x)) m h = tt
un_gives ds op (Some (ty.Array x n)) m h = tt
un_gives ds op (Some (ty.Scalar c)) m h =
    then_gives m (λ (x : Value). done (number_result (unary op (number_in x)))) (IsValueOf ds (ty.Scalar c)) (IsValueOf ds (ty.Scalar (unary_type op c))) h
    (λ x p. number_result-is ds (unary_type op c) (unary op (number_in x)) (unary-is op c (number_in x) (number_of_scalar ds c x p)))

-- both operands evaluated
two_give : (ds : List CDef) (op : CBin) (a b : CScalar) (x : Value) (r : Met Value) → IsValueOf ds (ty.Scalar a) x → IfOk r.value (IsValueOf ds (ty.Scalar b))
    → IfOk (r >>= λ (y : Value). done (number_result (binary op (number_in x) (number_in y)))).value (IsValueOf ds (ty.Scalar (binary_type op a b)))
two_give ds op a b x r p g =
    then_gives r (λ (y : Value). done (number_result (binary op (number_in x) (number_in y)))) (IsValueOf ds (ty.Scalar b)) (IsValueOf ds (ty.Scalar (binary_type op a b))) g
    (λ y q. number_result-is ds (binary_type op a b) (binary op (number_in x) (number_in y)) (binary-is op a b (number_in x) (number_in y) (number_of_scalar ds a x p) (number_of_scalar ds b y q)))

decided_gives : (ds : List CDef) (c b : Bool) (m : Met Value) → IfOk m.value (IsValueOf ds (ty.Scalar t.I32)) → IfOk (if c then done (Ok (number (truth b))) else m).value (IsValueOf ds (ty.Scalar t.I32))
decided_gives ds true b m h = truth-is b
decided_gives ds false b m h = h

both_give : (ds : List CDef) (op : CBin) (a b : CScalar) (l r : Met Value) → IfOk l.value (IsValueOf ds (ty.Scalar a)) → IfOk r.value (IsValueOf ds (ty.Scalar b))
    → IfOk (both (decided_at op) op l r).value (IsValueOf ds (ty.Scalar (binary_type op a b)))
both_give ds o.And a b l r h g =
    then_gives l (λ (x : Value). if decides false (number_in x) then done (Ok (number (truth false))) else (r >>= λ (y : Value). done (number_result (binary o.And (number_in x) (number_in y))))) (IsValueOf ds (ty.Scalar a)) (IsValueOf ds (ty.Scalar t.I32)) h
    (λ x p. decided_gives ds (decides false (number_in x)) false (r >>= λ (y : Value). done (number_result (binary o.And (number_in x) (number_in y)))) (two_give ds o.And a b x r p g))
both_give ds o.Or a b l r h g =
    then_gives l (λ (x : Value). if decides true (number_in x) then done (Ok (number (truth true))) else (r >>= λ (y : Value). done (number_result (binary o.Or (number_in x) (number_in y))))) (IsValueOf ds (ty.Scalar a)) (IsValueOf ds (ty.Scalar t.I32)) h
    (λ x p. decided_gives ds (decides true (number_in x)) true (r >>= λ (y : Value). done (number_result (binary o.Or (number_in x) (number_in y)))) (two_give ds o.Or a b x r p g))
both_give ds op a b l r h g =
    then_gives l (λ (x : Value). r >>= λ (y : Value). done (number_result (binary op (number_in x) (number_in y)))) (IsValueOf ds (ty.Scalar a)) (IsValueOf ds (ty.Scalar (binary_type op a b))) h
    (λ x p. two_give ds op a b x r p g)

bin_gives : (ds : List CDef) (op : CBin) (a b : Option CTy) (l r : Met Value) → Gives ds a l.value → Gives ds b r.value
    → Gives ds (option_and_then (λ c. option_map (λ d. ty.Scalar (binary_type op c d)) (scalar_type b)) (scalar_type a)) (both (decided_at op) op l r).value
bin_gives ds op None b l r h g = tt
bin_gives ds op (Some (ty.Struct x)) b l r h g = tt
bin_gives ds op (Some (ty.Array x n)) b l r h g = tt
bin_gives ds op (Some (ty.Scalar c)) None l r h g = tt
bin_gives ds op (Some (ty.Scalar c)) (Some (ty.Struct x)) l r h g = tt
bin_gives ds op (Some (ty.Scalar c)) (Some (ty.Array x n)) l r h g = tt
bin_gives ds op (Some (ty.Scalar c)) (Some (ty.Scalar d)) l r h g = both_give ds op c d l r h g

cast_gives : (ds : List CDef) (c : CScalar) (a : Option CTy) (m : Met Value) → Gives ds a m.value
    → Gives ds (where_scalar a (Some (ty.Scalar c))) (m >>= λ (x : Value). done (number_result (converted c (number_in x)))).value
cast_gives ds c None m h = tt
cast_gives ds c (Some (ty.Struct x)) m h = tt
cast_gives ds c (Some (ty.Array x n)) m h = tt
cast_gives ds c (Some (ty.Scalar b)) m h =
    then_gives m (λ (x : Value). done (number_result (converted c (number_in x)))) (IsValueOf ds (ty.Scalar b)) (IsValueOf ds (ty.Scalar c)) h
    (λ x p. number_result-is ds c (converted c (number_in x)) (converted-is c (number_in x)))

-- ---- choices

arm_gives : (ds : List CDef) (a b r : CTy) (z : Bool) (l m : Met Value) → arms_type a b ≡ Some r → IfOk l.value (IsValueOf ds a) → IfOk m.value (IsValueOf ds b)
    → IfOk ((if z then m else l) >>= λ (y : Value). done (converted_to r y)).value (IsValueOf ds r)
arm_gives ds a b r true l m e h g = then_gives m (λ (y : Value). done (converted_to r y)) (IsValueOf ds b) (IsValueOf ds r) g (λ y p. converted_to-is ds b r y (arms_fit a b r e).1 p)
arm_gives ds a b r false l m e h g = then_gives l (λ (y : Value). done (converted_to r y)) (IsValueOf ds a) (IsValueOf ds r) h (λ y p. converted_to-is ds a r y (arms_fit a b r e).0 p)

chosen_gives : (ds : List CDef) (q : CTy) (a b : CTy) (v : Option CTy) (c l m : Met Value) → arms_type a b ≡ v → IfOk c.value (IsValueOf ds q) → IfOk l.value (IsValueOf ds a) → IfOk m.value (IsValueOf ds b)
    → Gives ds v (chosen v c l m).value
chosen_gives ds q a b None c l m e k h g = tt
chosen_gives ds q a b (Some r) c l m e k h g =
    then_gives c (λ (x : Value). (if is_zero (number_in x) then m else l) >>= λ (y : Value). done (settled (Some r) y)) (IsValueOf ds q) (IsValueOf ds r) k
    (λ x p. arm_gives ds a b r (is_zero (number_in x)) l m e h g)

choose_gives : (ds : List CDef) (q a b : Option CTy) (c l m : Met Value) → Gives ds q c.value → Gives ds a l.value → Gives ds b m.value
    → Gives ds (where_scalar q (arms_type_of a b)) (chosen (arms_type_of a b) c l m).value
choose_gives ds None a b c l m k h g = tt
choose_gives ds (Some (ty.Struct x)) a b c l m k h g = tt
choose_gives ds (Some (ty.Array x n)) a b c l m k h g = tt
choose_gives ds (Some (ty.Scalar s)) None b c l m k h g = tt
choose_gives ds (Some (ty.Scalar s)) (Some a) None c l m k h g = tt
choose_gives ds (Some (ty.Scalar s)) (Some a) (Some b) c l m k h g = chosen_gives ds (ty.Scalar s) a b (arms_type a b) c l m refl k h g

-- ---- members and elements

-- the member's value of a struct's value
pub member_found : (ds : List CDef) (y x : List ℕ) (fields : List CVar) (f : CVar) (v : Value) → fields_of ds y ≡ Some fields → var_of fields x ≡ Some f → IsValueOf ds (ty.Struct y) v
    → Along (λ (z : CVar) w. IsValueOf ds z.ty w) f (parts v) (place_of_var fields x)
member_found ds y x fields f (number n) e g p = absurd p
member_found ds y x fields f (array_of vs) e g p = absurd p
member_found ds y x fields f (struct_of vs) e g p =
    let all : Some p.0 ≡ Some fields = sym p.1 ∙ e in
    let same : p.0 ≡ fields = cc all in
    let are : AreValuesOf ds (map (λ (z : CVar). z.ty) fields) vs = subst (λ (fs : List CVar). AreValuesOf ds (map (λ (z : CVar). z.ty) fs) vs) same p.2 in
    found_along (λ (z : CVar) w. IsValueOf ds z.ty w) (λ (z : CVar). is_same x z.name) fields (parts (struct_of vs)) f (members_along ds fields vs are) g

member_is : (ds : List CDef) (y x : List ℕ) (fields : List CVar) (f : CVar) (v : Value) → fields_of ds y ≡ Some fields → var_of fields x ≡ Some f → IsValueOf ds (ty.Struct y) v
    → IsValueOf ds f.ty (value_at (parts v) (place_of_var fields x))
member_is ds y x fields f v e g p = let h = member_found ds y x fields f v e g p in rw h.there h.related

member_gives : (ds : List CDef) (y x : List ℕ) (fields : List CVar) (v : Option CVar) (m : Met Value) → fields_of ds y ≡ Some fields → var_of fields x ≡ v → IfOk m.value (IsValueOf ds (ty.Struct y))
    → Gives ds (option_map (λ (z : CVar). z.ty) v) (m >>= λ (w : Value). done (Ok (value_at (parts w) (place_of_var fields x)))).value
member_gives ds y x fields None m e g h = tt
member_gives ds y x fields (Some f) m e g h =
    then_gives m (λ (w : Value). done (Ok (value_at (parts w) (place_of_var fields x)))) (IsValueOf ds (ty.Struct y)) (IsValueOf ds f.ty) h (λ w p. member_is ds y x fields f w e g p)

struct_field : (ds : List CDef) (y x : List ℕ) (o : Option (List CVar)) (m : Met Value) → fields_of ds y ≡ o → IfOk m.value (IsValueOf ds (ty.Struct y))
    → Gives ds (option_map (λ (z : CVar). z.ty) (var_of (option_map_or (λ (fs : List CVar). fs) o []) x)) (m >>= λ (w : Value). done (Ok (value_at (parts w) (place_of_var (option_map_or (λ (fs : List CVar). fs) o []) x)))).value
struct_field ds y x None m e h = tt
struct_field ds y x (Some fields) m e h = member_gives ds y x fields (var_of fields x) m e refl h

field_gives : (ds : List CDef) (a : Option CTy) (x : List ℕ) (m : Met Value) → Gives ds a m.value
    → Gives ds (option_map (λ (z : CVar). z.ty) (var_of (fields_in ds a) x)) (m >>= λ (w : Value). done (Ok (value_at (parts w) (place_of_var (fields_in ds a) x)))).value
field_gives ds None x m h = tt
field_gives ds (Some (ty.Scalar c)) x m h = tt
field_gives ds (Some (ty.Array y n)) x m h = tt
field_gives ds (Some (ty.Struct y)) x m h = struct_field ds y x (fields_of ds y) m refl h

picked_is : (ds : List CDef) (x : List ℕ) (n : ℕ) (a i : Value) → IsValueOf ds (ty.Array x n) a → IfOk (picked a i).value (IsValueOf ds (elem_type x))
picked_is ds x n (number v) i p = absurd p
picked_is ds x n (struct_of vs) i p = absurd p
picked_is ds x n (array_of vs) i p =
    then_gives (done (number_result (converted t.U32 (number_in i)))) (λ (j : Value). done (element (parts (array_of vs)) (number_in j).n)) (IsValueOf ds (ty.Scalar t.U32)) (IsValueOf ds (elem_type x))
    (number_result-is ds t.U32 (converted t.U32 (number_in i)) (converted-is t.U32 (number_in i)))
    (λ j q. element_is ds (elem_type x) (parts (array_of vs)) (number_in j).n (elements_are ds n (elem_type x) vs p))

array_pick : (ds : List CDef) (x : List ℕ) (n : ℕ) (b : Option CTy) (l m : Met Value) → IfOk l.value (IsValueOf ds (ty.Array x n)) → Gives ds b m.value
    → Gives ds (where_scalar b (Some (elem_type x))) (l >>= λ (v : Value). m >>= λ (j : Value). picked v j).value
array_pick ds x n None l m h g = tt
array_pick ds x n (Some (ty.Struct y)) l m h g = tt
array_pick ds x n (Some (ty.Array y k)) l m h g = tt
array_pick ds x n (Some (ty.Scalar c)) l m h g =
    then_gives l (λ (v : Value). m >>= λ (j : Value). picked v j) (IsValueOf ds (ty.Array x n)) (IsValueOf ds (elem_type x)) h
    (λ v p. then_gives m (λ (j : Value). picked v j) (IsValueOf ds (ty.Scalar c)) (IsValueOf ds (elem_type x)) g (λ j q. picked_is ds x n v j p))

same_pick : (ds : List CDef) (x : List ℕ) (n : ℕ) (a : CTy) (b : Option CTy) (c : Bool) (l m : Met Value) → is_same_type a (ty.Array x n) ≡ c → IfOk l.value (IsValueOf ds a) → Gives ds b m.value
    → Gives ds (if c then where_scalar b (Some (elem_type x)) else None) (l >>= λ (v : Value). m >>= λ (j : Value). picked v j).value
same_pick ds x n a b false l m e h g = tt
same_pick ds x n a b true l m e h g = array_pick ds x n b l m (subst (λ (z : CTy). IfOk l.value (IsValueOf ds z)) (same_type-eq a (ty.Array x n) e) h) g

pick_gives : (ds : List CDef) (x : List ℕ) (n : ℕ) (a b : Option CTy) (l m : Met Value) → Gives ds a l.value → Gives ds b m.value
    → Gives ds (where_type a (ty.Array x n) (where_scalar b (Some (elem_type x)))) (l >>= λ (v : Value). m >>= λ (j : Value). picked v j).value
pick_gives ds x n None b l m h g = tt
pick_gives ds x n (Some a) b l m h g = same_pick ds x n a b (is_same_type a (ty.Array x n)) l m refl h g

-- ---- compound literals

arr_gives : (ds : List CDef) (x : List ℕ) (n : ℕ) (c : Bool) (m : Met Values) → (c ≡ true → IfOk m.value (AreValuesOf ds (replicate n (elem_type x))))
    → Gives ds (where_true c (Some (ty.Array x n))) (m >>= λ (vs : Values). done (Ok (array_of vs))).value
arr_gives ds x n false m h = tt
arr_gives ds x n true m h =
    then_gives m (λ (vs : Values). done (Ok (array_of vs))) (AreValuesOf ds (replicate n (elem_type x))) (IsValueOf ds (ty.Array x n)) (h refl) (λ vs p. p)

members_give : (ds : List CDef) (x : List ℕ) (fields : List CVar) (c : Bool) (m : Met Values) → fields_of ds x ≡ Some fields → (c ≡ true → IfOk m.value (AreValuesOf ds (map (λ (v : CVar). v.ty) fields)))
    → Gives ds (where_true c (Some (ty.Struct x))) (m >>= λ (vs : Values). done (Ok (struct_of vs))).value
members_give ds x fields false m e h = tt
members_give ds x fields true m e h =
    then_gives m (λ (vs : Values). done (Ok (struct_of vs))) (AreValuesOf ds (map (λ (v : CVar). v.ty) fields)) (IsValueOf ds (ty.Struct x)) (h refl) (λ vs p. (fields, e, p))

rec_gives : (ds : List CDef) (x : List ℕ) (all : List (Option CTy)) (o : Option (List CVar)) (m : List CTy → Met Values) → fields_of ds x ≡ o
    → ((rs : List CTy) → fit_types all rs ≡ true → IfOk (m rs).value (AreValuesOf ds rs))
    → Gives ds (option_and_then (λ (fields : List CVar). where_true (fit_members all fields) (Some (ty.Struct x))) o)
    (m (map (λ (v : CVar). v.ty) (option_map_or (λ (fields : List CVar). fields) o [])) >>= λ (vs : Values). done (Ok (struct_of vs))).value
rec_gives ds x all None m e h = tt
rec_gives ds x all (Some fields) m e h =
    members_give ds x fields (fit_members all fields) (m (map (λ (v : CVar). v.ty) fields)) e (λ q. h (map (λ (v : CVar). v.ty) fields) (members_fit all fields q))

-- a value that fits a type, converted to it
pub fitting_gives : {B : Type 0} (ds : List CDef) (a : Option CTy) (r : CTy) (m : Met Value) (f : Value → Met B) (Q : B → Type 0) → Gives ds a m.value → fits_in a r ≡ true
    → ((v : Value) → IsValueOf ds r v → IfOk (f v).value Q) → IfOk (m >>= λ (x : Value). done (converted_to r x) >>= f).value Q
fitting_gives ds None r m f Q h e g = absurd (cc e)
fitting_gives ds (Some a) r m f Q h e g =
    then_gives m (λ (x : Value). done (converted_to r x) >>= f) (IsValueOf ds a) Q h
    (λ x p. then_gives (done (converted_to r x)) f (IsValueOf ds r) Q (converted_to-is ds a r x e p) g)

-- ---- expressions

pub halves : (p : Expr → Bool) (xs ys : List Expr) → list_all p (xs ++ ys) ≡ true → (list_all p xs ≡ true) × (list_all p ys ≡ true)
halves p xs ys h =
    let g : (list_all p xs && list_all p ys) ≡ true = sym (list_all-append p xs ys) ∙ h in
    (left_passes (list_all p xs) (list_all p ys) g, right_passes (list_all p xs) (list_all p ys) g)

three_parts : (a b c : Expr) → list_all is_in_range (parts_of a ++ (parts_of b ++ parts_of c)) ≡ true
    → (list_all is_in_range (parts_of a) ≡ true) × (list_all is_in_range (parts_of b) ≡ true) × (list_all is_in_range (parts_of c) ≡ true)
three_parts a b c h =
    let p = halves is_in_range (parts_of a) (parts_of b ++ parts_of c) h in
    let q = halves is_in_range (parts_of b) (parts_of c) p.1 in
    (p.0, q.0, q.1)

-- the statics are as the unit declares them, and each ring has a length
pub record Premises (u : CUnit) (s : Statics) : Type 0 where
  pub statics : IsStatics u s
  pub lengths : list_all has_length u.rings ≡ true

mutual
  unfolding evaluate evaluate_all

  pub evaluate_gives : (u : CUnit) (s : Statics) (c : Premises u s) (e : Expr) → list_all is_in_range (parts_of e) ≡ true → Gives u.types (type_of u e) (evaluate u s e).value
  evaluate_gives u s c (lit q n) h = literal_is q n (left_passes (nat_le n (most q)) true h)
  evaluate_gives u s c yes h = truth-is true
  evaluate_gives u s c no h = truth-is false
  evaluate_gives u s c (copy x) h = copy_gives u s x c.statics (var_of u.externs x) refl
  evaluate_gives u s c (head r) h = index_is (index_in u s r) (index_small u s r c.statics)
  evaluate_gives u s c (cell r) h = cell_gives u s r c.statics c.lengths (ring_of u r) refl
  evaluate_gives u s c (ring_at r a) h = ring_at_gives u s r (type_of u a) (evaluate u s a) c.statics (ring_of u r) refl (evaluate_gives u s c a h)
  evaluate_gives u s c (un op a) h = un_gives u.types op (type_of u a) (evaluate u s a) (evaluate_gives u s c a h)
  evaluate_gives u s c (bin op a b) h =
      let p = halves is_in_range (parts_of a) (parts_of b) h in
      bin_gives u.types op (type_of u a) (type_of u b) (evaluate u s a) (evaluate u s b) (evaluate_gives u s c a p.0) (evaluate_gives u s c b p.1)
  evaluate_gives u s c (choose q a b) h =
      let p = three_parts q a b h in
      choose_gives u.types (type_of u q) (type_of u a) (type_of u b) (evaluate u s q) (evaluate u s a) (evaluate u s b) (evaluate_gives u s c q p.0) (evaluate_gives u s c a p.1) (evaluate_gives u s c b p.2)
  evaluate_gives u s c (cast d a) h = cast_gives u.types d (type_of u a) (evaluate u s a) (evaluate_gives u s c a h)
  evaluate_gives u s c (field a x) h = field_gives u.types (type_of u a) x (evaluate u s a) (evaluate_gives u s c a h)
  evaluate_gives u s c (pick x n a i) h =
      let p = halves is_in_range (parts_of a) (parts_of i) h in
      pick_gives u.types x n (type_of u a) (type_of u i) (evaluate u s a) (evaluate u s i) (evaluate_gives u s c a p.0) (evaluate_gives u s c i p.1)
  evaluate_gives u s c (arr x n all) h =
      arr_gives u.types x n (fit_elements (types_of u all) n (elem_type x)) (evaluate_all u s (replicate n (elem_type x)) all)
      (λ q. evaluate_all_gives u s c (replicate n (elem_type x)) all h (elements_fit (types_of u all) n (elem_type x) q))
  evaluate_gives u s c (rec x all) h =
      rec_gives u.types x (types_of u all) (fields_of u.types x) (λ (rs : List CTy). evaluate_all u s rs all) refl (λ rs q. evaluate_all_gives u s c rs all h q)

  pub evaluate_all_gives : (u : CUnit) (s : Statics) (c : Premises u s) (rs : List CTy) (es : Exprs) → list_all is_in_range (parts_of_all es) ≡ true → fit_types (types_of u es) rs ≡ true
      → IfOk (evaluate_all u s rs es).value (AreValuesOf u.types rs)
  evaluate_all_gives u s c [] none h e = tt
  evaluate_all_gives u s c (r ∷ rs) none h e = absurd (cc e)
  evaluate_all_gives u s c [] (more a es) h e = absurd (cc e)
  evaluate_all_gives u s c (r ∷ rs) (more a es) h e =
      let p = halves is_in_range (parts_of a) (parts_of_all es) h in
      let first = left_passes (fits_in (type_of u a) r) (fit_types (types_of u es) rs) e in
      let rest = evaluate_all_gives u s c rs es p.1 (right_passes (fits_in (type_of u a) r) (fit_types (types_of u es) rs) e) in
      fitting_gives u.types (type_of u a) r (evaluate u s a) (λ (v : Value). evaluate_all u s rs es >>= λ (vs : Values). done (Ok (and_value v vs))) (AreValuesOf u.types (r ∷ rs)) (evaluate_gives u s c a p.0) first
      (λ v q. then_gives (evaluate_all u s rs es) (λ (vs : Values). done (Ok (and_value v vs))) (AreValuesOf u.types rs) (AreValuesOf u.types (r ∷ rs)) rest (λ vs w. (q, w)))
