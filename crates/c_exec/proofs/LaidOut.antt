-- The words of statics lie where the code looks for them.
use Rattle.std.proofs.Common.{◌≡◌, ℕ, zero, suc, ◌+◌, ◌*◌, true, List, [], ◌∷◌, ◌++◌, length, take, drop, Option, Some, None, refl, sym, ap, ◌∙◌, append_assoc, arith}
use Rattle.std.specs.Prelude.{IsTrue, is_some, slice_get}
use Rattle.std.specs.List.{list_all, flat_map, sum_by, AllZip}
use Rattle.std.specs.Option.{option_map_or}
use Rattle.std.proofs.lemmas.List.{length-append, append-nil, drop-drop}
use Rattle.std.proofs.lemmas.List.Sums.{sum_by-cons}
use Rattle.std.proofs.Math.Seq.{take-append_seam, drop-append-add}
use Rattle.c99_tree.specs.declared.types.CVar.{CVar}
use Rattle.c99_tree.specs.declared.types.CDef.{CDef}
use Rattle.c99_tree.specs.declared.unit.CRing.{CRing}
use Rattle.c99_tree.specs.declared.unit.Unit.{Unit as CUnit}
use Rattle.c99_tree.specs.Words.{is_same}
use Rattle.c99_tree.specs.Lookup.{var_of, ring_of, place_of_var, place_of_ring}
use Rattle.c99_tree.specs.Values.{Value, no_such_value, words_of, Shape, shape_of}
use Rattle.c99_tree.specs.Evaluation.{RingState, Statics, copy_in, values_in, index_in}
use Rattle.c99_tree.specs.Typed.{IsValueOf, IsRingOf, IsStatics}
use Rattle.c99_tree.specs.WellFormed.{types_come_first}
use Rattle.c99_tree.proofs.LookedUp.{Along, found_along, found_there, found_passes, all_at}
use Rattle.c99_tree.proofs.Shaped.{externs_shaped, rings_shaped}
use Rattle.c99_tree.proofs.TypedExpressions.{state_of, ring_values}
use Rattle.sm_io.proofs.Truths.{left_passes, right_passes}
use Rattle.c_exec.specs.Layout.{var_width, var_start, var_length, ring_width, ring_words, index_start, value_width}
use Rattle.c_exec.specs.Machine.{words_of_ring, words_of_statics}
use Rattle.c_exec.proofs.ShapeWidths.{value_long}
use Rattle.c_exec.proofs.CodeGoes.{RunAt, run_taken, run_at}
use Rattle.c_exec.proofs.ElementsGo.{Stand}

pub some_shape : (o : Option Shape) → is_some o ≡ true → (s : Shape) × (o ≡ Some s)
some_shape None h = absurd (cc h)
some_shape (Some s) h = (s, refl)

-- ---- the copies

-- each copy has as many words as its extern
pub copies_long : (ds : List CDef) (xs : List CVar) (vs : List Value) → list_all (λ x. is_some (shape_of ds x.ty)) xs ≡ true
    → AllZip (λ (x : CVar) v. IsValueOf ds x.ty v) xs vs
    → AllZip (λ (x : CVar) (v : Value). length (words_of v) ≡ var_width ds x) xs vs
copies_long ds [] [] h z = tt
copies_long ds [] (v ∷ vs) h z = absurd z
copies_long ds (x ∷ xs) [] h z = absurd z
copies_long ds (x ∷ xs) (v ∷ vs) h z =
    let s = some_shape (shape_of ds x.ty) (left_passes (is_some (shape_of ds x.ty)) (list_all (λ (y : CVar). is_some (shape_of ds y.ty)) xs) h) in
    (value_long ds x.ty s.0 v s.1 z.0, copies_long ds xs vs (right_passes (is_some (shape_of ds x.ty)) (list_all (λ (y : CVar). is_some (shape_of ds y.ty)) xs) h) z.1)

pub copy_found : (u : CUnit) (s : Statics) (x : List ℕ) (v : CVar) → IsStatics u s → var_of u.externs x ≡ Some v
    → Along (λ (z : CVar) w. IsValueOf u.types z.ty w) v s.copies (place_of_var u.externs x)
copy_found u s x v h e = found_along (λ (z : CVar) w. IsValueOf u.types z.ty w) (λ (z : CVar). is_same x z.name) u.externs s.copies v h.copies e

copy_run : (u : CUnit) (s : Statics) (x : List ℕ) (v : CVar) → IsTrue (types_come_first u) → IsStatics u s → var_of u.externs x ≡ Some v
    → RunAt (words_of_statics s) (var_start u.types u.externs x) (var_length u.types u.externs x) (words_of (copy_in u s x))
copy_run u s x v t h e =
    let f = copy_found u s x v h e in
    let n : var_length u.types u.externs x ≡ var_width u.types v = ap (λ (o : Option CVar). option_map_or (var_width u.types) o 0) e in
    let value : copy_in u s x ≡ f.value = ap (λ (o : Option Value). option_map_or (λ (w : Value). w) o no_such_value) f.there in
    let r = run_at (var_width u.types) words_of u.externs s.copies (flat_map words_of_ring s.rings) (place_of_var u.externs x) v f.value (copies_long u.types u.externs s.copies (externs_shaped u t) h.copies)
    (found_there (λ (z : CVar). is_same x z.name) u.externs v e) f.there in
    record { others = r.others; is = r.is ∙ ap (λ (w : Value). words_of w ++ r.others) (sym value); long = ap (λ (w : Value). length (words_of w)) value ∙ r.long ∙ sym n }

pub copies_laid : (u : CUnit) (s : Statics) (x : List ℕ) (v : CVar) → IsTrue (types_come_first u) → IsStatics u s → var_of u.externs x ≡ Some v
    → take (var_length u.types u.externs x) (drop (var_start u.types u.externs x) (words_of_statics s)) ≡ words_of (copy_in u s x)
copies_laid u s x v t h e = run_taken (words_of_statics s) (var_start u.types u.externs x) (var_length u.types u.externs x) (words_of (copy_in u s x)) (copy_run u s x v t h e)

pub copy_wide : (u : CUnit) (s : Statics) (x : List ℕ) (v : CVar) → IsTrue (types_come_first u) → IsStatics u s → var_of u.externs x ≡ Some v
    → length (words_of (copy_in u s x)) ≡ var_length u.types u.externs x
copy_wide u s x v t h e = (copy_run u s x v t h e).long

-- ---- the rings

-- values of so many words each
pub flat_long : (n k : ℕ) (vs : List Value) → length vs ≡ n → ((j : ℕ) (v : Value) → slice_get vs j ≡ Some v → length (words_of v) ≡ k)
    → length (flat_map words_of vs) ≡ n * k
flat_long zero k [] l h = omega arith
flat_long zero k (v ∷ vs) l h = absurd (omega (arith, l))
flat_long (suc n) k [] l h = absurd (omega (arith, l))
flat_long (suc n) k (v ∷ vs) l h =
    let a = length-append (words_of v) (flat_map words_of vs) in
    let b = h 0 v refl in
    let c = flat_long n k vs (omega (arith, l)) (λ j w q. h (suc j) w q) in
    let d : suc n * k ≡ k + n * k = omega arith in
    omega (arith, a, b, c, d)

-- runs of words are together as long as they should be
pub runs_long : {A B : Type 0} (w : A → ℕ) (f : B → List ℕ) (xs : List A) (ys : List B) → AllZip (λ (a : A) (b : B). length (f b) ≡ w a) xs ys
    → length (flat_map f ys) ≡ sum_by w xs
runs_long w f [] [] h = refl
runs_long w f [] (b ∷ ys) h = absurd h
runs_long w f (a ∷ xs) [] h = absurd h
runs_long w f (a ∷ xs) (b ∷ ys) h =
    let p = length-append (f b) (flat_map f ys) in
    let q = runs_long w f xs ys h.1 in
    let r = sum_by-cons w a xs in
    let s = h.0 in
    omega (arith, p, q, r, s)

pub state_long : (ds : List CDef) (r : CRing) (state : RingState) → is_some (shape_of ds r.ty) ≡ true → IsRingOf ds r state
    → length (words_of_ring state) ≡ ring_words ds r
state_long ds r state h z =
    let s = some_shape (shape_of ds r.ty) h in
    let l = flat_long r.len (ring_width ds r) state.values z.long (λ j v q. value_long ds r.ty s.0 v s.1 (all_at (IsValueOf ds r.ty) state.values j v z.each q)) in
    omega (arith, l)

pub states_long : (ds : List CDef) (rs : List CRing) (ss : List RingState) → list_all (λ r. is_some (shape_of ds r.ty)) rs ≡ true → AllZip (IsRingOf ds) rs ss
    → AllZip (λ (r : CRing) (s : RingState). length (words_of_ring s) ≡ ring_words ds r) rs ss
states_long ds [] [] h z = tt
states_long ds [] (s ∷ ss) h z = absurd z
states_long ds (r ∷ rs) [] h z = absurd z
states_long ds (r ∷ rs) (s ∷ ss) h z = (
  state_long ds r s (left_passes (is_some (shape_of ds r.ty)) (list_all (λ (y : CRing). is_some (shape_of ds y.ty)) rs) h) z.0,
  states_long ds rs ss (right_passes (is_some (shape_of ds r.ty)) (list_all (λ (y : CRing). is_some (shape_of ds y.ty)) rs) h) z.1,
)

-- the index and the values of a ring, and then other words
pub ring_run : (u : CUnit) (s : Statics) (r : List ℕ) (ring : CRing) → IsTrue (types_come_first u) → IsStatics u s → ring_of u r ≡ Some ring
    → (more : List ℕ) × (drop (index_start u r) (words_of_statics s) ≡ index_in u s r ∷ (flat_map words_of (values_in u s r) ++ more))
ring_run u s r ring t h e =
    let f = state_of u s r ring h e in
    let c : List ℕ = flat_map words_of s.copies in
    let w : List ℕ = flat_map words_of_ring s.rings in
    let n : ℕ = sum_by (ring_words u.types) (take (place_of_ring u r) u.rings) in
    let skip : sum_by (var_width u.types) u.externs + n ≡ length c + n = ap (λ (j : ℕ). j + n) (sym (runs_long (var_width u.types) words_of u.externs s.copies (copies_long u.types u.externs s.copies (externs_shaped u t) h.copies))) in
    let q = run_at (ring_words u.types) words_of_ring u.rings s.rings [] (place_of_ring u r) ring f.value (states_long u.types u.rings s.rings (rings_shaped u t) h.rings)
    (found_there (λ (z : CRing). is_same r z.name) u.rings ring e) f.there in
    let index : f.value.index ≡ index_in u s r = sym (ap (λ (o : Option RingState). option_map_or (λ (z : RingState). z.index) o 0) f.there) in
    let values : f.value.values ≡ values_in u s r = sym (ap (λ (o : Option RingState). option_map_or (λ (z : RingState). z.values) o []) f.there) in (
      q.others,
      ap (λ (j : ℕ). drop j (c ++ w)) skip ∙ drop-append-add c w n ∙ ap (λ (z : List ℕ). drop n z) (sym (append-nil w)) ∙ q.is
          ∙ ap (λ (k : ℕ). k ∷ (flat_map words_of f.value.values ++ q.others)) index ∙ ap (λ (vs : List Value). index_in u s r ∷ (flat_map words_of vs ++ q.others)) values,
    )

pub index_laid : (u : CUnit) (s : Statics) (r : List ℕ) (ring : CRing) → IsTrue (types_come_first u) → IsStatics u s → ring_of u r ≡ Some ring
    → take 1 (drop (index_start u r) (words_of_statics s)) ≡ index_in u s r ∷ []
index_laid u s r ring t h e = let q = ring_run u s r ring t h e in ap (λ (z : List ℕ). take 1 z) q.1

-- values of n words each, with others behind them
values_run : (n : ℕ) (vs : List Value) (more : List ℕ) → ((k : ℕ) (v : Value) → slice_get vs k ≡ Some v → length (words_of v) ≡ n) → (k : ℕ) (v : Value)
    → slice_get vs k ≡ Some v
    → take n (drop (k * n) (flat_map words_of vs ++ more)) ≡ words_of v
values_run n [] more h k v e = absurd (cc e)
values_run n (x ∷ vs) more h zero v e =
    let same : x ≡ v = cc e in
    let z : 0 * n ≡ 0 = omega arith in
    let l = h 0 x refl in
    ap (λ (j : ℕ). take n (drop j ((words_of x ++ flat_map words_of vs) ++ more))) z
    ∙ ap (λ (ys : List ℕ). take n ys) (append_assoc (words_of x) (flat_map words_of vs) more)
    ∙ ap (λ (j : ℕ). take j (words_of x ++ (flat_map words_of vs ++ more))) (sym l)
    ∙ take-append_seam (words_of x) (flat_map words_of vs ++ more) ∙ ap (λ (w : Value). words_of w) same
values_run n (x ∷ vs) more h (suc k) v e =
    let l = h 0 x refl in
    let m : suc k * n ≡ n + k * n = omega arith in
    let j : suc k * n ≡ length (words_of x) + k * n = omega (arith, m, l) in
    ap (λ (i : ℕ). take n (drop i ((words_of x ++ flat_map words_of vs) ++ more))) j
    ∙ ap (λ (ys : List ℕ). take n (drop (length (words_of x) + k * n) ys)) (append_assoc (words_of x) (flat_map words_of vs) more)
    ∙ ap (λ (ys : List ℕ). take n ys) (drop-append-add (words_of x) (flat_map words_of vs ++ more) (k * n))
    ∙ values_run n vs more (λ i w q. h (suc i) w q) k v e

behind_index : (i x n : ℕ) (ws rest : List ℕ) → drop i ws ≡ x ∷ rest → (k : ℕ) → drop ((i + 1) + k * n) ws ≡ drop (k * n) rest
behind_index i x n ws rest h k =
    let z : (i + 1) + k * n ≡ i + suc (k * n) = omega arith in
    ap (λ (j : ℕ). drop j ws) z ∙ sym (drop-drop (suc (k * n)) i ws) ∙ ap (λ (ys : List ℕ). drop (suc (k * n)) ys) h

pub ring_laid : (u : CUnit) (s : Statics) (r : List ℕ) (ring : CRing) → IsTrue (types_come_first u) → IsStatics u s → ring_of u r ≡ Some ring
    → Stand (words_of_statics s) (index_start u r + 1) (value_width u r) (values_in u s r)
ring_laid u s r ring t h e = record {
  words = λ k v q.
      ap (λ (ys : List ℕ). take (value_width u r) ys) (behind_index (index_start u r) (index_in u s r) (value_width u r) (words_of_statics s) (flat_map words_of (values_in u s r) ++ run.0) run.1 k)
      ∙ values_run (value_width u r) (values_in u s r) run.0 each k v q;
  long = each;
}
  where
    run : (more : List ℕ) × (drop (index_start u r) (words_of_statics s) ≡ index_in u s r ∷ (flat_map words_of (values_in u s r) ++ more))
    run = ring_run u s r ring t h e

    shape : (q : Shape) × (shape_of u.types ring.ty ≡ Some q)
    shape = some_shape (shape_of u.types ring.ty) (found_passes (λ (z : CRing). is_same r z.name) (λ (z : CRing). is_some (shape_of u.types z.ty)) u.rings ring (rings_shaped u t) e)

    width : value_width u r ≡ ring_width u.types ring
    width = ap (λ (o : Option CRing). option_map_or (ring_width u.types) o 0) e

    each : (k : ℕ) (v : Value) → slice_get (values_in u s r) k ≡ Some v → length (words_of v) ≡ value_width u r
    each k v q = value_long u.types ring.ty shape.0 v shape.1 (all_at (IsValueOf u.types ring.ty) (values_in u s r) k v (ring_values u s r ring h e).1 q) ∙ sym width
