-- What the statics hold, the elements of rings and arrays, and values one after another, on the pile.
use Rattle.std.proofs.Common.{◌≡◌, ℕ, zero, suc, ◌+◌, ◌*◌, ◌≤◌, true, false, List, [], ◌∷◌, ◌++◌, length, take, drop, Option, Some, None, Result, Ok, Err, refl, sym, ap, ◌∙◌, subst, arith}
use Rattle.std.specs.Prelude.{ℤ, pos, negsuc, nat_lt, max, IfOk, slice_get, if◌then◌else◌}
use Rattle.std.proofs.lemmas.List.{length-append}
use Rattle.std.specs.List.{AllByRecursion}
use Rattle.std.proofs.Math.Seq.{take-append_seam, drop-append-add}
use Rattle.std.specs.Option.{option_map_or}
use Rattle.std.proofs.lemmas.Bool.Decides.{nat_tests}
use Rattle.std.proofs.lemmas.Option.{slice_get_within}
use Rattle.c99_tree.specs.declared.types.CScalar.{CScalar}
use Rattle.c99_tree.specs.declared.types.CScalar.TheVariants as t
use Rattle.c99_tree.specs.declared.types.CTy.TheVariants as ty
use Rattle.c99_tree.specs.declared.types.CDef.{CDef}
use Rattle.c99_tree.specs.declared.undefined.Undefined.{Undefined}
use Rattle.c99_tree.specs.declared.undefined.Undefined.TheVariants as why
use Rattle.c99_tree.specs.Values.{Value, Values, number, struct_of, array_of, no_value, and_value, value_list, parts, words_of_all, number_in, word_of_number, words_of}
use Rattle.c99_tree.specs.Evaluation.{Met, done, meets, ◌>>=◌, element}
use Rattle.c99_tree.specs.Typed.{IsValueOf}
use Rattle.c99_tree.proofs.WordsBack.{number_back}
use Rattle.c_exec.specs.Codes.{Op, load, elem, pick}
use Rattle.c_exec.specs.Piles.{top, below, put_on}
use Rattle.c_exec.specs.WordNumbers.{place, subscript}
use Rattle.c_exec.specs.Going.{go, put_element, keep_element}
use Rattle.c_exec.specs.Needs.{need, wide}
use Rattle.c_exec.proofs.Simulates.{pushed, onto, then_to, then_onto, put-fits, top-one, below-one}
use Rattle.c_exec.proofs.ExpressionsGo.{Sims, left_room, right_room, then_all, at_most, kept_above}
use Rattle.c99_tree.proofs.TypedValues.{then_gives}

-- a value whose words stand in the statics
pub load_sims : (room : ℕ) (ws : List ℕ) (at n : ℕ) (v : Value) → take n (drop at ws) ≡ words_of v → length (words_of v) ≡ n
    → Sims room ws (load at n) (done (Ok v))
unfolding go
load_sims room ws at n v e l = record {
  goes = λ st h. ap (λ (z : List ℕ). done (Ok z)) (ap (put_on room st) e ∙ put-fits room st (words_of v) (omega (arith, l, h)));
  long = at_most n (Ok v) l;
}

-- ---- elements

pub none_past : (vs : List Value) (k : ℕ) → slice_get vs k ≡ None → length vs ≤ k
none_past [] k e = omega arith
none_past (v ∷ vs) zero e = absurd (cc e)
none_past (v ∷ vs) (suc k) e = let h = none_past vs k e in omega (arith, h)

-- the values whose words stand one after another from a place on, n words each
pub record Stand (ws : List ℕ) (at n : ℕ) (vs : List Value) : Type 0 where
  pub words : (k : ℕ) (v : Value) → slice_get vs k ≡ Some v → take n (drop (at + k * n) ws) ≡ words_of v
  pub long : (k : ℕ) (v : Value) → slice_get vs k ≡ Some v → length (words_of v) ≡ n

found_go : (room : ℕ) (ws st : List ℕ) (at n len k : ℕ) (vs : List Value) → length vs ≡ len → Stand ws at n vs → length st + n ≤ room → (o : Option Value)
    → slice_get vs k ≡ o
    → put_element room at n ws st (if nat_lt k len then Ok k else Err why.BadIndex) ≡ pushed st (option_map_or Ok o (Err why.BadIndex))
found_go room ws st at n len k vs l s r None e =
    let past = none_past vs k e in
    let t : nat_lt k len ≡ false = grind (arith, nat_tests, past, l) in
    rw t refl
found_go room ws st at n len k vs l s r (Some v) e =
    let within = slice_get_within vs k v e in
    let t : nat_lt k len ≡ true = grind (arith, nat_tests, within, l) in
    let long = s.long k v e in
    rw t (ap (λ (z : List ℕ). Ok z) (ap (put_on room st) (s.words k v e) ∙ put-fits room st (words_of v) (omega (arith, long, r))))

place_go : (room : ℕ) (ws st : List ℕ) (at n len : ℕ) (vs : List Value) (z : ℤ) → length vs ≡ len → Stand ws at n vs → length st + n ≤ room
    → put_element room at n ws st (place z len) ≡ pushed st (element vs z)
place_go room ws st at n len vs (pos k) l s r = found_go room ws st at n len k vs l s r (slice_get vs k) refl
place_go room ws st at n len vs (negsuc k) l s r = refl

element_go : (ds : List CDef) (t : CScalar) (room : ℕ) (ws st : List ℕ) (at n len : ℕ) (vs : List Value) (i : Value) → IsValueOf ds (ty.Scalar t) i
    → length vs ≡ len → Stand ws at n vs → length st + n ≤ room
    → put_element room at n ws (below (st ++ words_of i)) (subscript t (top (st ++ words_of i)) len) ≡ pushed st (element vs (number_in i).n)
element_go ds t room ws st at n len vs (number x) p l s r =
    rw (top-one st (word_of_number x), below-one st (word_of_number x), (number_back t x p).1) (place_go room ws st at n len vs x.n l s r)
element_go ds t room ws st at n len vs (struct_of xs) p l s r = absurd p
element_go ds t room ws st at n len vs (array_of xs) p l s r = absurd p

some_long : (n k : ℕ) (vs : List Value) (o : Option Value) → slice_get vs k ≡ o → ((j : ℕ) (v : Value) → slice_get vs j ≡ Some v → length (words_of v) ≡ n)
    → IfOk (option_map_or Ok o (Err why.BadIndex)) (λ v. length (words_of v) ≡ n)
some_long n k vs None e h = tt
some_long n k vs (Some v) e h = h k v e

element_long : (n : ℕ) (vs : List Value) (z : ℤ) → ((j : ℕ) (v : Value) → slice_get vs j ≡ Some v → length (words_of v) ≡ n)
    → IfOk (element vs z) (λ v. length (words_of v) ≡ n)
element_long n vs (pos k) h = some_long n k vs (slice_get vs k) refl h
element_long n vs (negsuc k) h = tt

-- an element of a ring
pub elem_sims : (ds : List CDef) (room : ℕ) (ws : List ℕ) (at n len : ℕ) (t : CScalar) (a : Op) (m : Met Value) (vs : List Value)
    → IfOk m.value (IsValueOf ds (ty.Scalar t)) → Sims room ws a m → length vs ≡ len → Stand ws at n vs
    → Sims room ws (elem at n len t a) (meets 1 (m >>= λ i. done (element vs (number_in i).n)))
unfolding go
elem_sims ds room ws at n len t a m vs p h l s = record {
  goes = λ st r.
      let g : List ℕ → Met (List ℕ) = λ x. done (put_element room at n ws (below x) (subscript t (top x) len)) in
      ap (meets 1) (ap (λ (z : Met (List ℕ)). z >>= g) (h.goes st (left_room (length st) (need a) n room r))
      ∙ then_onto m (λ i. done (element vs (number_in i).n)) g st (IsValueOf ds (ty.Scalar t)) p
      (λ i q. ap (λ (z : Result (List ℕ) Undefined). done z) (element_go ds t room ws st at n len vs i q l s (right_room (length st) (need a) n room r))));
  long = at_most n (m >>= λ i. done (element vs (number_in i).n)).value (then_all m (λ i. done (element vs (number_in i).n)) (λ v. length (words_of v) ≡ n) (λ i. element_long n vs (number_in i).n s.long));
}

-- ---- elements of arrays

-- a value of len elements of n words each
pub record IsArrayOf (n len : ℕ) (v : Value) : Type 0 where
  pub many : length (parts v) ≡ len
  pub stand : Stand (words_of v) 0 n (parts v)

both_hold : {A : Type 0} (r : Result A Undefined) (P Q : A → Type 0) → IfOk r P → IfOk r Q → IfOk r (λ v. P v × Q v)
both_hold (Ok v) P Q p q = (p, q)
both_hold (Err e) P Q p q = tt

-- an element alone is kept of an array's
kept_found : (st xs : List ℕ) (n len k : ℕ) (vs : List Value) → length vs ≡ len → Stand xs 0 n vs → (o : Option Value) → slice_get vs k ≡ o
    → keep_element (length st) n (st ++ xs) (if nat_lt k len then Ok k else Err why.BadIndex) ≡ pushed st (option_map_or Ok o (Err why.BadIndex))
kept_found st xs n len k vs l s None e =
    let past = none_past vs k e in
    let t : nat_lt k len ≡ false = grind (arith, nat_tests, past, l) in
    rw t refl
kept_found st xs n len k vs l s (Some v) e =
    let within = slice_get_within vs k v e in
    let t : nat_lt k len ≡ true = grind (arith, nat_tests, within, l) in
    let z : k * n ≡ 0 + k * n = omega arith in
    rw t (ap (λ (y : List ℕ). Ok y) (kept_above st xs (k * n) n ∙ ap (λ (y : List ℕ). st ++ y) (ap (λ j. take n (drop j xs)) z ∙ s.words k v e)))

kept_place : (st xs : List ℕ) (n len : ℕ) (vs : List Value) (z : ℤ) → length vs ≡ len → Stand xs 0 n vs
    → keep_element (length st) n (st ++ xs) (place z len) ≡ pushed st (element vs z)
kept_place st xs n len vs (pos k) l s = kept_found st xs n len k vs l s (slice_get vs k) refl
kept_place st xs n len vs (negsuc k) l s = refl

kept_element : (ds : List CDef) (t : CScalar) (st xs : List ℕ) (n len : ℕ) (vs : List Value) (i : Value) → IsValueOf ds (ty.Scalar t) i → length vs ≡ len
    → Stand xs 0 n vs
    → keep_element (length st) n (below ((st ++ xs) ++ words_of i)) (subscript t (top ((st ++ xs) ++ words_of i)) len) ≡ pushed st (element vs (number_in i).n)
kept_element ds t st xs n len vs (number x) p l s =
    rw (top-one (st ++ xs) (word_of_number x), below-one (st ++ xs) (word_of_number x), (number_back t x p).1) (kept_place st xs n len vs x.n l s)
kept_element ds t st xs n len vs (struct_of ys) p l s = absurd p
kept_element ds t st xs n len vs (array_of ys) p l s = absurd p

picked_go : (ds : List CDef) (room : ℕ) (ws : List ℕ) (n len : ℕ) (t : CScalar) (i : Op) (r : Met Value) (st : List ℕ) (v : Value) → IsArrayOf n len v
    → IfOk r.value (IsValueOf ds (ty.Scalar t)) → Sims room ws i r
    → length (st ++ words_of v) + need i ≤ room
    → (go room ws i (st ++ words_of v) >>= λ y. done (keep_element (length st) n (below y) (subscript t (top y) len))) ≡ onto st (r >>= λ k. done (element (parts v) (number_in k).n))
picked_go ds room ws n len t i r st v p q h l =
    let g : List ℕ → Met (List ℕ) = λ y. done (keep_element (length st) n (below y) (subscript t (top y) len)) in
    ap (λ (z : Met (List ℕ)). z >>= g) (h.goes (st ++ words_of v) l)
    ∙ then_to r (λ k. done (element (parts v) (number_in k).n)) g (st ++ words_of v) st (IsValueOf ds (ty.Scalar t)) q
    (λ k e. ap (λ (z : Result (List ℕ) Undefined). done z) (kept_element ds t st (words_of v) n len (parts v) k e p.many p.stand))

-- an element of an array
pub pick_sims : (ds : List CDef) (room : ℕ) (ws : List ℕ) (n len : ℕ) (a i : Op) (m r : Met Value) → IfOk m.value (IsArrayOf n len)
    → IfOk r.value (IsValueOf ds (ty.Scalar t.U32)) → Sims room ws a m → Sims room ws i r
    → Sims room ws (pick n len a i) (meets 2 (m >>= λ v. r >>= λ k. done (element (parts v) (number_in k).n)))
unfolding go
pick_sims ds room ws n len a i m r p q h g = record {
  goes = λ st k.
      let rest : List ℕ → Met (List ℕ) = λ x. go room ws i x >>= λ y. done (keep_element (length st) n (below y) (subscript t.U32 (top y) len)) in
      let array : length st + max (need a) n ≤ room = left_room (length st) (max (need a) n) (wide a + need i) room k in
      let index : length st + (wide a + need i) ≤ room = right_room (length st) (max (need a) n) (wide a + need i) room k in
      ap (meets 2) (ap (λ (z : Met (List ℕ)). z >>= rest) (h.goes st (left_room (length st) (need a) n room array))
      ∙ then_onto m (λ v. r >>= λ k. done (element (parts v) (number_in k).n)) rest st (λ v. IsArrayOf n len v × (length (words_of v) ≤ wide a))
      (both_hold m.value (IsArrayOf n len) (λ v. length (words_of v) ≤ wide a) p h.long)
      (λ v e. picked_go ds room ws n len t.U32 i r st v e.0 q g (let j = length-append st (words_of v) in let w = e.1 in omega (arith, j, w, index))));
  long = at_most n (m >>= λ v. r >>= λ k. done (element (parts v) (number_in k).n)).value
      (then_gives m (λ v. r >>= λ k. done (element (parts v) (number_in k).n)) (IsArrayOf n len) (λ v. length (words_of v) ≡ n) p
      (λ v e. then_all r (λ k. done (element (parts v) (number_in k).n)) (λ w. length (words_of w) ≡ n) (λ k. element_long n (parts v) (number_in k).n e.stand.long)));
}

-- ---- the elements of an array value

stand_words : (n : ℕ) (v : Value) (xs : List ℕ) (vs : List Value) → length (words_of v) ≡ n → Stand xs 0 n vs → (k : ℕ) (w : Value)
    → slice_get (v ∷ vs) k ≡ Some w
    → take n (drop (0 + k * n) (words_of v ++ xs)) ≡ words_of w
stand_words n v xs vs l s zero w e =
    let same : v ≡ w = cc e in
    let z : 0 + 0 * n ≡ 0 = omega arith in
    ap (λ (j : ℕ). take n (drop j (words_of v ++ xs))) z ∙ ap (λ (j : ℕ). take j (words_of v ++ xs)) (sym l) ∙ take-append_seam (words_of v) xs ∙ ap (λ (z : Value). words_of z) same
stand_words n v xs vs l s (suc k) w e =
    let m : suc k * n ≡ n + k * n = omega arith in
    let j : 0 + suc k * n ≡ length (words_of v) + (0 + k * n) = omega (arith, m, l) in
    ap (λ (j : ℕ). take n (drop j (words_of v ++ xs))) j ∙ ap (λ (z : List ℕ). take n z) (drop-append-add (words_of v) xs (0 + k * n)) ∙ s.words k w e

stand_long : (n : ℕ) (v : Value) (xs : List ℕ) (vs : List Value) → length (words_of v) ≡ n → Stand xs 0 n vs → (k : ℕ) (w : Value)
    → slice_get (v ∷ vs) k ≡ Some w → length (words_of w) ≡ n
stand_long n v xs vs l s zero w e = let same : v ≡ w = cc e in subst (λ (z : Value). length (words_of z) ≡ n) same l
stand_long n v xs vs l s (suc k) w e = s.long k w e

-- values of n words each, one after another
pub values_stand : (n : ℕ) (vs : Values) → AllByRecursion (λ v. length (words_of v) ≡ n) (value_list vs) → Stand (words_of_all vs) 0 n (value_list vs)
values_stand n no_value h = record { words = λ k v e. absurd (cc e); long = λ k v e. absurd (cc e) }
values_stand n (and_value v vs) h =
    let s = values_stand n vs h.1 in
    record { words = stand_words n v (words_of_all vs) (value_list vs) h.0 s; long = stand_long n v (words_of_all vs) (value_list vs) h.0 s }
