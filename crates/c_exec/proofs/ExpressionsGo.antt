-- The resolved form of each operator on numbers puts the words of its value on the pile.
use Rattle.std.proofs.Common.{◌≡◌, ℕ, ◌+◌, ◌-◌, ◌%◌, ◌^◌, ◌<◌, ◌≤◌, Bool, true, false, not, List, [], ◌∷◌, ◌++◌, length, take, drop, Option, Some, None, Result, Ok, Err, refl, sym, ap, ◌∙◌, arith}
use Rattle.std.specs.Prelude.{ℤ, pos, negsuc, ◌-ℤ◌, nat_eq, nat_le, unsigned_abs, max, IfOk, if◌then◌else◌, ◌&&◌}
use Rattle.std.specs.Ordering.{int_eq}
use Rattle.std.specs.Int.{int_rem_euclid}
use Rattle.std.proofs.lemmas.List.{length-append}
use Rattle.std.proofs.lemmas.Bool.Decides.{nat_tests}
use Rattle.std.proofs.lemmas.Int.{ints}
use Rattle.c99_tree.specs.declared.expr.CUn.{CUn}
use Rattle.c99_tree.specs.declared.expr.CBin.{CBin}
use Rattle.c99_tree.specs.declared.types.CScalar.{CScalar}
use Rattle.c99_tree.specs.declared.types.CTy.TheVariants as ty
use Rattle.c99_tree.specs.declared.types.CDef.{CDef}
use Rattle.c99_tree.specs.declared.undefined.Undefined.{Undefined}
use Rattle.c99_tree.specs.CTypes.{Num, num, is_signed, is_zero, truth, converted}
use Rattle.c99_tree.specs.Values.{Value, number, struct_of, array_of, number_in, number_of_word, word_of_number, words_of}
use Rattle.c99_tree.specs.Evaluation.{Met, done, after, meets, ◌>>=◌, number_result, unary, binary, decided_at, decides, both, converted_to}
use Rattle.c99_tree.specs.Typed.{IsNumberOf, IsValueOf}
use Rattle.c99_tree.proofs.WordsBack.{number_back}
use Rattle.c_exec.specs.Codes.{Op, word, load, elem, un, bin, choose, conv, met, part, pick, chain, nothing}
use Rattle.c_exec.specs.Piles.{top, below, put_on, kept}
use Rattle.std.proofs.Math.Seq.{take-append_seam, drop-append-add}
use Rattle.c99_tree.proofs.TypedValues.{then_gives}
use Rattle.c_exec.specs.WordNumbers.{as_word, unary_word, binary_word, converted_word, truth_word, is_decided, decides_word, decision}
use Rattle.c_exec.specs.Going.{go, put_result}
use Rattle.c_exec.specs.Needs.{need, wide}
use Rattle.c_exec.proofs.Simulates.{onto, then_to, then_onto, one_onto, two_onto, put-one, top-one, below-one}

-- where a resolved expression has the room that it needs, it puts on any pile the words of these values, at most as many as it says
pub record Sims (room : ℕ) (ws : List ℕ) (a : Op) (m : Met Value) : Type 0 where
  pub goes : (st : List ℕ) → length st + need a ≤ room → go room ws a st ≡ onto st m
  pub long : IfOk m.value (λ v. length (words_of v) ≤ wide a)

-- ---- room

pub left_room : (n a b room : ℕ) → n + max a b ≤ room → n + a ≤ room
left_room n a b room h = omega (arith, h)

pub right_room : (n a b room : ℕ) → n + max a b ≤ room → n + b ≤ room
right_room n a b room h = omega (arith, h)

-- there is room for the value
pub wide_fits : (a : Op) → wide a ≤ need a
wide_fits (word w) = omega arith
wide_fits (load at n) = omega arith
wide_fits (elem at n len t a) = omega arith
wide_fits (un op t a) = omega arith
wide_fits (bin op s t a b) = omega arith
wide_fits (choose c a b) = let h = wide_fits a in let g = wide_fits b in omega (arith, h, g)
wide_fits (conv s t a) = omega arith
wide_fits (met a) = wide_fits a
wide_fits (part off n a) = omega arith
wide_fits (pick n len a i) = omega arith
wide_fits (chain a b) = let h = wide_fits b in omega (arith, h)
wide_fits nothing = omega arith

-- ---- values of scalar types

pub one_long : (ds : List CDef) (t : CScalar) (v : Value) → IsValueOf ds (ty.Scalar t) v → length (words_of v) ≡ 1
one_long ds t (number x) p = refl
one_long ds t (struct_of vs) p = absurd p
one_long ds t (array_of vs) p = absurd p

numbers_long : (r : Result Num Undefined) → IfOk (number_result r) (λ v. length (words_of v) ≡ 1)
numbers_long (Ok x) = refl
numbers_long (Err e) = tt

after_all : {A B : Type 0} (r : Result A Undefined) (n : ℕ) (f : A → Met B) (Q : B → Type 0) → ((x : A) → IfOk (f x).value Q) → IfOk (after r n f).value Q
after_all (Ok x) n f Q h = h x
after_all (Err e) n f Q h = tt

-- what follows each value has this property
pub then_all : {A B : Type 0} (m : Met A) (f : A → Met B) (Q : B → Type 0) → ((x : A) → IfOk (f x).value Q) → IfOk (m >>= f).value Q
then_all m f Q h = after_all m.value m.count f Q h

-- values of so many words have at most so many
pub at_most : (n : ℕ) (r : Result Value Undefined) → IfOk r (λ v. length (words_of v) ≡ n) → IfOk r (λ v. length (words_of v) ≤ n)
at_most n (Ok v) h = omega (arith, h)
at_most n (Err e) h = tt

pub more_fit : (n m : ℕ) (r : Result Value Undefined) → n ≤ m → IfOk r (λ v. length (words_of v) ≤ n) → IfOk r (λ v. length (words_of v) ≤ m)
more_fit n m (Ok v) l h = omega (arith, l, h)
more_fit n m (Err e) l h = tt

-- ---- constants

pub word_sims : (room : ℕ) (ws : List ℕ) (w : ℕ) (v : Value) → words_of v ≡ w ∷ [] → Sims room ws (word w) (done (Ok v))
unfolding go
word_sims room ws w v e = record {
  goes = λ st h. ap (λ (z : List ℕ). done (Ok z)) (put-one room st w h ∙ ap (λ (z : List ℕ). st ++ z) (sym e));
  long = at_most 1 (Ok v) (ap (λ (z : List ℕ). length z) e);
}

-- ---- unary operators and conversions

-- the result of an operator on the number on top
number_onto : (ds : List CDef) (t : CScalar) (room : ℕ) (st : List ℕ) (f : Num → Result Num Undefined) (v : Value) → IsValueOf ds (ty.Scalar t) v
    → length st + 1 ≤ room
    → done (put_result room (below (st ++ words_of v)) (as_word (f (number_of_word t (top (st ++ words_of v)))))) ≡ onto st (done (number_result (f (number_in v))))
number_onto ds t room st f v p h = ap (λ (z : Result (List ℕ) Undefined). done z) (one_onto ds t room st f v p h)

pub un_sims : (ds : List CDef) (room : ℕ) (ws : List ℕ) (op : CUn) (t : CScalar) (a : Op) (m : Met Value) → IfOk m.value (IsValueOf ds (ty.Scalar t))
    → Sims room ws a m
    → Sims room ws (un op t a) (meets 1 (m >>= λ x. done (number_result (unary op (number_in x)))))
unfolding go
un_sims ds room ws op t a m p h = record {
  goes = λ st r.
      let g : List ℕ → Met (List ℕ) = λ x. done (put_result room (below x) (unary_word op t (top x))) in
      ap (meets 1) (ap (λ (z : Met (List ℕ)). z >>= g) (h.goes st (left_room (length st) (need a) 1 room r))
      ∙ then_onto m (λ x. done (number_result (unary op (number_in x)))) g st (IsValueOf ds (ty.Scalar t)) p (λ v q. number_onto ds t room st (unary op) v q (right_room (length st) (need a) 1 room r)));
  long = at_most 1 (m >>= λ x. done (number_result (unary op (number_in x)))).value (then_all m (λ x. done (number_result (unary op (number_in x)))) (λ v. length (words_of v) ≡ 1) (λ x. numbers_long (unary op (number_in x))));
}

pub conv_sims : (ds : List CDef) (room : ℕ) (ws : List ℕ) (s t : CScalar) (a : Op) (m : Met Value) → IfOk m.value (IsValueOf ds (ty.Scalar s))
    → Sims room ws a m
    → Sims room ws (conv s t a) (m >>= λ x. done (converted_to (ty.Scalar t) x))
unfolding go
conv_sims ds room ws s t a m p h = record {
  goes = λ st r.
      let g : List ℕ → Met (List ℕ) = λ x. done (put_result room (below x) (converted_word s t (top x))) in
      ap (λ (z : Met (List ℕ)). z >>= g) (h.goes st (left_room (length st) (need a) 1 room r))
      ∙ then_onto m (λ x. done (converted_to (ty.Scalar t) x)) g st (IsValueOf ds (ty.Scalar s)) p (λ v q. number_onto ds s room st (converted t) v q (right_room (length st) (need a) 1 room r));
  long = at_most 1 (m >>= λ x. done (converted_to (ty.Scalar t) x)).value (then_all m (λ x. done (converted_to (ty.Scalar t) x)) (λ v. length (words_of v) ≡ 1) (λ x. numbers_long (converted t (number_in x))));
}

pub met_sims : (room : ℕ) (ws : List ℕ) (a : Op) (m : Met Value) → Sims room ws a m → Sims room ws (met a) (meets 1 m)
unfolding go
met_sims room ws a m h = record { goes = λ st r. ap (meets 1) (h.goes st r); long = h.long }

-- ---- whether a number is 0

zero_natural : (n : ℕ) → n < 2 ^ 64 → nat_eq (n % 2 ^ 64) 0 ≡ int_eq (pos n) (pos 0)
zero_natural n h = let e : n % 2 ^ 64 ≡ n = omega (arith, h) in rw e (grind (arith, nat_tests))

word_zero : (t : CScalar) (x : Num) → IsNumberOf t x → (z : Num) → number_of_word t (word_of_number x) ≡ z → is_zero z ≡ nat_eq (word_of_number x) 0
    → nat_eq (word_of_number x) 0 ≡ is_zero x
word_zero t x p z e h = sym h ∙ ap is_zero (sym e ∙ (number_back t x p).1)

either_zero : (t : CScalar) (c : Bool) (w : ℕ) → w < 2 ^ 64
    → is_zero (if c && nat_le (2 ^ 63) w then num t (pos w -ℤ pos (2 ^ 64)) else num t (pos w)) ≡ nat_eq w 0
either_zero t false w h = grind (arith, nat_tests)
either_zero t true w h = signed_zero (nat_le (2 ^ 63) w) refl
  where
    signed_zero : (b : Bool) → nat_le (2 ^ 63) w ≡ b → is_zero (if b then num t (pos w -ℤ pos (2 ^ 64)) else num t (pos w)) ≡ nat_eq w 0
    signed_zero false e = grind (arith, nat_tests)
    signed_zero true e =
        let q : 2 ^ 63 ≤ w = grind (arith, nat_tests, e) in
        let z : pos w -ℤ pos (2 ^ 64) ≡ negsuc (2 ^ 64 - w - 1) = omega (arith, ints, h, q) in
        let k : nat_eq w 0 ≡ false = grind (arith, nat_tests, q) in
        rw (z, k) refl

word_small : (x : Num) → word_of_number x < 2 ^ 64
word_small x = below x.n
  where
    below : (z : ℤ) → unsigned_abs (int_rem_euclid z (pos (2 ^ 64))) < 2 ^ 64
    below (pos n) = omega arith
    below (negsuc n) = omega arith

-- a number is 0 where its word is
pub zero_word : (ds : List CDef) (t : CScalar) (st : List ℕ) (v : Value) → IsValueOf ds (ty.Scalar t) v
    → nat_eq (top (st ++ words_of v)) 0 ≡ is_zero (number_in v)
zero_word ds t st (number x) p =
    rw (top-one st (word_of_number x)) (word_zero t x p (number_of_word t (word_of_number x)) refl (either_zero t (is_signed t) (word_of_number x) (word_small x)))
zero_word ds t st (struct_of vs) p = absurd p
zero_word ds t st (array_of vs) p = absurd p

pub below_value : (ds : List CDef) (t : CScalar) (st : List ℕ) (v : Value) → IsValueOf ds (ty.Scalar t) v → below (st ++ words_of v) ≡ st
below_value ds t st (number x) p = below-one st (word_of_number x)
below_value ds t st (struct_of vs) p = absurd p
below_value ds t st (array_of vs) p = absurd p

-- ---- binary operators

abbrev pub on_both : CBin → CScalar → CScalar → ℕ → List ℕ → Met (List ℕ)
on_both op s t room y = done (put_result room (below (below y)) (binary_word op s t (top (below y)) (top y)))

two_go : (ds : List CDef) (room : ℕ) (ws : List ℕ) (op : CBin) (s t : CScalar) (b : Op) (r : Met Value) (st : List ℕ) (v : Value)
    → IsValueOf ds (ty.Scalar s) v → IfOk r.value (IsValueOf ds (ty.Scalar t)) → Sims room ws b r
    → length st + (1 + need b) ≤ room
    → (go room ws b (st ++ words_of v) >>= on_both op s t room) ≡ onto st (r >>= λ w. done (number_result (binary op (number_in v) (number_in w))))
two_go ds room ws op s t b r st v p q h l =
    let k = length-append st (words_of v) in
    let one = one_long ds s v p in
    ap (λ (z : Met (List ℕ)). z >>= on_both op s t room) (h.goes (st ++ words_of v) (omega (arith, k, one, l)))
    ∙ then_to r (λ w. done (number_result (binary op (number_in v) (number_in w)))) (on_both op s t room) (st ++ words_of v) st (IsValueOf ds (ty.Scalar t)) q
    (λ w e. ap (λ (z : Result (List ℕ) Undefined). done z) (two_onto ds s t room st (binary op) v w p e (omega (arith, l))))

truth_put : (room : ℕ) (st : List ℕ) (b : Bool) → length st + 1 ≤ room → put_on room st (truth_word b ∷ []) ≡ st ++ words_of (number (truth b))
truth_put room st true h = put-one room st 1 h
truth_put room st false h = put-one room st 0 h

decided_go : (room : ℕ) (st : List ℕ) (c d b : Bool) (l r : Met (List ℕ)) (m : Met Value) → c ≡ d → length st + 1 ≤ room → r ≡ onto st m
    → l ≡ onto st (done (Ok (number (truth b))))
    → (if c then l else r) ≡ onto st (if d then done (Ok (number (truth b))) else m)
decided_go room st c true b l r m e h q k = rw e k
decided_go room st c false b l r m e h q k = rw e q

not_zero : (b : Bool) (w : ℕ) (x : Num) → nat_eq w 0 ≡ is_zero x → decides_word b w ≡ decides b x
not_zero true w x h = ap not h
not_zero false w x h = h

both_long : (d : Option Bool) (op : CBin) (l r : Met Value) → IfOk (both d op l r).value (λ v. length (words_of v) ≡ 1)
both_long (Some b) op l r =
    then_all l (λ x. if decides b (number_in x) then done (Ok (number (truth b))) else (r >>= λ y. done (number_result (binary op (number_in x) (number_in y))))) (λ v. length (words_of v) ≡ 1)
    (λ x. either (decides b (number_in x)) b (r >>= λ y. done (number_result (binary op (number_in x) (number_in y)))) (then_all r (λ y. done (number_result (binary op (number_in x) (number_in y)))) (λ v. length (words_of v) ≡ 1) (λ y. numbers_long (binary op (number_in x) (number_in y)))))
  where
    truth_long : (b : Bool) → length (words_of (number (truth b))) ≡ 1
    truth_long true = refl
    truth_long false = refl

    either : (c b : Bool) (m : Met Value) → IfOk m.value (λ v. length (words_of v) ≡ 1) → IfOk (if c then done (Ok (number (truth b))) else m).value (λ v. length (words_of v) ≡ 1)
    either true b m h = truth_long b
    either false b m h = h
both_long None op l r =
    then_all l (λ x. r >>= λ y. done (number_result (binary op (number_in x) (number_in y)))) (λ v. length (words_of v) ≡ 1)
    (λ x. then_all r (λ y. done (number_result (binary op (number_in x) (number_in y)))) (λ v. length (words_of v) ≡ 1) (λ y. numbers_long (binary op (number_in x) (number_in y))))

-- what the code of an operator does with the left operand's words
abbrev bin_rest : ℕ → List ℕ → CBin → CScalar → CScalar → Op → List ℕ → Met (List ℕ)
bin_rest room ws op s t b x =
    if is_decided op (top x) then done (Ok (put_on room (below x) (decision op ∷ []))) else (go room ws b x >>= on_both op s t room)

bin_step : (ds : List CDef) (room : ℕ) (ws : List ℕ) (op : CBin) (s t : CScalar) (a b : Op) (l r : Met Value) → IfOk l.value (IsValueOf ds (ty.Scalar s))
    → IfOk r.value (IsValueOf ds (ty.Scalar t)) → Sims room ws b r
    → (st : List ℕ) → length st + max (need a) (1 + need b) ≤ room → (d : Option Bool) → decided_at op ≡ d
    → (onto st l >>= bin_rest room ws op s t b) ≡ onto st (both d op l r)
bin_step ds room ws op s t a b l r p q h st k (Some c) e =
    let fits : length st + (1 + need b) ≤ room = right_room (length st) (need a) (1 + need b) room k in
    then_onto l (λ x. if decides c (number_in x) then done (Ok (number (truth c))) else (r >>= λ y. done (number_result (binary op (number_in x) (number_in y))))) (bin_rest room ws op s t b) st (IsValueOf ds (ty.Scalar s)) p
    (λ v f. decided_go room st (is_decided op (top (st ++ words_of v))) (decides c (number_in v)) c (done (Ok (put_on room (below (st ++ words_of v)) (decision op ∷ [])))) (go room ws b (st ++ words_of v) >>= on_both op s t room)
    (r >>= λ y. done (number_result (binary op (number_in v) (number_in y))))
    (rw e (not_zero c (top (st ++ words_of v)) (number_in v) (zero_word ds s st v f))) (omega (arith, fits)) (two_go ds room ws op s t b r st v f q h fits)
    (rw (below_value ds s st v f, e) (ap (λ (z : List ℕ). done (Ok z)) (truth_put room st c (omega (arith, fits))))))
bin_step ds room ws op s t a b l r p q h st k None e =
    let fits : length st + (1 + need b) ≤ room = right_room (length st) (need a) (1 + need b) room k in
    then_onto l (λ x. r >>= λ y. done (number_result (binary op (number_in x) (number_in y)))) (bin_rest room ws op s t b) st (IsValueOf ds (ty.Scalar s)) p
    (λ v f. rw e (two_go ds room ws op s t b r st v f q h fits))

pub bin_sims : (ds : List CDef) (room : ℕ) (ws : List ℕ) (op : CBin) (s t : CScalar) (a b : Op) (l r : Met Value)
    → IfOk l.value (IsValueOf ds (ty.Scalar s)) → IfOk r.value (IsValueOf ds (ty.Scalar t)) → Sims room ws a l → Sims room ws b r
    → Sims room ws (bin op s t a b) (meets 1 (both (decided_at op) op l r))
unfolding go
bin_sims ds room ws op s t a b l r p q h g = record {
  goes = λ st k.
      ap (meets 1) (ap (λ (z : Met (List ℕ)). z >>= bin_rest room ws op s t b) (h.goes st (left_room (length st) (need a) (1 + need b) room k))
      ∙ bin_step ds room ws op s t a b l r p q g st k (decided_at op) refl);
  long = at_most 1 (both (decided_at op) op l r).value (both_long (decided_at op) op l r);
}

-- ---- choices and members

chosen_go : (room : ℕ) (ws : List ℕ) (a b : Op) (l r : Met Value) (st x : List ℕ) (c d : Bool) → c ≡ d → x ≡ st → Sims room ws a l → Sims room ws b r
    → length st + need a ≤ room → length st + need b ≤ room
    → (if c then go room ws b x else go room ws a x) ≡ onto st (if d then r else l)
chosen_go room ws a b l r st x c true e f h g p q = rw (e, f) (g.goes st q)
chosen_go room ws a b l r st x c false e f h g p q = rw (e, f) (h.goes st p)

either_long : (n : ℕ) (c : Bool) (l r : Met Value) → IfOk l.value (λ v. length (words_of v) ≤ n) → IfOk r.value (λ v. length (words_of v) ≤ n)
    → IfOk (if c then r else l).value (λ v. length (words_of v) ≤ n)
either_long n true l r h g = g
either_long n false l r h g = h

most_left : (a b : ℕ) → a ≤ max a b
most_left a b = omega arith

most_right : (a b : ℕ) → b ≤ max a b
most_right a b = omega arith

-- a choice of two arms
pub choose_sims : (ds : List CDef) (room : ℕ) (ws : List ℕ) (s : CScalar) (c a b : Op) (m l r : Met Value) → IfOk m.value (IsValueOf ds (ty.Scalar s))
    → Sims room ws c m → Sims room ws a l → Sims room ws b r
    → Sims room ws (choose c a b) (meets 1 (m >>= λ x. if is_zero (number_in x) then r else l))
unfolding go
choose_sims ds room ws s c a b m l r p k h g = record {
  goes = λ st q.
      let rest : List ℕ → Met (List ℕ) = λ x. if nat_eq (top x) 0 then go room ws b (below x) else go room ws a (below x) in
      let arms : length st + max (need a) (need b) ≤ room = right_room (length st) (need c) (max (need a) (need b)) room q in
      ap (meets 1) (ap (λ (z : Met (List ℕ)). z >>= rest) (k.goes st (left_room (length st) (need c) (max (need a) (need b)) room q))
      ∙ then_onto m (λ x. if is_zero (number_in x) then r else l) rest st (IsValueOf ds (ty.Scalar s)) p
      (λ v f. chosen_go room ws a b l r st (below (st ++ words_of v)) (nat_eq (top (st ++ words_of v)) 0) (is_zero (number_in v)) (zero_word ds s st v f) (below_value ds s st v f) h g
      (left_room (length st) (need a) (need b) room arms) (right_room (length st) (need a) (need b) room arms)));
  long = then_all m (λ x. if is_zero (number_in x) then r else l) (λ v. length (words_of v) ≤ max (wide a) (wide b))
      (λ x. either_long (max (wide a) (wide b)) (is_zero (number_in x)) l r (more_fit (wide a) (max (wide a) (wide b)) l.value (most_left (wide a) (wide b)) h.long)
      (more_fit (wide b) (max (wide a) (wide b)) r.value (most_right (wide a) (wide b)) g.long));
}

pub kept_above : (st xs : List ℕ) (off n : ℕ) → kept (length st) off n (st ++ xs) ≡ st ++ take n (drop off xs)
kept_above st xs off n = rw (take-append_seam st xs, drop-append-add st xs off) refl

-- the words of a part of each value
pub part_sims : (P : Value → Type 0) (room : ℕ) (ws : List ℕ) (off n : ℕ) (a : Op) (m : Met Value) (f : Value → Value) → IfOk m.value P → Sims room ws a m
    → ((v : Value) → P v → take n (drop off (words_of v)) ≡ words_of (f v)) → ((v : Value) → P v → length (words_of (f v)) ≡ n)
    → Sims room ws (part off n a) (meets 1 (m >>= λ v. done (Ok (f v))))
unfolding go
part_sims P room ws off n a m f p h e g = record {
  goes = λ st k.
      let rest : List ℕ → Met (List ℕ) = λ x. done (Ok (kept (length st) off n x)) in
      ap (meets 1) (ap (λ (z : Met (List ℕ)). z >>= rest) (h.goes st (left_room (length st) (need a) n room k))
      ∙ then_onto m (λ v. done (Ok (f v))) rest st P p
      (λ v q. ap (λ (z : List ℕ). done (Ok z)) (kept_above st (words_of v) off n ∙ ap (λ (z : List ℕ). st ++ z) (e v q))));
  long = at_most n (m >>= λ v. done (Ok (f v))).value (then_gives m (λ v. done (Ok (f v))) P (λ v. length (words_of v) ≡ n) p g);
}
