-- Values of a buffer at ascending distances.
use Rattle.std.proofs.Common.{◌≡◌, ℕ, zero, suc, ◌<◌, ◌≤◌, ◌+◌, ◌-◌, List, [], ◌∷◌, ◌++◌, Bool, true, false, if◌then◌else◌, refl, sym, ap, ◌∙◌, subst, arith}
use Rattle.std.specs.Prelude.{nat_eq, nat_le}
use Rattle.std.proofs.lemmas.Bool.Decides.{nat_tests}
use Rattle.stream_types.specs.declared.scalar.Scalar.{Scalar}
use Rattle.stream_types.specs.declared.scalar.Op2.TheVariants as op2
use Rattle.stream_core.specs.Term.{Term, and, bin, choose, or}
use Rattle.stream_core.specs.Lower.{ago, agos, best, no, since_from, since_in_value, sum_all, tests}
use Rattle.stream_core.specs.PartOf.{IsPartOf, the_whole, within}
use Rattle.stream_lib.specs.Built.{better, since_now, since_step}

agos_end : (b m i n : ℕ) → agos b m i (suc n) ≡ agos b m i n ++ ago b m (i + n) ∷ []
agos_end b m i zero = let e : i + 0 ≡ i = omega arith in rw e refl
agos_end b m i (suc n) = let e : i + suc n ≡ i + 1 + n = omega arith in rw e (ap (λ xs. ago b m i ∷ xs) (agos_end b m (i + 1) n))

pub agos_more : (b m i n : ℕ) → agos b m i n ++ ago b m (i + n) ∷ [] ≡ agos b m i (n + 1)
agos_more b m i n = let e : n + 1 ≡ suc n = omega arith in rw e (sym (agos_end b m i n))

sum_end : (s : Scalar) (a : Term) (bs : List Term) (b : Term) → sum_all s a (bs ++ b ∷ []) ≡ bin op2.Add s (sum_all s a bs) b
sum_end s a [] b = refl
sum_end s a (c ∷ bs) b = sum_end s (bin op2.Add s a c) bs b

pub sum_more : (s : Scalar) (a : Term) (b m i n : ℕ) → bin op2.Add s (sum_all s a (agos b m i n)) (ago b m (i + n)) ≡ sum_all s a (agos b m i (n + 1))
sum_more s a b m i n = sym (sum_end s a (agos b m i n) (ago b m (i + n))) ∙ ap (sum_all s a) (agos_more b m i n)

tests_end : (test : Term → Term → Term) (at : ℕ → Term) (i j n : ℕ) → tests test at i j (suc n) ≡ tests test at i j n ++ (if nat_eq (j + n) i then [] else test (at i) (at (j + n)) ∷ [])
tests_end test at i j zero = let e : j + 0 ≡ j = omega arith in rw e refl
tests_end test at i j (suc n) = let e : j + suc n ≡ j + 1 + n = omega arith in rw e (by (nat_eq j i) (tests_end test at i (j + 1) n))
  where
    last : List Term
    last = if nat_eq (j + 1 + n) i then [] else test (at i) (at (j + 1 + n)) ∷ []

    by : (b : Bool) → tests test at i (j + 1) (suc n) ≡ tests test at i (j + 1) n ++ last
        → (if b then tests test at i (j + 1) (suc n) else test (at i) (at j) ∷ tests test at i (j + 1) (suc n))
        ≡ (if b then tests test at i (j + 1) n else test (at i) (at j) ∷ tests test at i (j + 1) n) ++ last
    by true h = h
    by false h = ap (λ xs. test (at i) (at j) ∷ xs) h

pub tests_more : (test : Term → Term → Term) (at : ℕ → Term) (i n : ℕ) → tests test at i 0 (n + 1) ≡ tests test at i 0 n ++ (if nat_eq n i then [] else test (at i) (at n) ∷ [])
tests_more test at i n = let e : n + 1 ≡ suc n = omega arith in let z : 0 + n ≡ n = omega arith in rw e (subst (λ k. tests test at i 0 (suc n) ≡ tests test at i 0 n ++ (if nat_eq k i then [] else test (at i) (at k) ∷ [])) z (tests_end test at i 0 n))

pub best_back : (test : Term → Term → Term) (at : ℕ → Term) (count last i : ℕ) → 0 < i → i ≤ last → better test at count (i - 1) (best test at count i (last - i)) ≡ best test at count (i - 1) (last - (i - 1))
best_back test at count last i p h =
    let e : last - (i - 1) ≡ suc (last - i) = omega (arith, p, h) in
    let f : i - 1 + 1 ≡ i = omega (arith, p) in
    rw e (ap (λ k. better test at count (i - 1) (best test at count k (last - i))) (sym f))

pub since_back : (low p q m n i : ℕ) → 0 < i → i ≤ n → since_step low p q m (1 + (i - 1)) (since_from low p q m (1 + i) (n - i)) ≡ since_from low p q m (1 + (i - 1)) (n - (i - 1))
since_back low p q m n i z h =
    let e : n - (i - 1) ≡ suc (n - i) = omega (arith, z, h) in
    let f : 1 + (i - 1) + 1 ≡ 1 + i = omega (arith, z) in
    rw e (ap (λ k. since_step low p q m (1 + (i - 1)) (since_from low p q m k (n - i))) (sym f))

pub since_in_is : (b low high : ℕ) (p q : Term) → since_in_value b low (suc high) p q
    ≡ choose p (or (since_now low q) (since_from low b (b + 1) (suc high) 1 high)) (since_now low q)
since_in_is b zero high p q = refl
since_in_is b (suc low) high p q = refl

-- one distance of the bounded since, by where it is
pub step_near : (low p q m i : ℕ) (rest : Term) → i < low → and (ago p m i) rest ≡ since_step low p q m i rest
step_near low p q m i rest h =
    let e : nat_le low i ≡ false = grind (arith, nat_tests, h) in
    sym (ap (λ b. if b then or (ago q m i) (and (ago p m i) rest) else and (ago p m i) rest) e)

pub step_far : (low p q m i : ℕ) (rest : Term) → low ≤ i → or (ago q m i) (and (ago p m i) rest) ≡ since_step low p q m i rest
step_far low p q m i rest h =
    let e : nat_le low i ≡ true = grind (arith, nat_tests, h) in
    sym (ap (λ b. if b then or (ago q m i) (and (ago p m i) rest) else and (ago p m i) rest) e)

pub now_far : (low : ℕ) (q : Term) → 0 < low → and q no ≡ since_now low q
now_far zero q h = absurd (omega (arith, h))
now_far (suc low) q h = refl

pub since_in_past : (b low high : ℕ) (p q : Term) → 0 < high → choose p (or (since_now low q) (since_from low b (b + 1) high 1 (high - 1))) (since_now low q) ≡ since_in_value b low high p q
since_in_past b low zero p q h = absurd (omega (arith, h))
since_in_past b low (suc high) p q h = let e : suc high - 1 ≡ high = omega arith in rw e (sym (since_in_is b low high p q))

-- what comes behind is within what holds from one distance on
pub step_part : (low p q m i : ℕ) (rest : Term) → IsPartOf rest (since_step low p q m i rest)
step_part low p q m i rest = by (nat_le low i)
  where
    by : (b : Bool) → IsPartOf rest (if b then or (ago q m i) (and (ago p m i) rest) else and (ago p m i) rest)
    by true = within 1 refl (within 1 refl the_whole)
    by false = within 1 refl the_whole
