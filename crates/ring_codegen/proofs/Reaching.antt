-- Statements carried out one after another, lists with an element set, and places counted around.
use Rattle.std.proofs.Common.{◌≡◌, ℕ, zero, suc, ◌+◌, ◌-◌, ◌*◌, ◌%◌, ◌<◌, ◌≤◌, Bool, true, false, List, [], ◌∷◌, ◌++◌, length, append_assoc, append-nil, Some, Ok, refl, sym, ap, ◌∙◌, arith}
use Rattle.std.specs.Prelude.{slice_get, slice_set, nat_lt}
use Rattle.std.proofs.lemmas.Bool.Decides.{nat_tests}
use Rattle.std.proofs.Math.Nat.{mod-eq_of_lt}
use Rattle.std.proofs.Math.Arith.{digits_mod}
use Rattle.c99_tree.specs.declared.unit.Unit.{Unit as CUnit}
use Rattle.c99_tree.specs.Tree.{Stmt}
use Rattle.c99_tree.specs.Values.{Value}
use Rattle.c99_tree.specs.Step.{Progress, carry_out, carry_out_all}
use Rattle.ring_codegen.proofs.Evaluated.{then_value}

-- ---- statements

-- these statements lead from one progress to another, whatever stands behind them
pub record Reaches (u : CUnit) (xs : List Value) (ss : List Stmt) (p q : Progress) : Type 0 where
  pub is : (rest : List Stmt) → (carry_out_all u xs (ss ++ rest) p).value ≡ (carry_out_all u xs rest q).value

one_done : (u : CUnit) (xs : List Value) (s : Stmt) (ss : List Stmt) (p q : Progress) → (carry_out u xs s p).value ≡ Ok q → (carry_out_all u xs (s ∷ ss) p).value ≡ (carry_out_all u xs ss q).value
unfolding carry_out_all
one_done u xs s ss p q e = then_value (carry_out u xs s p) (carry_out_all u xs ss) q e

none_left : (u : CUnit) (xs : List Value) (p : Progress) → (carry_out_all u xs [] p).value ≡ Ok p
unfolding carry_out_all
none_left u xs p = refl

pub reach_none : (u : CUnit) (xs : List Value) (p : Progress) → Reaches u xs [] p p
reach_none u xs p = record { is = λ rest. refl }

pub reach_more : (u : CUnit) (xs : List Value) (s : Stmt) (ss : List Stmt) (p q r : Progress) → (carry_out u xs s p).value ≡ Ok q → Reaches u xs ss q r → Reaches u xs (s ∷ ss) p r
reach_more u xs s ss p q r e h = record { is = λ rest. one_done u xs s (ss ++ rest) p q e ∙ h.is rest }

pub reach_both : (u : CUnit) (xs : List Value) (ss ts : List Stmt) (p q r : Progress) → Reaches u xs ss p q → Reaches u xs ts q r → Reaches u xs (ss ++ ts) p r
reach_both u xs ss ts p q r h g = record { is = λ rest. ap (λ (z : List Stmt). (carry_out_all u xs z p).value) (append_assoc ss ts rest) ∙ h.is (ts ++ rest) ∙ g.is rest }

pub reach_end : (u : CUnit) (xs : List Value) (ss : List Stmt) (p q : Progress) → Reaches u xs ss p q → (carry_out_all u xs ss p).value ≡ Ok q
reach_end u xs ss p q h = ap (λ (z : List Stmt). (carry_out_all u xs z p).value) (sym (append-nil ss)) ∙ h.is [] ∙ none_left u xs q

-- ---- lists with an element set

pub set_here : {A : Type 0} (xs : List A) (k : ℕ) (v : A) → k < length xs → slice_get (slice_set xs k v) k ≡ Some v
set_here [] k v b = absurd (omega (arith, b))
set_here (x ∷ xs) zero v b = refl
set_here (x ∷ xs) (suc k) v b = set_here xs k v (omega (arith, b))

pub set_other : {A : Type 0} (xs : List A) (k i : ℕ) (v : A) → (i ≡ k → ⊥) → slice_get (slice_set xs k v) i ≡ slice_get xs i
set_other [] k i v h = refl
set_other (x ∷ xs) zero zero v h = absurd (h refl)
set_other (x ∷ xs) zero (suc i) v h = refl
set_other (x ∷ xs) (suc k) zero v h = refl
set_other (x ∷ xs) (suc k) (suc i) v h = set_other xs k i v (λ e. h (ap suc e))

pub set_length : {A : Type 0} (xs : List A) (k : ℕ) (v : A) → length (slice_set xs k v) ≡ length xs
set_length [] k v = refl
set_length (x ∷ xs) zero v = refl
set_length (x ∷ xs) (suc k) v = ap suc (set_length xs k v)

-- ---- places counted around

-- a place that is at most once around
pub around : (a n : ℕ) → n ≤ a → a < n + n → a % n ≡ a - n
around a n l b =
    let r : a - n < n = omega (arith, l, b) in
    let e : a ≡ 1 * n + (a - n) = omega (arith, l) in
    ap (λ (k : ℕ). k % n) e ∙ digits_mod 1 r

-- one place behind the next place
pub next_place : (i j n : ℕ) → i < n → j < n → ((i + 1) % n + j) % n ≡ (i + suc j) % n
next_place i j n b c = by (nat_lt (i + 1) n) refl
  where
    by : (d : Bool) → nat_lt (i + 1) n ≡ d → ((i + 1) % n + j) % n ≡ (i + suc j) % n
    by true q =
        let l : i + 1 < n = grind (arith, nat_tests, q) in
        let e : (i + 1) + j ≡ i + suc j = omega arith in
        ap (λ (k : ℕ). (k + j) % n) (mod-eq_of_lt l) ∙ ap (λ (k : ℕ). k % n) e
    by false q =
        let l : n ≤ i + 1 = grind (arith, nat_tests, q) in
        let z : (i + 1) - n ≡ 0 = omega (arith, b) in
        let f : (i + 1) % n ≡ 0 = around (i + 1) n l (omega (arith, b)) ∙ z in
        let g : 0 + j ≡ j = omega arith in
        let h : (i + suc j) - n ≡ j = omega (arith, l, b) in
        ap (λ (k : ℕ). (k + j) % n) f ∙ ap (λ (k : ℕ). k % n) g ∙ mod-eq_of_lt c ∙ sym (around (i + suc j) n (omega (arith, l)) (omega (arith, b, c)) ∙ h)

-- once around is the place itself
pub whole_round : (i n : ℕ) → i < n → (i + n) % n ≡ i
whole_round i n b = let e : (i + n) - n ≡ i = omega arith in around (i + n) n (omega arith) (omega (arith, b)) ∙ e

-- less than once around is another place
pub other_place : (i d n : ℕ) → i < n → 0 < d → d < n → (i + d) % n ≡ i → ⊥
other_place i d n b p c e = by (nat_lt (i + d) n) refl
  where
    by : (t : Bool) → nat_lt (i + d) n ≡ t → ⊥
    by true q =
        let l : i + d < n = grind (arith, nat_tests, q) in
        let f : i + d ≡ i = sym (mod-eq_of_lt l) ∙ e in
        omega (arith, f, p)
    by false q =
        let l : n ≤ i + d = grind (arith, nat_tests, q) in
        let f : (i + d) - n ≡ i = sym (around (i + d) n l (omega (arith, b, c))) ∙ e in
        omega (arith, f, c, l)

pub place_below : (a n : ℕ) → 0 < n → a % n < n
place_below a n p = omega (arith, p)
