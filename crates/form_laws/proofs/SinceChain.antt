-- The chain of a bounded `since` over the values of its buffers.
use Rattle.std.proofs.Common.{◌≡◌, ◌+◌, ◌-◌, ◌<◌, ◌≤◌, ℕ, zero, suc, [], ◌∷◌, refl, sym, ap, ◌∙◌, arith, Bool, true, false, Ok}
use Rattle.std.specs.Prelude.{nat_le, ◌&&◌, ◌||◌, not, if◌then◌else◌}
use Rattle.std.proofs.Math.Bool.{or-false}
use Rattle.std.proofs.Math.Numerals.{add-one}
use Rattle.std.proofs.lemmas.Bool.Decides.{nat_tests}
use Rattle.stream_core.specs.Library.{some_below, each_below, bool_word, within, since_in}
use Rattle.stream_core.specs.Term.{Term, or, and, choose}
use Rattle.stream_core.specs.Eval.{Moment, value, on_test}
use Rattle.stream_core.specs.Lower.{ago, since_from}
use Rattle.form_laws.proofs.Chains.{on_or, on_and}

some_same : (n : ℕ) (p q : ℕ → Bool) → ((j : ℕ) → j < n → p j ≡ q j) → some_below n p ≡ some_below n q
some_same zero p q h = refl
some_same (suc n) p q h = let a = some_same n p q (λ j b. h j (omega (arith, b))) in let b = h n (omega arith) in cc

each_same : (n : ℕ) (p q : ℕ → Bool) → ((j : ℕ) → j < n → p j ≡ q j) → each_below n p ≡ each_below n q
each_same zero p q h = refl
each_same (suc n) p q h = let a = each_same n p q (λ j b. h j (omega (arith, b))) in let b = h n (omega arith) in cc

-- ---- the sentence from a distance on

-- q at this distance, and p at each smaller one
abbrev pub reached : (ℕ → Bool) → (ℕ → Bool) → ℕ → Bool
reached q p i = q i && each_below i p

-- q at a distance from i on, n more at most, and p at each from i up to it
abbrev pub reached_from : (ℕ → Bool) → (ℕ → Bool) → ℕ → ℕ → Bool
reached_from q p i zero = q i
reached_from q p i (suc n) = q i || (p i && reached_from q p (i + 1) n)

last_one : (a q e : Bool) → (a || (q && e)) ≡ (a || (e && q))
last_one true q e = refl
last_one false true true = refl
last_one false true false = refl
last_one false false true = refl
last_one false false false = refl

regrouped : (a q e p s : Bool) → ((a || (q && e)) || ((e && p) && s)) ≡ (a || (e && (q || (p && s))))
regrouped true q e p s = refl
regrouped false true true p s = refl
regrouped false true false p s = refl
regrouped false false true p s = refl
regrouped false false false p s = refl

pub reached_in_two : (q p : ℕ → Bool) (n i : ℕ) → some_below (suc (i + n)) (reached q p) ≡ (some_below i (reached q p) || (each_below i p && reached_from q p i n))
reached_in_two q p zero i = let e : i + 0 ≡ i = omega arith in ap (λ k. some_below (suc k) (reached q p)) e ∙ last_one (some_below i (reached q p)) (q i) (each_below i p)
reached_in_two q p (suc n) i =
    let e : i + suc n ≡ (i + 1) + n = omega arith in
    ap (λ k. some_below (suc k) (reached q p)) e ∙ reached_in_two q p n (i + 1)
    ∙ ap (λ k. some_below k (reached q p) || (each_below k p && reached_from q p (i + 1) n)) (add-one i)
    ∙ regrouped (some_below i (reached q p)) (q i) (each_below i p) (p i) (reached_from q p (i + 1) n)

-- ---- its value

-- what the two operands were at a distance
abbrev pub held_ago : ℕ → ℕ → (ℕ → Bool) → ℕ → Bool
held_ago low t r i = within low t i && r (t - i)

abbrev pub kept_ago : ℕ → (ℕ → Bool) → ℕ → Bool
kept_ago t r i = not (within 0 t i) || r (t - i)

within_both : (b x y z : Bool) → (b ≡ true → y ≡ z) → (b && x && y) ≡ ((b && x) && z)
within_both true x y z h = ap (λ w. x && w) (h refl)
within_both false x y z h = refl

right_true : (a b : Bool) → (a && b) ≡ true → b ≡ true
right_true true b h = h
right_true false b h = absurd (cc)

kept_within : (low t i : ℕ) (r : ℕ → Bool) → within low t i ≡ true → each_below i (λ j. r (t - j)) ≡ each_below i (kept_ago t r)
kept_within low t i r h =
    let e : nat_le i t ≡ true = right_true (nat_le low i) (nat_le i t) h in
    let g : i ≤ t = grind (arith, nat_tests, e) in
    each_same i (λ j. r (t - j)) (kept_ago t r) (λ j below. let w : within 0 t j ≡ true = near t j (omega (arith, g, below)) in ap (λ b. not b || r (t - j)) (sym w))
  where
    near : (t j : ℕ) → j ≤ t → within 0 t j ≡ true
    near t j h = grind (arith, nat_tests, h)

pub since_is_reached : (low high t : ℕ) (p q : ℕ → Bool) → since_in low high p q t ≡ some_below (high + 1) (reached (held_ago low t q) (kept_ago t p))
since_is_reached low high t p q =
    some_same (high + 1) (λ i. within low t i && q (t - i) && each_below i (λ j. p (t - j))) (reached (held_ago low t q) (kept_ago t p))
    (λ i below. within_both (within low t i) (q (t - i)) (each_below i (λ j. p (t - j))) (each_below i (kept_ago t p)) (kept_within low t i p))

-- ---- the chain

after : (b : Bool) (m : Moment) (a c rest : Term) (q p s : Bool) → value m a ≡ Ok (bool_word p ∷ []) → (b ≡ true → value m c ≡ Ok (bool_word q ∷ [])) → (b ≡ false → q ≡ false) → value m rest ≡ Ok (bool_word s ∷ [])
    → value m (if b then or c (and a rest) else and a rest) ≡ Ok (bool_word (q || (p && s)) ∷ [])
after true m a c rest q p s e g none h = on_or q (p && s) (value m c) (value m (and a rest)) (g refl) (on_and p s (value m a) (value m rest) e h)
after false m a c rest q p s e g none h = on_and p s (value m a) (value m rest) e h ∙ ap (λ x. Ok (bool_word (x || (p && s)) ∷ [])) (sym (none refl))

pub since_chain : (m : Moment) (low high b c d : ℕ) (q p : ℕ → Bool) (n i : ℕ) → low ≤ high → i + n ≡ high
    → ((j : ℕ) → i ≤ j → j ≤ high → value m (ago b d j) ≡ Ok (bool_word (p j) ∷ []))
    → ((j : ℕ) → i ≤ j → low ≤ j → j ≤ high → value m (ago c d j) ≡ Ok (bool_word (q j) ∷ []))
    → ((j : ℕ) → j < low → q j ≡ false)
    → value m (since_from low b c d i n) ≡ Ok (bool_word (reached_from q p i n) ∷ [])
since_chain m low high b c d q p zero i ends total hp hq none = hq i (omega arith) (omega (arith, ends, total)) (omega (arith, total))
since_chain m low high b c d q p (suc n) i ends total hp hq none =
    after (nat_le low i) m (ago b d i) (ago c d i) (since_from low b c d (i + 1) n) (q i) (p i) (reached_from q p (i + 1) n)
    (hp i (omega arith) (omega (arith, total)))
    (λ e. let g : low ≤ i = grind (arith, nat_tests, e) in hq i (omega arith) g (omega (arith, total)))
    (λ e. let g : i < low = grind (arith, nat_tests, e) in none i g)
    (since_chain m low high b c d q p n (i + 1) ends (omega (arith, total)) (λ j l u. hp j (omega (arith, l)) u) (λ j l g u. hq j (omega (arith, l)) g u) none)

-- ---- at this step

pub here_and_before : (m : Moment) (e a rest : Term) (p q s : Bool) → value m e ≡ Ok (bool_word p ∷ []) → value m a ≡ Ok (bool_word q ∷ []) → value m rest ≡ Ok (bool_word s ∷ [])
    → value m (choose e (or a rest) a) ≡ Ok (bool_word (q || (p && s)) ∷ [])
here_and_before m e a rest true q s h g k = ap (λ v. on_test v (value m (or a rest)) (value m a)) h ∙ on_or q s (value m a) (value m rest) g k
here_and_before m e a rest false q s h g k = ap (λ v. on_test v (value m (or a rest)) (value m a)) h ∙ g ∙ ap (λ x. Ok (bool_word x ∷ [])) (sym (or-false q))

pub here_alone : (m : Moment) (e a : Term) (p q : Bool) → value m e ≡ Ok (bool_word p ∷ []) → value m a ≡ Ok (bool_word q ∷ []) → value m (choose e a a) ≡ Ok (bool_word q ∷ [])
here_alone m e a true q h g = ap (λ v. on_test v (value m a) (value m a)) h ∙ g
here_alone m e a false q h g = ap (λ v. on_test v (value m a) (value m a)) h ∙ g
