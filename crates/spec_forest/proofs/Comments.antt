-- Comments, one byte further.
use Rattle.std.proofs.Common.{◌≡◌, ℕ, zero, suc, ◌<◌, Bool, true, false, not, List, refl, ap, ◌∙◌, arith}
use Rattle.std.specs.Prelude.{◌&&◌, ◌||◌, nat_le, slice_index}
use Rattle.std.proofs.lemmas.Bool.Decides.{nat_tests}
use Rattle.spec_forest.specs.Scan.{is_break, is_mark, some_below, has_break, commented}
use Rattle.sm_io.proofs.Truths.{or_spreads}
use Rattle.std.proofs.Math.Bool.{and-true, or-false}

-- ---- truth values

apart : (m b h : Bool) → (m && not (b || h)) ≡ ((m && not h) && not b)
apart true true true = refl
apart true true false = refl
apart true false true = refl
apart true false false = refl
apart false b h = refl

-- ---- numbers below n

some-same : (n : ℕ) (p q : ℕ → Bool) → ((j : ℕ) → j < n → p j ≡ q j) → some_below n p ≡ some_below n q
some-same zero p q h = refl
some-same (suc n) p q h =
    let a : p n ≡ q n = h n (omega arith) in
    let b : some_below n p ≡ some_below n q = some-same n p q (λ j k. h j (omega arith)) in rw (a, b) refl

some-none : (n : ℕ) (p : ℕ → Bool) → ((j : ℕ) → j < n → p j ≡ false) → some_below n p ≡ false
some-none zero p h = refl
some-none (suc n) p h =
    let a : p n ≡ false = h n (omega arith) in
    let b : some_below n p ≡ false = some-none n p (λ j k. h j (omega arith)) in rw (a, b) refl

some-and : (n : ℕ) (p : ℕ → Bool) (c : Bool) → some_below n (λ j. p j && c) ≡ (some_below n p && c)
some-and zero p c = refl
some-and (suc n) p c = ap (λ x. (p n && c) || x) (some-and n p c) ∙ or_spreads (p n) (some_below n p) c

-- ---- comments

no_break : (text : List ℕ) (k : ℕ) → has_break text k k ≡ false
unfolding has_break
no_break text k = some-none k (λ i. nat_le k i && is_break (slice_index text i)) (λ i h. let t : nat_le k i ≡ false = grind (arith, nat_tests) in rw t refl)

one_break : (text : List ℕ) (j k : ℕ) → j < suc k → has_break text j (suc k) ≡ (is_break (slice_index text k) || has_break text j k)
unfolding has_break
one_break text j k h = let t : nat_le j k ≡ true = grind (arith, nat_tests) in rw t refl

pub commented-zero : (text : List ℕ) → commented text 0 ≡ is_mark (slice_index text 0)
unfolding commented
commented-zero text = or-false (is_mark (slice_index text 0) && not (has_break text 0 0)) ∙ rw (no_break text 0) (and-true (is_mark (slice_index text 0)))

pub commented-suc : (text : List ℕ) (k : ℕ) → commented text (suc k) ≡ (is_mark (slice_index text (suc k)) || (commented text k && not (is_break (slice_index text k))))
unfolding commented
commented-suc text k =
    let here : (is_mark (slice_index text (suc k)) && not (has_break text (suc k) (suc k))) ≡ is_mark (slice_index text (suc k)) =
    rw (no_break text (suc k)) (and-true (is_mark (slice_index text (suc k)))) in
    let before : some_below (suc k) (λ j. is_mark (slice_index text j) && not (has_break text j (suc k))) ≡ some_below (suc k) (λ j. (is_mark (slice_index text j) && not (has_break text j k)) && not (is_break (slice_index text k))) =
    some-same (suc k) (λ j. is_mark (slice_index text j) && not (has_break text j (suc k))) (λ j. (is_mark (slice_index text j) && not (has_break text j k)) && not (is_break (slice_index text k)))
    (λ j h. rw (one_break text j k h) (apart (is_mark (slice_index text j)) (is_break (slice_index text k)) (has_break text j k))) in
    let all : some_below (suc k) (λ j. is_mark (slice_index text j) && not (has_break text j (suc k))) ≡ (some_below (suc k) (λ j. is_mark (slice_index text j) && not (has_break text j k)) && not (is_break (slice_index text k))) =
    before ∙ some-and (suc k) (λ j. is_mark (slice_index text j) && not (has_break text j k)) (not (is_break (slice_index text k))) in
    ap (λ x. x || some_below (suc k) (λ j. is_mark (slice_index text j) && not (has_break text j (suc k)))) here ∙ ap (λ x. is_mark (slice_index text (suc k)) || x) all
