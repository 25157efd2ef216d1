-- What a sentence said before this step, with this step, says now.
use Rattle.std.proofs.Common.{◌≡◌, ℕ, zero, suc, ◌+◌, ◌<◌, refl, ap, ◌∙◌, arith, Bool, true, false}
use Rattle.std.specs.Prelude.{nat_le, ◌&&◌, ◌||◌}
use Rattle.std.proofs.lemmas.Bool.Decides.{nat_tests}
use Rattle.std.proofs.Math.Numerals.{add-one}
use Rattle.std.proofs.Math.Bool.{and-true}
use Rattle.stream_core.specs.Library.{some_below, each_below, once, historically, since, bool_word}
use Rattle.form_laws.specs.Buffers.{followed}

pub some_same : (n : ℕ) (p q : ℕ → Bool) → ((j : ℕ) → j < n → p j ≡ q j) → some_below n p ≡ some_below n q
some_same zero p q h = refl
some_same (suc n) p q h = let a = some_same n p q (λ j b. h j (omega arith)) in let b = h n (omega arith) in cc

pub each_same : (n : ℕ) (p q : ℕ → Bool) → ((j : ℕ) → j < n → p j ≡ q j) → each_below n p ≡ each_below n q
each_same zero p q h = refl
each_same (suc n) p q h = let a = each_same n p q (λ j b. h j (omega arith)) in let b = h n (omega arith) in cc

each_true : (n : ℕ) (p : ℕ → Bool) → ((j : ℕ) → j < n → p j ≡ true) → each_below n p ≡ true
each_true zero p h = refl
each_true (suc n) p h = let a = each_true n p (λ j b. h j (omega arith)) in let b = h n (omega arith) in cc

with_either : (a c b : Bool) → ((a && b) || (c && b)) ≡ ((a || c) && b)
with_either true c true = refl
with_either true true false = refl
with_either true false false = refl
with_either false c b = refl

some_and : (n : ℕ) (p : ℕ → Bool) (b : Bool) → some_below n (λ j. p j && b) ≡ (some_below n p && b)
some_and zero p true = refl
some_and zero p false = refl
some_and (suc n) p b = ap (λ x. x || (p n && b)) (some_and n p b) ∙ with_either (some_below n p) (p n) b

both_then : (x y z : Bool) → (x && (y && z)) ≡ ((x && y) && z)
both_then true y z = refl
both_then false y z = refl

later_false : (j t : ℕ) → j < t → nat_le t j ≡ false
later_false j t h = grind (arith, nat_tests, h)

below_true : (i t : ℕ) (b : Bool) → i < suc t → (nat_le i t || b) ≡ true
below_true i t b h = let e : nat_le i t ≡ true = grind (arith, nat_tests, h) in ap (λ x. x || b) e

-- the sentence of `since` over the steps below n
abbrev pub since_below : (ℕ → Bool) → (ℕ → Bool) → ℕ → Bool
since_below p q n = some_below n (λ j. q j && each_below n (λ i. nat_le i j || p i))

since_next : (p q : ℕ → Bool) (t : ℕ) → since_below p q (suc t) ≡ ((since_below p q t && p t) || q t)
since_next p q t =
    let first : some_below t (λ j. q j && each_below (suc t) (λ i. nat_le i j || p i)) ≡ (since_below p q t && p t) =
    some_same t (λ j. q j && each_below (suc t) (λ i. nat_le i j || p i)) (λ j. (q j && each_below t (λ i. nat_le i j || p i)) && p t) (λ j b. both_then (q j) (each_below t (λ i. nat_le i j || p i)) (nat_le t j || p t) ∙ ap (λ x. (q j && each_below t (λ i. nat_le i j || p i)) && (x || p t)) (later_false j t b))
    ∙ some_and t (λ j. q j && each_below t (λ i. nat_le i j || p i)) (p t) in
    let last : (q t && each_below (suc t) (λ i. nat_le i t || p i)) ≡ q t =
    ap (λ x. q t && x) (each_true (suc t) (λ i. nat_le i t || p i) (λ i b. below_true i t (p i) b)) ∙ and-true (q t) in
    cc

pub same_since : (n : ℕ) (p p' q q' : ℕ → Bool) → ((i : ℕ) → i < n → p i ≡ p' i) → ((i : ℕ) → i < n → q i ≡ q' i) → since_below p q n ≡ since_below p' q' n
same_since n p p' q q' h g =
    some_same n (λ j. q j && each_below n (λ i. nat_le i j || p i)) (λ j. q' j && each_below n (λ i. nat_le i j || p' i)) (λ j b.
    ap (λ x. x && each_below n (λ i. nat_le i j || p i)) (g j b)
    ∙ ap (λ x. q' j && x) (each_same n (λ i. nat_le i j || p i) (λ i. nat_le i j || p' i) (λ i c. ap (λ x. nat_le i j || x) (h i c))))

-- ---- over the tests before step t, and those with this step

pub once_with : (t : ℕ) (old new : ℕ → Bool) (x : Bool) → ((i : ℕ) → i < t → new i ≡ old i) → new t ≡ x → once new t ≡ (some_below t old || x)
once_with t old new x h e = ap (λ n. some_below n new) (add-one t) ∙ ap (λ c. c || new t) (some_same t new old h) ∙ ap (λ c. some_below t old || c) e

pub historically_with : (t : ℕ) (old new : ℕ → Bool) (x : Bool) → ((i : ℕ) → i < t → new i ≡ old i) → new t ≡ x → historically new t ≡ (each_below t old && x)
historically_with t old new x h e = ap (λ n. each_below n new) (add-one t) ∙ ap (λ c. c && new t) (each_same t new old h) ∙ ap (λ c. each_below t old && c) e

pub since_with : (t : ℕ) (p p' q q' : ℕ → Bool) (x y : Bool) → ((i : ℕ) → i < t → p' i ≡ p i) → ((i : ℕ) → i < t → q' i ≡ q i) → p' t ≡ x → q' t ≡ y → since p' q' t ≡ ((since_below p q t && x) || y)
since_with t p p' q q' x y h g e d =
    ap (since_below p' q') (add-one t) ∙ since_next p' q' t
    ∙ ap (λ c. (c && p' t) || q' t) (same_since t p' p q' q h g)
    ∙ ap (λ c. (since_below p q t && c) || q' t) e
    ∙ ap (λ c. (since_below p q t && x) || c) d

-- ---- what the buffers hold before step t

pub once_before : (q : ℕ → Bool) (t : ℕ) → followed 0 (once q) t ≡ bool_word (some_below t q)
once_before q zero = refl
once_before q (suc i) = ap (λ n. bool_word (some_below n q)) (add-one i)

pub historically_before : (q : ℕ → Bool) (t : ℕ) → followed 1 (historically q) t ≡ bool_word (each_below t q)
historically_before q zero = refl
historically_before q (suc i) = ap (λ n. bool_word (each_below n q)) (add-one i)

pub since_before : (p q : ℕ → Bool) (t : ℕ) → followed 0 (since p q) t ≡ bool_word (since_below p q t)
since_before p q zero = refl
since_before p q (suc i) = ap (λ n. bool_word (since_below p q n)) (add-one i)

-- what a buffer takes at step t stands at entry 1 + t
pub follows : (w : ℕ) (sentence : ℕ → Bool) (t : ℕ) → followed w sentence (1 + t) ≡ bool_word (sentence t)
follows w sentence t = let e : 1 + t ≡ suc t = omega arith in ap (followed w sentence) e
