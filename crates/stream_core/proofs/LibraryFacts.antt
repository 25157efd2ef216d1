-- What the sentences of the library say from step to step.
use Rattle.std.proofs.Common.{◌≡◌, ◌++◌, ℕ, zero, suc, ◌+◌, ◌<◌, List, [], ◌∷◌, refl, sym, ap, ◌∙◌, arith, Bool, true, false, nat_lt, Ok, Err}
use Rattle.std.specs.Prelude.{nat_le, ◌&&◌, ◌||◌, if◌then◌else◌, slice_index}
use Rattle.std.proofs.lemmas.Bool.Decides.{nat_tests}
use Rattle.std.proofs.Math.Numerals.{add-one}
use Rattle.stream_core.specs.declared.node.LibForm.TheVariants as form
use Rattle.stream_core.specs.Library.{some_below, each_below, once, since, bind, bool_word, is_true_word, form_value}
use Rattle.stream_core.specs.Term.{Term, or, stream, lib, end, more}
use Rattle.stream_core.specs.Eval.{Moment, Value, value, on_test, one, entry_at, first_word, operand_word}
use Rattle.std.proofs.Math.Bool.{and-true}
use Rattle.sm_io.proofs.Truths.{or_spreads}

-- ---- sentences

once_now : (p : ℕ → Bool) (t : ℕ) → once p t ≡ (some_below t p || p t)
once_now p t = ap (λ n. some_below n p) (add-one t)

once_next : (p : ℕ → Bool) (t : ℕ) → once p (suc t) ≡ (once p t || p (suc t))
once_next p t = once_now p (suc t) ∙ ap (λ n. some_below n p || p (suc t)) (sym (add-one t))

some_same : (n : ℕ) (p q : ℕ → Bool) → ((j : ℕ) → j < n → p j ≡ q j) → some_below n p ≡ some_below n q
some_same zero p q h = refl
some_same (suc n) p q h = let a = some_same n p q (λ j b. h j (omega arith)) in let b = h n (omega arith) in cc

each_same : (n : ℕ) (p q : ℕ → Bool) → ((j : ℕ) → j < n → p j ≡ q j) → each_below n p ≡ each_below n q
each_same zero p q h = refl
each_same (suc n) p q h = let a = each_same n p q (λ j b. h j (omega arith)) in let b = h n (omega arith) in cc

each_true : (n : ℕ) (p : ℕ → Bool) → ((j : ℕ) → j < n → p j ≡ true) → each_below n p ≡ true
each_true zero p h = refl
each_true (suc n) p h = let a = each_true n p (λ j b. h j (omega arith)) in let b = h n (omega arith) in cc

-- a test that does not depend on the number goes out
some_and : (n : ℕ) (p : ℕ → Bool) (b : Bool) → some_below n (λ j. p j && b) ≡ (some_below n p && b)
some_and zero p true = refl
some_and zero p false = refl
some_and (suc n) p b = ap (λ x. x || (p n && b)) (some_and n p b) ∙ or_spreads (some_below n p) (p n) b

and_assoc' : (x y z : Bool) → (x && (y && z)) ≡ ((x && y) && z)
and_assoc' true y z = refl
and_assoc' false y z = refl

later_false : (j t : ℕ) → j < t → nat_le t j ≡ false
later_false j t h = grind (arith, nat_tests, h)

below_true : (i t : ℕ) (b : Bool) → i < suc t → (nat_le i t || b) ≡ true
below_true i t b h = let e : nat_le i t ≡ true = grind (arith, nat_tests, h) in ap (λ x. x || b) e

abbrev sentence : (ℕ → Bool) → (ℕ → Bool) → ℕ → Bool
sentence p q n = some_below n (λ j. q j && each_below n (λ i. nat_le i j || p i))

-- q at this step, or p at this step and what held at the step before
sentence_next : (p q : ℕ → Bool) (t : ℕ) → sentence p q (suc t) ≡ ((sentence p q t && p t) || q t)
sentence_next p q t =
    let first : some_below t (λ j. q j && each_below (suc t) (λ i. nat_le i j || p i)) ≡ (sentence p q t && p t) =
    some_same t (λ j. q j && each_below (suc t) (λ i. nat_le i j || p i)) (λ j. (q j && each_below t (λ i. nat_le i j || p i)) && p t) (λ j b. and_assoc' (q j) (each_below t (λ i. nat_le i j || p i)) (nat_le t j || p t) ∙ ap (λ x. (q j && each_below t (λ i. nat_le i j || p i)) && (x || p t)) (later_false j t b))
    ∙ some_and t (λ j. q j && each_below t (λ i. nat_le i j || p i)) (p t) in
    let last : (q t && each_below (suc t) (λ i. nat_le i t || p i)) ≡ q t =
    ap (λ x. q t && x) (each_true (suc t) (λ i. nat_le i t || p i) (λ i b. below_true i t (p i) b)) ∙ and-true (q t) in
    cc

since_now : (p q : ℕ → Bool) (t : ℕ) → since p q t ≡ ((sentence p q t && p t) || q t)
since_now p q t = ap (sentence p q) (add-one t) ∙ sentence_next p q t

-- ---- lowered forms

-- whether operand j of form k held at an earlier step
abbrev held_at : Moment → ℕ → ℕ → ℕ → Bool
held_at m k j i = is_true_word (first_word (entry_at m.table (m.place k + j) i))

before_now : (m : Moment) (k : ℕ) (now : List ℕ) (j i : ℕ) → i < m.time → is_true_word (operand_word m k now j i) ≡ held_at m k j i
before_now m k now j i h =
    let e : nat_lt i m.time ≡ true = grind (arith, nat_tests, h) in
    ap (λ b. is_true_word (if b then first_word (entry_at m.table (m.place k + j) i) else slice_index now j)) e

at_now : (m : Moment) (k : ℕ) (now : List ℕ) (j : ℕ) → operand_word m k now j m.time ≡ slice_index now j
at_now m k now j =
    let e : nat_lt m.time m.time ≡ false = grind (arith, nat_tests) in
    ap (λ b. if b then first_word (entry_at m.table (m.place k + j) m.time) else slice_index now j) e

on_test_of : (b c : Bool) (x : List ℕ) (w : ℕ) → is_true_word w ≡ b → on_test (Ok (w ∷ x)) (Ok (1 ∷ [])) (Ok (bool_word c ∷ [])) ≡ Ok (bool_word (c || b) ∷ [])
on_test_of true true x w e = ap (λ b. if b then Ok (1 ∷ []) else Ok (1 ∷ [])) e
on_test_of true false x w e = ap (λ b. if b then Ok (1 ∷ []) else Ok (0 ∷ [])) e
on_test_of false true x w e = ap (λ b. if b then Ok (1 ∷ []) else Ok (1 ∷ [])) e
on_test_of false false x w e = ap (λ b. if b then Ok (1 ∷ []) else Ok (0 ∷ [])) e

-- `once`, as the operand or what the buffer holds
once_lowered : (m m' : Moment) (b k : ℕ) (p p' : Term) → m'.time ≡ m.time → value m' p' ≡ value m p
    → ((w : List ℕ) → value m p ≡ Ok w → (x : ℕ) × (w ≡ x ∷ []))
    → entry_at m'.table b m.time ≡ bool_word (some_below m.time (held_at m k 0)) ∷ []
    → value m' (or p' (stream b)) ≡ value m (lib k form.Once (more p end))
once_lowered m m' b k p p' time same shape buffer = by_value (value m p) same shape refl
  where
    by_value : (v : Value) → value m' p' ≡ v → ((w : List ℕ) → v ≡ Ok w → (x : ℕ) × (w ≡ x ∷ [])) → value m p ≡ v → value m' (or p' (stream b)) ≡ value m (lib k form.Once (more p end))
    by_value (Err h) same shape is =
        ap (λ v. on_test v (Ok (1 ∷ [])) (value m' (stream b))) same ∙ sym (ap (λ v. bind (bind v (λ x. bind (Ok []) (λ xs. Ok (x ++ xs)))) (λ now. one (form_value form.Once m.time (operand_word m k now)))) is)
    by_value (Ok w) same shape is =
        let one_word = shape w refl in
        let x = one_word.0 in
        let w_is : w ≡ x ∷ [] = one_word.1 in
        let now : List ℕ = x ∷ [] in
        let P : ℕ → Bool = λ i. is_true_word (operand_word m k now 0 i) in
        let left : value m' (or p' (stream b)) ≡ Ok (bool_word (some_below m.time (held_at m k 0) || is_true_word x) ∷ []) =
        ap (λ v. on_test v (Ok (1 ∷ [])) (Ok (entry_at m'.table b m'.time))) (same ∙ ap Ok w_is)
        ∙ ap (λ e. on_test (Ok (x ∷ [])) (Ok (1 ∷ [])) (Ok e)) (ap (entry_at m'.table b) time ∙ buffer)
        ∙ on_test_of (is_true_word x) (some_below m.time (held_at m k 0)) [] x refl in
        let holds : once P m.time ≡ (some_below m.time (held_at m k 0) || is_true_word x) =
        once_now P m.time ∙ ap (λ c. c || P m.time) (some_same m.time P (held_at m k 0) (λ i h. before_now m k now 0 i h)) ∙ ap (λ n. some_below m.time (held_at m k 0) || is_true_word n) (at_now m k now 0) in
        let right : value m (lib k form.Once (more p end)) ≡ Ok (bool_word (once P m.time) ∷ []) =
        ap (λ v. bind (bind v (λ x. bind (Ok []) (λ xs. Ok (x ++ xs)))) (λ now. one (form_value form.Once m.time (operand_word m k now)))) (is ∙ ap Ok w_is) in
        left ∙ ap (λ c. Ok (bool_word c ∷ [])) (sym holds) ∙ sym right
