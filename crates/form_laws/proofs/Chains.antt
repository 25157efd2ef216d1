-- Chains of `or` and of `and` over the values of a buffer.
use Rattle.std.proofs.Common.{◌≡◌, ◌+◌, ◌<◌, ◌≤◌, ℕ, zero, suc, [], ◌∷◌, refl, sym, ap, ◌∙◌, arith, Bool, true, false, Ok, Err}
use Rattle.std.specs.Prelude.{◌&&◌, ◌||◌}
use Rattle.std.proofs.Math.Bool.{or-false, and-true, or_assoc, and_assoc}
use Rattle.std.proofs.Math.Numerals.{add-one}
use Rattle.stream_types.specs.declared.scalar.Hazard.{Hazard}
use Rattle.stream_core.specs.Library.{some_below, each_below, bool_word}
use Rattle.stream_core.specs.Term.{Term}
use Rattle.stream_core.specs.Eval.{Moment, Value, value, on_test}
use Rattle.stream_core.specs.Lower.{or_all, and_all, ago, agos}

-- ---- some and each of n numbers from i on

abbrev pub some_from : (ℕ → Bool) → ℕ → ℕ → Bool
some_from r i zero = false
some_from r i (suc n) = r i || some_from r (i + 1) n

abbrev pub each_from : (ℕ → Bool) → ℕ → ℕ → Bool
each_from r i zero = true
each_from r i (suc n) = r i && each_from r (i + 1) n

pub some_in_two : (r : ℕ → Bool) (i n : ℕ) → some_below (i + n) r ≡ (some_below i r || some_from r i n)
some_in_two r i zero = let e : i + 0 ≡ i = omega arith in ap (λ k. some_below k r) e ∙ sym (or-false (some_below i r))
some_in_two r i (suc n) =
    let e : i + suc n ≡ (i + 1) + n = omega arith in
    ap (λ k. some_below k r) e ∙ some_in_two r (i + 1) n
    ∙ ap (λ k. some_below k r || some_from r (i + 1) n) (add-one i) ∙ or_assoc (some_below i r) (r i) (some_from r (i + 1) n)

pub each_in_two : (r : ℕ → Bool) (i n : ℕ) → each_below (i + n) r ≡ (each_below i r && each_from r i n)
each_in_two r i zero = let e : i + 0 ≡ i = omega arith in ap (λ k. each_below k r) e ∙ sym (and-true (each_below i r))
each_in_two r i (suc n) =
    let e : i + suc n ≡ (i + 1) + n = omega arith in
    ap (λ k. each_below k r) e ∙ each_in_two r (i + 1) n
    ∙ ap (λ k. each_below k r && each_from r (i + 1) n) (add-one i) ∙ and_assoc (each_below i r) (r i) (each_from r (i + 1) n)

pub none_below : (n : ℕ) (r : ℕ → Bool) → ((j : ℕ) → j < n → r j ≡ false) → some_below n r ≡ false
none_below zero r h = refl
none_below (suc n) r h = let a = none_below n r (λ j b. h j (omega (arith, b))) in let b = h n (omega arith) in cc

pub all_below : (n : ℕ) (r : ℕ → Bool) → ((j : ℕ) → j < n → r j ≡ true) → each_below n r ≡ true
all_below zero r h = refl
all_below (suc n) r h = let a = all_below n r (λ j b. h j (omega (arith, b))) in let b = h n (omega arith) in cc

-- ---- tests of words

pub on_or : (a b : Bool) (v w : Value) → v ≡ Ok (bool_word a ∷ []) → w ≡ Ok (bool_word b ∷ []) → on_test v (Ok (1 ∷ [])) w ≡ Ok (bool_word (a || b) ∷ [])
on_or true b v w e g = ap (λ x. on_test x (Ok (1 ∷ [])) w) e
on_or false b v w e g = ap (λ x. on_test x (Ok (1 ∷ [])) w) e ∙ g

pub on_and : (a b : Bool) (v w : Value) → v ≡ Ok (bool_word a ∷ []) → w ≡ Ok (bool_word b ∷ []) → on_test v w (Ok (0 ∷ [])) ≡ Ok (bool_word (a && b) ∷ [])
on_and true b v w e g = ap (λ x. on_test x w (Ok (0 ∷ []))) e ∙ g
on_and false b v w e g = ap (λ x. on_test x w (Ok (0 ∷ []))) e

-- ---- chains

-- what is read i to i + n - 1 steps ago
abbrev pub AreAgo : Moment → ℕ → ℕ → (ℕ → Bool) → ℕ → ℕ → Type 0
AreAgo m b d r i n = (j : ℕ) → i ≤ j → j < i + n → value m (ago b d j) ≡ Ok (bool_word (r j) ∷ [])

pub or_chain : (m : Moment) (b d : ℕ) (r : ℕ → Bool) (n i : ℕ) (a : Term) (c : Bool) → value m a ≡ Ok (bool_word c ∷ []) → AreAgo m b d r i n → value m (or_all a (agos b d i n)) ≡ Ok (bool_word (c || some_from r i n) ∷ [])
or_chain m b d r zero i a c e h = e ∙ ap (λ x. Ok (bool_word x ∷ [])) (sym (or-false c))
or_chain m b d r (suc n) i a c e h =
    on_or c (r i || some_from r (i + 1) n) (value m a) (value m (or_all (ago b d i) (agos b d (i + 1) n))) e
    (or_chain m b d r n (i + 1) (ago b d i) (r i) (h i (omega arith) (omega arith)) (λ j l u. h j (omega (arith, l)) (omega (arith, u))))

pub and_chain : (m : Moment) (b d : ℕ) (r : ℕ → Bool) (n i : ℕ) (a : Term) (c : Bool) → value m a ≡ Ok (bool_word c ∷ []) → AreAgo m b d r i n → value m (and_all a (agos b d i n)) ≡ Ok (bool_word (c && each_from r i n) ∷ [])
and_chain m b d r zero i a c e h = e ∙ ap (λ x. Ok (bool_word x ∷ [])) (sym (and-true c))
and_chain m b d r (suc n) i a c e h =
    on_and c (r i && each_from r (i + 1) n) (value m a) (value m (and_all (ago b d i) (agos b d (i + 1) n))) e
    (and_chain m b d r n (i + 1) (ago b d i) (r i) (h i (omega arith) (omega arith)) (λ j l u. h j (omega (arith, l)) (omega (arith, u))))

-- ---- hazards

pub or_stops : (m : Moment) (b d : ℕ) (n i : ℕ) (a : Term) (h : Hazard) → value m a ≡ Err h → value m (or_all a (agos b d i n)) ≡ Err h
or_stops m b d zero i a h e = e
or_stops m b d (suc n) i a h e = ap (λ x. on_test x (Ok (1 ∷ [])) (value m (or_all (ago b d i) (agos b d (i + 1) n)))) e

pub and_stops : (m : Moment) (b d : ℕ) (n i : ℕ) (a : Term) (h : Hazard) → value m a ≡ Err h → value m (and_all a (agos b d i n)) ≡ Err h
and_stops m b d zero i a h e = e
and_stops m b d (suc n) i a h e = ap (λ x. on_test x (value m (and_all (ago b d i) (agos b d (i + 1) n))) (Ok (0 ∷ []))) e
