-- What the plain expressions that stand for forms weigh.
use Rattle.std.proofs.Common.{◌≡◌, ⊎_elim, ℕ, zero, suc, ◌+◌, ◌-◌, ◌*◌, ◌<◌, ◌≤◌, List, [], ◌∷◌, length, map, refl, ap, ◌∙◌, arith, max}
use Rattle.std.proofs.lemmas.Bool.{cases_lt}
use Rattle.std.proofs.lemmas.Bool.Decides.{nat_tests}
use Rattle.stream_types.specs.declared.scalar.Scalar.{Scalar}
use Rattle.stream_types.specs.declared.scalar.Op2.{Op2}
use Rattle.stream_types.specs.declared.scalar.Op2.TheVariants as op2
use Rattle.stream_types.specs.declared.scalar.Scalar.TheVariants as scalar
use Rattle.stream_core.specs.declared.node.LibForm.{LibForm}
use Rattle.stream_core.specs.declared.node.LibForm.TheVariants as form
use Rattle.stream_core.specs.Term.{Term, bin, and, or, with_defs, TreeStream}
use Rattle.stream_core.specs.Lower.{yes, no, or_all, and_all, ago, agos, since_from, sample, all_of, tests, best, sum_all, count_from, one_vote, wins, majority_from, majority_term, agreed_term, since_in_value, form_term, buffers_of}
use Rattle.stream_core.specs.Limits.{plain_weight}
use Rattle.stream_core.specs.Weights.{total, majority_weight, agreed_weight, best_weight, since_weight, form_weight, buffers_weight}

abbrev pub over : (ℕ → Term) → Term → ℕ
over G e = plain_weight (with_defs G e)

module _ (G : ℕ → Term) where
  -- ---- chains

  or_all_is : (a : Term) (bs : List Term) → over G (or_all a bs) ≡ over G a + (total (map (over G) bs) + length bs)
  or_all_is a [] = omega arith
  or_all_is a (b ∷ bs) = let h = or_all_is b bs in omega (arith, h)

  and_all_is : (a : Term) (bs : List Term) → over G (and_all a bs) ≡ over G a + (total (map (over G) bs) + length bs)
  and_all_is a [] = omega arith
  and_all_is a (b ∷ bs) = let h = and_all_is b bs in omega (arith, h)

  agos_are : (b m i n : ℕ) → total (map (over G) (agos b m i n)) + length (agos b m i n) ≡ 2 * n
  agos_are b m i zero = refl
  agos_are b m i (suc n) = let h = agos_are b m (i + 1) n in omega (arith, h)

  or_agos : (a : Term) (b m i n : ℕ) → over G (or_all a (agos b m i n)) ≡ over G a + 2 * n
  or_agos a b m i n = omega (arith, or_all_is a (agos b m i n), agos_are b m i n)

  and_agos : (a : Term) (b m i n : ℕ) → over G (and_all a (agos b m i n)) ≡ over G a + 2 * n
  and_agos a b m i n = omega (arith, and_all_is a (agos b m i n), agos_are b m i n)

  sum_agos : (s : Scalar) (b m n i : ℕ) (a : Term) → over G (sum_all s a (agos b m i n)) ≡ over G a + 2 * n
  sum_agos s b m zero i a = omega arith
  sum_agos s b m (suc n) i a = let h = sum_agos s b m n (i + 1) (bin op2.Add s a (ago b m i)) in omega (arith, h)

  -- at the nearest step and past it each step is read twice
  since_far : (low p q m i n : ℕ) → low ≤ i → over G (since_from low p q m i n) ≡ 1 + 4 * n
  since_far low p q m i zero h = refl
  since_far low p q m i (suc n) h = let r = since_far low p q m (i + 1) n (omega arith) in grind (arith, nat_tests)

  since_near : (low p q m i n : ℕ) → i ≤ low → over G (since_from low p q m i n) ≡ 1 + 2 * n + 2 * (i + n - low)
  since_near low p q m i zero h = omega (arith, h)
  since_near low p q m i (suc n) h =
      ⊎_elim
      (λ less. let r = since_near low p q m (i + 1) n (omega (arith, less)) in grind (arith, nat_tests))
      (λ le. since_far low p q m i (suc n) le ∙ omega (arith, le, h))
      (cases_lt i low)

  since_in_is : (low high b : ℕ) (p q : Term) → over G (since_in_value b low high p q) ≡ over G p + 2 * over G q + since_weight low high
  since_in_is zero zero b p q = omega arith
  since_in_is (suc low) zero b p q = omega arith
  since_in_is zero (suc high) b p q = let h = since_far 0 b (b + 1) (suc high) 1 high (omega arith) in omega (arith, h)
  since_in_is (suc low) (suc high) b p q = let h = since_near (suc low) b (b + 1) (suc high) 1 high (omega arith) in omega (arith, h)

  -- ---- windows

  sample_is : (b m : ℕ) (e : Term) (i : ℕ) → 0 < i → over G (sample b m e i) ≡ 1
  sample_is b m e zero h = absurd (omega (arith, h))
  sample_is b m e (suc i) h = refl

  all_of_is : (ts : List Term) (w : ℕ) → total (map (over G) ts) + length ts ≡ suc w → over G (all_of ts) ≡ w
  all_of_is [] w h = absurd (omega (arith, h))
  all_of_is (a ∷ ts) w h = omega (arith, h, and_all_is a ts)

  module _ (o : Op2) (s : Scalar) (b m : ℕ) (e : Term) where
    abbrev tested : ℕ → ℕ → ℕ → ℕ
    tested i j n = total (map (over G) (tests (bin o s) (sample b m e) i j n)) + length (tests (bin o s) (sample b m e) i j n)

    tests_past : (n i j : ℕ) → 0 < i → i < j → tested i j n ≡ 4 * n
    tests_past zero i j p q = refl
    tests_past (suc n) i j p q =
        let r = tests_past n i (j + 1) p (omega (arith, q)) in
        let x = sample_is b m e i p in
        let y = sample_is b m e j (omega (arith, q)) in
        grind (arith, nat_tests)

    tests_around : (n i j : ℕ) → 0 < j → j ≤ i → i < j + n → tested i j n + 4 ≡ 4 * n
    tests_around zero i j p q h = absurd (omega (arith, q, h))
    tests_around (suc n) i j p q h =
        ⊎_elim
        (λ less.
        let r = tests_around n i (j + 1) (omega arith) (omega (arith, less)) (omega (arith, h)) in
        let x = sample_is b m e i (omega (arith, less)) in
        let y = sample_is b m e j p in
        grind (arith, nat_tests))
        (λ le. let r = tests_past n i (j + 1) (omega (arith, p, q)) (omega (arith, le)) in grind (arith, nat_tests))
        (cases_lt j i)

    tests_first : (n j : ℕ) → 0 < j → tested 0 j n ≡ n * (over G e + 3)
    tests_first zero j p = omega arith
    tests_first (suc n) j p =
        let r = tests_first n (j + 1) (omega arith) in
        let y = sample_is b m e j p in
        grind (arith, nat_tests)

    best_later : (k n i : ℕ) → 0 < i → i + n ≡ k + 1 → over G (best (bin o s) (sample b m e) (suc (suc k)) i n) ≡ n * (over G e + 4 * k + 4) + 1
    best_later k zero i p h = let x = sample_is b m e i p in omega (arith, x)
    best_later k (suc n) i p h =
        let rest = best_later k n (i + 1) (omega arith) (omega (arith, h)) in
        let x = sample_is b m e i p in
        let r = tests_around (suc k) i 1 (omega arith) (omega (arith, p)) (omega (arith, h)) in
        let all : tested i 0 (suc (suc k)) ≡ suc (over G e + 4 * k + 2) = grind (arith, nat_tests) in
        let a = all_of_is (tests (bin o s) (sample b m e) i 0 (suc (suc k))) (over G e + 4 * k + 2) all in
        omega (arith, rest, x, a)

    best_of : (n : ℕ) → over G (best (bin o s) (sample b m e) n 0 (n - 1)) ≡ best_weight n (over G e)
    best_of zero = refl
    best_of (suc zero) = refl
    best_of (suc (suc k)) = ap (λ r. over G (best (bin o s) (sample b m e) (suc (suc k)) 0 r)) less ∙ first
      where
        less : suc (suc k) - 1 ≡ suc k
        less = omega arith

        first : over G (best (bin o s) (sample b m e) (suc (suc k)) 0 (suc k)) ≡ best_weight (suc (suc k)) (over G e)
        first =
            let rest = best_later k k 1 (omega arith) (omega arith) in
            let r = tests_first (suc k) 1 (omega arith) in
            let a = all_of_is (tests (bin o s) (sample b m e) 0 0 (suc (suc k))) (k * (over G e + 3) + over G e + 2) (r ∙ omega arith) in
            omega (arith, rest, a)

  -- ---- votes

  count_from_is : (s : Scalar) (a : Term) (bs : List Term) (sum_ : Term) → over G (count_from s a sum_ bs) ≡ over G sum_ + (length bs * (over G a + 5) + total (map (over G) bs))
  count_from_is s a [] sum_ = omega arith
  count_from_is s a (b ∷ bs) sum_ = let h = count_from_is s a bs (bin op2.Add scalar.Word8 sum_ (one_vote s a b)) in omega (arith, h)

  wins_is : (s : Scalar) (e : Term) (es : List Term) (a : Term) → over G (wins s (e ∷ es) a) ≡ suc (length es) * (over G a + 5) + (total (map (over G) (e ∷ es)) + 1)
  wins_is s e es a = let h = count_from_is s a es (one_vote s a e) in omega (arith, h)

  majority_from_is : (s : Scalar) (e : Term) (es : List Term) (first : Term) (as_ : List Term) → let n = suc (length es) in let all = total (map (over G) (e ∷ es)) in over G (majority_from s (e ∷ es) first as_) ≡ length as_ * (5 * n + all + 2) + (n + 1) * total (map (over G) as_) + over G first
  majority_from_is s e es first [] = omega arith
  majority_from_is s e es first (a ∷ as_) = let h = majority_from_is s e es first as_ in let w = wins_is s e es a in omega (arith, h, w)

  wins_are : (s : Scalar) (e : Term) (es as_ : List Term) → let n = suc (length es) in let all = total (map (over G) (e ∷ es)) in total (map (over G) (map (wins s (e ∷ es)) as_)) ≡ length as_ * (5 * n + all + 1) + n * total (map (over G) as_)
  wins_are s e es [] = omega arith
  wins_are s e es (a ∷ as_) = let h = wins_are s e es as_ in let w = wins_is s e es a in omega (arith, h, w)

  lengths : (f : Term → Term) (es : List Term) → length (map f es) ≡ length es
  lengths f [] = refl
  lengths f (e ∷ es) = ap suc (lengths f es)

  counts : (es : List Term) → length (map (over G) es) ≡ length es
  counts [] = refl
  counts (e ∷ es) = ap suc (counts es)

  pub majority_is : (s : Scalar) (es : List Term) → over G (majority_term s es) ≡ majority_weight (map (over G) es)
  majority_is s [] = refl
  majority_is s (e ∷ es) = rw (counts es) (majority_from_is s e es e (e ∷ es))

  pub agreed_is : (s : Scalar) (es : List Term) → over G (agreed_term s es) ≡ agreed_weight (map (over G) es)
  agreed_is s [] = refl
  agreed_is s (e ∷ es) =
      let h = or_all_is (wins s (e ∷ es) e) (map (wins s (e ∷ es)) es) in
      let w = wins_are s e es (e ∷ es) in
      let l = lengths (wins s (e ∷ es)) es in
      rw (counts es) (h ∙ omega (arith, w, l))

  -- ---- forms

  pub form_is : (f : LibForm) (b : ℕ) (ps : List Term) → over G (form_term f b ps) ≡ form_weight f (map (over G) ps)
  form_is form.Once b [] = refl
  form_is form.Once b (p ∷ ps) = omega arith
  form_is form.Historically b [] = refl
  form_is form.Historically b (p ∷ ps) = omega arith
  form_is form.Yesterday b [] = refl
  form_is form.Yesterday b (p ∷ ps) = omega arith
  form_is form.WeaklyYesterday b [] = refl
  form_is form.WeaklyYesterday b (p ∷ ps) = omega arith
  form_is form.Since b [] = refl
  form_is form.Since b (p ∷ []) = refl
  form_is form.Since b (p ∷ q ∷ ps) = omega arith
  form_is (form.OnceIn zero high) b [] = refl
  form_is (form.OnceIn zero high) b (p ∷ ps) = or_agos p b (max high 1) 1 high
  form_is (form.OnceIn (suc low) high) b [] = refl
  form_is (form.OnceIn (suc low) high) b (p ∷ ps) = let h = or_agos (and p no) b (max high 1) (suc low) (high - low) in omega (arith, h)
  form_is (form.HistoricallyIn zero high) b [] = refl
  form_is (form.HistoricallyIn zero high) b (p ∷ ps) = and_agos p b (max high 1) 1 high
  form_is (form.HistoricallyIn (suc low) high) b [] = refl
  form_is (form.HistoricallyIn (suc low) high) b (p ∷ ps) = let h = and_agos (or p yes) b (max high 1) (suc low) (high - low) in omega (arith, h)
  form_is (form.SinceIn low high) b [] = refl
  form_is (form.SinceIn low high) b (p ∷ []) = refl
  form_is (form.SinceIn low high) b (p ∷ q ∷ ps) = since_in_is low high b p q
  form_is (form.Clock period phase) b ps = refl
  form_is (form.WindowMax n s) b [] = refl
  form_is (form.WindowMax n s) b (e ∷ ps) = best_of op2.Ge s b (max (n - 1) 1) e n
  form_is (form.WindowMin n s) b [] = refl
  form_is (form.WindowMin n s) b (e ∷ ps) = best_of op2.Le s b (max (n - 1) 1) e n
  form_is (form.WindowSum n s) b [] = refl
  form_is (form.WindowSum n s) b (e ∷ ps) = sum_agos s b (max (n - 1) 1) (n - 1) 1 e

  abbrev pub stream_over : TreeStream → ℕ
  stream_over x = over G x.expr

  pub buffers_are : (f : LibForm) (number b at : ℕ) (ps : List Term) → total (map stream_over (buffers_of f number b at ps)) ≡ buffers_weight f (map (over G) ps)
  buffers_are form.Once number b at ps = let h = form_is form.Once b ps in omega (arith, h)
  buffers_are form.Historically number b at ps = let h = form_is form.Historically b ps in omega (arith, h)
  buffers_are form.Yesterday number b at [] = refl
  buffers_are form.Yesterday number b at (p ∷ ps) = omega arith
  buffers_are form.WeaklyYesterday number b at [] = refl
  buffers_are form.WeaklyYesterday number b at (p ∷ ps) = omega arith
  buffers_are form.Since number b at ps = let h = form_is form.Since b ps in omega (arith, h)
  buffers_are (form.OnceIn low high) number b at [] = refl
  buffers_are (form.OnceIn low high) number b at (p ∷ ps) = omega arith
  buffers_are (form.HistoricallyIn low high) number b at [] = refl
  buffers_are (form.HistoricallyIn low high) number b at (p ∷ ps) = omega arith
  buffers_are (form.SinceIn low high) number b at [] = refl
  buffers_are (form.SinceIn low high) number b at (p ∷ []) = refl
  buffers_are (form.SinceIn low high) number b at (p ∷ q ∷ ps) = omega arith
  buffers_are (form.Clock period phase) number b at ps = refl
  buffers_are (form.WindowMax n s) number b at [] = refl
  buffers_are (form.WindowMax n s) number b at (e ∷ ps) = omega arith
  buffers_are (form.WindowMin n s) number b at [] = refl
  buffers_are (form.WindowMin n s) number b at (e ∷ ps) = omega arith
  buffers_are (form.WindowSum n s) number b at [] = refl
  buffers_are (form.WindowSum n s) number b at (e ∷ ps) = omega arith
