-- Defs are written out of a form's plain expression as out of its operands.
use Rattle.std.proofs.Common.{◌≡◌, ℕ, zero, suc, ◌+◌, ◌-◌, List, [], ◌∷◌, length, map, refl, sym, ap, ◌∙◌, max, Bool, true, false, if◌then◌else◌}
use Rattle.std.specs.Prelude.{nat_le, nat_eq, ◌/◌}
use Rattle.stream_types.specs.declared.scalar.Scalar.{Scalar}
use Rattle.stream_types.specs.declared.scalar.Scalar.TheVariants as scalar
use Rattle.stream_types.specs.declared.scalar.Op2.{Op2}
use Rattle.stream_types.specs.declared.scalar.Op2.TheVariants as op2
use Rattle.stream_types.specs.Types.{signed}
use Rattle.stream_core.specs.declared.node.LibForm.{LibForm}
use Rattle.stream_core.specs.declared.node.LibForm.TheVariants as form
use Rattle.stream_core.specs.Term.{Term, lit, bin, and, or, choose, with_defs, TreeStream}
use Rattle.stream_core.specs.Lower.{yes, no, or_all, and_all, ago, agos, since_from, since_in_value, sample, all_of, tests, best, sum_all, sign_term, one_vote, count_from, count_of, wins, majority_from, majority_term, agreed_term, form_term, bool_buffer, buffers_of}

module _ (G : ℕ → Term) where
  abbrev out : Term → Term
  out e = with_defs G e

  -- ---- chains

  or_all_out : (a : Term) (bs : List Term) → out (or_all a bs) ≡ or_all (out a) (map out bs)
  or_all_out a [] = refl
  or_all_out a (b ∷ bs) = ap (or (out a)) (or_all_out b bs)

  and_all_out : (a : Term) (bs : List Term) → out (and_all a bs) ≡ and_all (out a) (map out bs)
  and_all_out a [] = refl
  and_all_out a (b ∷ bs) = ap (and (out a)) (and_all_out b bs)

  agos_out : (b m i n : ℕ) → map out (agos b m i n) ≡ agos b m i n
  agos_out b m i zero = refl
  agos_out b m i (suc n) = ap (λ r. ago b m i ∷ r) (agos_out b m (i + 1) n)

  sum_all_out : (s : Scalar) (a : Term) (bs : List Term) → out (sum_all s a bs) ≡ sum_all s (out a) (map out bs)
  sum_all_out s a [] = refl
  sum_all_out s a (b ∷ bs) = sum_all_out s (bin op2.Add s a b) bs

  or_agos_out : (a : Term) (b m i n : ℕ) → out (or_all a (agos b m i n)) ≡ or_all (out a) (agos b m i n)
  or_agos_out a b m i n = or_all_out a (agos b m i n) ∙ ap (or_all (out a)) (agos_out b m i n)

  and_agos_out : (a : Term) (b m i n : ℕ) → out (and_all a (agos b m i n)) ≡ and_all (out a) (agos b m i n)
  and_agos_out a b m i n = and_all_out a (agos b m i n) ∙ ap (and_all (out a)) (agos_out b m i n)

  picked_out : (c : Bool) (a b x y : Term) → out a ≡ x → out b ≡ y → out (if c then a else b) ≡ (if c then x else y)
  picked_out true a b x y p q = p
  picked_out false a b x y p q = q

  since_from_out : (low p q m i n : ℕ) → out (since_from low p q m i n) ≡ since_from low p q m i n
  since_from_out low p q m i zero = refl
  since_from_out low p q m i (suc n) =
      let rest = since_from_out low p q m (i + 1) n in
      picked_out (nat_le low i) _ _ _ _ (ap (λ r. or (ago q m i) (and (ago p m i) r)) rest) (ap (λ r. and (ago p m i) r) rest)

  since_in_out : (b low high : ℕ) (p q : Term) → out (since_in_value b low high p q) ≡ since_in_value b low high (out p) (out q)
  since_in_out b zero zero p q = refl
  since_in_out b (suc low) zero p q = refl
  since_in_out b zero (suc high) p q = ap (λ r. choose (out p) (or (out q) r) (out q)) (since_from_out 0 b (b + 1) (suc high) 1 high)
  since_in_out b (suc low) (suc high) p q = ap (λ r. choose (out p) (or (and (out q) no) r) (and (out q) no)) (since_from_out (suc low) b (b + 1) (suc high) 1 high)

  -- ---- windows

  sample_out : (b m : ℕ) (e : Term) (i : ℕ) → out (sample b m e i) ≡ sample b m (out e) i
  sample_out b m e zero = refl
  sample_out b m e (suc i) = refl

  all_of_out : (ts : List Term) → out (all_of ts) ≡ all_of (map out ts)
  all_of_out [] = refl
  all_of_out (a ∷ ts) = and_all_out a ts

  module _ (o : Op2) (s : Scalar) (b m : ℕ) (e : Term) where
    picked_list : (c : Bool) (x y u v : List Term) → map out x ≡ u → map out y ≡ v → map out (if c then x else y) ≡ (if c then u else v)
    picked_list true x y u v p q = p
    picked_list false x y u v p q = q

    tests_out : (i j n : ℕ) → map out (tests (bin o s) (sample b m e) i j n) ≡ tests (bin o s) (sample b m (out e)) i j n
    tests_out i j zero = refl
    tests_out i j (suc n) =
        let rest = tests_out i (j + 1) n in
        let x = sample_out b m e i in
        let y = sample_out b m e j in
        picked_list (nat_eq j i) _ _ _ _ rest (ap (λ u. bin o s u (out (sample b m e j)) ∷ map out (tests (bin o s) (sample b m e) i (j + 1) n)) x ∙ ap (λ u. bin o s (sample b m (out e) i) u ∷ map out (tests (bin o s) (sample b m e) i (j + 1) n)) y ∙ ap (λ r. bin o s (sample b m (out e) i) (sample b m (out e) j) ∷ r) rest)

    best_out : (count i n : ℕ) → out (best (bin o s) (sample b m e) count i n) ≡ best (bin o s) (sample b m (out e)) count i n
    best_out count i zero = sample_out b m e i
    best_out count i (suc n) =
        let x = sample_out b m e i in
        let c : out (all_of (tests (bin o s) (sample b m e) i 0 count)) ≡ all_of (tests (bin o s) (sample b m (out e)) i 0 count) = all_of_out (tests (bin o s) (sample b m e) i 0 count) ∙ ap all_of (tests_out i 0 count) in
        let rest = best_out count (i + 1) n in
        ap (λ u. choose u (out (sample b m e i)) (out (best (bin o s) (sample b m e) count (i + 1) n))) c
        ∙ ap (λ u. choose (all_of (tests (bin o s) (sample b m (out e)) i 0 count)) u (out (best (bin o s) (sample b m e) count (i + 1) n))) x
        ∙ ap (λ u. choose (all_of (tests (bin o s) (sample b m (out e)) i 0 count)) (sample b m (out e) i) u) rest

  -- ---- votes and signs

  pub sign_out : (s : Scalar) (e : Term) → out (sign_term s e) ≡ sign_term s (out e)
  sign_out s e = ap (λ r. choose (bin op2.Gt s (out e) (lit s 0)) (lit s 1) r) (picked_out (signed s) _ _ _ _ refl refl)

  count_from_out : (s : Scalar) (a sum_ : Term) (bs : List Term) → out (count_from s a sum_ bs) ≡ count_from s (out a) (out sum_) (map out bs)
  count_from_out s a sum_ [] = refl
  count_from_out s a sum_ (b ∷ bs) = count_from_out s a (bin op2.Add scalar.Word8 sum_ (one_vote s a b)) bs

  count_of_out : (s : Scalar) (es : List Term) (a : Term) → out (count_of s es a) ≡ count_of s (map out es) (out a)
  count_of_out s [] a = refl
  count_of_out s (b ∷ bs) a = count_from_out s a (one_vote s a b) bs

  lengths : (es : List Term) → length es ≡ length (map out es)
  lengths [] = refl
  lengths (e ∷ es) = ap suc (lengths es)

  wins_out : (s : Scalar) (es : List Term) (a : Term) → out (wins s es a) ≡ wins s (map out es) (out a)
  wins_out s es a = ap (λ u. bin op2.Gt scalar.Word8 u (lit scalar.Word8 (length es / 2))) (count_of_out s es a) ∙ ap (λ n. bin op2.Gt scalar.Word8 (count_of s (map out es) (out a)) (lit scalar.Word8 (n / 2))) (lengths es)

  majority_from_out : (s : Scalar) (es : List Term) (first : Term) (as_ : List Term) → out (majority_from s es first as_) ≡ majority_from s (map out es) (out first) (map out as_)
  majority_from_out s es first [] = refl
  majority_from_out s es first (a ∷ as_) =
      ap (λ u. choose u (out a) (out (majority_from s es first as_))) (wins_out s es a)
      ∙ ap (λ u. choose (wins s (map out es) (out a)) (out a) u) (majority_from_out s es first as_)

  pub majority_out : (s : Scalar) (es : List Term) → out (majority_term s es) ≡ majority_term s (map out es)
  majority_out s [] = refl
  majority_out s (e ∷ es) = majority_from_out s (e ∷ es) e (e ∷ es)

  wins_are_out : (s : Scalar) (es as_ : List Term) → map out (map (wins s es) as_) ≡ map (wins s (map out es)) (map out as_)
  wins_are_out s es [] = refl
  wins_are_out s es (a ∷ as_) = ap (λ u. u ∷ map out (map (wins s es) as_)) (wins_out s es a) ∙ ap (λ r. wins s (map out es) (out a) ∷ r) (wins_are_out s es as_)

  pub agreed_out : (s : Scalar) (es : List Term) → out (agreed_term s es) ≡ agreed_term s (map out es)
  agreed_out s [] = refl
  agreed_out s (e ∷ es) =
      or_all_out (wins s (e ∷ es) e) (map (wins s (e ∷ es)) es)
      ∙ ap (λ u. or_all u (map out (map (wins s (e ∷ es)) es))) (wins_out s (e ∷ es) e)
      ∙ ap (or_all (wins s (map out (e ∷ es)) (out e))) (wins_are_out s (e ∷ es) es)

  -- ---- forms

  pub form_out : (f : LibForm) (b : ℕ) (ps : List Term) → out (form_term f b ps) ≡ form_term f b (map out ps)
  form_out form.Once b [] = refl
  form_out form.Once b (p ∷ ps) = refl
  form_out form.Historically b [] = refl
  form_out form.Historically b (p ∷ ps) = refl
  form_out form.Yesterday b [] = refl
  form_out form.Yesterday b (p ∷ ps) = refl
  form_out form.WeaklyYesterday b [] = refl
  form_out form.WeaklyYesterday b (p ∷ ps) = refl
  form_out form.Since b [] = refl
  form_out form.Since b (p ∷ []) = refl
  form_out form.Since b (p ∷ q ∷ ps) = refl
  form_out (form.OnceIn zero high) b [] = refl
  form_out (form.OnceIn zero high) b (p ∷ ps) = or_agos_out p b (max high 1) 1 high
  form_out (form.OnceIn (suc low) high) b [] = refl
  form_out (form.OnceIn (suc low) high) b (p ∷ ps) = or_agos_out (and p no) b (max high 1) (suc low) (high - low)
  form_out (form.HistoricallyIn zero high) b [] = refl
  form_out (form.HistoricallyIn zero high) b (p ∷ ps) = and_agos_out p b (max high 1) 1 high
  form_out (form.HistoricallyIn (suc low) high) b [] = refl
  form_out (form.HistoricallyIn (suc low) high) b (p ∷ ps) = and_agos_out (or p yes) b (max high 1) (suc low) (high - low)
  form_out (form.SinceIn low high) b [] = refl
  form_out (form.SinceIn low high) b (p ∷ []) = refl
  form_out (form.SinceIn low high) b (p ∷ q ∷ ps) = since_in_out b low high p q
  form_out (form.Clock period phase) b ps = refl
  form_out (form.WindowMax n s) b [] = refl
  form_out (form.WindowMax n s) b (e ∷ ps) = best_out op2.Ge s b (max (n - 1) 1) e n 0 (n - 1)
  form_out (form.WindowMin n s) b [] = refl
  form_out (form.WindowMin n s) b (e ∷ ps) = best_out op2.Le s b (max (n - 1) 1) e n 0 (n - 1)
  form_out (form.WindowSum n s) b [] = refl
  form_out (form.WindowSum n s) b (e ∷ ps) = sum_all_out s e (agos b (max (n - 1) 1) 1 (n - 1)) ∙ ap (sum_all s (out e)) (agos_out b (max (n - 1) 1) 1 (n - 1))

  abbrev pub stream_out : TreeStream → TreeStream
  stream_out x = record x { expr = out x.expr }

  pub buffers_out : (f : LibForm) (number b at : ℕ) (ps : List Term) → buffers_of f number b at (map out ps) ≡ map stream_out (buffers_of f number b at ps)
  buffers_out form.Once number b at ps = ap (λ e. bool_buffer number 1 0 e at ∷ []) (sym (form_out form.Once b ps))
  buffers_out form.Historically number b at ps = ap (λ e. bool_buffer number 1 1 e at ∷ []) (sym (form_out form.Historically b ps))
  buffers_out form.Yesterday number b at [] = refl
  buffers_out form.Yesterday number b at (p ∷ ps) = refl
  buffers_out form.WeaklyYesterday number b at [] = refl
  buffers_out form.WeaklyYesterday number b at (p ∷ ps) = refl
  buffers_out form.Since number b at ps = ap (λ e. bool_buffer number 1 0 e at ∷ []) (sym (form_out form.Since b ps))
  buffers_out (form.OnceIn low high) number b at [] = refl
  buffers_out (form.OnceIn low high) number b at (p ∷ ps) = refl
  buffers_out (form.HistoricallyIn low high) number b at [] = refl
  buffers_out (form.HistoricallyIn low high) number b at (p ∷ ps) = refl
  buffers_out (form.SinceIn low high) number b at [] = refl
  buffers_out (form.SinceIn low high) number b at (p ∷ []) = refl
  buffers_out (form.SinceIn low high) number b at (p ∷ q ∷ ps) = refl
  buffers_out (form.Clock period phase) number b at ps = refl
  buffers_out (form.WindowMax n s) number b at [] = refl
  buffers_out (form.WindowMax n s) number b at (e ∷ ps) = refl
  buffers_out (form.WindowMin n s) number b at [] = refl
  buffers_out (form.WindowMin n s) number b at (e ∷ ps) = refl
  buffers_out (form.WindowSum n s) number b at [] = refl
  buffers_out (form.WindowSum n s) number b at (e ∷ ps) = refl
