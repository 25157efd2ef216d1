-- What an expression or a form is lowered to has its type, where the buffers are streams of theirs.
use Rattle.std.proofs.Common.{◌≡◌, ℕ, zero, suc, ◌+◌, ◌-◌, ◌<◌, ◌≤◌, List, [], ◌∷◌, length, map, refl, sym, ap, ◌∙◌, max, Bool, true, false, if◌then◌else◌, arith, nat_lt, Some}
use Rattle.std.specs.Prelude.{nat_le, nat_eq, ◌/◌, ◌^◌, ◌&&◌, slice_get, negsuc, IsTrue}
use Rattle.std.specs.List.{AllByRecursion}
use Rattle.std.proofs.lemmas.Bool.Decides.{nat_tests}
use Rattle.stream_types.specs.declared.scalar.Scalar.{Scalar}
use Rattle.stream_types.specs.declared.scalar.Scalar.TheVariants as scalar
use Rattle.stream_types.specs.declared.scalar.Op2.{Op2}
use Rattle.stream_types.specs.declared.scalar.Op2.TheVariants as op2
use Rattle.stream_types.specs.declared.scalar.Ty.{Ty}
use Rattle.stream_types.specs.declared.scalar.Ty.TheVariants as ty
use Rattle.stream_types.specs.Scalars.{is_integer, op2_fits, op2_gives}
use Rattle.stream_types.specs.Types.{bits, signed}
use Rattle.stream_types.specs.Numbers.{word, is_word, least, greatest}
use Rattle.stream_core.specs.declared.node.LibForm.{LibForm}
use Rattle.stream_core.specs.declared.node.LibForm.TheVariants as form
use Rattle.stream_core.specs.Term.{Term, lit, stream, bin, and, or, choose}
use Rattle.stream_core.specs.Signature.{Signature, StreamSignature}
use Rattle.stream_core.specs.WellTyped.{HasType, ListHasTypes, IsGoodForm, operand_types, form_gives, bool}
use Rattle.stream_core.specs.Lower.{yes, no, or_all, and_all, ago, agos, since_from, since_in_value, sample, all_of, tests, best, sum_all, abs_term, sign_term, one_vote, count_from, wins, majority_from, majority_term, agreed_term, depth, form_term, buffers}

-- the scalar of a form's buffers
abbrev pub buffer_scalar : LibForm → Scalar
buffer_scalar (form.Clock period phase) = scalar.Word32
buffer_scalar (form.WindowMax n s) = s
buffer_scalar (form.WindowMin n s) = s
buffer_scalar (form.WindowSum n s) = s
buffer_scalar _ = scalar.Bool

abbrev pub buffer_signature : LibForm → StreamSignature
buffer_signature f = record { ty = ty.Scalar (buffer_scalar f); count = depth f }

-- the streams from number b on are the form's buffers
abbrev pub HasBuffers : Signature → LibForm → ℕ → Type 0
HasBuffers sig f b = (j : ℕ) → j < buffers f → slice_get sig.streams (b + j) ≡ Some (buffer_signature f)

pub word32_is : (w : ℕ) → w ≤ 4294967295 → IsTrue (is_word scalar.Word32 w)
word32_is w h =
    let a : nat_lt w (2 ^ 64) ≡ true = grind (arith, nat_tests, h) in
    let b : nat_lt w (2 ^ 32) ≡ true = grind (arith, nat_tests, h) in
    ap (λ x. x && nat_lt w (2 ^ 32)) a ∙ b

word8_is : (w : ℕ) → w ≤ 9 → IsTrue (is_word scalar.Word8 w)
word8_is w h =
    let a : nat_lt w (2 ^ 64) ≡ true = grind (arith, nat_tests, h) in
    let b : nat_lt w (2 ^ 8) ≡ true = grind (arith, nat_tests, h) in
    ap (λ x. x && nat_lt w (2 ^ 8)) a ∙ b

pub zero_is : (s : Scalar) → IsTrue (is_word s 0)
zero_is scalar.Bool = refl
zero_is scalar.Int8 = refl
zero_is scalar.Int16 = refl
zero_is scalar.Int32 = refl
zero_is scalar.Int64 = refl
zero_is scalar.Word8 = refl
zero_is scalar.Word16 = refl
zero_is scalar.Word32 = refl
zero_is scalar.Word64 = refl

pub one_is : (s : Scalar) → IsTrue (is_word s 1)
one_is scalar.Bool = refl
one_is scalar.Int8 = refl
one_is scalar.Int16 = refl
one_is scalar.Int32 = refl
one_is scalar.Int64 = refl
one_is scalar.Word8 = refl
one_is scalar.Word16 = refl
one_is scalar.Word32 = refl
one_is scalar.Word64 = refl

minus_one_is : (s : Scalar) → signed s ≡ true → IsTrue (is_word s (word (negsuc 0)))
minus_one_is scalar.Bool e = absurd (cc)
minus_one_is scalar.Int8 e = refl
minus_one_is scalar.Int16 e = refl
minus_one_is scalar.Int32 e = refl
minus_one_is scalar.Int64 e = refl
minus_one_is scalar.Word8 e = absurd (cc)
minus_one_is scalar.Word16 e = absurd (cc)
minus_one_is scalar.Word32 e = absurd (cc)
minus_one_is scalar.Word64 e = absurd (cc)

pub least_is : (s : Scalar) → IsTrue (is_word s (word (least (bits s) (signed s))))
least_is scalar.Bool = refl
least_is scalar.Int8 = refl
least_is scalar.Int16 = refl
least_is scalar.Int32 = refl
least_is scalar.Int64 = refl
least_is scalar.Word8 = refl
least_is scalar.Word16 = refl
least_is scalar.Word32 = refl
least_is scalar.Word64 = refl

pub greatest_is : (s : Scalar) → IsTrue (is_integer s) → IsTrue (is_word s (word (greatest (bits s) (signed s))))
greatest_is scalar.Bool e = absurd (cc)
greatest_is scalar.Int8 e = refl
greatest_is scalar.Int16 e = refl
greatest_is scalar.Int32 e = refl
greatest_is scalar.Int64 e = refl
greatest_is scalar.Word8 e = refl
greatest_is scalar.Word16 e = refl
greatest_is scalar.Word32 e = refl
greatest_is scalar.Word64 e = refl

half_below : (n : ℕ) → n ≤ 9 → n / 2 ≤ 9
half_below n h = omega (arith, h)

module _ (sig : Signature) where
  abbrev Has : Ty → Term → Type 0
  Has t e = HasType sig e t

  abbrev Each : Ty → List Term → Type 0
  Each t es = AllByRecursion (Has t) es

  or_all_has : (a : Term) (bs : List Term) → Has bool a → Each bool bs → Has bool (or_all a bs)
  or_all_has a [] p h = p
  or_all_has a (b ∷ bs) p h = (p, or_all_has b bs h.0 h.1, refl)

  and_all_has : (a : Term) (bs : List Term) → Has bool a → Each bool bs → Has bool (and_all a bs)
  and_all_has a [] p h = p
  and_all_has a (b ∷ bs) p h = (p, and_all_has b bs h.0 h.1, refl)

  yes_has : Has bool yes
  yes_has = (refl, refl)

  no_has : Has bool no
  no_has = (refl, refl)

  -- a buffer of m values
  module _ (s : Scalar) (b m : ℕ) (there : slice_get sig.streams b ≡ Some (record { ty = ty.Scalar s; count = m })) (some : 1 ≤ m) where
    pub now_has : Has (ty.Scalar s) (stream b)
    now_has = record { stream = record { ty = ty.Scalar s; count = m }; is = there; type_is = refl }

    ago_has : (i : ℕ) → 1 ≤ i → Has (ty.Scalar s) (ago b m i)
    ago_has i h = record { stream = record { ty = ty.Scalar s; count = m }; is = there; type_is = refl; within = let q : m - i < m = omega (arith, h, some) in q }

    agos_has : (i n : ℕ) → 1 ≤ i → Each (ty.Scalar s) (agos b m i n)
    agos_has i zero h = tt
    agos_has i (suc n) h = (ago_has i h, agos_has (i + 1) n (omega arith))

    sum_all_has : IsTrue (is_integer s) → (a : Term) (bs : List Term) → Has (ty.Scalar s) a → Each (ty.Scalar s) bs → Has (ty.Scalar s) (sum_all s a bs)
    sum_all_has fits a [] p h = p
    sum_all_has fits a (c ∷ bs) p h = sum_all_has fits (bin op2.Add s a c) bs (fits, p, h.0, refl) h.1

    sample_has : (e : Term) (i : ℕ) → Has (ty.Scalar s) e → Has (ty.Scalar s) (sample b m e i)
    sample_has e zero h = h
    sample_has e (suc i) h = ago_has (suc i) (omega arith)

    module _ (o : Op2) (fits : IsTrue (op2_fits o s)) (gives : op2_gives o s ≡ scalar.Bool) (e : Term) (h : Has (ty.Scalar s) e) where
      either_each : (c : Bool) (x y : List Term) → Each bool x → Each bool y → Each bool (if c then x else y)
      either_each true x y p q = p
      either_each false x y p q = q

      tests_have : (i j n : ℕ) → Each bool (tests (bin o s) (sample b m e) i j n)
      tests_have i j zero = tt
      tests_have i j (suc n) =
          let rest = tests_have i (j + 1) n in
          either_each (nat_eq j i) _ _ rest ((fits, sample_has e i h, sample_has e j h, ap ty.Scalar (sym gives)), rest)

      all_of_has : (ts : List Term) → Each bool ts → Has bool (all_of ts)
      all_of_has [] g = yes_has
      all_of_has (a ∷ ts) g = and_all_has a ts g.0 g.1

      best_has : (count i n : ℕ) → Has (ty.Scalar s) (best (bin o s) (sample b m e) count i n)
      best_has count i zero = sample_has e i h
      best_has count i (suc n) = (all_of_has (tests (bin o s) (sample b m e) i 0 count) (tests_have i 0 count), sample_has e i h, best_has count (i + 1) n)

  -- two buffers of truth values
  module _ (p q m : ℕ) (ps : slice_get sig.streams p ≡ Some (record { ty = bool; count = m })) (qs : slice_get sig.streams q ≡ Some (record { ty = bool; count = m })) (some : 1 ≤ m) where
    either_has : (c : Bool) (a b : Term) → Has bool a → Has bool b → Has bool (if c then a else b)
    either_has true a b h g = h
    either_has false a b h g = g

    since_from_has : (low i n : ℕ) → 1 ≤ i → Has bool (since_from low p q m i n)
    since_from_has low i zero h = ago_has scalar.Bool q m qs some i h
    since_from_has low i (suc n) h =
        let rest = since_from_has low (i + 1) n (omega arith) in
        let a = ago_has scalar.Bool p m ps some i h in
        let b = ago_has scalar.Bool q m qs some i h in
        either_has (nat_le low i) _ _ (b, (a, rest, refl), refl) (a, rest, refl)

  since_in_has : (b low high : ℕ) (p q : Term) → HasBuffers sig (form.SinceIn low high) b → Has bool p → Has bool q → Has bool (since_in_value b low high p q)
  since_in_has b zero zero p q there h g = (h, g, g)
  since_in_has b (suc low) zero p q there h g = (h, g, g)
  since_in_has b zero (suc high) p q there h g =
      let m : max (suc high) 1 ≡ suc high = omega arith in
      let ps = ap (slice_get sig.streams) (let z : b ≡ b + 0 = omega arith in z) ∙ there 0 (omega arith) ∙ ap (λ n. Some (record { ty = bool; count = n })) m in
      let qs = there 1 (omega arith) ∙ ap (λ n. Some (record { ty = bool; count = n })) m in
      (h, (g, since_from_has b (b + 1) (suc high) ps qs (omega arith) 0 1 high (omega arith), refl), g)
  since_in_has b (suc low) (suc high) p q there h g =
      let m : max (suc high) 1 ≡ suc high = omega arith in
      let ps = ap (slice_get sig.streams) (let z : b ≡ b + 0 = omega arith in z) ∙ there 0 (omega arith) ∙ ap (λ n. Some (record { ty = bool; count = n })) m in
      let qs = there 1 (omega arith) ∙ ap (λ n. Some (record { ty = bool; count = n })) m in
      (h, ((g, no_has, refl), since_from_has b (b + 1) (suc high) ps qs (omega arith) (suc low) 1 high (omega arith), refl), (g, no_has, refl))

  -- ---- signs and votes

  pub abs_has : (s : Scalar) (e : Term) → IsTrue (is_integer s) → Has (ty.Scalar s) e → Has (ty.Scalar s) (abs_term s e)
  abs_has s e fits h = ((fits, h, (zero_is s, refl), refl), (fits, (zero_is s, refl), h, refl), h)

  pub sign_has : (s : Scalar) (e : Term) → IsTrue (is_integer s) → Has (ty.Scalar s) e → Has (ty.Scalar s) (sign_term s e)
  sign_has s e fits h = ((fits, h, (zero_is s, refl), refl), (one_is s, refl), by (signed s) refl)
    where
      by : (c : Bool) → signed s ≡ c → Has (ty.Scalar s) (if c then choose (bin op2.Lt s e (lit s 0)) (lit s (word (negsuc 0))) (lit s 0) else lit s 0)
      by true q = ((fits, h, (zero_is s, refl), refl), (minus_one_is s q, refl), (zero_is s, refl))
      by false q = (zero_is s, refl)

  vote_has : (s : Scalar) (a b : Term) → Has (ty.Scalar s) a → Has (ty.Scalar s) b → Has (ty.Scalar scalar.Word8) (one_vote s a b)
  vote_has s a b h g = ((refl, h, g, refl), (refl, refl), (refl, refl))

  count_from_has : (s : Scalar) (a sum_ : Term) (bs : List Term) → Has (ty.Scalar s) a → Has (ty.Scalar scalar.Word8) sum_ → Each (ty.Scalar s) bs → Has (ty.Scalar scalar.Word8) (count_from s a sum_ bs)
  count_from_has s a sum_ [] h g k = g
  count_from_has s a sum_ (b ∷ bs) h g k = count_from_has s a (bin op2.Add scalar.Word8 sum_ (one_vote s a b)) bs h (refl, g, vote_has s a b h k.0, refl) k.1

  wins_has : (s : Scalar) (es : List Term) (a : Term) → length es ≤ 9 → Each (ty.Scalar s) es → Has (ty.Scalar s) a → Has bool (wins s es a)
  wins_has s [] a n h g = (refl, (refl, refl), (word8_is (0 / 2) (half_below 0 n), refl), refl)
  wins_has s (b ∷ bs) a n h g = (refl, count_from_has s a (one_vote s a b) bs g (vote_has s a b g h.0) h.1, (word8_is (length (b ∷ bs) / 2) (half_below (length (b ∷ bs)) n), refl), refl)

  majority_from_has : (s : Scalar) (es : List Term) (first : Term) (as_ : List Term) → length es ≤ 9 → Each (ty.Scalar s) es → Has (ty.Scalar s) first → Each (ty.Scalar s) as_ → Has (ty.Scalar s) (majority_from s es first as_)
  majority_from_has s es first [] n h g k = g
  majority_from_has s es first (a ∷ as_) n h g k = (wins_has s es a n h k.0, k.0, majority_from_has s es first as_ n h g k.1)

  pub majority_has : (s : Scalar) (es : List Term) → length es ≤ 9 → Each (ty.Scalar s) es → Has (ty.Scalar s) (majority_term s es)
  majority_has s [] n h = (zero_is s, refl)
  majority_has s (e ∷ es) n h = majority_from_has s (e ∷ es) e (e ∷ es) n h h.0 h

  wins_have : (s : Scalar) (es as_ : List Term) → length es ≤ 9 → Each (ty.Scalar s) es → Each (ty.Scalar s) as_ → Each bool (map (wins s es) as_)
  wins_have s es [] n h k = tt
  wins_have s es (a ∷ as_) n h k = (wins_has s es a n h k.0, wins_have s es as_ n h k.1)

  pub agreed_has : (s : Scalar) (es : List Term) → length es ≤ 9 → Each (ty.Scalar s) es → Has bool (agreed_term s es)
  agreed_has s [] n h = no_has
  agreed_has s (e ∷ es) n h = or_all_has (wins s (e ∷ es) e) (map (wins s (e ∷ es)) es) (wins_has s (e ∷ es) e n h h.0) (wins_have s (e ∷ es) es n h h.1)

  -- ---- forms

  pub first_there : (f : LibForm) (b : ℕ) → 0 < buffers f → HasBuffers sig f b → slice_get sig.streams b ≡ Some (buffer_signature f)
  first_there f b some there = ap (slice_get sig.streams) (let z : b ≡ b + 0 = omega arith in z) ∙ there 0 some

  abbrev Ops : LibForm → List Term → Type 0
  Ops f ps = ListHasTypes sig ps (operand_types f)

  pub form_has : (f : LibForm) (b : ℕ) (ps : List Term) → IsGoodForm f → Ops f ps → HasBuffers sig f b → Has (form_gives f) (form_term f b ps)
  form_has form.Once b [] good h there = absurd h
  form_has form.Once b (p ∷ ps) good h there = (h.0, now_has scalar.Bool b 1 (first_there form.Once b (omega arith) there) (omega arith), refl)
  form_has form.Historically b [] good h there = absurd h
  form_has form.Historically b (p ∷ ps) good h there = (h.0, now_has scalar.Bool b 1 (first_there form.Historically b (omega arith) there) (omega arith), refl)
  form_has form.Yesterday b [] good h there = absurd h
  form_has form.Yesterday b (p ∷ ps) good h there = ((h.0, no_has, refl), now_has scalar.Bool b 1 (first_there form.Yesterday b (omega arith) there) (omega arith), refl)
  form_has form.WeaklyYesterday b [] good h there = absurd h
  form_has form.WeaklyYesterday b (p ∷ ps) good h there = ((h.0, no_has, refl), now_has scalar.Bool b 1 (first_there form.WeaklyYesterday b (omega arith) there) (omega arith), refl)
  form_has form.Since b [] good h there = absurd h
  form_has form.Since b (p ∷ []) good h there = absurd h.1
  form_has form.Since b (p ∷ q ∷ ps) good h there = (h.0, (h.1.0, now_has scalar.Bool b 1 (first_there form.Since b (omega arith) there) (omega arith), refl), h.1.0)
  form_has (form.OnceIn zero high) b [] good h there = absurd h
  form_has (form.OnceIn zero high) b (p ∷ ps) good h there = or_all_has p _ h.0 (agos_has scalar.Bool b (max high 1) (first_there (form.OnceIn zero high) b (omega arith) there) (omega arith) 1 high (omega arith))
  form_has (form.OnceIn (suc low) high) b [] good h there = absurd h
  form_has (form.OnceIn (suc low) high) b (p ∷ ps) good h there = or_all_has (and p no) _ (h.0, no_has, refl) (agos_has scalar.Bool b (max high 1) (first_there (form.OnceIn (suc low) high) b (omega arith) there) (omega arith) (suc low) (high - low) (omega arith))
  form_has (form.HistoricallyIn zero high) b [] good h there = absurd h
  form_has (form.HistoricallyIn zero high) b (p ∷ ps) good h there = and_all_has p _ h.0 (agos_has scalar.Bool b (max high 1) (first_there (form.HistoricallyIn zero high) b (omega arith) there) (omega arith) 1 high (omega arith))
  form_has (form.HistoricallyIn (suc low) high) b [] good h there = absurd h
  form_has (form.HistoricallyIn (suc low) high) b (p ∷ ps) good h there = and_all_has (or p yes) _ (h.0, yes_has, refl) (agos_has scalar.Bool b (max high 1) (first_there (form.HistoricallyIn (suc low) high) b (omega arith) there) (omega arith) (suc low) (high - low) (omega arith))
  form_has (form.SinceIn low high) b [] good h there = absurd h
  form_has (form.SinceIn low high) b (p ∷ []) good h there = absurd h.1
  form_has (form.SinceIn low high) b (p ∷ q ∷ ps) good h there = since_in_has b low high p q there h.0 h.1.0
  form_has (form.Clock period phase) b ps good h there =
      (refl, now_has scalar.Word32 b 1 (first_there (form.Clock period phase) b (omega arith) there) (omega arith), (word32_is phase (omega (arith, good.1, good.2)), refl), refl)
  form_has (form.WindowMax n s) b [] good h there = absurd h
  form_has (form.WindowMax n s) b (e ∷ ps) good h there = best_has s b (max (n - 1) 1) (first_there (form.WindowMax n s) b (omega arith) there) (omega arith) op2.Ge good.2 refl e h.0 n 0 (n - 1)
  form_has (form.WindowMin n s) b [] good h there = absurd h
  form_has (form.WindowMin n s) b (e ∷ ps) good h there = best_has s b (max (n - 1) 1) (first_there (form.WindowMin n s) b (omega arith) there) (omega arith) op2.Le good.2 refl e h.0 n 0 (n - 1)
  form_has (form.WindowSum n s) b [] good h there = absurd h
  form_has (form.WindowSum n s) b (e ∷ ps) good h there =
      let first = first_there (form.WindowSum n s) b (omega arith) there in
      sum_all_has s b (max (n - 1) 1) first (omega arith) good.2 e _ h.0 (agos_has s b (max (n - 1) 1) first (omega arith) 1 (n - 1) (omega arith))
