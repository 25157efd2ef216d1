-- A literal is what is written of its word.
use Rattle.std.proofs.Common.{◌≡◌, ℕ, zero, suc, ◌+◌, ◌^◌, ◌<◌, ◌≤◌, refl, ap, sym, ◌∙◌, List, [], ◌∷◌, ◌++◌, get_or, take, drop, Option, Some, None, Bool, true, false, ◌&&◌, ◌==◌, nat_lt, arith, drop-cons, append_assoc}
use Rattle.std.specs.Prelude.{ℤ, pos, negsuc, neg_ℤ, unsigned_abs, IsTrue, if◌then◌else◌, codes, bytes_eq, decimal, position}
use Rattle.std.specs.Fmt.{signed_decimal}
use Rattle.std.specs.Option.{option_map, option_map_or, option_and_then}
use Rattle.std.proofs.Math.Pow.{pow_mono}
use Rattle.std.proofs.lemmas.Bool.{eqb-true, and_parts}
use Rattle.std.proofs.lemmas.Bool.Decides.{nat_tests}
use Rattle.std.proofs.lemmas.Option.{same_Some, cond_some}
use Rattle.std.proofs.lemmas.List.{take-append-drop}
use Rattle.std.proofs.lemmas.List.Quantifiers.{position-Some}
use Rattle.stream_types.specs.declared.scalar.Scalar.{Scalar}
use Rattle.stream_types.specs.declared.scalar.Scalar.TheVariants as scalar
use Rattle.stream_types.specs.Scalars.{bits, signed}
use Rattle.stream_types.specs.Numbers.{is_word, is_word_at, in_range, word, number_at}
use Rattle.stream_types.specs.IntTyLaws.{word_back, half_below}
use Rattle.spec_words.specs.Words.{scalar_word, scalar_of, truth_of, truth_text}
use Rattle.spec_words.specs.Decimals.{is_decimal, value_of}
use Rattle.spec_words.specs.Magnitudes.{word_in}
use Rattle.spec_words.specs.Literals.{literal_of, literal_text, number_of, typed_at, typed, integer_of, negative_of, positive_of, number_text, is_colon}
use Rattle.spec_words.proofs.DecimalLaws.{decimal-value_of}
use Rattle.spec_words.proofs.WordLaws.{found_scalar, same_bytes}
use Rattle.stream_types.proofs.Ranges.{is_word_at-word, bits_some}

-- ---- tests

then_some : {A B : Type 0} (f : A → Option B) (o : Option A) (y : B) → option_and_then f o ≡ Some y → (x : A) × (o ≡ Some x) × (f x ≡ Some y)
then_some f None y h = absurd (cc)
then_some f (Some x) y h = (x, refl, h)

-- ---- truth values

truth_case : (text : List ℕ) (w : ℕ) (b c : Bool) → bytes_eq text (codes "true") ≡ b → bytes_eq text (codes "false") ≡ c → (if b then Some 1 else if c then Some 0 else None) ≡ Some w → (text ≡ truth_text w) × (nat_lt w 2 ≡ true)
truth_case text w true c is other h = rw (← same_Some 1 w h) (same_bytes text (codes "true") is, refl)
truth_case text w false true is other h = rw (← same_Some 0 w h) (same_bytes text (codes "false") other, refl)
truth_case text w false false is other h = absurd (cc)

truths : (text : List ℕ) (w : ℕ) → truth_of text ≡ Some w → (text ≡ truth_text w) × (nat_lt w 2 ≡ true)
truths text w h = truth_case text w (bytes_eq text (codes "true")) (bytes_eq text (codes "false")) refl refl h

pub truth_spelled : (text : List ℕ) (w : ℕ) → truth_of text ≡ Some w → text ≡ literal_text scalar.Bool w
unfolding literal_text
truth_spelled text w h = (truths text w h).0

pub truth_word : (text : List ℕ) (w : ℕ) → truth_of text ≡ Some w → is_word scalar.Bool w ≡ true
truth_word text w h = (truths text w h).1

-- ---- numbers

whole : (m n : ℕ) → n ≤ 64 → IsTrue (nat_lt m (2 ^ n)) → m < 2 ^ 64
whole m n b h =
    let q : m < 2 ^ n = grind (arith, nat_tests, h) in
    omega (arith, q, pow_mono b)

small : (n : ℕ) (sign : Bool) (z : ℤ) → n ≤ 64 → in_range n sign z ≡ true → unsigned_abs z < 2 ^ 64
small n true (pos m) b h = let p = half_below m n b h in omega (arith, p)
small n true (negsuc m) b h = let p = half_below m n b h in omega (arith, p)
small n false (pos m) b h = whole m n b h
small n false (negsuc m) b h = absurd (cc)

negative_size : (v : ℕ) → unsigned_abs (neg_ℤ (pos v)) ≡ v
negative_size zero = refl
negative_size (suc m) = refl

negative_text : (v : ℕ) → 0 < v → signed_decimal (neg_ℤ (pos v)) ≡ 45 ∷ decimal v
negative_text zero h = absurd (omega arith)
negative_text (suc m) h = refl

negative_spelled : (text : List ℕ) (z : ℤ) → unsigned_abs z < 2 ^ 64 → negative_of text ≡ Some z → 45 ∷ text ≡ signed_decimal z
negative_spelled text z low h =
    let p = cond_some (is_decimal text && nat_lt 0 (value_of text)) (neg_ℤ (pos (value_of text))) z h in
    let some : nat_lt 0 (value_of text) ≡ true = (and_parts (is_decimal text) (nat_lt 0 (value_of text)) p.0).1 in
    let above : 0 < value_of text = grind (arith, nat_tests, some) in
    let size : value_of text < 2 ^ 64 = rw (← p.1, negative_size (value_of text)) at low in
    rw (← p.1, negative_text (value_of text) above, decimal-value_of text ((and_parts (is_decimal text) (nat_lt 0 (value_of text)) p.0).0) size) refl

positive_spelled : (text : List ℕ) (z : ℤ) → unsigned_abs z < 2 ^ 64 → positive_of text ≡ Some z → text ≡ signed_decimal z
positive_spelled text z low h =
    let p = cond_some (is_decimal text) (pos (value_of text)) z h in
    let size : value_of text < 2 ^ 64 = rw (← p.1) at low in
    rw (← p.1) (sym (decimal-value_of text p.0 size))

integer_case : (b : ℕ) (text : List ℕ) (z : ℤ) (c : Bool) → (b == 45) ≡ c → unsigned_abs z < 2 ^ 64 → (if c then negative_of text else positive_of (b ∷ text)) ≡ Some z → b ∷ text ≡ signed_decimal z
integer_case b text z true is low h = rw (eqb-true b 45 is) (negative_spelled text z low h)
integer_case b text z false is low h = positive_spelled (b ∷ text) z low h

integer_spelled : (text : List ℕ) (z : ℤ) → unsigned_abs z < 2 ^ 64 → integer_of text ≡ Some z → text ≡ signed_decimal z
integer_spelled [] z low h = absurd (cc)
integer_spelled (b ∷ text) z low h = integer_case b text z (b == 45) refl low h

number_text_is : (sign : Bool) (w : ℕ) → number_text sign w ≡ signed_decimal (number_at sign w)
number_text_is true w = refl
number_text_is false w = refl

bits_high : (s : Scalar) → bits s ≤ 64
bits_high scalar.Bool = omega arith
bits_high scalar.Int8 = omega arith
bits_high scalar.Int16 = omega arith
bits_high scalar.Int32 = omega arith
bits_high scalar.Int64 = omega arith
bits_high scalar.Word8 = omega arith
bits_high scalar.Word16 = omega arith
bits_high scalar.Word32 = omega arith
bits_high scalar.Word64 = omega arith

both : (a b : Bool) → IsTrue a → IsTrue b → IsTrue (a && b)
both true b p q = q
both false b p q = absurd (cc)

word_of : (s : Scalar) (t : List ℕ) (w : ℕ) → option_and_then (word_in s) (integer_of t) ≡ Some w → (t ≡ number_text (signed s) w) × (is_word_at (bits s) (signed s) w ≡ true)
word_of s t w h =
    let found = then_some (word_in s) (integer_of t) w h in
    let z = found.0 in
    let fits = cond_some (in_range (bits s) (signed s) z) (word z) w found.2 in
    rw (← fits.1) (
      rw (number_text_is (signed s) (word z), word_back (bits s) (signed s) z (bits_some s) (bits_high s) fits.0)
          (integer_spelled t z (small (bits s) (signed s) z (bits_high s) fits.0) found.1),
      is_word_at-word (bits s) (signed s) z (bits_some s) (bits_high s) fits.0,
    )

-- ---- a number and its scalar

abbrev scalar_in : Option (Scalar × ℕ) → Scalar
scalar_in None = scalar.Bool
scalar_in (Some p) = p.0

abbrev word_at : Option (Scalar × ℕ) → Option ℕ
word_at None = None
word_at (Some p) = Some p.1

map_pair : (s s' : Scalar) (o : Option ℕ) (w : ℕ) → option_map {U = Scalar × ℕ} (λ v. (s, v)) o ≡ Some (s', w) → (s ≡ s') × (o ≡ Some w)
map_pair s s' None w h = absurd (cc)
map_pair s s' (Some v) w h = (ap scalar_in h, ap word_at h)

at_integer : (t : List ℕ) (s s' : Scalar) (w : ℕ) → literal_text s w ≡ number_text (signed s) w ++ codes ":" ++ scalar_word s → is_word s w ≡ is_word_at (bits s) (signed s) w → option_map {U = Scalar × ℕ} (λ v. (s, v)) (option_and_then (word_in s) (integer_of t)) ≡ Some (s', w) → (s ≡ s') × (literal_text s w ≡ t ++ codes ":" ++ scalar_word s) × (is_word s w ≡ true)
at_integer t s s' w text words h =
    let p = map_pair s s' (option_and_then (word_in s) (integer_of t)) w h in
    let q = word_of s t w p.1 in
    (p.0, text ∙ ap (λ x. x ++ codes ":" ++ scalar_word s) (sym q.0), words ∙ q.1)

typed_is : (t : List ℕ) (s s' : Scalar) (w : ℕ) → typed t s ≡ Some (s', w) → (s ≡ s') × (literal_text s w ≡ t ++ codes ":" ++ scalar_word s) × (is_word s w ≡ true)
unfolding literal_text
typed_is t scalar.Bool s' w h = absurd (cc)
typed_is t scalar.Int8 s' w h = at_integer t scalar.Int8 s' w refl refl h
typed_is t scalar.Int16 s' w h = at_integer t scalar.Int16 s' w refl refl h
typed_is t scalar.Int32 s' w h = at_integer t scalar.Int32 s' w refl refl h
typed_is t scalar.Int64 s' w h = at_integer t scalar.Int64 s' w refl refl h
typed_is t scalar.Word8 s' w h = at_integer t scalar.Word8 s' w refl refl h
typed_is t scalar.Word16 s' w h = at_integer t scalar.Word16 s' w refl refl h
typed_is t scalar.Word32 s' w h = at_integer t scalar.Word32 s' w refl refl h
typed_is t scalar.Word64 s' w h = at_integer t scalar.Word64 s' w refl refl h

-- a text at its first colon
parted : (text : List ℕ) (k : ℕ) → position is_colon text ≡ Some k → text ≡ take k text ++ codes ":" ++ drop (k + 1) text
parted text k h =
    let at = position-Some is_colon text k 0 h in
    let colon : get_or text k 0 ≡ 58 = eqb-true (get_or text k 0) 58 at.1 in
    let next : suc k ≡ k + 1 = omega arith in
    sym (take-append-drop k text)
    ∙ ap (λ r. take k text ++ r) (drop-cons text k 0 at.0 ∙ ap (λ b. b ∷ drop (suc k) text) colon ∙ ap (λ n. 58 ∷ drop n text) next)
    ∙ sym (append_assoc (take k text) (codes ":") (drop (k + 1) text))

numbers : (text : List ℕ) (s : Scalar) (w : ℕ) → number_of text ≡ Some (s, w) → (text ≡ literal_text s w) × (is_word s w ≡ true)
numbers text s w h =
    let place = then_some (typed_at text) (position is_colon text) (s, w) h in
    let k = place.0 in
    let found = then_some (typed (take k text)) (scalar_of (drop (k + 1) text)) (s, w) place.2 in
    let facts = typed_is (take k text) found.0 s w found.2 in
    let spelled : literal_text found.0 w ≡ text = facts.1 ∙ ap (λ r. take k text ++ codes ":" ++ r) (sym (found_scalar (drop (k + 1) text) found.0 found.1)) ∙ sym (parted text k place.1) in
    rw (← facts.0) (sym spelled, facts.2)

-- ---- all literals

either_case : (text : List ℕ) (s : Scalar) (w : ℕ) (o : Option ℕ) → truth_of text ≡ o → option_map_or (λ v. Some (scalar.Bool, v)) o (number_of text) ≡ Some (s, w) → (text ≡ literal_text s w) × (is_word s w ≡ true)
either_case text s w None is h = numbers text s w h
either_case text s w (Some v) is h =
    let same : scalar.Bool ≡ s = ap scalar_in h in
    let value : Some v ≡ Some w = ap word_at h in
    rw (← same) (truth_spelled text w (is ∙ value), truth_word text w (is ∙ value))

literals : (text : List ℕ) (s : Scalar) (w : ℕ) → literal_of text ≡ Some (s, w) → (text ≡ literal_text s w) × (is_word s w ≡ true)
unfolding literal_of
literals text s w h = either_case text s w (truth_of text) refl h

pub literal_word : (text : List ℕ) (s : Scalar) (w : ℕ) → literal_of text ≡ Some (s, w) → is_word s w ≡ true
literal_word text s w h = (literals text s w h).1

pub literal_spelled : (text : List ℕ) (s : Scalar) (w : ℕ) → literal_of text ≡ Some (s, w) → text ≡ literal_text s w
literal_spelled text s w h = (literals text s w h).0

pub ruleset read_truths = (truth_spelled, truth_word)

pub ruleset read_literals = (literal_word, literal_spelled)
