-- What an atom is read as: a literal, a scalar or a name.
use Rattle.std.proofs.Common.{◌≡◌, ℕ, zero, suc, ◌^◌, ◌<◌, ◌≤◌, ◌&&◌, Bool, true, false, nat_lt, List, [], ◌∷◌, ◌++◌, length, Option, Some, None, refl, ap, sym, ◌∙◌, arith, append_assoc}
use Rattle.std.specs.Prelude.{nat_le, not, if◌then◌else◌, codes, bytes_eq, slice_get}
use Rattle.std.specs.Int.{w64}
use Rattle.std.specs.List.{list_all, list_any, position_or_len}
use Rattle.std.specs.Option.{option_map, option_map_or, option_and_then}
use Rattle.std.proofs.lemmas.Bool.{and_parts, or_parts, true≢false}
use Rattle.std.proofs.lemmas.Bool.Decides.{nat_tests}
use Rattle.std.proofs.lemmas.Int.{of_z-to_z}
use Rattle.sm_io.specs.Names.{is_name_byte}
use Rattle.sm_io.specs.Words as names
use Rattle.stream_types.specs.declared.scalar.Scalar.{Scalar}
use Rattle.stream_types.specs.declared.scalar.Scalar.TheVariants as scalar
use Rattle.stream_types.specs.Scalars.{bits, signed}
use Rattle.stream_types.specs.Numbers.{is_word, is_word_at, in_range, number_at, word}
use Rattle.spec_words.specs.Words.{scalar_word, scalar_of}
use Rattle.spec_words.specs.Literals.{is_colon, integer_of, typed, number_of, number_text, literal_of, literal_text}
use Rattle.spec_words.specs.Magnitudes.{word_in}
use Rattle.spec_words.specs.Words.{truth_of, truth_text}
use Rattle.spec_words.proofs.WordLaws.{same_bytes, found_scalar}
use Rattle.sm_io.proofs.Truths.{all_weaker}
use Rattle.spec_words.proofs.ReadBack.{scalar-read, number-parts, number-read, has-colon, none-of}
use Rattle.spec_text.proofs.Fits.{no-colon-name}

-- ---- texts that are told apart by a test

not-same : (test : List ℕ → Bool) (a b : List ℕ) (c : Bool) → test a ≡ true → test b ≡ false → bytes_eq a b ≡ c → c ≡ false
not-same test a b true h k e = absurd (true≢false (sym h ∙ ap test (same_bytes a b e) ∙ k))
not-same test a b false h k e = refl

apart : (test : List ℕ → Bool) (a b : List ℕ) → test a ≡ true → test b ≡ false → bytes_eq a b ≡ false
apart test a b h k = not-same test a b (bytes_eq a b) h k refl

abbrev truth_if : Bool → Bool → Option ℕ
truth_if a b = if a then Some 1 else if b then Some 0 else None

neither : (a b : Bool) → a ≡ false → b ≡ false → truth_if a b ≡ None
neither true b h k = absurd (true≢false h)
neither false true h k = absurd (true≢false k)
neither false false h k = refl

no-truth : (test : List ℕ → Bool) (a : List ℕ) → test a ≡ true → test (codes "true") ≡ false → test (codes "false") ≡ false → truth_of a ≡ None
no-truth test a h t f = neither (bytes_eq a (codes "true")) (bytes_eq a (codes "false")) (apart test a (codes "true") h t) (apart test a (codes "false") h f)

-- what is no truth value is read as a number
by-number : (text : List ℕ) (r : Option (Scalar × ℕ)) → truth_of text ≡ None → number_of text ≡ r → literal_of text ≡ r
unfolding literal_of
by-number text r h k = ap (λ (o : Option ℕ). option_map_or (λ v. Some (scalar.Bool, v)) o (number_of text)) h ∙ k

-- ---- literals

truth-read : (w : ℕ) → nat_lt w 2 ≡ true → literal_of (truth_text w) ≡ Some (scalar.Bool, w)
unfolding literal_of
truth-read zero h = refl
truth-read (suc zero) h = refl
truth-read (suc (suc w)) h =
    let e : suc (suc w) < 2 = grind (arith, nat_tests, h) in
    absurd (omega (arith, e))

word-again : (sign : Bool) (w : ℕ) → w < 2 ^ 64 → word (number_at sign w) ≡ w
word-again true w small = of_z-to_z w64 w small
word-again false w small = refl

typed-read : (s : Scalar) (n w : ℕ) (sign : Bool) → n ≤ 64 → is_word_at n sign w ≡ true → bits s ≡ n → signed s ≡ sign
    → ((front : List ℕ) → typed front s ≡ option_map (λ v. (s, v)) (option_and_then (word_in s) (integer_of front)))
    → literal_of (number_text sign w ++ codes ":" ++ scalar_word s) ≡ Some (s, w)
typed-read s n w sign b h eb es typing =
    let r = number-read n w sign b h in
    let text = number_text sign w in
    let p = and_parts (nat_lt w (2 ^ 64)) (in_range n sign (number_at sign w)) h in
    let small : w < 2 ^ 64 = grind (arith, nat_tests, p.0) in
    let shape : text ++ codes ":" ++ scalar_word s ≡ text ++ 58 ∷ scalar_word s = append_assoc text (codes ":") (scalar_word s) in
    let found : number_of (text ++ 58 ∷ scalar_word s) ≡ option_and_then (typed text) (scalar_of (scalar_word s)) = number-parts text (scalar_word s) r.plain in
    let some : number_of (text ++ 58 ∷ scalar_word s) ≡ Some (s, w) = rw (found, scalar-read s, typing text, r.number, eb, es, p.1, word-again sign w small) refl in
    let none : truth_of (text ++ 58 ∷ scalar_word s) ≡ None = no-truth (λ t. list_any is_colon t) (text ++ 58 ∷ scalar_word s) (has-colon text (scalar_word s)) refl refl in
    ap literal_of shape ∙ by-number (text ++ 58 ∷ scalar_word s) (Some (s, w)) none some

pub literal-read : (s : Scalar) (w : ℕ) → is_word s w ≡ true → literal_of (literal_text s w) ≡ Some (s, w)
unfolding literal_text
literal-read scalar.Bool w h = truth-read w h
literal-read scalar.Int8 w h = typed-read scalar.Int8 8 w true (omega arith) h refl refl (λ front. refl)
literal-read scalar.Int16 w h = typed-read scalar.Int16 16 w true (omega arith) h refl refl (λ front. refl)
literal-read scalar.Int32 w h = typed-read scalar.Int32 32 w true (omega arith) h refl refl (λ front. refl)
literal-read scalar.Int64 w h = typed-read scalar.Int64 64 w true (omega arith) h refl refl (λ front. refl)
literal-read scalar.Word8 w h = typed-read scalar.Word8 8 w false (omega arith) h refl refl (λ front. refl)
literal-read scalar.Word16 w h = typed-read scalar.Word16 16 w false (omega arith) h refl refl (λ front. refl)
literal-read scalar.Word32 w h = typed-read scalar.Word32 32 w false (omega arith) h refl refl (λ front. refl)
literal-read scalar.Word64 w h = typed-read scalar.Word64 64 w false (omega arith) h refl refl (λ front. refl)

-- ---- names

no-position : (xs : List ℕ) → list_any is_colon xs ≡ false → position_or_len is_colon xs ≡ length xs
no-position [] h = refl
no-position (x ∷ xs) h =
    let p = or_parts (is_colon x) (list_any is_colon xs) h in
    let e : position_or_len is_colon xs ≡ length xs = no-position xs p.1 in
    rw p.0 (omega (arith, e))

no-number : (xs : List ℕ) → list_any is_colon xs ≡ false → number_of xs ≡ None
no-number xs h =
    let f : nat_lt (length xs) (length xs) ≡ false = grind (arith, nat_tests) in
    rw (no-position xs h, f) refl

-- a name is no literal
pub name-no-literal : (x : List ℕ) → names.is_name x ≡ true → literal_of x ≡ None
unfolding names.reserved names.limit_fronts names.limit_ends
name-no-literal x h =
    let p = and_parts (names.is_word x) (not (names.is_kept x)) h in
    let q = and_parts (option_map_or names.is_letter (slice_get x 0) false && nat_le (length x) 31) (list_all is_name_byte x) p.0 in
    let plain = none-of x (all_weaker is_name_byte (λ b. not (is_colon b)) no-colon-name x q.1) in
    let none : truth_of x ≡ None = no-truth (λ t. names.is_name t) x h refl refl in
    by-number x None none (no-number x plain)

no-scalar-name : (s : Scalar) → names.is_name (scalar_word s) ≡ false
unfolding names.reserved names.limit_fronts names.limit_ends
no-scalar-name scalar.Bool = refl
no-scalar-name scalar.Int8 = refl
no-scalar-name scalar.Int16 = refl
no-scalar-name scalar.Int32 = refl
no-scalar-name scalar.Int64 = refl
no-scalar-name scalar.Word8 = refl
no-scalar-name scalar.Word16 = refl
no-scalar-name scalar.Word32 = refl
no-scalar-name scalar.Word64 = refl

no-scalar : (x : List ℕ) (o : Option Scalar) → names.is_name x ≡ true → scalar_of x ≡ o → o ≡ None
no-scalar x None h e = refl
no-scalar x (Some s) h e = absurd (true≢false (sym h ∙ ap (λ (t : List ℕ). names.is_name t) (found_scalar x s e) ∙ no-scalar-name s))

-- nor is it a scalar's word
pub name-no-scalar : (x : List ℕ) → names.is_name x ≡ true → scalar_of x ≡ None
name-no-scalar x h = no-scalar x (scalar_of x) h refl
