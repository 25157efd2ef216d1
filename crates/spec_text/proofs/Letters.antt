-- The words of a surface are runs of letters.
use Rattle.std.proofs.Common.{◌≡◌, ℕ, suc, ◌^◌, ◌<◌, ◌≤◌, ◌==◌, ◌&&◌, not, Bool, true, false, nat_lt, nat_le, List, [], ◌∷◌, ◌++◌, length, refl, sym, ◌∙◌, subst, arith}
use Rattle.std.specs.Prelude.{ℤ, pos, negsuc, IsTrue, ◌||◌, if◌then◌else◌, codes, decimal, slice_get}
use Rattle.std.specs.Fmt.{signed_decimal}
use Rattle.std.specs.List.{list_all}
use Rattle.std.specs.Option.{option_map_or}
use Rattle.std.proofs.lemmas.Bool.{and_from, and_parts, eqb-true}
use Rattle.std.proofs.lemmas.Bool.Decides.{nat_tests}
use Rattle.std.proofs.lemmas.Fmt.{digits_decimal, decimal_nonempty}
use Rattle.std.proofs.lemmas.List.{length-append}
use Rattle.std.proofs.lemmas.List.Folds.{list_all-append}
use Rattle.sm_io.specs.Names.{is_name_byte}
use Rattle.sm_io.specs.Words as names
use Rattle.spec_forest.specs.Tokens.{is_letter}
use Rattle.spec_forest.specs.Layout.{IsWord}
use Rattle.stream_types.specs.declared.scalar.Scalar.{Scalar}
use Rattle.stream_types.specs.declared.scalar.Scalar.TheVariants as scalar
use Rattle.stream_types.specs.Numbers.{is_word, is_word_at, in_range, number_at}
use Rattle.spec_words.specs.Decimals.{is_digit}
use Rattle.spec_words.specs.Literals.{literal_text, number_text}
use Rattle.spec_words.proofs.DecimalLaws.{own}
use Rattle.stream_types.specs.IntTyLaws.{half_below}
use Rattle.sm_io.proofs.Truths.{all_weaker, either_says}

-- ---- tests

-- ---- bytes

letter : (b : ℕ) → 42 ≤ b → b ≤ 126 → (b == 59) ≡ false → is_letter b ≡ true
letter b low high apart =
    let e9 : (b == 9) ≡ false = grind (arith, nat_tests) in
    let e10 : (b == 10) ≡ false = grind (arith, nat_tests) in
    let e13 : (b == 13) ≡ false = grind (arith, nat_tests) in
    let e32 : (b == 32) ≡ false = grind (arith, nat_tests) in
    let e40 : (b == 40) ≡ false = grind (arith, nat_tests) in
    let e41 : (b == 41) ≡ false = grind (arith, nat_tests) in
    let l : nat_le 32 b ≡ true = grind (arith, nat_tests) in
    let u : nat_le b 126 ≡ true = grind (arith, nat_tests) in
    rw (e9, e10, e13, e32, e40, e41, apart, l, u) refl

digit : (b : ℕ) → is_digit b ≡ true → is_letter b ≡ true
digit b h =
    let p = and_parts (nat_le 48 b) (nat_le b 57) h in
    let low : 48 ≤ b = grind (arith, nat_tests, p.0) in
    let high : b ≤ 57 = grind (arith, nat_tests, p.1) in
    letter b (omega (arith, low)) (omega (arith, high)) (grind (arith, nat_tests))

upper : (b : ℕ) → (nat_le 65 b && nat_le b 90) ≡ true → is_letter b ≡ true
upper b h =
    let p = and_parts (nat_le 65 b) (nat_le b 90) h in
    let low : 65 ≤ b = grind (arith, nat_tests, p.0) in
    let high : b ≤ 90 = grind (arith, nat_tests, p.1) in
    letter b (omega (arith, low)) (omega (arith, high)) (grind (arith, nat_tests))

lower : (b : ℕ) → (nat_le 97 b && nat_le b 122) ≡ true → is_letter b ≡ true
lower b h =
    let p = and_parts (nat_le 97 b) (nat_le b 122) h in
    let low : 97 ≤ b = grind (arith, nat_tests, p.0) in
    let high : b ≤ 122 = grind (arith, nat_tests, p.1) in
    letter b (omega (arith, low)) (omega (arith, high)) (grind (arith, nat_tests))

underscore : (b : ℕ) → (b == 95) ≡ true → is_letter b ≡ true
underscore b h = subst (λ x. is_letter x ≡ true) (sym (eqb-true b 95 h)) refl

name-byte : (b : ℕ) → is_name_byte b ≡ true → is_letter b ≡ true
name-byte b h =
    let d = nat_le 48 b && nat_le b 57 in
    let u = nat_le 65 b && nat_le b 90 in
    let l = nat_le 97 b && nat_le b 122 in
    either_says (d || u || l) (b == 95) (either_says (d || u) l (either_says d u (digit b) (upper b)) (lower b)) (underscore b) h

-- ---- names

first-there : (x : List ℕ) → option_map_or names.is_letter (slice_get x 0) false ≡ true → 0 < length x
first-there [] h = absurd (cc)
first-there (b ∷ x) h = omega arith

pub name-word : (x : List ℕ) → names.is_name x ≡ true → IsWord x
name-word x h =
    let p = and_parts (names.is_word x) (not (names.is_kept x)) h in
    let q = and_parts (option_map_or names.is_letter (slice_get x 0) false && nat_le (length x) 31) (list_all is_name_byte x) p.0 in
    let r = and_parts (option_map_or names.is_letter (slice_get x 0) false) (nat_le (length x) 31) q.0 in
    (first-there x r.0, all_weaker is_name_byte is_letter name-byte x q.1)

-- ---- decimals

pub decimal-word : (n : ℕ) → n < 2 ^ 64 → IsWord (decimal n)
decimal-word n small = (decimal_nonempty n small, all_weaker is_digit is_letter digit (decimal n) (digits_decimal own n small))

-- ---- literals

signed-word : (n : ℕ) (z : ℤ) → n ≤ 64 → in_range n true z ≡ true → IsWord (signed_decimal z)
signed-word n (pos m) b h = let p = half_below m n b h in decimal-word m (omega (arith, p))
signed-word n (negsuc m) b h =
    let p = half_below m n b h in
    let d : IsWord (decimal (suc m)) = decimal-word (suc m) (omega (arith, p)) in
    (omega arith, d.1)

number-word : (n w : ℕ) (sign : Bool) → n ≤ 64 → is_word_at n sign w ≡ true → IsWord (number_text sign w)
number-word n w true b h = signed-word n (number_at true w) b (and_parts (nat_lt w (2 ^ 64)) (in_range n true (number_at true w)) h).1
number-word n w false b h =
    let q : IsTrue (nat_lt w (2 ^ 64)) = (and_parts (nat_lt w (2 ^ 64)) (in_range n false (number_at false w)) h).0 in
    decimal-word w (grind (arith, nat_tests, q))

join : (a b : List ℕ) → IsWord a → list_all is_letter b ≡ true → IsWord (a ++ b)
join a b w h = (omega (arith, w.0, length-append a b), list_all-append is_letter a b ∙ and_from (list_all is_letter a) (list_all is_letter b) w.1 h)

typed-word : (n w : ℕ) (sign : Bool) (word : List ℕ) → n ≤ 64 → is_word_at n sign w ≡ true → list_all is_letter word ≡ true → IsWord (number_text sign w ++ codes ":" ++ word)
typed-word n w sign word b h k = join (number_text sign w ++ codes ":") word (join (number_text sign w) (codes ":") (number-word n w sign b h) refl) k

truth-word : (b : Bool) → IsWord (if b then codes "false" else codes "true")
truth-word true = (omega arith, refl)
truth-word false = (omega arith, refl)

pub literal-word : (s : Scalar) (w : ℕ) → is_word s w ≡ true → IsWord (literal_text s w)
unfolding literal_text
literal-word scalar.Bool w h = truth-word (w == 0)
literal-word scalar.Int8 w h = typed-word 8 w true (codes "Int8") (omega arith) h refl
literal-word scalar.Int16 w h = typed-word 16 w true (codes "Int16") (omega arith) h refl
literal-word scalar.Int32 w h = typed-word 32 w true (codes "Int32") (omega arith) h refl
literal-word scalar.Int64 w h = typed-word 64 w true (codes "Int64") (omega arith) h refl
literal-word scalar.Word8 w h = typed-word 8 w false (codes "Word8") (omega arith) h refl
literal-word scalar.Word16 w h = typed-word 16 w false (codes "Word16") (omega arith) h refl
literal-word scalar.Word32 w h = typed-word 32 w false (codes "Word32") (omega arith) h refl
literal-word scalar.Word64 w h = typed-word 64 w false (codes "Word64") (omega arith) h refl
