-- What is written is read: words, decimals, numbers and literals.
use Rattle.std.proofs.Common.{◌≡◌, ℕ, zero, suc, ◌+◌, ◌^◌, ◌<◌, ◌≤◌, ◌==◌, not, Bool, true, false, nat_lt, nat_le, List, [], ◌∷◌, ◌++◌, get_or, take, drop, length, Option, Some, None, refl, ap, sym, ◌∙◌, subst, arith, append_assoc}
use Rattle.std.specs.Prelude.{ℤ, pos, negsuc, IsTrue, ◌||◌, codes, decimal, position, is_some}
use Rattle.std.specs.Fmt.{signed_decimal}
use Rattle.std.specs.List.{list_all, list_any, position_or_len}
use Rattle.std.specs.Option.{option_map, option_map_or, option_and_then}
use Rattle.std.proofs.lemmas.Bool.{and_from, and_parts, or_parts, not-true, eqb-true}
use Rattle.std.proofs.lemmas.Bool.Decides.{nat_tests}
use Rattle.std.proofs.lemmas.Fmt.{digits_decimal, digits_value-decimal, decimal_nonempty, first_decimal, decimal_digit}
use Rattle.std.proofs.lemmas.List.{length-append}
use Rattle.stream_types.specs.declared.scalar.Scalar.{Scalar}
use Rattle.stream_types.specs.declared.scalar.Scalar.TheVariants as scalar
use Rattle.stream_types.specs.Scalars.{bits, signed}
use Rattle.stream_types.specs.Numbers.{is_word_at, in_range, number_at}
use Rattle.sm_io.proofs.Truths.{all_weaker, or_passes, either_says}
use Rattle.stream_types.specs.IntTyLaws.{half_below}
use Rattle.stream_types.specs.declared.scalar.Op1.TheVariants as op1
use Rattle.stream_types.specs.declared.scalar.Op2.TheVariants as op2
use Rattle.stream_types.specs.declared.scalar.Dir.TheVariants as dir
use Rattle.spec_words.specs.declared.head.Single.TheVariants as single
use Rattle.spec_words.specs.declared.head.Pair.TheVariants as pair
use Rattle.spec_words.specs.declared.head.Bounded.TheVariants as bounded
use Rattle.spec_words.specs.declared.head.Vote.TheVariants as vote
use Rattle.spec_words.specs.declared.head.Window.TheVariants as window
use Rattle.spec_words.specs.declared.head.Head.{Head}
use Rattle.spec_words.specs.declared.head.Head.TheVariants as head
use Rattle.spec_words.specs.Words.{version_of, spec_word, scalar_word, scalar_of, head_word, head_of, truth_of}
use Rattle.spec_words.specs.Decimals.{is_digit, is_decimal, value_of}
use Rattle.spec_words.specs.Magnitudes.{word_in}
use Rattle.spec_words.specs.Literals.{is_colon, is_numeric, positive_of, integer_of, typed, number_of, number_text, literal_of}
use Rattle.spec_words.proofs.DecimalLaws.{own}

-- ---- words

pub scalar-read : (s : Scalar) → scalar_of (scalar_word s) ≡ Some s
unfolding scalar_of
scalar-read scalar.Bool = refl
scalar-read scalar.Int8 = refl
scalar-read scalar.Int16 = refl
scalar-read scalar.Int32 = refl
scalar-read scalar.Int64 = refl
scalar-read scalar.Word8 = refl
scalar-read scalar.Word16 = refl
scalar-read scalar.Word32 = refl
scalar-read scalar.Word64 = refl

version-is : (v n : ℕ) → version_of (spec_word n) ≡ Some n → (v == n) ≡ true → version_of (spec_word v) ≡ Some v
version-is v n h e = subst (λ (m : ℕ). version_of (spec_word m) ≡ Some m) (sym (eqb-true v n e)) h

pub version-read : (v : ℕ) → (v == 1 || v == 2) ≡ true → version_of (spec_word v) ≡ Some v
version-read v h = either_says (v == 1) (v == 2) (version-is v 1 refl) (version-is v 2 refl) h

pub head-read : (h : Head) → head_of (head_word h) ≡ Some h
unfolding head_of
head-read head.Drop = refl
head-read head.If = refl
head-read head.Cast = refl
head-read head.Field = refl
head-read head.Array = refl
head-read head.Record = refl
head-read head.SinceIn = refl
head-read head.Clock = refl
head-read (head.Single (single.Un op1.Not)) = refl
head-read (head.Single (single.Un op1.BitNot)) = refl
head-read (head.Single single.Abs) = refl
head-read (head.Single single.Sign) = refl
head-read (head.Single single.Once) = refl
head-read (head.Single single.Historically) = refl
head-read (head.Single single.Yesterday) = refl
head-read (head.Single single.WeaklyYesterday) = refl
head-read (head.Pair (pair.Bin op2.Add)) = refl
head-read (head.Pair (pair.Bin op2.Sub)) = refl
head-read (head.Pair (pair.Bin op2.Mul)) = refl
head-read (head.Pair (pair.Bin op2.Quot)) = refl
head-read (head.Pair (pair.Bin op2.Rem)) = refl
head-read (head.Pair (pair.Bin op2.BitAnd)) = refl
head-read (head.Pair (pair.Bin op2.BitOr)) = refl
head-read (head.Pair (pair.Bin op2.BitXor)) = refl
head-read (head.Pair (pair.Bin op2.Eq)) = refl
head-read (head.Pair (pair.Bin op2.Ne)) = refl
head-read (head.Pair (pair.Bin op2.Lt)) = refl
head-read (head.Pair (pair.Bin op2.Le)) = refl
head-read (head.Pair (pair.Bin op2.Gt)) = refl
head-read (head.Pair (pair.Bin op2.Ge)) = refl
head-read (head.Pair (pair.Shift dir.Left)) = refl
head-read (head.Pair (pair.Shift dir.Right)) = refl
head-read (head.Pair pair.And) = refl
head-read (head.Pair pair.Or) = refl
head-read (head.Pair pair.Implies) = refl
head-read (head.Pair pair.Index) = refl
head-read (head.Pair pair.Since) = refl
head-read (head.Bounded bounded.Once) = refl
head-read (head.Bounded bounded.Historically) = refl
head-read (head.Vote vote.Majority) = refl
head-read (head.Vote vote.Agreed) = refl
head-read (head.Window window.Max) = refl
head-read (head.Window window.Min) = refl
head-read (head.Window window.Sum) = refl

-- ---- decimals

pub value-decimal : (n : ℕ) → n < 2 ^ 64 → value_of (decimal n) ≡ n
unfolding value_of
value-decimal n small = digits_value-decimal own n small

no_zero : (text : List ℕ) → list_all is_digit text ≡ true → 48 < get_or text 0 0 → is_decimal text ≡ true
unfolding is_decimal
no_zero [] h f = absurd (omega (arith, f))
no_zero (b ∷ text) h f =
    let e : (b == 48) ≡ false = grind (arith, nat_tests, f) in
    and_from (list_all is_digit (b ∷ text)) (not (b == 48) || nat_lt (length text) 1) h (rw e refl)

pub is-decimal : (n : ℕ) → n < 2 ^ 64 → is_decimal (decimal n) ≡ true
unfolding is_decimal
is-decimal zero small = rw (decimal_digit 0 (omega arith)) refl
is-decimal (suc m) small = no_zero (decimal (suc m)) (digits_decimal own (suc m) small) (first_decimal (suc m) (omega arith) small)

-- ---- numbers

first-digit : (text : List ℕ) → list_all is_digit text ≡ true → 0 < length text → integer_of text ≡ positive_of text
first-digit [] h some = absurd (omega (arith, some))
first-digit (b ∷ text) h some =
    let p = and_parts (is_digit b) (list_all is_digit text) h in
    let q = and_parts (nat_le 48 b) (nat_le b 57) p.0 in
    let e : (b == 45) ≡ false = grind (arith, nat_tests, q.0) in
    rw e refl

pub integer-decimal : (n : ℕ) → n < 2 ^ 64 → integer_of (decimal n) ≡ Some (pos n)
integer-decimal n small =
    first-digit (decimal n) (digits_decimal own n small) (decimal_nonempty n small)
    ∙ rw (is-decimal n small, value-decimal n small) refl

pub integer-signed : (z : ℤ) (m : ℕ) → z ≡ negsuc m → suc m < 2 ^ 64 → integer_of (signed_decimal z) ≡ Some z
integer-signed z m is small =
    let t : nat_lt 0 (suc m) ≡ true = grind (arith, nat_tests) in
    rw (is, is-decimal (suc m) small, value-decimal (suc m) small, t) refl

-- ---- behind a colon

colon-at : (xs ys : List ℕ) → list_any is_colon xs ≡ false → position_or_len is_colon (xs ++ 58 ∷ ys) ≡ length xs
colon-at [] ys h = refl
colon-at (x ∷ xs) ys h =
    let p = or_parts (is_colon x) (list_any is_colon xs) h in
    let e : position_or_len is_colon (xs ++ 58 ∷ ys) ≡ length xs = colon-at xs ys p.1 in
    rw p.0 (omega (arith, e))

position-at : (xs ys : List ℕ) → list_any is_colon xs ≡ false → position is_colon (xs ++ 58 ∷ ys) ≡ Some (length xs)
position-at xs ys h =
    let t : nat_lt (length xs) (length (xs ++ 58 ∷ ys)) ≡ true = grind (arith, nat_tests, length-append xs (58 ∷ ys)) in
    rw (colon-at xs ys h, t) refl

take-front : (xs ys : List ℕ) → take (length xs) (xs ++ 58 ∷ ys) ≡ xs
take-front [] ys = refl
take-front (x ∷ xs) ys = ap (λ (zs : List ℕ). x ∷ zs) (take-front xs ys)

drop-front : (xs ys : List ℕ) → drop (suc (length xs)) (xs ++ 58 ∷ ys) ≡ ys
drop-front [] ys = refl
drop-front (x ∷ xs) ys = drop-front xs ys

pub number-parts : (front ys : List ℕ) → list_any is_colon front ≡ false → number_of (front ++ 58 ∷ ys) ≡ option_and_then (typed front) (scalar_of ys)
number-parts front ys h =
    let next : length front + 1 ≡ suc (length front) = omega arith in
    rw (position-at front ys h, take-front front ys, next, drop-front front ys) refl

-- ---- literals

no-colon-digit : (b : ℕ) → is_digit b ≡ true → not (is_colon b) ≡ true
no-colon-digit b h =
    let p = and_parts (nat_le 48 b) (nat_le b 57) h in
    let e : (b == 58) ≡ false = grind (arith, nat_tests, p.1) in
    rw e refl

pub none-of : (xs : List ℕ) → list_all (λ b. not (is_colon b)) xs ≡ true → list_any is_colon xs ≡ false
none-of [] h = refl
none-of (x ∷ xs) h =
    let p = and_parts (not (is_colon x)) (list_all (λ b. not (is_colon b)) xs) h in
    let e : is_colon x ≡ false = not-true (is_colon x) p.0 in
    rw e (none-of xs p.1)

decimal-plain : (n : ℕ) → n < 2 ^ 64 → list_any is_colon (decimal n) ≡ false
decimal-plain n small = none-of (decimal n) (all_weaker is_digit (λ b. not (is_colon b)) no-colon-digit (decimal n) (digits_decimal own n small))

-- the number of a word, as it is written and read
pub record IsWritten (sign : Bool) (w : ℕ) : Type 0 where
  pub plain : list_any is_colon (number_text sign w) ≡ false
  pub number : integer_of (number_text sign w) ≡ Some (number_at sign w)

signed-read : (n : ℕ) (z : ℤ) → n ≤ 64 → in_range n true z ≡ true → (list_any is_colon (signed_decimal z) ≡ false) × (integer_of (signed_decimal z) ≡ Some z)
signed-read n (pos m) b h =
    let p = half_below m n b h in
    let q : m < 2 ^ 64 = omega (arith, p) in
    (decimal-plain m q, integer-decimal m q)
signed-read n (negsuc m) b h =
    let p = half_below m n b h in
    let q : suc m < 2 ^ 64 = omega (arith, p) in
    (decimal-plain (suc m) q, integer-signed (negsuc m) m refl q)

pub number-read : (n w : ℕ) (sign : Bool) → n ≤ 64 → is_word_at n sign w ≡ true → IsWritten sign w
number-read n w true b h =
    let p = signed-read n (number_at true w) b (and_parts (nat_lt w (2 ^ 64)) (in_range n true (number_at true w)) h).1 in
    record { plain = p.0; number = p.1 }
number-read n w false b h =
    let q : IsTrue (nat_lt w (2 ^ 64)) = (and_parts (nat_lt w (2 ^ 64)) (in_range n false (number_at false w)) h).0 in
    let r : w < 2 ^ 64 = grind (arith, nat_tests, q) in
    record { plain = decimal-plain w r; number = integer-decimal w r }

-- a literal with a colon
pub record IsLiteral (text : List ℕ) : Type 0 where
  pub numeric : is_numeric text ≡ true
  pub literal : is_some (literal_of text) ≡ true

some-literal : (text : List ℕ) (o : Option ℕ) → is_some (number_of text) ≡ true → is_some (option_map_or (λ w. Some (scalar.Bool, w)) o (number_of text)) ≡ true
some-literal text None h = h
some-literal text (Some w) h = refl

pub has-colon : (xs ys : List ℕ) → list_any is_colon (xs ++ 58 ∷ ys) ≡ true
has-colon [] ys = refl
has-colon (x ∷ xs) ys = or_passes (is_colon x) (list_any is_colon (xs ++ 58 ∷ ys)) (has-colon xs ys)

pub typed-is : (s : Scalar) (n w : ℕ) (sign : Bool) → n ≤ 64 → is_word_at n sign w ≡ true → bits s ≡ n → signed s ≡ sign
    → ((front : List ℕ) → typed front s ≡ option_map (λ v. (s, v)) (option_and_then (word_in s) (integer_of front)))
    → IsLiteral (number_text sign w ++ codes ":" ++ scalar_word s)
unfolding literal_of is_numeric
typed-is s n w sign b h eb es typing =
    let r = number-read n w sign b h in
    let text = number_text sign w in
    let q = (and_parts (nat_lt w (2 ^ 64)) (in_range n sign (number_at sign w)) h).1 in
    let shape : text ++ codes ":" ++ scalar_word s ≡ text ++ 58 ∷ scalar_word s = append_assoc text (codes ":") (scalar_word s) in
    let found : number_of (text ++ 58 ∷ scalar_word s) ≡ option_and_then (typed text) (scalar_of (scalar_word s)) = number-parts text (scalar_word s) r.plain in
    let some : is_some (number_of (text ++ 58 ∷ scalar_word s)) ≡ true = rw (found, scalar-read s, typing text, r.number, eb, es, q) refl in
    let P : List ℕ → Type 0 = λ t. IsLiteral t in
    subst P (sym shape) (record {
      numeric = or_passes _ (list_any is_colon (text ++ 58 ∷ scalar_word s)) (has-colon text (scalar_word s));
      literal = some-literal (text ++ 58 ∷ scalar_word s) (truth_of (text ++ 58 ∷ scalar_word s)) some;
    })
