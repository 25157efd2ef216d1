-- Sizes and signs by comparison with zero.
use Rattle.std.proofs.Common.{◌≡◌, ℕ, zero, suc, ◌^◌, ◌<◌, ◌≤◌, List, [], ◌∷◌, refl, sym, ap, ◌∙◌, arith, Bool, true, false, nat_lt, Ok, Err}
use Rattle.std.specs.Prelude.{ℤ, pos, negsuc, ◌-ℤ◌, int_lt, unsigned_abs, ◌&&◌, if◌then◌else◌, IsTrue}
use Rattle.std.proofs.lemmas.Bool.Decides.{nat_tests}
use Rattle.std.proofs.lemmas.Int.{ints}
use Rattle.std.proofs.Math.Nat.{mod-eq_of_lt}
use Rattle.stream_types.specs.declared.scalar.Hazard.TheVariants.{Overflow}
use Rattle.stream_types.specs.declared.scalar.Scalar.{Scalar}
use Rattle.stream_types.specs.declared.scalar.Scalar.TheVariants as scalar
use Rattle.stream_types.specs.declared.scalar.Op2.TheVariants as op2
use Rattle.stream_types.specs.Scalars.{bits, signed, is_integer}
use Rattle.stream_types.specs.Numbers.{number, number_at, word, in_range, is_word_at, is_word, fit, as_word, of_test, op2_word, is_zero, sign_number, abs_word, sign_word}
use Rattle.stream_types.specs.IntTyLaws.{number_back}
use Rattle.stream_core.specs.Term.{Term, choose, bin, lit, abs, sign}
use Rattle.stream_core.specs.Eval.{Moment, Value, value, one, on_test, on_two, on_word}
use Rattle.stream_core.specs.Lower.{abs_term, sign_term}
use Rattle.form_laws.specs.ScalarTerms.{HasWord}

-- ---- words of integers

integer_word : (s : Scalar) (w : ℕ) → IsTrue (is_integer s) → IsTrue (is_word s w) → IsTrue (is_word_at (bits s) (signed s) w)
integer_word scalar.Bool w i h = absurd (cc)
integer_word scalar.Int8 w i h = h
integer_word scalar.Int16 w i h = h
integer_word scalar.Int32 w i h = h
integer_word scalar.Int64 w i h = h
integer_word scalar.Word8 w i h = h
integer_word scalar.Word16 w i h = h
integer_word scalar.Word32 w i h = h
integer_word scalar.Word64 w i h = h

some_bits : (s : Scalar) → (1 ≤ bits s) × (bits s ≤ 64)
some_bits scalar.Bool = (omega arith, omega arith)
some_bits scalar.Int8 = (omega arith, omega arith)
some_bits scalar.Int16 = (omega arith, omega arith)
some_bits scalar.Int32 = (omega arith, omega arith)
some_bits scalar.Int64 = (omega arith, omega arith)
some_bits scalar.Word8 = (omega arith, omega arith)
some_bits scalar.Word16 = (omega arith, omega arith)
some_bits scalar.Word32 = (omega arith, omega arith)
some_bits scalar.Word64 = (omega arith, omega arith)

second_true : (a b : Bool) → IsTrue (a && b) → IsTrue b
second_true true b h = h
second_true false b h = absurd (cc)

number_fits : (s : Scalar) (w : ℕ) → IsTrue (is_word_at (bits s) (signed s) w) → IsTrue (in_range (bits s) (signed s) (number s w))
number_fits s w h = second_true (nat_lt w (2 ^ 64)) (in_range (bits s) (signed s) (number s w)) h

zero_number : (b : Bool) → number_at b 0 ≡ pos 0
zero_number true = refl
zero_number false = refl

fit_same : (n : ℕ) (b : Bool) (z : ℤ) → IsTrue (in_range n b z) → fit n b z ≡ Ok z
fit_same n true z h = ap (λ (c : Bool). if c then Ok z else Err Overflow) h
fit_same n false (pos k) h = let p : k < 2 ^ n = grind (arith, nat_tests, h) in ap (λ i. Ok (pos i)) (mod-eq_of_lt p)
fit_same n false (negsuc k) h = absurd (cc)

-- ---- comparison with zero

either : (b : Bool) (x y : Value) → on_test (one (Ok (word (of_test b)))) x y ≡ (if b then x else y)
either true x y = refl
either false x y = refl

below_zero : (s : Scalar) (w : ℕ) (x y : Value) → on_test (one (op2_word op2.Lt s w 0)) x y ≡ (if int_lt (number s w) (pos 0) then x else y)
below_zero s w x y = ap (λ z. on_test (one (Ok (word (of_test (int_lt (number s w) z))))) x y) (zero_number (signed s)) ∙ either (int_lt (number s w) (pos 0)) x y

above_zero : (s : Scalar) (w : ℕ) (x y : Value) → on_test (one (op2_word op2.Gt s w 0)) x y ≡ (if int_lt (pos 0) (number s w) then x else y)
above_zero s w x y = ap (λ z. on_test (one (Ok (word (of_test (int_lt z (number s w)))))) x y) (zero_number (signed s)) ∙ either (int_lt (pos 0) (number s w)) x y

-- ---- sizes

size_at : (n : ℕ) (b : Bool) (z : ℤ) → IsTrue (in_range n b z) → (if int_lt z (pos 0) then one (as_word (fit n b (pos 0 -ℤ z))) else Ok (word z ∷ [])) ≡ one (as_word (fit n b (pos (unsigned_abs z))))
size_at n b (pos k) h =
    let e : int_lt (pos k) (pos 0) ≡ false = grind (arith, nat_tests) in
    ap (λ (c : Bool). if c then one (as_word (fit n b (pos 0 -ℤ pos k))) else Ok (word (pos k) ∷ [])) e
    ∙ ap (λ r. one (as_word r)) (sym (fit_same n b (pos k) h))
size_at n b (negsuc k) h =
    let e : int_lt (negsuc k) (pos 0) ≡ true = grind (arith, nat_tests) in
    let d : pos 0 -ℤ negsuc k ≡ pos (unsigned_abs (negsuc k)) = omega (arith, ints) in
    ap (λ (c : Bool). if c then one (as_word (fit n b (pos 0 -ℤ negsuc k))) else Ok (word (negsuc k) ∷ [])) e
    ∙ ap (λ z. one (as_word (fit n b z))) d

abbrev abs_value : Scalar → Value → Value
abs_value s v = on_test (on_two v (Ok (0 ∷ [])) (λ x y. one (op2_word op2.Lt s x y))) (on_two (Ok (0 ∷ [])) v (λ x y. one (op2_word op2.Sub s x y))) v

abs_found : (s : Scalar) (w : ℕ) → IsTrue (is_integer s) → IsTrue (is_word s w) → abs_value s (Ok (w ∷ [])) ≡ one (abs_word s w)
abs_found s w i h =
    let at = integer_word s w i h in
    let size = some_bits s in
    let back : word (number s w) ≡ w = number_back (bits s) (signed s) w size.0 size.1 at in
    below_zero s w (one (op2_word op2.Sub s 0 w)) (Ok (w ∷ []))
    ∙ ap (λ z. if int_lt (number s w) (pos 0) then one (as_word (fit (bits s) (signed s) (z -ℤ number s w))) else Ok (w ∷ [])) (zero_number (signed s))
    ∙ ap (λ u. if int_lt (number s w) (pos 0) then one (as_word (fit (bits s) (signed s) (pos 0 -ℤ number s w))) else Ok (u ∷ [])) (sym back)
    ∙ size_at (bits s) (signed s) (number s w) (number_fits s w at)

pub abs_kept : (m : Moment) (s : Scalar) (e : Term) → IsTrue (is_integer s) → HasWord m s e → value m (abs_term s e) ≡ value m (abs s e)
abs_kept m s e i has = by_value (value m e) has
  where
    by_value : (v : Value) → ((x : List ℕ) → v ≡ Ok x → (w : ℕ) × (x ≡ w ∷ []) × IsTrue (is_word s w)) → abs_value s v ≡ on_word v (λ x. one (abs_word s x))
    by_value (Err h) has = refl
    by_value (Ok x) has =
        let found = has x refl in
        let is : x ≡ found.0 ∷ [] = found.1 in
        ap (λ y. abs_value s (Ok y)) is ∙ abs_found s found.0 i found.2 ∙ ap (λ y. on_word (Ok y) (λ x. one (abs_word s x))) (sym is)

-- ---- signs

abbrev rest_at : Bool → ℤ → Value
rest_at true z = if int_lt z (pos 0) then Ok (word (negsuc 0) ∷ []) else Ok (0 ∷ [])
rest_at false z = Ok (0 ∷ [])

sign_at : (n : ℕ) (b : Bool) (z : ℤ) → IsTrue (in_range n b z) → (if int_lt (pos 0) z then Ok (1 ∷ []) else rest_at b z) ≡ Ok (word (sign_number z) ∷ [])
sign_at n true (pos zero) h = refl
sign_at n false (pos zero) h = refl
sign_at n b (pos (suc k)) h =
    let e : int_lt (pos 0) (pos (suc k)) ≡ true = grind (arith, nat_tests) in
    let d : is_zero (pos (suc k)) ≡ false = grind (arith, nat_tests) in
    let f : int_lt (pos (suc k)) (pos 0) ≡ false = grind (arith, nat_tests) in
    ap (λ (c : Bool). if c then Ok (1 ∷ []) else rest_at b (pos (suc k))) e
    ∙ ap (λ (c : Bool). Ok (word (if c then pos 0 else pos 1) ∷ [])) (sym d)
    ∙ ap (λ (c : Bool). Ok (word (if is_zero (pos (suc k)) then pos 0 else if c then negsuc 0 else pos 1) ∷ [])) (sym f)
sign_at n true (negsuc k) h =
    let e : int_lt (pos 0) (negsuc k) ≡ false = grind (arith, nat_tests) in
    let d : is_zero (negsuc k) ≡ false = grind (arith, nat_tests) in
    let f : int_lt (negsuc k) (pos 0) ≡ true = grind (arith, nat_tests) in
    ap (λ (c : Bool). if c then Ok (1 ∷ []) else rest_at true (negsuc k)) e
    ∙ ap (λ (c : Bool). if c then Ok (word (negsuc 0) ∷ []) else Ok (0 ∷ [])) f
    ∙ ap (λ (c : Bool). Ok (word (if c then pos 0 else negsuc 0) ∷ [])) (sym d)
    ∙ ap (λ (c : Bool). Ok (word (if is_zero (negsuc k) then pos 0 else if c then negsuc 0 else pos 1) ∷ [])) (sym f)
sign_at n false (negsuc k) h = absurd (cc)

abbrev rest_term : Scalar → Term → Bool → Term
rest_term s e b = if b then choose (bin op2.Lt s e (lit s 0)) (lit s (word (negsuc 0))) (lit s 0) else lit s 0

rest_found : (m : Moment) (s : Scalar) (e : Term) (w : ℕ) (b : Bool) → value m e ≡ Ok (w ∷ []) → value m (rest_term s e b) ≡ rest_at b (number s w)
rest_found m s e w false is = refl
rest_found m s e w true is =
    ap (λ v. on_test (on_two v (Ok (0 ∷ [])) (λ x y. one (op2_word op2.Lt s x y))) (Ok (word (negsuc 0) ∷ [])) (Ok (0 ∷ []))) is
    ∙ below_zero s w (Ok (word (negsuc 0) ∷ [])) (Ok (0 ∷ []))

abbrev sign_value : Scalar → Value → Value → Value
sign_value s v rest = on_test (on_two v (Ok (0 ∷ [])) (λ x y. one (op2_word op2.Gt s x y))) (Ok (1 ∷ [])) rest

sign_found : (m : Moment) (s : Scalar) (e : Term) (w : ℕ) → IsTrue (is_integer s) → IsTrue (is_word s w) → value m e ≡ Ok (w ∷ []) → value m (sign_term s e) ≡ Ok (sign_word s w ∷ [])
sign_found m s e w i h is =
    ap (λ v. sign_value s v (value m (rest_term s e (signed s)))) is
    ∙ above_zero s w (Ok (1 ∷ [])) (value m (rest_term s e (signed s)))
    ∙ ap (λ v. if int_lt (pos 0) (number s w) then Ok (1 ∷ []) else v) (rest_found m s e w (signed s) is)
    ∙ sign_at (bits s) (signed s) (number s w) (number_fits s w (integer_word s w i h))

pub sign_kept : (m : Moment) (s : Scalar) (e : Term) → IsTrue (is_integer s) → HasWord m s e → value m (sign_term s e) ≡ value m (sign s e)
sign_kept m s e i has = by_value (value m e) refl
  where
    by_value : (v : Value) → value m e ≡ v → value m (sign_term s e) ≡ value m (sign s e)
    by_value (Err h) is =
        ap (λ v. sign_value s v (value m (rest_term s e (signed s)))) is
        ∙ sym (ap (λ v. on_word v (λ x. Ok (sign_word s x ∷ []))) is)
    by_value (Ok x) is =
        let found = has x is in
        let now : value m e ≡ Ok (found.0 ∷ []) = is ∙ ap Ok found.1 in
        sign_found m s e found.0 i found.2 now ∙ sym (ap (λ v. on_word v (λ x. Ok (sign_word s x ∷ []))) now)
