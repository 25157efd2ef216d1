-- Operators and conversions give numbers of the types that the typing rules say.
use Rattle.std.proofs.Common.{◌≡◌, ℕ, ◌-◌, ◌/◌, ◌^◌, ◌<◌, Bool, true, false, not, ◌&&◌, ◌||◌, Result, Ok, Err, refl}
use Rattle.std.specs.Prelude.{ℤ, pos, negsuc, IsTrue, IfOk, ◌+ℤ◌, ◌-ℤ◌, ◌*ℤ◌, int_le, int_lt, int_div, int_rem, unsigned_abs, if◌then◌else◌, bit_and, bit_or, bit_xor}
use Rattle.std.specs.Ordering.{int_eq}
use Rattle.std.specs.Int.Bits.{and_lt}
use Rattle.std.proofs.lemmas.Nat.{or_lt, xor_lt}
use Rattle.c99_tree.specs.declared.expr.CUn.{CUn}
use Rattle.c99_tree.specs.declared.expr.CUn.TheVariants as u
use Rattle.c99_tree.specs.declared.expr.CBin.{CBin}
use Rattle.c99_tree.specs.declared.expr.CBin.TheVariants as o
use Rattle.c99_tree.specs.declared.types.CScalar.{CScalar}
use Rattle.c99_tree.specs.declared.types.CScalar.TheVariants as t
use Rattle.c99_tree.specs.declared.undefined.Undefined.{Undefined}
use Rattle.c99_tree.specs.declared.undefined.Undefined.TheVariants as why
use Rattle.c99_tree.specs.CTypes.{Num, num, bits, is_signed, promoted, usual, holds, wrapped, in_type, is_zero, truth, converted, widened}
use Rattle.c99_tree.specs.Typing.{unary_type, binary_type}
use Rattle.c99_tree.specs.Evaluation.{unary, binary, bits_of, of_bits, by_bits, divided, at_common, is_bad_shift, shifted, shifted_left, shifted_right}
use Rattle.c99_tree.specs.Typed.{in_range, IsNumberOf}
use Rattle.c99_tree.proofs.NumberRanges.{within, range_within, within_range, inside, inside_within, inside_promoted, inside_usual, some_bits, wrapped_within, bits-lt, of_bits-within, rem_within, div_within, shift_within}
use Rattle.sm_io.proofs.Truths.{left_passes, right_passes}

abbrev Within : CScalar → ℤ → Type 0
Within s z = within (bits s) (is_signed s) z ≡ true

number_within : (s : CScalar) (z : ℤ) → Within s z → IsNumberOf s (num s z)
number_within s z h = record { typed = refl; ranged = within_range s z h }

is_within : (s : CScalar) (x : Num) → IsNumberOf s x → Within s x.n
is_within s x h = range_within s x.n h.ranged

-- ---- exact results

fitted : (c : Bool) (reason : Undefined) (s : CScalar) (z : ℤ) → (c ≡ true → IsTrue (in_range s z)) → IfOk (if c then Ok (num s z) else Err reason) (IsNumberOf s)
fitted true reason s z h = record { typed = refl; ranged = h refl }
fitted false reason s z h = tt

in_type-at : (reason : Undefined) (s : CScalar) (z : ℤ) (c : Bool) → is_signed s ≡ c
    → IfOk (if c then (if holds s z then Ok (num s z) else Err reason) else Ok (num s (wrapped s z))) (IsNumberOf s)
in_type-at reason s z true e = fitted (holds s z) reason s z (λ h. rw e h)
in_type-at reason s z false e = number_within s (wrapped s z) (rw e (wrapped_within (bits s) z))

in_type-is : (reason : Undefined) (s : CScalar) (z : ℤ) → IfOk (in_type reason s z) (IsNumberOf s)
in_type-is reason s z = in_type-at reason s z (is_signed s) refl

pub truth-is : (b : Bool) → IsNumberOf t.I32 (truth b)
truth-is true = record { typed = refl; ranged = refl }
truth-is false = record { typed = refl; ranged = refl }

bool-is : (b : Bool) → IsNumberOf t.Bool (num t.Bool (if b then pos 0 else pos 1))
bool-is true = record { typed = refl; ranged = refl }
bool-is false = record { typed = refl; ranged = refl }

pub converted-is : (s : CScalar) (x : Num) → IfOk (converted s x) (IsNumberOf s)
converted-is t.Bool x = bool-is (is_zero x)
converted-is s x = in_type-is why.BadConversion s x.n

pub unary-is : (op : CUn) (s : CScalar) (x : Num) → IsNumberOf s x → IfOk (unary op x) (IsNumberOf (unary_type op s))
unary-is u.Not s x h = truth-is (is_zero x)
unary-is u.BitNot s x h = rw h.typed (in_type-is why.Overflow (promoted s) (pos 0 -ℤ x.n -ℤ pos 1))
unary-is u.Neg s x h = rw h.typed (in_type-is why.Overflow (promoted s) (pos 0 -ℤ x.n))

-- ---- operators at the common type

widened-at : (c s : CScalar) (x : Num) (b : Bool) → is_signed c ≡ b → IsNumberOf s x → (not b || inside s c) ≡ true → Within c (if b then x.n else wrapped c x.n)
widened-at c s x true e h i = inside_within s c x.n i (is_within s x h)
widened-at c s x false e h i = rw e (wrapped_within (bits c) x.n)

left_half : (n p q : Bool) → (n || (p && q)) ≡ true → (n || p) ≡ true
left_half true p q h = refl
left_half false p q h = left_passes p q h

right_half : (n p q : Bool) → (n || (p && q)) ≡ true → (n || q) ≡ true
right_half true p q h = refl
right_half false p q h = right_passes p q h

at_common-is : (f : CScalar → ℤ → ℤ → Result Num Undefined) (P : Num → Type 0) (a b : CScalar) (x y : Num) → IsNumberOf a x → IsNumberOf b y
    → ((z w : ℤ) → Within (usual a b) z → Within (usual a b) w → IfOk (f (usual a b) z w) P) → IfOk (at_common f x y) P
at_common-is f P a b x y h g k =
    let c : CScalar = usual a b in
    let i = inside_usual a b in
    let l : Within c (widened c x) = widened-at c a x (is_signed c) refl h (left_half (not (is_signed c)) (inside a c) (inside b c) i) in
    let r : Within c (widened c y) = widened-at c b y (is_signed c) refl g (right_half (not (is_signed c)) (inside a c) (inside b c) i) in
    rw (h.typed, g.typed) (k (widened c x) (widened c y) l r)

exact-is : (f : ℤ → ℤ → ℤ) (a b : CScalar) (x y : Num) → IsNumberOf a x → IsNumberOf b y
    → IfOk (at_common (λ c z w. in_type why.Overflow c (f z w)) x y) (IsNumberOf (usual a b))
exact-is f a b x y h g = at_common-is (λ c z w. in_type why.Overflow c (f z w)) (IsNumberOf (usual a b)) a b x y h g (λ z w p q. in_type-is why.Overflow (usual a b) (f z w))

by_bits-is : (f : ℕ → ℕ → ℕ) → ((k a b : ℕ) → a < 2 ^ k → b < 2 ^ k → f a b < 2 ^ k) → (c : CScalar) (z w : ℤ) → IfOk (by_bits f c z w) (IsNumberOf c)
by_bits-is f m c z w =
    let n : ℕ = f (bits_of c z) (bits_of c w) in
    number_within c (of_bits c n) (of_bits-within (bits c) (is_signed c) n (some_bits c) (m (bits c) (bits_of c z) (bits_of c w) (bits-lt (bits c) z) (bits-lt (bits c) w)))

bitwise-is : (f : ℕ → ℕ → ℕ) → ((k a b : ℕ) → a < 2 ^ k → b < 2 ^ k → f a b < 2 ^ k) → (a b : CScalar) (x y : Num) → IsNumberOf a x → IsNumberOf b y
    → IfOk (at_common (by_bits f) x y) (IsNumberOf (usual a b))
bitwise-is f m a b x y h g = at_common-is (by_bits f) (IsNumberOf (usual a b)) a b x y h g (λ z w p q. by_bits-is f m (usual a b) z w)

compared-is : (f : ℤ → ℤ → Bool) (a b : CScalar) (x y : Num) → IsNumberOf a x → IsNumberOf b y → IfOk (at_common (λ c z w. Ok (truth (f z w))) x y) (IsNumberOf t.I32)
compared-is f a b x y h g = at_common-is (λ c z w. Ok (truth (f z w))) (IsNumberOf t.I32) a b x y h g (λ z w p q. truth-is (f z w))

-- a quotient or a remainder, where neither test for what is undefined passes
tested : (P : Num → Type 0) (c d : Bool) (x : Num) → (c ≡ false → d ≡ false → P x) → IfOk (if c then Err why.ZeroDivisor else (if d then Err why.Overflow else Ok x)) P
tested P true d x h = tt
tested P false true x h = tt
tested P false false x h = h refl refl

div-is : (c : CScalar) (z w : ℤ) → Within c z → Within c w → IfOk (divided int_div c z w) (IsNumberOf c)
div-is c z w p q =
    tested (IsNumberOf c) (int_eq w (pos 0)) (is_signed c && int_eq w (negsuc 0) && int_eq z (negsuc (2 ^ (bits c - 1) - 1))) (num c (int_div z w))
    (λ _ d. number_within c (int_div z w) (div_within (bits c) (is_signed c) z w p q d))

rem-is : (c : CScalar) (z w : ℤ) → Within c z → Within c w → IfOk (divided int_rem c z w) (IsNumberOf c)
rem-is c z w p q =
    tested (IsNumberOf c) (int_eq w (pos 0)) (is_signed c && int_eq w (negsuc 0) && int_eq z (negsuc (2 ^ (bits c - 1) - 1))) (num c (int_rem z w))
    (λ d _. number_within c (int_rem z w) (rem_within (bits c) (is_signed c) z w p q d))

-- ---- shifts

left-is : (bad : Bool) (c : CScalar) (z : ℤ) (n : ℕ) → IfOk (shifted_left bad c z n) (IsNumberOf c)
left-is true c z n = tt
left-is false c z n = in_type-is why.Overflow c (z *ℤ pos (2 ^ n))

right-is : (bad : Bool) (c : CScalar) (z : ℤ) (n : ℕ) → (bad ≡ false → Within c (pos (unsigned_abs z / 2 ^ n))) → IfOk (shifted_right bad c z n) (IsNumberOf c)
right-is true c z n h = tt
right-is false c z n h = number_within c (pos (unsigned_abs z / 2 ^ n)) (h refl)

last_fails : (a b c : Bool) → (a || b || c) ≡ false → c ≡ false
last_fails true b c h = absurd (cc h)
last_fails false true c h = absurd (cc h)
last_fails false false c h = h

shift_left-is : (s : CScalar) (x y : Num) → IsNumberOf s x → IfOk (shifted shifted_left x y) (IsNumberOf (promoted s))
shift_left-is s x y h = rw h.typed (left-is (is_bad_shift (promoted s) x y) (promoted s) x.n (unsigned_abs y.n))

shift_right-is : (s : CScalar) (x y : Num) → IsNumberOf s x → IfOk (shifted shifted_right x y) (IsNumberOf (promoted s))
shift_right-is s x y h =
    let c : CScalar = promoted s in
    let p : Within c x.n = inside_within s c x.n (inside_promoted s) (is_within s x h) in
    rw h.typed
    (right-is (is_bad_shift c x y) c x.n (unsigned_abs y.n)
    (λ e. shift_within (bits c) (is_signed c) x.n (2 ^ unsigned_abs y.n) p (last_fails (int_lt y.n (pos 0)) (int_le (pos (bits c)) y.n) (is_signed c && int_lt x.n (pos 0)) e)))

pub binary-is : (op : CBin) (a b : CScalar) (x y : Num) → IsNumberOf a x → IsNumberOf b y → IfOk (binary op x y) (IsNumberOf (binary_type op a b))
binary-is o.Add a b x y h g = exact-is ◌+ℤ◌ a b x y h g
binary-is o.Sub a b x y h g = exact-is ◌-ℤ◌ a b x y h g
binary-is o.Mul a b x y h g = exact-is ◌*ℤ◌ a b x y h g
binary-is o.Div a b x y h g = at_common-is (divided int_div) (IsNumberOf (usual a b)) a b x y h g (div-is (usual a b))
binary-is o.Rem a b x y h g = at_common-is (divided int_rem) (IsNumberOf (usual a b)) a b x y h g (rem-is (usual a b))
binary-is o.BitAnd a b x y h g = bitwise-is bit_and (λ k n m. and_lt k n m) a b x y h g
binary-is o.BitOr a b x y h g = bitwise-is bit_or or_lt a b x y h g
binary-is o.BitXor a b x y h g = bitwise-is bit_xor xor_lt a b x y h g
binary-is o.Shl a b x y h g = shift_left-is a x y h
binary-is o.Shr a b x y h g = shift_right-is a x y h
binary-is o.Eq a b x y h g = compared-is int_eq a b x y h g
binary-is o.Ne a b x y h g = compared-is (λ z w. not (int_eq z w)) a b x y h g
binary-is o.Lt a b x y h g = compared-is int_lt a b x y h g
binary-is o.Le a b x y h g = compared-is int_le a b x y h g
binary-is o.Gt a b x y h g = compared-is (λ z w. int_lt w z) a b x y h g
binary-is o.Ge a b x y h g = compared-is (λ z w. int_le w z) a b x y h g
binary-is o.And a b x y h g = truth-is (not (is_zero x) && not (is_zero y))
binary-is o.Or a b x y h g = truth-is (not (is_zero x) || not (is_zero y))
