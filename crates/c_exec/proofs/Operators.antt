-- Binary operators at the words of two numbers, and the bits that they give.
use Rattle.std.proofs.Common.{◌≡◌, ℕ, ◌^◌, ◌<◌, Bool, Result, Ok, sym, ap, ◌∙◌, arith}
use Rattle.std.specs.Prelude.{ℤ, bit_and, unsigned_abs}
use Rattle.std.proofs.lemmas.Nat.{and_le_l, or_lt, xor_lt}
use Rattle.c99_tree.specs.declared.expr.CBin.{CBin}
use Rattle.c99_tree.specs.declared.types.CScalar.{CScalar}
use Rattle.c99_tree.specs.declared.undefined.Undefined.{Undefined}
use Rattle.c99_tree.specs.declared.undefined.Undefined.TheVariants as why
use Rattle.c99_tree.specs.CTypes.{Num, usual, promoted, widened, in_type, truth}
use Rattle.c99_tree.specs.Values.{number_of_word}
use Rattle.c99_tree.specs.Evaluation.{at_common, exact, bitwise, compared, by_bits, bits_of, of_bits, shifted}
use Rattle.c_exec.specs.WordNumbers.{word, as_word, binary_word, is_bad_shift}
use Rattle.c_exec.proofs.TypedWords.{number_typed}

pub and_lt : (k a b : ℕ) → a < 2 ^ k → b < 2 ^ k → bit_and a b < 2 ^ k
and_lt k a b h g = let l = and_le_l a b in omega (arith, l, h)

pub ruleset bit_lemmas = (and_lt, or_lt, xor_lt)

common_at : (f : CScalar → ℤ → ℤ → Result Num Undefined) (s t : CScalar) (x y : Num) → x.ty ≡ s → y.ty ≡ t
    → at_common f x y ≡ f (usual s t) (widened (usual s t) x) (widened (usual s t) y)
common_at f s t x y e h = ap (λ (a : CScalar). f (usual a y.ty) (widened (usual a y.ty) x) (widened (usual a y.ty) y)) e ∙ ap (λ (b : CScalar). f (usual s b) (widened (usual s b) x) (widened (usual s b) y)) h

-- an operator on the operands' numbers, brought to their common type
pub common_words : (f : CScalar → ℤ → ℤ → Result Num Undefined) (s t k : CScalar) (v w : ℕ) (a b : ℤ) → k ≡ usual s t → a ≡ widened k (number_of_word s v)
    → b ≡ widened k (number_of_word t w)
    → as_word (f k a b) ≡ as_word (at_common f (number_of_word s v) (number_of_word t w))
common_words f s t k v w a b e p q =
    ap (λ (z : ℤ). as_word (f k z b)) p ∙ ap (λ (z : ℤ). as_word (f k (widened k (number_of_word s v)) z)) q
    ∙ ap (λ (c : CScalar). as_word (f c (widened c (number_of_word s v)) (widened c (number_of_word t w)))) e
    ∙ ap as_word (sym (common_at f s t (number_of_word s v) (number_of_word t w) (number_typed s v) (number_typed t w)))

shifted_at : (f : Bool → CScalar → ℤ → ℕ → Result Num Undefined) (s : CScalar) (x y : Num) → x.ty ≡ s
    → shifted f x y ≡ f (is_bad_shift (promoted s) x.n y.n) (promoted s) x.n (unsigned_abs y.n)
shifted_at f s x y e = ap (λ (c : CScalar). f (is_bad_shift (promoted c) x.n y.n) (promoted c) x.n (unsigned_abs y.n)) e

-- a shift of the left operand, promoted
pub shifted_words : (f : Bool → CScalar → ℤ → ℕ → Result Num Undefined) (s t k : CScalar) (v w : ℕ) (a b : ℤ) → k ≡ promoted s → a ≡ (number_of_word s v).n
    → b ≡ (number_of_word t w).n
    → as_word (f (is_bad_shift k a b) k a (unsigned_abs b)) ≡ as_word (shifted f (number_of_word s v) (number_of_word t w))
shifted_words f s t k v w a b e p q =
    ap (λ (c : CScalar). as_word (f (is_bad_shift c a b) c a (unsigned_abs b))) e
    ∙ ap (λ (z : ℤ). as_word (f (is_bad_shift (promoted s) z b) (promoted s) z (unsigned_abs b))) p
    ∙ ap (λ (z : ℤ). as_word (f (is_bad_shift (promoted s) (number_of_word s v).n z) (promoted s) (number_of_word s v).n (unsigned_abs z))) q
    ∙ ap as_word (sym (shifted_at f s (number_of_word s v) (number_of_word t w) (number_typed s v)))

-- ---- an operator that is known

pub at_op : (op p : CBin) (s t : CScalar) (v w : ℕ) (r : Result ℕ Undefined) → op ≡ p → r ≡ binary_word p s t v w → r ≡ binary_word op s t v w
at_op op p s t v w r e h = h ∙ ap (λ (q : CBin). binary_word q s t v w) (sym e)

-- the exact result of + or - at the common type
pub exact_words : (f : ℤ → ℤ → ℤ) (s t k : CScalar) (v w : ℕ) (a b z : ℤ) (r : Result ℕ Undefined) → r ≡ as_word (in_type why.Overflow k z)
    → z ≡ f a b → k ≡ usual s t → a ≡ widened k (number_of_word s v) → b ≡ widened k (number_of_word t w)
    → r ≡ as_word (exact f (number_of_word s v) (number_of_word t w))
exact_words f s t k v w a b z r h e g p q =
    h ∙ ap (λ (y : ℤ). as_word (in_type why.Overflow k y)) e ∙ common_words (λ c x y. in_type why.Overflow c (f x y)) s t k v w a b g p q

-- a comparison
pub compared_words : (f : ℤ → ℤ → Bool) (s t k : CScalar) (v w : ℕ) (a b : ℤ) (n : ℕ) → n ≡ word (truth (f a b)).n
    → k ≡ usual s t → a ≡ widened k (number_of_word s v) → b ≡ widened k (number_of_word t w)
    → Ok n ≡ as_word (compared f (number_of_word s v) (number_of_word t w))
compared_words f s t k v w a b n h g p q =
    ap (λ (j : ℕ). Ok j) h ∙ common_words (λ c x y. Ok (truth (f x y))) s t k v w a b g p q

-- an operator on bits
pub bitwise_words : (f : ℕ → ℕ → ℕ) (s t k : CScalar) (v w : ℕ) (a b : ℤ) (n : ℕ) → n ≡ word (of_bits k (f (bits_of k a) (bits_of k b)))
    → k ≡ usual s t → a ≡ widened k (number_of_word s v) → b ≡ widened k (number_of_word t w)
    → Ok n ≡ as_word (bitwise f (number_of_word s v) (number_of_word t w))
bitwise_words f s t k v w a b n h g p q = ap (λ (j : ℕ). Ok j) h ∙ common_words (by_bits f) s t k v w a b g p q
