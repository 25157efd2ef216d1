-- A word of a unit's scalar is one of the scalar that it reads as.
use Rattle.std.proofs.Common.{◌≡◌, ℕ, suc, ◌-◌, ◌^◌, ◌<◌, ◌≤◌, Bool, true, false, refl, arith}
use Rattle.std.specs.Prelude.{nat_lt, nat_le, ◌&&◌, ◌||◌}
use Rattle.std.proofs.lemmas.Bool.Decides.{nat_tests}
use Rattle.stream_types.specs.Numbers.{is_word_at, is_word as is_typed_word}
use Rattle.c99_tree.specs.declared.types.CScalar.{CScalar}
use Rattle.c99_tree.specs.declared.types.CScalar.TheVariants as c
use Rattle.c99_tree.specs.Values.{is_word}
use Rattle.c_runner.specs.Read.{scalar_of}

same_tests : (a b : Bool) → (a ≡ true → b ≡ true) → (b ≡ true → a ≡ true) → a ≡ b
same_tests true true f g = refl
same_tests true false f g = absurd (cc (f refl))
same_tests false true f g = absurd (cc (g refl))
same_tests false false f g = refl

unsigned_same : (n w : ℕ) → 2 ^ n ≤ 2 ^ 64 → (nat_lt w (2 ^ 64) && nat_lt w (2 ^ n)) ≡ nat_lt w (2 ^ n)
unsigned_same n w low =
    same_tests (nat_lt w (2 ^ 64) && nat_lt w (2 ^ n)) (nat_lt w (2 ^ n)) (λ h. grind (arith, nat_tests, h)) (λ h. grind (arith, nat_tests, h, low))

low_same : (k w : ℕ) → k ≤ 2 ^ 63 → nat_lt w (2 ^ 63) ≡ true → (nat_lt w (2 ^ 64) && nat_lt w k) ≡ (nat_lt w k || (nat_le (2 ^ 64 - k) w && nat_lt w (2 ^ 64)))
low_same k w low t =
    same_tests (nat_lt w (2 ^ 64) && nat_lt w k) (nat_lt w k || (nat_le (2 ^ 64 - k) w && nat_lt w (2 ^ 64)))
    (λ h. grind (arith, nat_tests, h)) (λ h. grind (arith, nat_tests, h, low, t))

high_same : (k w : ℕ) → 0 < k → k ≤ 2 ^ 63 → nat_lt w (2 ^ 63) ≡ false
    → (nat_lt w (2 ^ 64) && nat_lt (2 ^ 64 - suc w) k) ≡ (nat_lt w k || (nat_le (2 ^ 64 - k) w && nat_lt w (2 ^ 64)))
high_same k w some low t =
    same_tests (nat_lt w (2 ^ 64) && nat_lt (2 ^ 64 - suc w) k) (nat_lt w k || (nat_le (2 ^ 64 - k) w && nat_lt w (2 ^ 64)))
    (λ h. grind (arith, nat_tests, h, some, low, t)) (λ h. grind (arith, nat_tests, h, low, t))

signed_same : (n w : ℕ) (b : Bool) → 0 < 2 ^ (n - 1) → 2 ^ (n - 1) ≤ 2 ^ 63 → nat_lt w (2 ^ 63) ≡ b
    → is_word_at n true w ≡ (nat_lt w (2 ^ (n - 1)) || (nat_le (2 ^ 64 - 2 ^ (n - 1)) w && nat_lt w (2 ^ 64)))
signed_same n w true some low t = rw t (low_same (2 ^ (n - 1)) w low t)
signed_same n w false some low t = rw t (high_same (2 ^ (n - 1)) w some low t)

pub word_same : (s : CScalar) (w : ℕ) → is_typed_word (scalar_of s) w ≡ is_word s w
word_same c.Bool w = refl
word_same c.I8 w = signed_same 8 w (nat_lt w (2 ^ 63)) (omega arith) (omega arith) refl
word_same c.I16 w = signed_same 16 w (nat_lt w (2 ^ 63)) (omega arith) (omega arith) refl
word_same c.I32 w = signed_same 32 w (nat_lt w (2 ^ 63)) (omega arith) (omega arith) refl
word_same c.I64 w = signed_same 64 w (nat_lt w (2 ^ 63)) (omega arith) (omega arith) refl
word_same c.U8 w = unsigned_same 8 w (omega arith)
word_same c.U16 w = unsigned_same 16 w (omega arith)
word_same c.U32 w = unsigned_same 32 w (omega arith)
word_same c.U64 w = unsigned_same 64 w (omega arith)
