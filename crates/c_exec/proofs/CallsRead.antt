-- The calls that words stand for, one by one.
use Rattle.std.proofs.Common.{◌≡◌, ℕ, zero, suc, ◌-◌, ◌<◌, List, [], ◌∷◌, length, take, drop, refl, arith}
use Rattle.std.specs.Prelude.{min, slice_index_or}
use Rattle.c_exec.specs.Called.{calls_in, call_at}

pub calls_long : (from : ℕ) (hs es ws : List ℕ) → length (calls_in from hs es ws) ≡ min (length hs) (length es)
calls_long from [] es ws = omega arith
calls_long from (h ∷ hs) [] ws = omega arith
calls_long from (h ∷ hs) (e ∷ es) ws = let l = calls_long e hs es ws in omega (arith, l)

pub handler_at : (from : ℕ) (hs es ws : List ℕ) (i : ℕ) → i < length (calls_in from hs es ws) → slice_index_or hs i 0 ≡ (call_at (calls_in from hs es ws) i).handler
handler_at from [] es ws i l = absurd (omega (arith, l))
handler_at from (h ∷ hs) [] ws i l = absurd (omega (arith, l))
handler_at from (h ∷ hs) (e ∷ es) ws zero l = refl
handler_at from (h ∷ hs) (e ∷ es) ws (suc i) l = handler_at e hs es ws i (omega (arith, l))

pub words_at : (from : ℕ) (hs es ws : List ℕ) (i : ℕ) → i < length (calls_in from hs es ws)
    → take (slice_index_or es i 0 - slice_index_or (from ∷ es) i 0) (drop (slice_index_or (from ∷ es) i 0) ws) ≡ (call_at (calls_in from hs es ws) i).words
words_at from [] es ws i l = absurd (omega (arith, l))
words_at from (h ∷ hs) [] ws i l = absurd (omega (arith, l))
words_at from (h ∷ hs) (e ∷ es) ws zero l = refl
words_at from (h ∷ hs) (e ∷ es) ws (suc i) l = words_at e hs es ws i (omega (arith, l))
