-- Numbers one after another.
use Rattle.std.proofs.Common.{◌≡◌, ℕ, zero, suc, ◌+◌, ◌-◌, ◌<◌, List, [], ◌∷◌, ◌++◌, refl, sym, ap, ◌∙◌, arith, append_assoc}
use Rattle.std.specs.List.{range_with_len}

-- one more of them is taken
pub range_taken : (xs : List ℕ) (n end : ℕ) → n < end → xs ++ n ∷ [] ++ range_with_len (n + 1) (end - (n + 1)) ≡ xs ++ range_with_len n (end - n)
range_taken xs n end low =
    let count : suc (end - (n + 1)) ≡ end - n = omega (arith, low) in
    append_assoc xs (n ∷ []) (range_with_len (n + 1) (end - (n + 1))) ∙ ap (λ k. xs ++ range_with_len n k) count
