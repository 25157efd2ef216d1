-- Pieces that follow each other.
use Rattle.std.proofs.Common.{◌≡◌, ℕ, ◌+◌, List, ◌-◌, length, take, drop, Option, None, Some, refl, ap, ◌∙◌, append_assoc, arith}
use Rattle.std.proofs.lemmas.Grind.{common_steps}
use Rattle.std.proofs.Math.Seq.{take-add}
use Rattle.sm_io.specs.Known.{after_known}

-- the first n bytes of a text, and then the next m
pub after_known_take : (known : Option (List ℕ)) (n m : ℕ) (xs : List ℕ) → after_known (after_known known (take n xs)) (take m (drop n xs)) ≡ after_known known (take (n + m) xs)
after_known_take None n m xs = refl
after_known_take (Some front) n m xs = simp (take-add, append_assoc)

-- `&xs[n..]`
pub tail_range : (n : ℕ) (xs : List ℕ) → take (length xs - n) (drop n xs) ≡ drop n xs
tail_range n xs = grind (arith, common_steps)

-- what was known before, between and after two pieces
pub after_more : (before between after : Option (List ℕ)) (n m : ℕ) (xs : List ℕ) → between ≡ after_known before (take n xs) → after ≡ after_known between (take m (take (length xs - n) (drop n xs))) → after ≡ after_known before (take (n + m) xs)
after_more before between after n m xs first then =
    then ∙ ap (λ known. after_known known (take m (take (length xs - n) (drop n xs)))) first
    ∙ ap (λ rest. after_known (after_known before (take n xs)) (take m rest)) (tail_range n xs) ∙ after_known_take before n m xs
