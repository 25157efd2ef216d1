-- Bytes that go to a writer of std in several calls.
use Rattle.std.proofs.Common.{◌≡◌, ℕ, ◌+◌, ◌-◌, List, ◌++◌, length, take, drop, Option, None, Some, ap, ◌∙◌, append_assoc}
use Rattle.std.specs.Io.KnownBytes.{Appends}
use Rattle.std.proofs.Math.Seq.{take-add}
use Rattle.sm_io.proofs.WrittenParts.{tail_range}

pub take_more : (front xs : List ℕ) (n m : ℕ) → (front ++ take n xs) ++ take m (drop n xs) ≡ front ++ take (n + m) xs
take_more front xs n m = simp (take-add, append_assoc)

-- the first n bytes of a text, and then the next m
pub appends_more : (before between after : Option (List ℕ)) (n m : ℕ) (xs : List ℕ) → Appends before between (take n xs) → Appends between after (take m (take (length xs - n) (drop n xs))) → Appends before after (take (n + m) xs)
appends_more None between after n m xs first then = tt
appends_more (Some x) None after n m xs first then = absurd first
appends_more (Some x) (Some y) None n m xs first then = absurd then
appends_more (Some x) (Some y) (Some z) n m xs first then =
    then ∙ ap (λ rest. y ++ take m rest) (tail_range n xs) ∙ ap (λ front. front ++ take m (drop n xs)) first ∙ take_more x xs n m
