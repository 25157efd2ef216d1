-- The bytes that a source has left or a sink has taken, where it tells them.
use Rattle.std.specs.Prelude.{◌≡◌, ℕ, ◌<◌, List, [], ◌++◌, length, take, Option, Result, MatchResult, IfSome}
use Rattle.std.specs.Option.{option_map}

-- these bytes, and then the known ones
abbrev pub before_known : List ℕ → Option (List ℕ) → Option (List ℕ)
before_known bytes known = option_map (λ rest. bytes ++ rest) known

-- the known bytes, and then these
abbrev pub after_known : Option (List ℕ) → List ℕ → Option (List ℕ)
after_known known bytes = option_map (λ front. front ++ bytes) known

-- A read of `n` bytes took the first `n` of what was left, and an `Err` took none. Told bytes stay told.
abbrev pub Reads : {E : Type 0} → Option (List ℕ) → Option (List ℕ) → Result ℕ E → List ℕ → Type 0
Reads old new result buf = MatchResult result (λ n. old ≡ before_known (take n buf) new) (λ _. new ≡ old)

-- No byte is given only where none is left, or into an empty buffer.
abbrev pub EndsWell : {E : Type 0} → Option (List ℕ) → Result ℕ E → List ℕ → Type 0
EndsWell new result buf = MatchResult result (λ n. n ≡ 0 → 0 < length buf → IfSome new (λ left. left ≡ [])) (λ _. Unit {0})

-- A write of `n` bytes of a piece added them, and an `Err` added none.
abbrev pub Writes : {E : Type 0} → Option (List ℕ) → Option (List ℕ) → Result ℕ E → List ℕ → Type 0
Writes old new result piece = MatchResult result (λ n. new ≡ after_known old (take n piece)) (λ _. new ≡ old)

-- Only a prefix of a text was added.
abbrev pub AddsPrefix : Option (List ℕ) → Option (List ℕ) → List ℕ → Type 0
AddsPrefix old new text = (n : ℕ) × (new ≡ after_known old (take n text))
