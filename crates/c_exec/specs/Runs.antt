-- Runs of words in a list of words.
use Rattle.std.specs.Prelude.{ℕ, ◌+◌, List, [], ◌∷◌, slice_set}

-- these words with a run of others in place of theirs from an index on, as far as there are words
abbrev pub written : ℕ → List ℕ → List ℕ → List ℕ
written at [] ws = ws
written at (x ∷ xs) ws = written (at + 1) xs (slice_set ws at x)
