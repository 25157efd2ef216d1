-- The handler calls that words stand for.
use Rattle.std.specs.Prelude.{ℕ, ◌-◌, List, [], ◌∷◌, take, drop, slice_index_or}
use Rattle.c99_tree.specs.Step.{Called}

-- calls of these handlers, the words of each ending at its end, and those of the first beginning at a place
abbrev pub calls_in : ℕ → List ℕ → List ℕ → List ℕ → List Called
calls_in from [] ends words = []
calls_in from (h ∷ hs) [] words = []
calls_in from (h ∷ hs) (e ∷ es) words = record { handler = h; words = take (e - from) (drop from words) } ∷ calls_in e hs es words

-- call number i; there is one where i is below their number
abbrev pub call_at : List Called → ℕ → Called
call_at calls i = slice_index_or calls i (record { handler = 0; words = [] })
