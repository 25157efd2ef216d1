-- Piles of words, the lowest word first.
use Rattle.std.specs.Prelude.{ℕ, ◌+◌, ◌-◌, List, ◌++◌, length, take, drop, slice_index_or}

-- the word on top, or 0
abbrev pub top : List ℕ → ℕ
top st = slice_index_or st (length st - 1) 0

-- the words below it
abbrev pub below : List ℕ → List ℕ
below st = take (length st - 1) st

-- words put on a pile of this room, as far as there is room
abbrev pub put_on : ℕ → List ℕ → List ℕ → List ℕ
put_on room st ws = take room (st ++ ws)

-- the lowest words, and on them n words of those from an offset on above
abbrev pub kept : ℕ → ℕ → ℕ → List ℕ → List ℕ
kept base off n st = take base st ++ take n (drop (base + off) st)
