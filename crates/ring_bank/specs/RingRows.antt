-- Rings of rows: how a list of words is cut into them, and what a push leaves.
use Rattle.std.specs.Prelude.{ℕ, zero, suc, ◌+◌, ◌*◌, List, [], ◌∷◌, ◌++◌, length, take, drop, slice_index_or}
use Rattle.ring_bank.specs.declared.shape.Shape.{Shape}

-- the first n rows of so many words each
abbrev pub rows_of : ℕ → ℕ → List ℕ → List (List ℕ)
rows_of zero width words = []
rows_of (suc n) width words = take width words ∷ rows_of n width (drop width words)

-- the rings of these shapes, each cut from the words that the ones before it leave
abbrev pub rings_of : List Shape → List ℕ → List (List (List ℕ))
rings_of [] words = []
rings_of (s ∷ ss) words = rows_of s.len s.width words ∷ rings_of ss (drop (s.len * s.width) words)

-- how many words such rings have together
abbrev pub words_of : List Shape → ℕ
words_of [] = 0
words_of (s ∷ ss) = s.len * s.width + words_of ss

-- the rows of one ring of a bank
abbrev pub ring_at : List (List (List ℕ)) → ℕ → List (List ℕ)
ring_at rings i = slice_index_or rings i []

-- one row of a ring, counted from the oldest
abbrev pub row_at : List (List ℕ) → ℕ → List ℕ
row_at rows k = slice_index_or rows k []

-- how many words each row of a ring has
abbrev pub width_of : List (List ℕ) → ℕ
width_of rows = length (row_at rows 0)

-- the oldest row has gone, and there is a new one behind the newest
abbrev pub pushed : List (List ℕ) → List ℕ → List (List ℕ)
pushed rows row = drop 1 rows ++ row ∷ []
