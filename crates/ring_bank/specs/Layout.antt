-- How the rings lie in the block.
use Rattle.std.specs.Prelude.{◌≡◌, ℕ, ◌+◌, ◌*◌, ◌%◌, ◌<◌, ◌≤◌, List, [], ◌∷◌, ◌++◌, length, take, drop}
use Rattle.ring_bank.specs.declared.shape.Shape.{Shape}
use Rattle.ring_bank.specs.declared.ring.Ring.{Ring}
use Rattle.ring_bank.specs.RingRows.{rows_of}

-- the rings of these shapes in turn, where the first begins at an index
abbrev pub rings_from : ℕ → List Shape → List Ring
rings_from at [] = []
rings_from at (s ∷ ss) = (record { base = at; len = s.len; width = s.width; oldest = 0 }) ∷ rings_from (at + s.len * s.width) ss

-- the rows of a ring from slot `oldest` on, and round the end
abbrev pub from_oldest : ℕ → List (List ℕ) → List (List ℕ)
from_oldest oldest rows = drop oldest rows ++ take oldest rows

-- what the rings hold whose words these are
abbrev pub rings_in : List Ring → List ℕ → List (List (List ℕ))
rings_in [] words = []
rings_in (r ∷ rs) words = from_oldest r.oldest (rows_of r.len r.width words) ∷ rings_in rs (drop (r.len * r.width) words)

-- each ring begins where the one before it ends, the first at one index, and the last ends at the other
abbrev pub Laid : ℕ → List Ring → ℕ → Type 0
Laid at [] end = at ≡ end
Laid at (r ∷ rs) end = (r.base ≡ at) × (r.oldest < r.len) × (0 < r.width) × Laid (at + r.len * r.width) rs end

-- a ring lies between two indices
pub record LiesBetween (at : ℕ) (r : Ring) (end : ℕ) : Type 0 where
  pub starts : at ≤ r.base
  pub ends : r.base + r.len * r.width ≤ end
  pub oldest : r.oldest < r.len
  pub wide : 0 < r.width

-- where row k begins, counted from the oldest
abbrev pub row_start : Ring → ℕ → ℕ
row_start r k = r.base + (r.oldest + k) % r.len * r.width

-- the ring whose oldest row is the one behind
abbrev pub turned : Ring → Ring
turned r = record { base = r.base; len = r.len; width = r.width; oldest = (r.oldest + 1) % r.len }

-- these words with a run of others in place of theirs from an index on
abbrev pub written : ℕ → List ℕ → List ℕ → List ℕ
written at run words = take at words ++ run ++ drop (at + length run) words
