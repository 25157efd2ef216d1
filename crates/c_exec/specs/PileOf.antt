-- What contracts see of a pile of words.
use Rattle.std.specs.Prelude.{ℕ, List}

-- the words, the lowest first, and how many there is room for
pub record PileOf : Type 0 where
  pub items : List ℕ
  pub room : ℕ
