-- Totals that are told up to a bound.
use Rattle.std.specs.Prelude.{ℕ, min}

-- a number, or 4,294,967,296 where it is more
abbrev pub up_to_bound : ℕ → ℕ
up_to_bound n = min n 4294967296
