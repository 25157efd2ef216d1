-- The files of a shelf, as a finite map from names to bytes.
use Rattle.std.specs.Prelude.{◌≡◌, ℕ, List, Option}
use Rattle.std.specs.Option.{option_map}
use Rattle.std.specs.Ordering.{nat_cmp}
use Rattle.std.specs.Cmp.Lexicographic.{slice_cmp}
use Rattle.std.specs.FinMap.{FinMap, insert, remove}

abbrev pub Files : Type 0
Files = FinMap (slice_cmp nat_cmp) (List ℕ)

-- the told files, with these bytes under the name
abbrev pub with_file : Option Files → List ℕ → List ℕ → Option Files
with_file files name bytes = option_map (λ m. insert m name bytes) files

-- The told files differ at no other name.
abbrev pub SameBut : List ℕ → Option Files → Option Files → Type 0
SameBut name old new = option_map (λ m. remove m name) new ≡ option_map (λ m. remove m name) old
