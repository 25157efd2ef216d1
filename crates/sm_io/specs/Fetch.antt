-- What a fetch answers.
use Rattle.std.specs.Prelude.{ℕ, nat_le, if◌then◌else◌, List, length, Option, Some, None, Result, Ok, Err}
use Rattle.std.specs.FinMap.{get}
use Rattle.sm_io.specs.Files.{Files}
use Rattle.sm_io.specs.declared.outside.FetchFault.{FetchFault}
use Rattle.sm_io.specs.declared.outside.FetchFault.TheVariants.{Missing, TooLong, Failed, Memory}

-- what stands under a name, if it is there and within the limit
abbrev pub found : Option (List ℕ) → ℕ → Result (List ℕ) FetchFault
found None limit = Err Missing
found (Some bytes) limit = if nat_le (length bytes) limit then Ok bytes else Err TooLong

abbrev pub fetched : Files → List ℕ → ℕ → Result (List ℕ) FetchFault
fetched files name limit = found (get files name) limit

-- the number of each reason
abbrev pub fetch_fault_code : FetchFault → ℕ
fetch_fault_code Missing = 1
fetch_fault_code TooLong = 2
fetch_fault_code Failed = 3
fetch_fault_code Memory = 4
