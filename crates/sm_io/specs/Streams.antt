-- What the errors of std mean here, and what a text written to a writer of std leaves in it.
use Rattle.std.specs.Prelude.{ℕ, Bool, true, false, List, take, Option, Result, MatchResult}
use Rattle.std.specs.Io.KnownBytes.{Appends}
use Rattle.std.specs.declared.io.ErrorKind.{ErrorKind}
use Rattle.std.specs.declared.io.ErrorKind.TheVariants.{NotFound, Interrupted}
use Rattle.sm_io.specs.declared.outside.FetchFault.{FetchFault}
use Rattle.sm_io.specs.declared.outside.FetchFault.TheVariants.{Missing, Failed}

-- The call is made again.
abbrev pub is_interruption : ErrorKind → Bool
is_interruption Interrupted = true
is_interruption _ = false

-- why a file was not opened
abbrev pub opening_fault : ErrorKind → FetchFault
opening_fault NotFound = Missing
opening_fault _ = Failed

-- All of a text was appended, or at an `Err` a prefix of it, where the writer tells its bytes.
abbrev pub AppendsText : {T E : Type 0} → Option (List ℕ) → Option (List ℕ) → Result T E → List ℕ → Type 0
AppendsText old new result text = MatchResult result (λ _. Appends old new text) (λ _. (n : ℕ) × Appends old new (take n text))
