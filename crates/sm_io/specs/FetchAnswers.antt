-- What a fetch may answer where the files are told.
use Rattle.std.specs.Prelude.{◌≡◌, ℕ, List, Result, Ok, Err}
use Rattle.std.specs.Global.{Vec}
use Rattle.sm_io.specs.Files.{Files}
use Rattle.sm_io.specs.Fetch.{fetched}
use Rattle.sm_io.specs.declared.outside.FetchFault.{FetchFault}
use Rattle.sm_io.specs.declared.outside.FetchFault.TheVariants.{Failed, Memory}

-- Want of memory is free, and a failure has its cause elsewhere. Any other answer is the one that the files give.
abbrev pub Fetches : Files → List ℕ → ℕ → Result (Vec ℕ) FetchFault → Type 0
Fetches files name limit (Err Memory) = Unit {0}
Fetches files name limit (Err Failed) = Unit {0}
Fetches files name limit (Err fault) = fetched files name limit ≡ Err fault
Fetches files name limit (Ok bytes) = fetched files name limit ≡ Ok bytes.items
