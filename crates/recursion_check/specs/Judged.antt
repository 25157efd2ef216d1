-- What `sound` answers.
use Rattle.std.specs.Prelude.{◌≡◌, ℕ, List, Option, Some, None, Result, Ok, Err}
use Rattle.stream_core.specs.Value.{SpecValue}
use Rattle.stream_core.specs.Eval.{Table}
use Rattle.stream_core.specs.Meaning.{Clean, IsFirstFault, Meets, table}
use Rattle.stream_core.specs.Soundness.{cycle, too_many_decls, too_many_words, root_too_heavy, spec_too_heavy}
use Rattle.stream_core.specs.WellTyped.{WellTyped}
use Rattle.recursion_check.specs.declared.fault.SoundFault.{SoundFault}
use Rattle.recursion_check.specs.declared.fault.SoundFault.TheVariants as fault

-- what an answer's fault says of a specification, and nothing where memory ran out
abbrev pub Blames : SpecValue → SoundFault → Type 0
Blames s (fault.Cycle at) = IsFirstFault s (Some (cycle at))
Blames s fault.TooManyDecls = IsFirstFault s (Some too_many_decls)
Blames s fault.TooManyWords = IsFirstFault s (Some too_many_words)
Blames s (fault.RootTooHeavy at) = IsFirstFault s (Some (root_too_heavy at))
Blames s fault.SpecTooHeavy = IsFirstFault s (Some spec_too_heavy)
Blames s fault.Memory = Unit {0}

-- an answer, or none where there is no fault
abbrev pub IsFault : SpecValue → Option SoundFault → Type 0
IsFault s None = IsFirstFault s None
IsFault s (Some f) = Blames s f

pub record IsSound (s : SpecValue) : Type 0 where
  pub typed : WellTyped s
  pub sound : IsFirstFault s None

-- over a clean history, lists that meet the equations of the streams are the table
abbrev pub HasOneTable : SpecValue → Type 0
HasOneTable s = (h : List (List ℕ)) (n : ℕ) (lists : Table) → Clean s h n → Meets s h n lists → table s h n ≡ Ok lists

-- the specification comes back, sound or with its first fault
abbrev pub Judges : SpecValue → Result SpecValue (SpecValue × SoundFault) → Type 0
Judges s (Ok x) = (x ≡ s) × IsFirstFault s None
Judges s (Err e) = (e.0 ≡ s) × Blames s e.1
