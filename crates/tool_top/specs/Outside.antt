-- What a run sees of the outside before it, and leaves of it after it.
use Rattle.std.specs.Prelude.{◌≡◌, ◌≤◌, ℕ, List, Option}
use Rattle.sm_io.specs.Causes.{Rose}
use Rattle.sm_io.specs.Files.{Files}

-- The files of the folder, what is left of the input and what the output took, each where it is told, and how often
-- each of the three has failed.
pub record Outside : Type 0 where
  pub files : Option Files
  pub left : Option (List ℕ)
  pub taken : Option (List ℕ)
  pub shelf_faults : ℕ
  pub input_faults : ℕ
  pub out_faults : ℕ

abbrev pub outside : Option Files → ℕ → Option (List ℕ) → ℕ → Option (List ℕ) → ℕ → Outside
outside files shelf_faults left input_faults taken out_faults =
    record { files = files; left = left; taken = taken; shelf_faults = shelf_faults; input_faults = input_faults; out_faults = out_faults }

-- a call on the folder, the input or the output failed, or its count stands at its last value
abbrev pub ShelfFailed : Outside → Outside → Type 0
ShelfFailed before after = Rose before.shelf_faults after.shelf_faults

abbrev pub InputFailed : Outside → Outside → Type 0
InputFailed before after = Rose before.input_faults after.input_faults

abbrev pub OutFailed : Outside → Outside → Type 0
OutFailed before after = Rose before.out_faults after.out_faults

-- no call failed
pub record NothingFailed (before after : Outside) : Type 0 where
  pub shelf : after.shelf_faults ≡ before.shelf_faults
  pub input : after.input_faults ≡ before.input_faults
  pub out : after.out_faults ≡ before.out_faults

-- no count falls
pub record CountsStand (before after : Outside) : Type 0 where
  pub shelf : before.shelf_faults ≤ after.shelf_faults
  pub input : before.input_faults ≤ after.input_faults
  pub out : before.out_faults ≤ after.out_faults

-- no byte was taken from the input and none written to the output
pub record StreamsStand (before after : Outside) : Type 0 where
  pub left : after.left ≡ before.left
  pub taken : after.taken ≡ before.taken
