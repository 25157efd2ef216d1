-- What typing answers.
use Rattle.std.specs.Prelude.{◌≡◌, ◌≤◌, ℕ, length, Option, Some, None, IfSome, option_and_then, Result, Ok, Err}
use Rattle.stream_core.specs.Value.{SpecValue}
use Rattle.stream_core.specs.Term.{trees}
use Rattle.stream_core.specs.WellTyped.{WellTyped}
use Rattle.spec_text.specs.declared.surface.Surface.{Surface}
use Rattle.spec_text.specs.Form.{form_of}
use Rattle.spec_text.specs.Extent.{list_count}
use Rattle.type_check.specs.declared.fault.TypeFault.{TypeFault}
use Rattle.type_check.specs.declared.fault.TypeFault.TheVariants as told
use Rattle.type_check.specs.Checked.{type_fault}
use Rattle.typed_text.specs.ReadSpec.{spec_of}

-- what is wrong with a surface's names and types, and at which node
pub data TypingFault : Type 0 where
  redeclared : ℕ → TypingFault
  unknown : ℕ → TypingFault
  type_clash : ℕ → TypingFault
  nested_array : ℕ → TypingFault
  type_too_wide : ℕ → TypingFault
  drop_of_no_buffer : ℕ → TypingFault
  drop_too_far : ℕ → TypingFault

-- the surface's fault that an error tells; want of memory is none
abbrev pub typing_fault : TypeFault → Option TypingFault
typing_fault (told.Redeclared at) = Some (redeclared at)
typing_fault (told.Unknown at) = Some (unknown at)
typing_fault (told.TypeClash at) = Some (type_clash at)
typing_fault (told.NestedArray at) = Some (nested_array at)
typing_fault (told.TypeTooWide at) = Some (type_too_wide at)
typing_fault (told.DropOfNoBuffer at) = Some (drop_of_no_buffer at)
typing_fault (told.DropTooFar at) = Some (drop_too_far at)
typing_fault told.Memory = None

-- The first fault: of names, and then of types. No text's first fault is want of memory, so none is lost.
abbrev pub first_typing_fault : Surface → Option TypingFault
first_typing_fault s = option_and_then typing_fault (type_fault s)

-- The typed specification of a surface: as trees it is what the surface stands for, it is well typed, and it has no
-- more types than the surface has lists.
pub record IsTyped (s : Surface) (x : SpecValue) : Type 0 where
  pub fault : type_fault s ≡ None
  pub trees_are : trees x ≡ spec_of s
  pub typed : WellTyped x
  pub few : length x.types ≤ list_count (form_of s)

-- A specification comes where there is no fault, and an error is the fault. Want of memory is free.
abbrev pub Types : Surface → Result SpecValue TypeFault → Type 0
Types s (Ok x) = IsTyped s x
Types s (Err e) = IfSome (typing_fault e) (λ fault. first_typing_fault s ≡ Some fault)
