-- The first fault of a text's names and types, and what the check answers.
use Rattle.std.specs.Prelude.{◌≡◌, List, [], Option, Some, None, Result, Ok, Err}
use Rattle.std.specs.Option.{option_map}
use Rattle.stream_types.specs.declared.types.TypeEntry.{TypeEntry}
use Rattle.spec_text.specs.declared.surface.Surface.{Surface}
use Rattle.type_check.specs.declared.fault.TypeFault.{TypeFault}
use Rattle.type_check.specs.declared.fault.TypeFault.TheVariants.{Redeclared, Memory}
use Rattle.type_check.specs.declared.checked.Ordered.{Ordered}
use Rattle.type_check.specs.Names.{name_fault}
use Rattle.type_check.specs.Judged.{or_else}
use Rattle.type_check.specs.Untyped.{untyped, all_of}
use Rattle.type_check.specs.TypeOrder.{type_order, types_of_text}
use Rattle.type_check.specs.Standing.{AllMean}
use Rattle.type_check.specs.Table.{struct_names}
use Rattle.type_check.specs.Walked.{IsBetween}

-- the first fault: of names, and then of types
abbrev pub type_fault : Surface → Option TypeFault
type_fault s = or_else (option_map (λ at. Redeclared at) (name_fault s)) (untyped s)

-- A text without a fault: its names, all of whose structs have ended, and its types in order.
pub record IsText (s : Surface) (text : Ordered) : Type 0 where
  pub faultless : type_fault s ≡ None
  pub names_are : IsBetween (struct_names (all_of s)) (all_of s) [] text.scope
  pub types_are : AllMean (struct_names (all_of s)) text.order.placed (type_order s)

abbrev pub GivesOrdered : Surface → Result Ordered TypeFault → Type 0
GivesOrdered s (Ok text) = IsText s text
GivesOrdered s (Err Memory) = Unit {0}
GivesOrdered s (Err e) = type_fault s ≡ Some e

-- The type list comes where there is no fault, and an error is the fault. Want of memory is free.
abbrev pub Checks : Surface → Result (List TypeEntry) TypeFault → Type 0
Checks s (Ok types) = (type_fault s ≡ None) × (types ≡ types_of_text s)
Checks s (Err Memory) = Unit {0}
Checks s (Err e) = type_fault s ≡ Some e
