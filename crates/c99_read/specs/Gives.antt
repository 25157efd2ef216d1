-- What a reader of a part answers.
use Rattle.std.specs.Prelude.{◌≡◌, Option, Some, None, Result, Ok, Err}
use Rattle.c99_read.specs.declared.fault.ReadFault.{ReadFault}
use Rattle.c99_read.specs.declared.fault.ReadFault.TheVariants.{Memory, NotRead}

abbrev pub Fails : {Y : Type 0} → ReadFault → Option Y → Type 0
Fails Memory read = Unit {0}
Fails NotRead read = read ≡ None

-- what a function returned, seen by view, is what reading gives, unless memory ran out
abbrev pub Gives : {X Y : Type 0} → (X → Y) → Result X ReadFault → Option Y → Type 0
Gives view (Ok x) read = read ≡ Some (view x)
Gives view (Err e) read = Fails e read
