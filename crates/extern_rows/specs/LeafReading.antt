-- What the parts of a header's and a row's reading answer.
use Rattle.std.specs.Prelude.{◌≡◌, ℕ, List, ◌++◌, Option, Some, None, Result, Ok, Err}
use Rattle.std.specs.Global.{Vec}
use Rattle.extern_rows.specs.declared.fault.RowFault.{RowFault}
use Rattle.extern_rows.specs.declared.fault.RowFault.TheVariants.{Memory}
use Rattle.extern_rows.specs.declared.header.Leaf.{Leaf}
use Rattle.extern_rows.specs.declared.header.Wanted.{Wanted}
use Rattle.extern_rows.specs.declared.header.Column.{Column}
use Rattle.extern_rows.specs.declared.header.Column.TheVariants.{Once, Twice}
use Rattle.extern_rows.specs.Columns.{wanted_from, words_from}

-- what comes behind these, unless it is a fault
abbrev pub behind : {X : Type 0} → List X → Result (List X) RowFault → Result (List X) RowFault
behind front (Ok xs) = Ok (front ++ xs)
behind front (Err fault) = Err fault

-- where a name stands that stood so before, and stands at this place too
abbrev pub seen_at : Option Column → ℕ → Column
seen_at None place = Once place
seen_at (Some column) place = Twice

-- want of memory is free
abbrev pub ReadsWanted : List Leaf → List (List ℕ) → Result (Vec Wanted) RowFault → Type 0
ReadsWanted leaves names (Err Memory) = Unit {0}
ReadsWanted leaves names (Err fault) = wanted_from 0 leaves names ≡ Err fault
ReadsWanted leaves names (Ok wanted) = wanted_from 0 leaves names ≡ Ok wanted.items

abbrev pub ReadsWords : List Wanted → List (List ℕ) → List ℕ → Result (Unit {0}) RowFault → Type 0
ReadsWords wanted fields out (Err fault) = words_from 0 wanted fields ≡ Err fault
ReadsWords wanted fields out (Ok _) = words_from 0 wanted fields ≡ Ok out
