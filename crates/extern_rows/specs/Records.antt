-- The record of a line.
use Rattle.std.specs.Prelude.{◌≡◌, ℕ, Bool, ◌==◌, ◌||◌, ◌&&◌, not, if◌then◌else◌, length, List, [], Option, Some, None, Result, Ok, Err}
use Rattle.std.specs.Option.{option_map}
use Rattle.std.specs.List.{list_any, list_all}
use Rattle.csv.specs.Machine.{next_record}
use Rattle.csv.specs.Reading.{default_config, strip_bom}
use Rattle.csv.specs.Records.{Row, fields_of}
use Rattle.csv.specs.declared.parser.State.TheVariants as st
use Rattle.extern_rows.specs.declared.fault.RowFault.{RowFault}
use Rattle.extern_rows.specs.declared.fault.RowFault.TheVariants.{BadRecord, Memory}

-- the fields of the first record that a text reads as, with the usual settings and no header, a byte order mark at
-- its start apart
abbrev pub first_record : List ℕ → Option (List (List ℕ))
first_record text = option_map (λ p. p.0) (next_record default_config st.StartRecord [] [] (strip_bom text))

-- the fields of a line; a line that holds a carriage return has none
abbrev pub line_fields : List ℕ → Option (List (List ℕ))
line_fields line = if list_any (λ b. b == 13) line then None else first_record line

-- a byte that is no quote, no end of a line and no first byte of a byte order mark
abbrev pub is_plain_byte : ℕ → Bool
is_plain_byte b = not ((b == 34) || (b == 13) || (b == 10) || (b == 239))

-- a line of such bytes, one or more: its fields are the parts between its commas
abbrev pub is_plain : List ℕ → Bool
is_plain line = not (length line == 0) && list_all is_plain_byte line

-- what reading a line's record may answer: want of memory is free
abbrev pub ReadsRecord : List ℕ → Result Row RowFault → Type 0
ReadsRecord line (Ok row) = line_fields line ≡ Some (fields_of row)
ReadsRecord line (Err BadRecord) = line_fields line ≡ None
ReadsRecord line (Err Memory) = Unit {0}
ReadsRecord line (Err _) = ⊥
