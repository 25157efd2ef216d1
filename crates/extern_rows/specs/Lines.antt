-- The lines of a text.
use Rattle.std.specs.Prelude.{ℕ, ◌+◌, ◌-◌, Bool, ◌==◌, ◌||◌, if◌then◌else◌, nat_lt, List, length, take, slice_index, Option, Some, None}
use Rattle.std.specs.List.{list_all, slice_split, position_or_len}
use Rattle.extern_rows.specs.declared.fault.RowFault.{RowFault}
use Rattle.extern_rows.specs.declared.fault.RowFault.TheVariants.{LineTooLong, TooManyLines}

-- a line feed ends a line
abbrev pub is_break : ℕ → Bool
is_break b = b == 10

-- a text's parts between its line feeds: its whole lines, and then the rest
abbrev pub parts : List ℕ → List (List ℕ)
parts text = slice_split is_break text

-- the bytes up to and with the first line feed, or all
abbrev pub first_line : List ℕ → List ℕ
first_line text = take (position_or_len is_break text + 1) text

-- the most bytes before a line's end
abbrev pub longest_line : ℕ
longest_line = 1048576

-- the number of the last line that may stand
abbrev pub last_line : ℕ
last_line = 4294967295

-- A line is one too many by its number, or too long.
abbrev pub limit_fault : ℕ → List ℕ → Option RowFault
limit_fault number line =
    if nat_lt last_line number then Some TooManyLines
    else if nat_lt longest_line (length line) then Some LineTooLong
    else None

-- a line without one carriage return at its end
abbrev pub without_cr : List ℕ → List ℕ
without_cr line = if slice_index line (length line - 1) == 13 then take (length line - 1) line else line

-- spaces and tabs
abbrev pub is_blank_byte : ℕ → Bool
is_blank_byte b = (b == 32) || (b == 9)

-- A line of spaces and tabs alone, or of nothing, is passed over.
abbrev pub is_blank : List ℕ → Bool
is_blank line = list_all is_blank_byte line
