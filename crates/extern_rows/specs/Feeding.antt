-- The line at hand of a text that comes in pieces.
use Rattle.std.specs.Prelude.{ℕ, Bool, true, false, if◌then◌else◌, nat_lt, List, [], ◌∷◌, ◌++◌, length, Option, Some, None, Result, Ok, Err}
use Rattle.std.specs.Option.{is_some}
use Rattle.std.specs.List.{fold}
use Rattle.sm_io.specs.Memory.{next}
use Rattle.extern_rows.specs.Lines.{is_break, longest_line, last_line}
use Rattle.extern_rows.specs.declared.fault.RowFault.{RowFault}
use Rattle.extern_rows.specs.declared.fault.RowFault.TheVariants.{LineTooLong, TooManyLines}
use Rattle.extern_rows.specs.declared.feed.Pushed.{Pushed}

-- the bytes of the line so far, its number from 1, whether its line feed was taken, and the refusal, once there is one
pub record Feeding : Type 0 where
  pub line : List ℕ
  pub number : ℕ
  pub whole : Bool
  pub refusal : Option RowFault

-- before any byte
abbrev pub start : Feeding
start = record { line = []; number = 1; whole = false; refusal = None }

-- at the next line
abbrev pub next_line : Feeding → Feeding
next_line f = record { line = []; number = next f.number; whole = false; refusal = f.refusal }

-- with one byte more of the line at hand: any byte shows that the line is one too many, and any but a line feed
-- that it is too long
abbrev pub with_byte : Feeding → ℕ → Feeding
with_byte f b =
    if nat_lt last_line f.number then record f { refusal = Some TooManyLines }
    else if is_break b then record f { whole = true }
    else if nat_lt (length f.line) longest_line then record f { line = f.line ++ b ∷ [] }
    else record f { refusal = Some LineTooLong }

-- with one byte more of the text; a refusal stays
abbrev pub fed_byte : Feeding → ℕ → Feeding
fed_byte f b = if is_some f.refusal then f else if f.whole then with_byte (next_line f) b else with_byte f b

-- with these bytes more of the text
abbrev pub fed : Feeding → List ℕ → Feeding
fed f bytes = fold fed_byte f bytes

-- what a push answers that took these bytes and left this
abbrev pub pushed : Option RowFault → Bool → List ℕ → Result Pushed RowFault
pushed None whole bytes = Ok (record { taken = length bytes; whole = whole })
pushed (Some fault) whole bytes = Err fault
