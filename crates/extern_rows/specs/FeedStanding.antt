-- What a feed holds of the text that was pushed, however it was cut into pieces.
use Rattle.std.specs.Prelude.{◌≡◌, ◌≤◌, ℕ, ◌+◌, ◌-◌, if◌then◌else◌, nat_lt, true, List, [], ◌∷◌, ◌++◌, length, slice_get, slice_index, Option, Some, None}
use Rattle.std.specs.Option.{option_map}
use Rattle.extern_rows.specs.declared.fault.RowFault.{RowFault}
use Rattle.extern_rows.specs.Lines.{is_break, parts, limit_fault}
use Rattle.extern_rows.specs.Feeding.{Feeding, start, next_line, fed}

-- the limit that a part of a text goes past, where more parts come behind it; the last part is a line only where it
-- has a byte
abbrev pub part_limit : ℕ → List ℕ → List (List ℕ) → Option RowFault
part_limit number part more = if nat_lt 0 (length part + length more) then limit_fault number part else None

abbrev pub or_later : ℕ → Option RowFault → Option (ℕ × RowFault) → Option (ℕ × RowFault)
or_later number (Some fault) later = Some (number, fault)
or_later number None later = later

-- the first line that goes past a limit, by its number, where the parts are numbered from n
abbrev pub first_limit : ℕ → List (List ℕ) → Option (ℕ × RowFault)
first_limit n [] = None
first_limit n (part ∷ more) = or_later n (part_limit n part more) (first_limit (n + 1) more)

-- A feed stands after a text whose first line has the number n. Its refusal is the text's first limit, at that line's
-- number. Without one it holds the line of its number, which is the text's last line or, where no line feed came, the
-- rest.
pub record StandsAfter (n : ℕ) (f : Feeding) (text : List ℕ) : Type 0 where
  pub low : n ≤ f.number
  pub refused : option_map (λ fault. (f.number, fault)) f.refusal ≡ first_limit n (parts text)
  pub line : f.refusal ≡ None → slice_get (parts text) (f.number - n) ≡ Some f.line
  pub count : f.refusal ≡ None → n + length (parts text) ≡ f.number + (if f.whole then 2 else 1)
  pub whole : f.refusal ≡ None → f.whole ≡ is_break (slice_index text (length text - 1))

-- Where a text is cut makes no difference.
abbrev pub CutsAnywhere : Type 0
CutsAnywhere = (f : Feeding) (front back : List ℕ) → fed f (front ++ back) ≡ fed (fed f front) back

-- Nor does it whether a whole line was left before the next byte came.
abbrev pub MovesOn : Type 0
MovesOn = (f : Feeding) (b : ℕ) (bytes : List ℕ) → f.whole ≡ true → f.refusal ≡ None → fed (next_line f) (b ∷ bytes) ≡ fed f (b ∷ bytes)

-- A feed that took a text stands after it.
abbrev pub StandsInTexts : Type 0
StandsInTexts = (text : List ℕ) → StandsAfter 1 (fed start text) text
