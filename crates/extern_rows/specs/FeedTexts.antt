-- The text that a feed took.
use Rattle.std.specs.Prelude.{◌≡◌, ℕ, ◌+◌, ◌-◌, ◌<◌, ◌≤◌, ◌&&◌, not, true, false, if◌then◌else◌, nat_lt, List, [], ◌∷◌, ◌++◌, length, slice_get, unwrap_or, codes, All, Some, None}
use Rattle.std.specs.List.{count_by}
use Rattle.extern_rows.specs.declared.fault.RowFault.{RowFault}
use Rattle.extern_rows.specs.Lines.{is_break, parts, longest_line, last_line}
use Rattle.extern_rows.specs.Feeding.{Feeding, start, next_line, fed}
use Rattle.extern_rows.specs.FeedStanding.{StandsAfter}
use Rattle.extern_rows.specs.TextRows.{EndsLine}

-- A feed took this text, and refused nothing: the text is some whole lines, then the feed's line, and its line feed
-- where the feed's line is whole. The feed's number counts the line feeds before its line, and what comes behind goes
-- on as it would behind the text.
pub record TookText (f : Feeding) (text : List ℕ) : Type 0 where
  pub clear : f.refusal ≡ None
  pub before : List ℕ
  pub is : text ≡ before ++ f.line ++ (if f.whole then codes "\n" else [])
  pub lines : EndsLine before
  pub number : f.number ≡ count_by is_break before + 1
  pub unbroken : All (λ b. is_break b ≡ false) f.line
  pub short : length f.line ≤ longest_line
  pub numbered : 0 < length f.line + (if f.whole then 1 else 0) → f.number ≤ last_line
  pub goes_on : (b : ℕ) (more : List ℕ) → fed f (b ∷ more) ≡ fed start (text ++ b ∷ more)

-- the bytes behind a text's last line feed
abbrev pub rest_of : List ℕ → List ℕ
rest_of text = unwrap_or (slice_get (parts text) (length (parts text) - 1)) []

abbrev pub TookNothing : Type 0
TookNothing = TookText start []

-- A feed that takes more has taken both.
abbrev pub TakesMore : Type 0
TakesMore = (f : Feeding) (text bytes : List ℕ) → TookText f text → (fed f bytes).refusal ≡ None → TookText (fed f bytes) (text ++ bytes)

-- What it refuses is the first limit of both.
abbrev pub RefusesMore : Type 0
RefusesMore = (f : Feeding) (text bytes : List ℕ) (fault : RowFault) → TookText f text → (fed f bytes).refusal ≡ Some fault → StandsAfter 1 (fed f bytes) (text ++ bytes)

-- Room for the next line makes no difference to what was taken.
abbrev pub NextTakesNothing : Type 0
NextTakesNothing = (f : Feeding) (text : List ℕ) → TookText f text → f.whole ≡ true → TookText (next_line f) text

-- At the end of the text a last line stands where bytes stand behind the last line feed.
abbrev pub FinishesText : Type 0
FinishesText = (f : Feeding) (text : List ℕ) → TookText f text → (not f.whole && nat_lt 0 (length f.line)) ≡ nat_lt 0 (length (rest_of text))
