-- A small machine, for tests: a letter for each row.
use Rattle.std.specs.Prelude.{ℕ, ◌+◌, ◌-◌, ◌%◌, ◌==◌, if◌then◌else◌, List, [], ◌∷◌, length, get_or, Result, Ok, Err}

abbrev pub letter_text : ℕ → List ℕ
letter_text word = (97 + word % 26) ∷ 10 ∷ []

-- the answer to a row, by its first word and how many rows there are
abbrev pub letter_answer : ℕ → ℕ → Result (List ℕ) ℕ
letter_answer count word = if word % 26 == 13 then Err count else Ok (letter_text word)

abbrev pub letters_answer : List (List ℕ) → Result (List ℕ) ℕ
letters_answer rows = letter_answer (length rows) (get_or (get_or rows (length rows - 1) []) 0 0)
