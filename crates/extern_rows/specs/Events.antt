-- The line of an event.
use Rattle.std.specs.Prelude.{ℕ, Bool, true, false, IsTrue, List, [], ◌∷◌, ◌++◌, drop, codes, decimal}
use Rattle.stream_types.specs.declared.scalar.Scalar.{Scalar}
use Rattle.stream_types.specs.declared.scalar.Scalar.TheVariants as scalar
use Rattle.stream_types.specs.Types.{signed}
use Rattle.stream_types.specs.Numbers.{is_word}
use Rattle.spec_words.specs.Words.{truth_text}
use Rattle.spec_words.specs.Literals.{number_text}
use Rattle.extern_rows.specs.declared.event.Piece.{Piece}
use Rattle.extern_rows.specs.declared.event.Piece.TheVariants.{Gap, Word, Open, Comma, Close}

-- a truth value by its word, a number in decimal
abbrev pub word_text : Scalar → ℕ → List ℕ
word_text scalar.Bool w = truth_text w
word_text s w = number_text (signed s) w

-- how many words a part takes
abbrev pub piece_words : Piece → ℕ
piece_words (Word s) = 1
piece_words _ = 0

-- a part's text, where its word is the first of these
abbrev pub piece_text : Piece → List ℕ → List ℕ
piece_text (Word s) [] = []
piece_text (Word s) (w ∷ ws) = word_text s w
piece_text Gap ws = codes " "
piece_text Comma ws = codes ","
piece_text (Open b) ws = b ∷ []
piece_text (Close b) ws = b ∷ []

-- the parts' texts, one after another
abbrev pub pieces_text : List Piece → List ℕ → List ℕ
pieces_text [] ws = []
pieces_text (p ∷ ps) ws = piece_text p ws ++ pieces_text ps (drop (piece_words p) ws)

-- A part that shows a word has one, of its type.
abbrev pub FitsFirst : Piece → List ℕ → Type 0
FitsFirst (Word s) [] = ⊥
FitsFirst (Word s) (w ∷ ws) = IsTrue (is_word s w)
FitsFirst _ ws = Unit {0}

-- The words are those that the parts show, in order, each a word of its type.
abbrev pub Fits : List Piece → List ℕ → Type 0
Fits [] [] = Unit {0}
Fits [] (w ∷ ws) = ⊥
Fits (p ∷ ps) ws = FitsFirst p ws × Fits ps (drop (piece_words p) ws)

-- what stands between the step and a trigger's name, or an observer's
abbrev pub before_name : Bool → List ℕ
before_name true = codes " ="
before_name false = codes " "

-- the step, the name, the arguments and a line feed
abbrev pub event_text : ℕ → Bool → List ℕ → List Piece → List ℕ → List ℕ
event_text step mark name shape words = decimal step ++ before_name mark ++ name ++ pieces_text shape words ++ codes "\n"
