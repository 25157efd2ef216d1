-- Texts made of pieces: brackets, words and gaps.
use Rattle.std.specs.Prelude.{◌≡◌, ℕ, ◌+◌, ◌-◌, ◌<◌, true, List, [], ◌∷◌, ◌++◌, length}
use Rattle.std.specs.List.{list_all}
use Rattle.spec_forest.specs.Node.{Node, Nodes, atom, list, none, more}
use Rattle.spec_forest.specs.Scan.{is_blank, deepest}
use Rattle.spec_forest.specs.Tokens.{Token, left, right, word, is_letter, forest_tokens}

pub data Piece : Type 0 where
  opening : Piece
  closing : Piece
  letters : List ℕ → Piece
  gap : List ℕ → Piece

-- the bytes of a piece
abbrev pub piece_text : Piece → List ℕ
piece_text opening = 40 ∷ []
piece_text closing = 41 ∷ []
piece_text (letters bytes) = bytes
piece_text (gap bytes) = bytes

-- the bytes of some pieces, one after another
abbrev pub pieces_text : List Piece → List ℕ
pieces_text [] = []
pieces_text (p ∷ ps) = piece_text p ++ pieces_text ps

-- A word has letters alone, a gap blanks alone, and neither is empty.
abbrev pub IsPiece : Piece → Type 0
IsPiece opening = Unit {0}
IsPiece closing = Unit {0}
IsPiece (letters bytes) = (0 < length bytes) × (list_all is_letter bytes ≡ true)
IsPiece (gap bytes) = (0 < length bytes) × (list_all is_blank bytes ≡ true)

-- No word stands at the front.
abbrev pub BeginsWithNoWord : List Piece → Type 0
BeginsWithNoWord (letters bytes ∷ ps) = ⊥
BeginsWithNoWord ps = Unit {0}

abbrev pub MayStandBefore : Piece → List Piece → Type 0
MayStandBefore (letters bytes) ps = BeginsWithNoWord ps
MayStandBefore p ps = Unit {0}

-- No two words stand next to each other.
abbrev pub AreParted : List Piece → Type 0
AreParted [] = Unit {0}
AreParted (p ∷ ps) = IsPiece p × MayStandBefore p ps × AreParted ps

-- Where d lists are open before them, no piece closes more, none opens the 65th level, and none is open at the end.
abbrev pub StaysWithin : ℕ → List Piece → Type 0
StaysWithin d [] = d ≡ 0
StaysWithin d (opening ∷ ps) = (d < deepest) × StaysWithin (d + 1) ps
StaysWithin d (closing ∷ ps) = (0 < d) × StaysWithin (d - 1) ps
StaysWithin d (letters bytes ∷ ps) = StaysWithin d ps
StaysWithin d (gap bytes ∷ ps) = StaysWithin d ps

-- the tokens of pieces that begin at place k
abbrev pub piece_tokens : ℕ → List Piece → List Token
piece_tokens k [] = []
piece_tokens k (opening ∷ ps) = left k ∷ piece_tokens (k + 1) ps
piece_tokens k (closing ∷ ps) = right ∷ piece_tokens (k + 1) ps
piece_tokens k (letters bytes ∷ ps) = word k bytes ∷ piece_tokens (k + length bytes) ps
piece_tokens k (gap bytes ∷ ps) = piece_tokens (k + length bytes) ps

-- ---- forests up to places

-- a forest with each place 0
abbrev mutual
  pub node_unplaced : Node → Node
  node_unplaced (atom at text) = atom 0 text
  node_unplaced (list at items) = list 0 (unplaced items)

  pub unplaced : Nodes → Nodes
  unplaced none = none
  unplaced (more x xs) = more (node_unplaced x) (unplaced xs)

-- Two forests are equal but for places.
abbrev pub SameShape : Nodes → Nodes → Type 0
SameShape f g = unplaced f ≡ unplaced g

-- pieces without gaps, as tokens without places
abbrev pub bare_tokens : List Piece → List Token
bare_tokens [] = []
bare_tokens (opening ∷ ps) = left 0 ∷ bare_tokens ps
bare_tokens (closing ∷ ps) = right ∷ bare_tokens ps
bare_tokens (letters bytes ∷ ps) = word 0 bytes ∷ bare_tokens ps
bare_tokens (gap bytes ∷ ps) = bare_tokens ps

-- The pieces are the forest's brackets and atoms in order, whatever gaps stand between them.
abbrev pub LaysOut : List Piece → Nodes → Type 0
LaysOut ps f = bare_tokens ps ≡ forest_tokens (unplaced f)
