-- The atoms and brackets of a text, and the forests that they make.
use Rattle.std.specs.Prelude.{◌≡◌, ℕ, zero, suc, Bool, true, not, ◌&&◌, ◌||◌, if◌then◌else◌, List, [], ◌∷◌, ◌++◌, length, drop, slice_index}
use Rattle.std.specs.List.{take_while}
use Rattle.spec_forest.specs.Node.{Node, Nodes, atom, list, none, more}
use Rattle.spec_forest.specs.Scan.{is_blank, is_mark, is_left, is_right, is_allowed, commented}

-- a `(` with its place, a `)`, an atom with its place and bytes
pub data Token : Type 0 where
  left : ℕ → Token
  right : Token
  word : ℕ → List ℕ → Token

-- ---- of a text

-- what an atom is made of: the allowed bytes other than blanks, `(`, `)` and `;`
abbrev pub is_letter : ℕ → Bool
is_letter b = is_allowed b && not (is_blank b || is_left b || is_right b || is_mark b)

-- no letter stands before place k
abbrev pub is_fresh : List ℕ → ℕ → Bool
is_fresh text zero = true
is_fresh text (suc k) = not (is_letter (slice_index text k))

-- what begins at place k, whose byte is b. An atom is a longest run of letters; before an uncommented letter no
-- letter is commented.
abbrev pub token_of : List ℕ → ℕ → ℕ → List Token
token_of text k b =
    if is_left b then left k ∷ []
    else if is_right b then right ∷ []
    else if is_letter b && is_fresh text k then word k (take_while is_letter (drop k text)) ∷ []
    else []

unfoldable pub token_at : List ℕ → ℕ → List Token
token_at text k = if commented text k then [] else token_of text k (slice_index text k)

-- what begins before place k
abbrev pub tokens_before : List ℕ → ℕ → List Token
tokens_before text zero = []
tokens_before text (suc k) = tokens_before text k ++ token_at text k

unfoldable pub tokens : List ℕ → List Token
tokens text = tokens_before text (length text)

-- ---- of a forest

abbrev mutual
  pub node_tokens : Node → List Token
  node_tokens (atom at text) = word at text ∷ []
  node_tokens (list at items) = left at ∷ forest_tokens items ++ right ∷ []

  pub forest_tokens : Nodes → List Token
  forest_tokens none = []
  forest_tokens (more x xs) = node_tokens x ++ forest_tokens xs

-- The text's atoms and brackets are those of the forest, in order and at their places. What stands between them in
-- a text without a scan fault is blanks and comments; two atoms with nothing between them are one. Of a text with a
-- fault this says nothing: the one byte 0 has the forest without nodes. So it stands beside `scan_fault text ≡ None`.
unfoldable pub IsForestOf : List ℕ → Nodes → Type 0
IsForestOf text forest = tokens text ≡ forest_tokens forest
