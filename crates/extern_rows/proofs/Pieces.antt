-- The parts of an event, one more at a time.
use Rattle.std.proofs.Common.{◌≡◌, ℕ, ◌+◌, ◌<◌, List, ◌∷◌, ◌++◌, length, get_or, drop, ap, sym, ◌∙◌, subst, add-one, append_assoc, drop-cons, Option, false}
use Rattle.sm_io.specs.Written.{WritesText}
use Rattle.sm_io.proofs.Written.{longer}
use Rattle.extern_rows.specs.declared.event.Piece.{Piece}
use Rattle.extern_rows.specs.Events.{Fits, FitsFirst, piece_words, piece_text, pieces_text}

-- the part at hand, and those behind it
next_piece : (shape : List Piece) (i : ℕ) (p : Piece) → i < length shape → drop i shape ≡ get_or shape i p ∷ drop (i + 1) shape
next_piece shape i p low = rw add-one (drop-cons shape i p low)

pub fits_now : (shape : List Piece) (i : ℕ) (p : Piece) (rest : List ℕ) → i < length shape → Fits (drop i shape) rest
    → FitsFirst (get_or shape i p) rest × Fits (drop (i + 1) shape) (drop (piece_words (get_or shape i p)) rest)
fits_now shape i p rest low fits = let P : List Piece → Type 0 = λ s. Fits s rest in subst P (next_piece shape i p low) fits

-- the text so far and the text to come are the whole, also after one more part
pub one_more : (shape : List Piece) (i : ℕ) (p : Piece) (front rest whole : List ℕ) → i < length shape
    → front ++ pieces_text (drop i shape) rest ≡ whole
    → (front ++ piece_text (get_or shape i p) rest) ++ pieces_text (drop (i + 1) shape) (drop (piece_words (get_or shape i p)) rest) ≡ whole
one_more shape i p front rest whole low so_far =
    append_assoc front (piece_text (get_or shape i p) rest) (pieces_text (drop (i + 1) shape) (drop (piece_words (get_or shape i p)) rest))
    ∙ ap (λ s. front ++ pieces_text s rest) (sym (next_piece shape i p low)) ∙ so_far

-- A text that stops within one part stops within the whole.
pub cut_short : {k k' : Option (List ℕ)} {f f' : ℕ} (shape : List Piece) (i : ℕ) (p : Piece) (front rest whole : List ℕ) → i < length shape
    → front ++ pieces_text (drop i shape) rest ≡ whole → WritesText k k' f f' false (front ++ piece_text (get_or shape i p) rest) → WritesText k k' f f' false whole
cut_short shape i p front rest whole low so_far wrote =
    rw (← one_more shape i p front rest whole low so_far) (longer (pieces_text (drop (i + 1) shape) (drop (piece_words (get_or shape i p)) rest)) wrote)
