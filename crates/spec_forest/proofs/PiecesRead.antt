-- A text made of pieces is read as their tokens.
use Rattle.std.proofs.Common.{◌≡◌, ℕ, suc, ◌+◌, ◌-◌, ◌<◌, ◌≤◌, true, cond, List, [], ◌∷◌, ◌++◌, length, get_or, take, drop, None, refl, ap, sym, ◌∙◌, subst, arith, add-one, add-zero, append_assoc, append-nil, length-drop, get_or-drop, take_at, drop_at, drop-drop}
use Rattle.std.specs.Prelude.{slice_index}
use Rattle.std.specs.List.{list_all, prefix_len, take_while}
use Rattle.std.proofs.lemmas.Bool.{and_parts}
use Rattle.spec_forest.specs.Scan.{longest_text, is_blank, scan_fault}
use Rattle.spec_forest.specs.Tokens.{Token, left, right, word, is_letter, tokens}
use Rattle.spec_forest.specs.Scanning.{IsScanned}
use Rattle.spec_forest.specs.Pieces.{Piece, opening, closing, letters, gap, pieces_text, BeginsWithNoWord, AreParted, StaysWithin, piece_tokens}
use Rattle.spec_forest.proofs.ByteFacts.{blank_is}
use Rattle.spec_forest.proofs.ScanSteps.{scanned-start, step-blank, step-left, step-right, scanned-word, Shows, shows-start, shows-blank, shows-left, shows-right, shows-word}
use Rattle.spec_forest.proofs.Faults.{no-fault}

-- ---- what is left of a text

-- its first byte
record Head (text : List ℕ) (k b : ℕ) (rest : List ℕ) : Type 0 where
  low : k < length text
  byte : slice_index text k ≡ b
  next : drop (suc k) text ≡ rest

head : (text : List ℕ) (k b : ℕ) (rest : List ℕ) → drop k text ≡ b ∷ rest → Head text k b rest
head text k b rest e = record {
  low = let n : length (drop k text) ≡ suc (length rest) = ap length e in omega (arith, n, length-drop k text);
  byte = ap (λ i. get_or text i 0) (sym (add-zero k)) ∙ sym (get_or-drop k text 0 0) ∙ ap (λ xs. get_or xs 0 0) e;
  next = ap (λ i. drop i text) (sym (add-one k)) ∙ sym (drop-drop 1 k text) ∙ ap (drop 1) e;
}

-- what stands behind its first bytes
behind : (text : List ℕ) (k : ℕ) (front rest : List ℕ) → drop k text ≡ front ++ rest → drop (k + length front) text ≡ rest
behind text k front rest e = sym (drop-drop (length front) k text) ∙ ap (drop (length front)) e ∙ drop_at front rest (length front) refl

-- ---- words and gaps

word-size : (w rest : List ℕ) → list_all is_letter w ≡ true → prefix_len is_letter rest ≡ 0 → prefix_len is_letter (w ++ rest) ≡ length w
word-size [] rest all none = none
word-size (b ∷ w) rest all none =
    let p = and_parts (is_letter b) (list_all is_letter w) all in
    let more : prefix_len is_letter (w ++ rest) ≡ length w = word-size w rest p.1 none in
    ap (λ v. cond v (1 + prefix_len is_letter (w ++ rest)) 0) p.0 ∙ omega (arith, more)

no-word : (ps : List Piece) → BeginsWithNoWord ps → AreParted ps → prefix_len is_letter (pieces_text ps) ≡ 0
no-word [] h a = refl
no-word (opening ∷ ps) h a = refl
no-word (closing ∷ ps) h a = refl
no-word (letters w ∷ ps) h a = absurd h
no-word (gap [] ∷ ps) h a = absurd (let low : 0 < 0 = a.0.0 in omega arith)
no-word (gap (b ∷ g) ∷ ps) h a =
    let p = and_parts (is_blank b) (list_all is_blank g) a.0.1 in
    ap (λ v. cond v (1 + prefix_len is_letter (g ++ pieces_text ps)) 0) (blank_is b p.0).no_letter

-- what holds before a gap holds behind it, if each blank keeps it
over-gap : (P : ℕ → Type 0) (text : List ℕ) → ((i : ℕ) → P i → i < length text → is_blank (slice_index text i) ≡ true → P (suc i))
    → (k : ℕ) (g rest : List ℕ) → list_all is_blank g ≡ true → drop k text ≡ g ++ rest → P k → P (k + length g)
over-gap P text step k [] rest all e s = subst P (sym (add-zero k)) s
over-gap P text step k (b ∷ g) rest all e s =
    let p = and_parts (is_blank b) (list_all is_blank g) all in
    let h : Head text k b (g ++ rest) = head text k b (g ++ rest) e in
    let on : suc k + length g ≡ k + suc (length g) = omega arith in
    subst P on (over-gap P text step (suc k) g rest p.1 h.next (step k s h.low (ap is_blank h.byte ∙ p.0)))

-- a word at the front of what is left
record WordHere (text : List ℕ) (k : ℕ) (w : List ℕ) : Type 0 where
  low : k < length text
  letter : is_letter (slice_index text k) ≡ true
  size : prefix_len is_letter (drop k text) ≡ length w
  bytes : take_while is_letter (drop k text) ≡ w

word-here : (text : List ℕ) (k : ℕ) (w rest : List ℕ) → 0 < length w → list_all is_letter w ≡ true → prefix_len is_letter rest ≡ 0 → drop k text ≡ w ++ rest → WordHere text k w
word-here text k [] rest some all none e = absurd (omega arith)
word-here text k (b ∷ w) rest some all none e =
    let p = and_parts (is_letter b) (list_all is_letter w) all in
    let h : Head text k b (w ++ rest) = head text k b (w ++ rest) e in
    let size : prefix_len is_letter (drop k text) ≡ length (b ∷ w) = ap (prefix_len is_letter) e ∙ word-size (b ∷ w) rest all none in
    record {
      low = h.low;
      letter = ap is_letter h.byte ∙ p.0;
      size = size;
      bytes = ap (λ n. take n (drop k text)) size ∙ ap (take (length (b ∷ w))) e ∙ take_at (b ∷ w) rest (length (b ∷ w)) refl;
    }

-- what holds behind the letters that stand there holds behind the word
over-word : (P : ℕ → List ℕ → Type 0) (text : List ℕ) (k : ℕ) (w : List ℕ) → WordHere text k w → P (k + prefix_len is_letter (drop k text)) (take_while is_letter (drop k text)) → P (k + length w) w
over-word P text k w h s =
    let Q : ℕ → Type 0 = λ n. P (k + n) w in
    let R : List ℕ → Type 0 = λ v. P (k + prefix_len is_letter (drop k text)) v in
    subst Q h.size (subst R h.bytes s)

-- ---- all pieces

regroup : {text : List ℕ} {n d : ℕ} (held : List Token) (t : Token) (more : List Token) → IsScanned text n d ((held ++ t ∷ []) ++ more) → IsScanned text n d (held ++ t ∷ more)
regroup {text} {n} {d} held t more s = let P : List Token → Type 0 = λ ts. IsScanned text n d ts in subst P (append_assoc held (t ∷ []) more) s

walk : (text : List ℕ) (k d : ℕ) (held : List Token) (ps : List Piece) → AreParted ps → StaysWithin d ps → drop k text ≡ pieces_text ps → IsScanned text k d held → IsScanned text (length text) 0 (held ++ piece_tokens k ps)
walk text k d held [] a w e s =
    let n : length (drop k text) ≡ 0 = ap length e in
    let on : k ≡ length text = omega (arith, n, length-drop k text, s.low) in
    let P : ℕ → Type 0 = λ i. IsScanned text i 0 (held ++ []) in
    let Q : ℕ → Type 0 = λ i. IsScanned text k i (held ++ []) in
    let R : List Token → Type 0 = λ ts. IsScanned text k d ts in
    subst P on (subst Q w (subst R (sym (append-nil held)) s))
walk text k d held (opening ∷ ps) a w e s =
    let h : Head text k 40 (pieces_text ps) = head text k 40 (pieces_text ps) e in
    let one : IsScanned text (suc k) (d + 1) (held ++ left k ∷ []) = step-left text k d held s h.low h.byte w.0 in
    let P : ℕ → Type 0 = λ i. IsScanned text i (d + 1) (held ++ left k ∷ []) in
    let next : drop (k + 1) text ≡ pieces_text ps = ap (λ i. drop i text) (add-one k) ∙ h.next in
    regroup held (left k) (piece_tokens (k + 1) ps) (walk text (k + 1) (d + 1) (held ++ left k ∷ []) ps a.2 w.1 next (subst P (sym (add-one k)) one))
walk text k d held (closing ∷ ps) a w e s =
    let h : Head text k 41 (pieces_text ps) = head text k 41 (pieces_text ps) e in
    let one : IsScanned text (suc k) (d - 1) (held ++ right ∷ []) = step-right text k d held s h.low h.byte w.0 in
    let P : ℕ → Type 0 = λ i. IsScanned text i (d - 1) (held ++ right ∷ []) in
    let next : drop (k + 1) text ≡ pieces_text ps = ap (λ i. drop i text) (add-one k) ∙ h.next in
    regroup held right (piece_tokens (k + 1) ps) (walk text (k + 1) (d - 1) (held ++ right ∷ []) ps a.2 w.1 next (subst P (sym (add-one k)) one))
walk text k d held (letters v ∷ ps) a w e s =
    let h : WordHere text k v = word-here text k v (pieces_text ps) a.0.0 a.0.1 (no-word ps a.1 a.2) e in
    let one : IsScanned text (k + length v) d (held ++ word k v ∷ []) = over-word (λ n u. IsScanned text n d (held ++ word k u ∷ [])) text k v h (scanned-word text k d held s h.low h.letter) in
    regroup held (word k v) (piece_tokens (k + length v) ps) (walk text (k + length v) d (held ++ word k v ∷ []) ps a.2 w (behind text k v (pieces_text ps) e) one)
walk text k d held (gap g ∷ ps) a w e s =
    walk text (k + length g) d held ps a.2 w (behind text k g (pieces_text ps) e)
    (over-gap (λ n. IsScanned text n d held) text (λ i h low b. step-blank text i d held h low b) k g (pieces_text ps) a.0.1 e s)

-- the same for the tokens alone

shows-then : {text : List ℕ} {n : ℕ} (held : List Token) (t : Token) (more : List Token) → Shows text n ((held ++ t ∷ []) ++ more) → Shows text n (held ++ t ∷ more)
shows-then {text} {n} held t more s = let P : List Token → Type 0 = λ ts. Shows text n ts in subst P (append_assoc held (t ∷ []) more) s

shows-all : (text : List ℕ) (k : ℕ) (held : List Token) (ps : List Piece) → AreParted ps → drop k text ≡ pieces_text ps → Shows text k held → Shows text (length text) (held ++ piece_tokens k ps)
shows-all text k held [] a e s =
    let n : length (drop k text) ≡ 0 = ap length e in
    let on : k ≡ length text = omega (arith, n, length-drop k text, s.low) in
    let P : ℕ → Type 0 = λ i. Shows text i (held ++ []) in
    let R : List Token → Type 0 = λ ts. Shows text k ts in
    subst P on (subst R (sym (append-nil held)) s)
shows-all text k held (opening ∷ ps) a e s =
    let h : Head text k 40 (pieces_text ps) = head text k 40 (pieces_text ps) e in
    let P : ℕ → Type 0 = λ i. Shows text i (held ++ left k ∷ []) in
    let next : drop (k + 1) text ≡ pieces_text ps = ap (λ i. drop i text) (add-one k) ∙ h.next in
    shows-then held (left k) (piece_tokens (k + 1) ps) (shows-all text (k + 1) (held ++ left k ∷ []) ps a.2 next (subst P (sym (add-one k)) (shows-left text k held s h.low h.byte)))
shows-all text k held (closing ∷ ps) a e s =
    let h : Head text k 41 (pieces_text ps) = head text k 41 (pieces_text ps) e in
    let P : ℕ → Type 0 = λ i. Shows text i (held ++ right ∷ []) in
    let next : drop (k + 1) text ≡ pieces_text ps = ap (λ i. drop i text) (add-one k) ∙ h.next in
    shows-then held right (piece_tokens (k + 1) ps) (shows-all text (k + 1) (held ++ right ∷ []) ps a.2 next (subst P (sym (add-one k)) (shows-right text k held s h.low h.byte)))
shows-all text k held (letters v ∷ ps) a e s =
    let h : WordHere text k v = word-here text k v (pieces_text ps) a.0.0 a.0.1 (no-word ps a.1 a.2) e in
    let one : Shows text (k + length v) (held ++ word k v ∷ []) = over-word (λ n u. Shows text n (held ++ word k u ∷ [])) text k v h (shows-word text k held s h.low h.letter) in
    shows-then held (word k v) (piece_tokens (k + length v) ps) (shows-all text (k + length v) (held ++ word k v ∷ []) ps a.2 (behind text k v (pieces_text ps) e) one)
shows-all text k held (gap g ∷ ps) a e s =
    shows-all text (k + length g) held ps a.2 (behind text k g (pieces_text ps) e)
    (over-gap (λ n. Shows text n held) text (λ i h low b. shows-blank text i held h low b) k g (pieces_text ps) a.0.1 e s)

-- ---- the theorems

pub pieces-tokens : (ps : List Piece) → AreParted ps → tokens (pieces_text ps) ≡ piece_tokens 0 ps
unfolding tokens
pieces-tokens ps a = (shows-all (pieces_text ps) 0 [] ps a refl (shows-start (pieces_text ps))).known

pub pieces-sound : (ps : List Piece) → AreParted ps → StaysWithin 0 ps → length (pieces_text ps) ≤ longest_text → scan_fault (pieces_text ps) ≡ None
pieces-sound ps a w short =
    no-fault (pieces_text ps) 0 (piece_tokens 0 ps) (walk (pieces_text ps) 0 0 [] ps a w refl (scanned-start (pieces_text ps))) short refl
