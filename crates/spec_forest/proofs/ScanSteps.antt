-- A scan between two items of a text: what it has seen, and what each item adds.
use Rattle.std.proofs.Common.{◌≡◌, ℕ, zero, suc, ◌+◌, ◌-◌, ◌<◌, ◌≤◌, Bool, true, false, not, List, [], ◌∷◌, ◌++◌, length, drop, Some, None, ◌⊎◌, inl, inr, min, refl, ap, sym, ◌∙◌, subst, arith, add-zero, add-suc, length-drop, get_or-drop}
use Rattle.std.specs.Prelude.{◌||◌, ◌==◌, slice_index, if◌then◌else◌}
use Rattle.std.specs.List.{take_while, prefix_len, position_or_len}
use Rattle.std.proofs.lemmas.Bool.{cases_lt}
use Rattle.std.proofs.lemmas.Bool.Decides.{nat_tests}
use Rattle.std.proofs.lemmas.List.{get_or_past}
use Rattle.std.proofs.lemmas.List.Sums.{prefix_len-drop_yes, prefix_len-le-length, prefix_len_passes, prefix_len_stops, fails_before_first, passes_at_first}
use Rattle.spec_forest.specs.Scan.{unbalanced, too_deep, is_break, is_blank, is_mark, deepest, count_below, commented, opens, closes, depth, fault_at}
use Rattle.spec_forest.specs.Tokens.{Token, left, right, word, is_letter, tokens_before}
use Rattle.spec_forest.specs.Scanning.{Boundary, IsScanned}
use Rattle.spec_forest.proofs.Comments.{commented-zero, commented-suc}
use Rattle.spec_forest.proofs.ByteFacts.{letter_is, BlankIs, blank_is}
use Rattle.spec_forest.proofs.Shown.{Seen, seen, Adds, nothing, commented_adds, blank_adds, inner_adds, word_adds, left_adds, right_adds, boundary-next, boundary-line, boundary-end, stays}
use Rattle.std.proofs.Math.Bool.{or-false}

pub scanned-start : (text : List ℕ) → IsScanned text 0 0 []
scanned-start text = record {
  low = omega arith;
  boundary = record { clear = λ _. commented-zero text; fresh = λ _. refl };
  sound = refl;
  known = refl;
  level = refl;
}

pub depth-here : (text : List ℕ) (k d : ℕ) → count_below k (opens text) ≡ count_below k (closes text) + d → depth text k ≡ d
unfolding depth
depth-here text k d e = omega (arith, e)

-- ---- one byte

pub step-blank : (text : List ℕ) (k d : ℕ) (held : List Token) → IsScanned text k d held → k < length text → is_blank (slice_index text k) ≡ true → IsScanned text (suc k) d held
step-blank text k d held s low b =
    let is : BlankIs (slice_index text k) = blank_is (slice_index text k) b in
    let c : commented text k ≡ false = s.boundary.clear low ∙ is.no_mark in
    let e : seen text (suc k) ≡ seen text k = nothing text k (blank_adds text k c b) in
    record {
      low = omega (arith, low);
      boundary = boundary-next text k c is.no_letter;
      sound = ap (λ (x : Seen). x.fault) e ∙ s.sound;
      known = ap (λ (x : Seen). x.known) e ∙ s.known;
      level = ap (λ (x : Seen). x.lefts) e ∙ s.level ∙ ap (λ (x : Seen). x.rights + d) (sym e);
    }

pub step-left : (text : List ℕ) (k d : ℕ) (held : List Token) → IsScanned text k d held → k < length text → slice_index text k ≡ 40 → d < deepest → IsScanned text (suc k) (d + 1) (held ++ left k ∷ [])
step-left text k d held s low b shallow =
    let c : commented text k ≡ false = s.boundary.clear low ∙ ap is_mark b in
    let a = left_adds text k c b in
    let deep : (depth text k == deepest) ≡ false = rw (depth-here text k d s.level) (grind (arith, nat_tests)) in
    let f : fault_at text k ≡ None = a.fault ∙ ap (λ x. if x then Some (too_deep k) else None) deep in
    record {
      low = omega (arith, low);
      boundary = boundary-next text k c (ap is_letter b);
      sound = rw (s.sound, f) refl;
      known = rw (s.known, a.begins) refl;
      level = rw (a.lefts, a.rights) (omega (arith, s.level));
    }

pub step-right : (text : List ℕ) (k d : ℕ) (held : List Token) → IsScanned text k d held → k < length text → slice_index text k ≡ 41 → 0 < d → IsScanned text (suc k) (d - 1) (held ++ right ∷ [])
step-right text k d held s low b some =
    let c : commented text k ≡ false = s.boundary.clear low ∙ ap is_mark b in
    let a = right_adds text k c b in
    let deep : (depth text k == 0) ≡ false = rw (depth-here text k d s.level) (grind (arith, nat_tests)) in
    let f : fault_at text k ≡ None = a.fault ∙ ap (λ x. if x then Some (unbalanced k) else None) deep in
    record {
      low = omega (arith, low);
      boundary = boundary-next text k c (ap is_letter b);
      sound = rw (s.sound, f) refl;
      known = rw (s.known, a.begins) refl;
      level = rw (a.lefts, a.rights) (omega (arith, s.level));
    }

-- ---- a comment

-- how many bytes a comment has that begins these, with the line feed that ends it
abbrev pub comment_size : List ℕ → ℕ
comment_size text = min (position_or_len is_break text + 1) (length text)

in-comment : (text : List ℕ) (k n : ℕ) → commented text k ≡ true → ((i : ℕ) → i < n → is_break (slice_index text (k + i)) ≡ false) → commented text (k + n) ≡ true
in-comment text k zero c h = ap (commented text) (add-zero k) ∙ c
in-comment text k (suc n) c h =
    let before : commented text (k + n) ≡ true = in-comment text k n c (λ i l. h i (omega arith)) in
    let b : is_break (slice_index text (k + n)) ≡ false = h n (omega arith) in
    ap (commented text) (add-suc k n) ∙ commented-suc text (k + n) ∙ rw (before, b) (or-true (is_mark (slice_index text (suc (k + n))))) where
      or-true : (x : Bool) → (x || true) ≡ true
      or-true true = refl
      or-true false = refl

-- bytes before the first line feed
before-break : (text : List ℕ) (k i : ℕ) → i < position_or_len is_break (drop k text) → is_break (slice_index text (k + i)) ≡ false
before-break text k i h = ap is_break (sym (get_or-drop k text i 0)) ∙ fails_before_first is_break (drop k text) i 0 h

pub scanned-comment : (text : List ℕ) (k d : ℕ) (held : List Token) → IsScanned text k d held → k < length text → slice_index text k ≡ 59 → IsScanned text (k + comment_size (drop k text)) d held
scanned-comment text k d held s low b = at (cases_lt (position_or_len is_break (drop k text)) (length (drop k text))) where
  c : commented text k ≡ true
  c = s.boundary.clear low ∙ ap is_mark b

  size : length (drop k text) ≡ length text - k
  size = length-drop k text

  shows : (n : ℕ) → n ≤ position_or_len is_break (drop k text) + 1 → seen text (k + n) ≡ seen text k
  shows n small = stays (seen text) k n (λ i h. nothing text (k + i) (commented_adds text (k + i) (in-comment text k i c (λ j l. before-break text k j (omega arith)))))

  there : (n : ℕ) → n ≤ position_or_len is_break (drop k text) + 1 → k + n ≤ length text → Boundary text (k + n) → IsScanned text (k + n) d held
  there n small within boundary =
      let e : seen text (k + n) ≡ seen text k = shows n small in
      record {
        low = within;
        boundary = boundary;
        sound = ap (λ (x : Seen). x.fault) e ∙ s.sound;
        known = ap (λ (x : Seen). x.known) e ∙ s.known;
        level = ap (λ (x : Seen). x.lefts) e ∙ s.level ∙ ap (λ (x : Seen). x.rights + d) (sym e);
      }

  at : (position_or_len is_break (drop k text) < length (drop k text)) ⊎ (length (drop k text) ≤ position_or_len is_break (drop k text)) → IsScanned text (k + comment_size (drop k text)) d held
  at (inl some) =
      let n : ℕ = position_or_len is_break (drop k text) in
      let is : comment_size (drop k text) ≡ suc n = omega arith in
      let feed : is_break (slice_index text (k + n)) ≡ true = ap is_break (sym (get_or-drop k text n 0)) ∙ passes_at_first is_break (drop k text) 0 some in
      let P : ℕ → Type 0 = λ m. IsScanned text (k + m) d held in
      subst P (sym is) (there (suc n) (omega arith) (omega (arith, size)) (rw add-suc (boundary-line text (k + n) feed)))
  at (inr none) =
      let m : ℕ = length (drop k text) in
      let is : comment_size (drop k text) ≡ m = omega arith in
      let P : ℕ → Type 0 = λ m. IsScanned text (k + m) d held in
      let past : length text ≤ k + m = omega (arith, size) in
      subst P (sym is) (there m (omega arith) (omega (arith, size)) (boundary-end text (k + m) past (get_or_past text (k + m) 0 past)))

-- ---- an atom

abbrev pub letters : List ℕ → ℕ
letters text = prefix_len is_letter text

pub some-letters : (text : List ℕ) (k : ℕ) → k < length text → is_letter (slice_index text k) ≡ true → 0 < letters (drop k text)
some-letters text k low b = omega (arith, prefix_len-drop_yes is_letter text k 0 low b)

letter-at : (text : List ℕ) (k i : ℕ) → i < letters (drop k text) → is_letter (slice_index text (k + i)) ≡ true
letter-at text k i h = ap is_letter (sym (get_or-drop k text i 0)) ∙ prefix_len_passes is_letter (drop k text) i 0 h

in-word : (text : List ℕ) (k i : ℕ) → commented text k ≡ false → i < letters (drop k text) → commented text (k + i) ≡ false
in-word text k zero c h = ap (commented text) (add-zero k) ∙ c
in-word text k (suc i) c h =
    let before : commented text (k + i) ≡ false = in-word text k i c (omega arith) in
    let b : is_letter (slice_index text (suc (k + i))) ≡ true = ap (λ j. is_letter (slice_index text j)) (sym (add-suc k i)) ∙ letter-at text k (suc i) h in
    let m : is_mark (slice_index text (suc (k + i))) ≡ false = (letter_is (slice_index text (suc (k + i))) b).no_mark in
    ap (commented text) (add-suc k i) ∙ commented-suc text (k + i) ∙ rw (before, m) refl

-- what an atom shows, and the place behind it
pub record WordShows (text : List ℕ) (k : ℕ) : Type 0 where
  pub adds : Adds text k (word k (take_while is_letter (drop k text)) ∷ []) false false None
  pub low : k + letters (drop k text) ≤ length text
  pub boundary : Boundary text (k + letters (drop k text))
  pub shows : seen text (k + letters (drop k text)) ≡ seen text (suc k)

pub word-shows : (text : List ℕ) (k : ℕ) → Boundary text k → k < length text → is_letter (slice_index text k) ≡ true → WordShows text k
word-shows text k here low b = at (letters (drop k text)) refl where
  c : commented text k ≡ false
  c = here.clear low ∙ (letter_is (slice_index text k) b).no_mark

  size : length (drop k text) ≡ length text - k
  size = length-drop k text

  a : Adds text k (word k (take_while is_letter (drop k text)) ∷ []) false false None
  a = word_adds text k c b (here.fresh b)

  later : (m : ℕ) → letters (drop k text) ≡ suc m → seen text (suc k + m) ≡ seen text (suc k)
  later m e = stays (seen text) (suc k) m (λ i h. nothing text (suc k + i) (inner i h)) where
    inner : (i : ℕ) → i < m → Adds text (suc k + i) [] false false None
    inner i h =
        let on : suc k + i ≡ suc (k + i) = omega arith in
        let P : ℕ → Type 0 = λ j. Adds text j [] false false None in
        let this : is_letter (slice_index text (k + i)) ≡ true = letter-at text k i (omega (arith, e)) in
        let next : is_letter (slice_index text (suc (k + i))) ≡ true = ap (λ j. is_letter (slice_index text j)) (sym (add-suc k i)) ∙ letter-at text k (suc i) (omega (arith, e)) in
        let out : commented text (suc (k + i)) ≡ false = ap (commented text) (sym (add-suc k i)) ∙ in-word text k (suc i) c (omega (arith, e)) in
        subst P (sym on) (inner_adds text (suc (k + i)) out next (ap not this))

  behind : (m : ℕ) → letters (drop k text) ≡ suc m → Boundary text (suc (k + m))
  behind m e = record {
    clear = λ _. let out : commented text (k + m) ≡ false = in-word text k m c (omega (arith, e)) in rw (commented-suc text (k + m), out) (or-false (is_mark (slice_index text (suc (k + m)))));
    fresh = λ h. absurd (ends h (cases_lt (letters (drop k text)) (length (drop k text))));
  } where
    place : suc (k + m) ≡ k + letters (drop k text)
    place = omega (arith, e)

    ends : is_letter (slice_index text (suc (k + m))) ≡ true → (letters (drop k text) < length (drop k text)) ⊎ (length (drop k text) ≤ letters (drop k text)) → ⊥
    ends h (inl some) =
        let stop : is_letter (slice_index text (k + letters (drop k text))) ≡ false = ap is_letter (sym (get_or-drop k text (letters (drop k text)) 0)) ∙ prefix_len_stops is_letter (drop k text) 0 some in
        let this : is_letter (slice_index text (k + letters (drop k text))) ≡ true = ap (λ j. is_letter (slice_index text j)) (sym place) ∙ h in
        let no : false ≡ true = sym stop ∙ this in cc
    ends h (inr none) =
        let past : length text ≤ suc (k + m) = omega (arith, size, e) in
        let no : false ≡ true = ap is_letter (sym (get_or_past text (suc (k + m)) 0 past)) ∙ h in cc

  at : (n : ℕ) → letters (drop k text) ≡ n → WordShows text k
  at zero e = absurd (omega (arith, some-letters text k low b))
  at (suc m) e =
      let on : k + letters (drop k text) ≡ suc k + m = omega (arith, e) in
      let one : suc k + m ≡ suc (k + m) = omega arith in
      let P : ℕ → Type 0 = λ j. Boundary text j in
      record {
        adds = a;
        low = omega (arith, size, prefix_len-le-length is_letter (drop k text));
        boundary = subst P (sym (on ∙ one)) (behind m e);
        shows = ap (seen text) on ∙ later m e;
      }

pub scanned-word : (text : List ℕ) (k d : ℕ) (held : List Token) → IsScanned text k d held → k < length text → is_letter (slice_index text k) ≡ true
    → IsScanned text (k + letters (drop k text)) d (held ++ word k (take_while is_letter (drop k text)) ∷ [])
scanned-word text k d held s low b =
    let w : WordShows text k = word-shows text k s.boundary low b in
    let lefts : count_below (suc k) (opens text) ≡ count_below k (opens text) = rw (w.adds.lefts) (add-zero (count_below k (opens text))) in
    let rights : count_below (suc k) (closes text) ≡ count_below k (closes text) = rw (w.adds.rights) (add-zero (count_below k (closes text))) in
    record {
      low = w.low;
      boundary = w.boundary;
      sound = ap (λ (x : Seen). x.fault) w.shows ∙ rw (s.sound, w.adds.fault) refl;
      known = ap (λ (x : Seen). x.known) w.shows ∙ rw (s.known, w.adds.begins) refl;
      level = ap (λ (x : Seen). x.lefts) w.shows ∙ lefts ∙ s.level ∙ sym (ap (λ (x : Seen). x.rights + d) w.shows ∙ ap (λ n. n + d) rights);
    }

-- ---- the tokens alone, however many lists are open

-- The text before k shows these tokens.
pub record Shows (text : List ℕ) (k : ℕ) (held : List Token) : Type 0 where
  pub low : k ≤ length text
  pub boundary : Boundary text k
  pub known : tokens_before text k ≡ held

pub shows-start : (text : List ℕ) → Shows text 0 []
shows-start text = record { low = omega arith; boundary = record { clear = λ _. commented-zero text; fresh = λ _. refl }; known = refl }

pub shows-blank : (text : List ℕ) (k : ℕ) (held : List Token) → Shows text k held → k < length text → is_blank (slice_index text k) ≡ true → Shows text (suc k) held
shows-blank text k held s low b =
    let is : BlankIs (slice_index text k) = blank_is (slice_index text k) b in
    let c : commented text k ≡ false = s.boundary.clear low ∙ is.no_mark in
    record { low = omega (arith, low); boundary = boundary-next text k c is.no_letter; known = ap (λ (x : Seen). x.known) (nothing text k (blank_adds text k c b)) ∙ s.known }

pub shows-left : (text : List ℕ) (k : ℕ) (held : List Token) → Shows text k held → k < length text → slice_index text k ≡ 40 → Shows text (suc k) (held ++ left k ∷ [])
shows-left text k held s low b =
    let c : commented text k ≡ false = s.boundary.clear low ∙ ap is_mark b in
    let a = left_adds text k c b in
    record { low = omega (arith, low); boundary = boundary-next text k c (ap is_letter b); known = rw (s.known, a.begins) refl }

pub shows-right : (text : List ℕ) (k : ℕ) (held : List Token) → Shows text k held → k < length text → slice_index text k ≡ 41 → Shows text (suc k) (held ++ right ∷ [])
shows-right text k held s low b =
    let c : commented text k ≡ false = s.boundary.clear low ∙ ap is_mark b in
    let a = right_adds text k c b in
    record { low = omega (arith, low); boundary = boundary-next text k c (ap is_letter b); known = rw (s.known, a.begins) refl }

pub shows-word : (text : List ℕ) (k : ℕ) (held : List Token) → Shows text k held → k < length text → is_letter (slice_index text k) ≡ true
    → Shows text (k + letters (drop k text)) (held ++ word k (take_while is_letter (drop k text)) ∷ [])
shows-word text k held s low b =
    let w : WordShows text k = word-shows text k s.boundary low b in
    record { low = w.low; boundary = w.boundary; known = ap (λ (x : Seen). x.known) w.shows ∙ rw (s.known, w.adds.begins) refl }
