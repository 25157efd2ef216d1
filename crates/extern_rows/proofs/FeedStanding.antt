-- A feed stands after the text that was pushed.
use Rattle.std.proofs.Common.{◌≡◌, ℕ, suc, ◌+◌, ◌-◌, ◌<◌, ◌≤◌, ◌⊎◌, inl, inr, Bool, true, false, nat_lt, List, [], ◌∷◌, ◌++◌, length, get_or, Some, None, All, refl, ap, sym, ◌∙◌, arith, append_assoc, append-nil, length-append}
use Rattle.std.specs.Prelude.{if◌then◌else◌, slice_index}
use Rattle.std.proofs.lemmas.Bool.Decides.{nat_tests}
use Rattle.std.proofs.Math.Seq.{get_or-append_right}
use Rattle.std.proofs.lemmas.List.Elements.{All-head, All-tail, All-push}
use Rattle.std.proofs.lemmas.List.Splits.{slice_split_none, slice_split_at, slice_split-cons_yes, slice_split-cons_no}
use Rattle.sm_io.specs.Memory.{next}
use Rattle.extern_rows.specs.declared.fault.RowFault.TheVariants.{LineTooLong, TooManyLines}
use Rattle.extern_rows.specs.Lines.{is_break, parts, longest_line, last_line, limit_fault}
use Rattle.extern_rows.specs.Feeding.{Feeding, next_line, fed_byte, fed}
use Rattle.extern_rows.specs.FeedStanding.{part_limit, or_later, first_limit, StandsAfter, StandsInTexts, CutsAnywhere, MovesOn}
use Rattle.extern_rows.proofs.Feeds.{at_line, kept, past_count, break_byte, other_byte, past_length}

abbrev NoBreak : List ℕ → Type 0
NoBreak l = All (λ b. is_break b ≡ false) l

-- ---- parts

pub some_parts : (x : List ℕ) → (q : List ℕ) × (qs : List (List ℕ)) × (parts x ≡ q ∷ qs)
some_parts [] = ([], [], refl)
some_parts (b ∷ x) = at (is_break b) refl (some_parts x) where
  at : (v : Bool) → is_break b ≡ v → (q : List ℕ) × (qs : List (List ℕ)) × (parts x ≡ q ∷ qs) → (q : List ℕ) × (qs : List (List ℕ)) × (parts (b ∷ x) ≡ q ∷ qs)
  at true e more = ([], parts x, slice_split-cons_yes is_break b x e)
  at false e more = (b ∷ more.0, more.1, rw (slice_split-cons_no is_break b x e, more.2) refl)

-- a line so far, and a byte more of it
line_parts : (l : List ℕ) (b : ℕ) (x : List ℕ) → NoBreak l → is_break b ≡ false → (q : List ℕ) × (qs : List (List ℕ)) × (parts (l ++ b ∷ x) ≡ (l ++ b ∷ q) ∷ qs)
line_parts [] b x clean e = let p = some_parts x in (p.0, p.1, rw (slice_split-cons_no is_break b x e, p.2) refl)
line_parts (a ∷ l) b x clean e =
    let p = line_parts l b x (All-tail (λ c. is_break c ≡ false) a l clean) e in
    (p.0, p.1, rw (slice_split-cons_no is_break a (l ++ b ∷ x) (All-head (λ c. is_break c ≡ false) a l clean), p.2) refl)

-- ---- limits

within : (n : ℕ) (l : List ℕ) → n ≤ last_line → length l ≤ longest_line → limit_fault n l ≡ None
within n l low short =
    let a : nat_lt last_line n ≡ false = grind (arith, nat_tests) in
    let b : nat_lt longest_line (length l) ≡ false = grind (arith, nat_tests) in rw (a, b) refl

part_within : (n : ℕ) (l : List ℕ) (more : List (List ℕ)) → n ≤ last_line → length l ≤ longest_line → part_limit n l more ≡ None
part_within n l more low short = at (nat_lt 0 (length l + length more)) where
  at : (v : Bool) → (if v then limit_fault n l else None) ≡ None
  at true = within n l low short
  at false = refl

part_past_count : (n : ℕ) (q : List ℕ) (qs : List (List ℕ)) → last_line < n → 0 < length q + length qs → part_limit n q qs ≡ Some TooManyLines
part_past_count n q qs past some =
    let a : nat_lt 0 (length q + length qs) ≡ true = grind (arith, nat_tests) in
    let b : nat_lt last_line n ≡ true = grind (arith, nat_tests) in rw (a, b) refl

part_past_length : (n : ℕ) (q : List ℕ) (qs : List (List ℕ)) → n ≤ last_line → longest_line < length q → part_limit n q qs ≡ Some LineTooLong
part_past_length n q qs low past =
    let a : nat_lt 0 (length q + length qs) ≡ true = grind (arith, nat_tests) in
    let b : nat_lt last_line n ≡ false = grind (arith, nat_tests) in
    let d : nat_lt longest_line (length q) ≡ true = grind (arith, nat_tests) in rw (a, b, d) refl

-- ---- the last byte

last_no_break : (l : List ℕ) → NoBreak l → false ≡ is_break (slice_index l (length l - 1))
last_no_break [] clean = refl
last_no_break (b ∷ l) clean = sym (clean (length (b ∷ l) - 1) 0 (omega arith))

last_after : (l : List ℕ) (c : ℕ) (y : List ℕ) → slice_index (l ++ c ∷ y) (length (l ++ c ∷ y) - 1) ≡ slice_index (c ∷ y) (length (c ∷ y) - 1)
last_after l c y =
    let len : length (l ++ c ∷ y) ≡ length l + suc (length y) = length-append l (c ∷ y) in
    let at : length l ≤ length (l ++ c ∷ y) - 1 = omega (arith, len) in
    let i : (length (l ++ c ∷ y) - 1) - length l ≡ length (c ∷ y) - 1 = omega (arith, len) in
    get_or-append_right l (c ∷ y) (length (l ++ c ∷ y) - 1) 0 at ∙ ap (λ k. get_or (c ∷ y) k 0) i

-- ---- one byte more

-- nothing came behind the line so far
stands_here : (l : List ℕ) (n : ℕ) → NoBreak l → length l ≤ longest_line → (n ≤ last_line) ⊎ (l ≡ []) → StandsAfter n (at_line l n) l
stands_here l n clean short ok = record {
  low = omega arith;
  refused = rw (alone) (sym (ap (λ o. or_later n o None) (none ok)));
  line = λ _. let z : n - n ≡ 0 = omega arith in rw (alone, z) refl;
  count = λ _. rw alone refl;
  whole = λ _. last_no_break l clean;
} where
  alone : parts l ≡ l ∷ []
  alone = slice_split_none is_break l clean

  none : (n ≤ last_line) ⊎ (l ≡ []) → part_limit n l [] ≡ None
  none (inl low) = part_within n l [] low short
  none (inr empty) = rw empty refl

stands_past_count : (n b : ℕ) (x : List ℕ) → last_line < n → StandsAfter n (record (at_line [] n) { refusal = Some TooManyLines }) (b ∷ x)
stands_past_count n b x past = record {
  low = omega arith;
  refused = at (is_break b) refl (some_parts x);
  line = λ h. absurd (cc);
  count = λ h. absurd (cc);
  whole = λ h. absurd (cc);
} where
  at : (v : Bool) → is_break b ≡ v → (q : List ℕ) × (qs : List (List ℕ)) × (parts x ≡ q ∷ qs) → Some (n, TooManyLines) ≡ first_limit n (parts (b ∷ x))
  at true e p = rw (slice_split-cons_yes is_break b x e, p.2, part_past_count n [] (p.0 ∷ p.1) past (omega arith)) refl
  at false e p = rw (slice_split-cons_no is_break b x e, p.2, part_past_count n (b ∷ p.0) p.1 past (omega arith)) refl

stands_past_length : (l : List ℕ) (n b : ℕ) (x : List ℕ) → NoBreak l → n ≤ last_line → longest_line ≤ length l → is_break b ≡ false
    → StandsAfter n (record (at_line l n) { refusal = Some LineTooLong }) (l ++ b ∷ x)
stands_past_length l n b x clean low long e = record {
  low = omega arith;
  refused = at (line_parts l b x clean e);
  line = λ h. absurd (cc);
  count = λ h. absurd (cc);
  whole = λ h. absurd (cc);
} where
  at : (q : List ℕ) × (qs : List (List ℕ)) × (parts (l ++ b ∷ x) ≡ (l ++ b ∷ q) ∷ qs) → Some (n, LineTooLong) ≡ first_limit n (parts (l ++ b ∷ x))
  at p = rw (p.2, part_past_length n (l ++ b ∷ p.0) p.1 low (omega (arith, length-append l (b ∷ p.0)))) refl

stands_whole : (l : List ℕ) (n b : ℕ) → NoBreak l → n ≤ last_line → length l ≤ longest_line → is_break b ≡ true
    → StandsAfter n (record (at_line l n) { whole = true }) (l ++ b ∷ [])
stands_whole l n b clean low short e = record {
  low = omega arith;
  refused = rw (two, part_within n l ([] ∷ []) low short) refl;
  line = λ _. let z : n - n ≡ 0 = omega arith in rw (two, z) refl;
  count = λ _. rw two refl;
  whole = λ _. sym (ap is_break (last_after l b []) ∙ e);
} where
  two : parts (l ++ b ∷ []) ≡ l ∷ [] ∷ []
  two = slice_split_at is_break l b [] clean e

stands_next : (l : List ℕ) (n b : ℕ) (f : Feeding) (c : ℕ) (y : List ℕ) → NoBreak l → n ≤ last_line → length l ≤ longest_line → is_break b ≡ true
    → StandsAfter (n + 1) f (c ∷ y) → StandsAfter n f (l ++ b ∷ c ∷ y)
stands_next l n b f c y clean low short e s = record {
  low = omega (arith, s.low);
  refused = rw (cut, part_within n l (parts (c ∷ y)) low short) s.refused;
  line = λ h. let i : f.number - n ≡ suc (f.number - (n + 1)) = omega (arith, s.low) in rw (cut, i) (s.line h);
  count = λ h. let k = s.count h in rw cut (omega (arith, k));
  whole = λ h. s.whole h ∙ sym (ap is_break (last_after l b (c ∷ y) ∙ last_after (b ∷ []) c y));
} where
  cut : parts (l ++ b ∷ c ∷ y) ≡ l ∷ parts (c ∷ y)
  cut = slice_split_at is_break l b (c ∷ y) clean e

-- the next line's first byte, where a whole line stands
next_byte : (l : List ℕ) (n c : ℕ) → n ≤ last_line → fed_byte (record (at_line l n) { whole = true }) c ≡ fed_byte (at_line [] (n + 1)) c
next_byte l n c low = let e : next n ≡ n + 1 = omega arith in rw e refl

-- what holds of a text's tail, whatever line stands before it
abbrev Stands : List ℕ → Type 0
Stands x = (l : List ℕ) (n : ℕ) → NoBreak l → length l ≤ longest_line → (n ≤ last_line) ⊎ (l ≡ []) → StandsAfter n (fed (at_line l n) x) (l ++ x)

after_break : (b : ℕ) (x l : List ℕ) (n : ℕ) → Stands x → NoBreak l → length l ≤ longest_line → n ≤ last_line → is_break b ≡ true → StandsAfter n (fed (at_line l n) (b ∷ x)) (l ++ b ∷ x)
after_break b [] l n more clean short low e = rw (break_byte l n b low e) (stands_whole l n b clean low short e)
after_break b (c ∷ y) l n more clean short low e =
    rw (break_byte l n b low e, next_byte l n c low)
    (stands_next l n b (fed (at_line [] (n + 1)) (c ∷ y)) c y clean low short e (more [] (n + 1) (λ k d h. absurd (omega arith)) (omega arith) (inr refl)))

after_other : (b : ℕ) (x l : List ℕ) (n : ℕ) → Stands x → NoBreak l → length l ≤ longest_line → n ≤ last_line → is_break b ≡ false → StandsAfter n (fed (at_line l n) (b ∷ x)) (l ++ b ∷ x)
after_other b x l n more clean short low e = at (nat_lt (length l) longest_line) refl where
  at : (v : Bool) → nat_lt (length l) longest_line ≡ v → StandsAfter n (fed (at_line l n) (b ∷ x)) (l ++ b ∷ x)
  at true r =
      let room : length l < longest_line = grind (arith, nat_tests) in
      let longer : length (l ++ b ∷ []) ≤ longest_line = omega (arith, length-append l (b ∷ [])) in
      rw (other_byte l n b low e room)
      (rw append_assoc at (more (l ++ b ∷ []) n (All-push (λ c. is_break c ≡ false) l b clean e) longer (inl low)))
  at false r =
      let full : longest_line ≤ length l = grind (arith, nat_tests) in
      rw (past_length l n b low e full, kept (record (at_line l n) { refusal = Some LineTooLong }) LineTooLong x refl) (stands_past_length l n b x clean low full e)

one_byte : (b : ℕ) (x l : List ℕ) (n : ℕ) → Stands x → NoBreak l → length l ≤ longest_line → (n ≤ last_line) ⊎ (l ≡ []) → StandsAfter n (fed (at_line l n) (b ∷ x)) (l ++ b ∷ x)
one_byte b x l n more clean short ok = at (nat_lt last_line n) refl ok where
  low : nat_lt last_line n ≡ false → StandsAfter n (fed (at_line l n) (b ∷ x)) (l ++ b ∷ x)
  low t = here (is_break b) refl where
    fits : n ≤ last_line
    fits = grind (arith, nat_tests)

    here : (v : Bool) → is_break b ≡ v → StandsAfter n (fed (at_line l n) (b ∷ x)) (l ++ b ∷ x)
    here true e = after_break b x l n more clean short fits e
    here false e = after_other b x l n more clean short fits e

  at : (v : Bool) → nat_lt last_line n ≡ v → (n ≤ last_line) ⊎ (l ≡ []) → StandsAfter n (fed (at_line l n) (b ∷ x)) (l ++ b ∷ x)
  at false t o = low t
  at true t (inl k) = absurd (let past : last_line < n = grind (arith, nat_tests) in omega arith)
  at true t (inr empty) =
      let past : last_line < n = grind (arith, nat_tests) in
      rw (empty, past_count [] n b past, kept (record (at_line [] n) { refusal = Some TooManyLines }) TooManyLines x refl) (stands_past_count n b x past)

stands : (x : List ℕ) → Stands x
stands [] = λ l n clean short ok. rw (append-nil l) (stands_here l n clean short ok)
stands (b ∷ x) = λ l n clean short ok. one_byte b x l n (stands x) clean short ok

pub stands_in_texts : StandsInTexts
stands_in_texts text = stands text [] 1 (λ k d h. absurd (omega arith)) (omega arith) (inr refl)

pub cuts_anywhere : CutsAnywhere
cuts_anywhere f [] back = refl
cuts_anywhere f (b ∷ front) back = cuts_anywhere (fed_byte f b) front back

pub moves_on : MovesOn
moves_on f b bytes whole clear = let e : fed_byte (next_line f) b ≡ fed_byte f b = rw (whole, clear) refl in ap (λ g. fed g bytes) e
