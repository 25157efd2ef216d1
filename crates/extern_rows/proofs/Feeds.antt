-- What bytes do to a feed.
use Rattle.std.proofs.Common.{◌≡◌, ℕ, suc, ◌+◌, ◌-◌, ◌<◌, ◌≤◌, Bool, true, false, not, cond, nat_lt, min, List, [], ◌∷◌, ◌++◌, length, take, ◌==◌, Some, None, refl, ap, sym, ◌∙◌, arith, append_assoc, append-nil, length-append, take_all}
use Rattle.std.proofs.lemmas.Bool.Decides.{nat_tests}
use Rattle.std.proofs.lemmas.List.Sums.{prefix_len-le-length}
use Rattle.std.specs.List.{position, position_or_len}
use Rattle.std.specs.Option.{unwrap_or}
use Rattle.extern_rows.specs.Lines.{is_break, first_line, longest_line, last_line}
use Rattle.extern_rows.specs.Feeding.{Feeding, fed_byte, fed}
use Rattle.extern_rows.specs.declared.fault.RowFault.{RowFault}
use Rattle.extern_rows.specs.declared.fault.RowFault.TheVariants.{LineTooLong, TooManyLines}

-- ---- the first line feed

pub unwrap_or-position : (p : ℕ → Bool) (x : List ℕ) → unwrap_or (position p x) (length x) ≡ position_or_len p x
unwrap_or-position p x = at (nat_lt (position_or_len p x) (length x)) refl where
  at : (v : Bool) → nat_lt (position_or_len p x) (length x) ≡ v → unwrap_or (cond v (Some (position_or_len p x)) None) (length x) ≡ position_or_len p x
  at true e = refl
  at false e = grind (arith, nat_tests, prefix_len-le-length (λ b. not (p b)) x)

-- what stands before it
abbrev pub text_of : List ℕ → List ℕ
text_of x = take (position_or_len is_break x) x

pub break_text : (b : ℕ) (x : List ℕ) → is_break b ≡ true → text_of (b ∷ x) ≡ []
break_text b x e = rw e refl

pub other_text : (b : ℕ) (x : List ℕ) → is_break b ≡ false → text_of (b ∷ x) ≡ b ∷ text_of x
other_text b x e = let s : 1 + position_or_len is_break x ≡ suc (position_or_len is_break x) = omega arith in rw (e, s) refl

pub break_line : (b : ℕ) (x : List ℕ) → is_break b ≡ true → first_line (b ∷ x) ≡ b ∷ []
break_line b x e = rw e refl

pub other_line : (b : ℕ) (x : List ℕ) → is_break b ≡ false → first_line (b ∷ x) ≡ b ∷ first_line x
other_line b x e = let s : 1 + position_or_len is_break x + 1 ≡ suc (position_or_len is_break x + 1) = omega arith in rw (e, s) refl

some_line : (b : ℕ) (x : List ℕ) → first_line (b ∷ x) ≡ b ∷ take (position_or_len is_break (b ∷ x)) x
some_line b x = let s : position_or_len is_break (b ∷ x) + 1 ≡ suc (position_or_len is_break (b ∷ x)) = omega arith in rw s refl

-- ---- a refusal stays

pub kept : (f : Feeding) (e : RowFault) (x : List ℕ) → f.refusal ≡ Some e → fed f x ≡ f
kept f e [] h = refl
kept f e (b ∷ x) h = let one : fed_byte f b ≡ f = rw h refl in ap (λ g. fed g x) one ∙ kept f e x h

-- a line of this number so far
abbrev pub at_line : List ℕ → ℕ → Feeding
at_line l n = record { line = l; number = n; whole = false; refusal = None }

-- ---- one byte

pub past_count : (l : List ℕ) (n b : ℕ) → last_line < n → fed_byte (at_line l n) b ≡ record (at_line l n) { refusal = Some TooManyLines }
past_count l n b past = let t : nat_lt last_line n ≡ true = grind (arith, nat_tests) in rw t refl

pub break_byte : (l : List ℕ) (n b : ℕ) → n ≤ last_line → is_break b ≡ true → fed_byte (at_line l n) b ≡ record (at_line l n) { whole = true }
break_byte l n b low e = let t : nat_lt last_line n ≡ false = grind (arith, nat_tests) in rw (t, e) refl

pub other_byte : (l : List ℕ) (n b : ℕ) → n ≤ last_line → is_break b ≡ false → length l < longest_line → fed_byte (at_line l n) b ≡ at_line (l ++ b ∷ []) n
other_byte l n b low e short =
    let t : nat_lt last_line n ≡ false = grind (arith, nat_tests) in
    let r : nat_lt (length l) longest_line ≡ true = grind (arith, nat_tests) in rw (t, e, r) refl

pub past_length : (l : List ℕ) (n b : ℕ) → n ≤ last_line → is_break b ≡ false → longest_line ≤ length l → fed_byte (at_line l n) b ≡ record (at_line l n) { refusal = Some LineTooLong }
past_length l n b low e long =
    let t : nat_lt last_line n ≡ false = grind (arith, nat_tests) in
    let r : nat_lt (length l) longest_line ≡ false = grind (arith, nat_tests) in rw (t, e, r) refl

-- ---- the bytes up to a line feed

pub one_too_many : (l : List ℕ) (n : ℕ) (x : List ℕ) → last_line < n → 0 < length x → fed (at_line l n) (first_line x) ≡ record (at_line l n) { refusal = Some TooManyLines }
one_too_many l n [] past some = absurd (omega arith)
one_too_many l n (b ∷ x) past some =
    let rest : List ℕ = take (position_or_len is_break (b ∷ x)) x in
    ap (fed (at_line l n)) (some_line b x) ∙ ap (λ g. fed g rest) (past_count l n b past)
    ∙ kept (record (at_line l n) { refusal = Some TooManyLines }) TooManyLines rest refl

less_suc : (a b : ℕ) → nat_lt (suc a) (suc b) ≡ nat_lt a b
less_suc a b = at (nat_lt a b) refl where
  at : (v : Bool) → nat_lt a b ≡ v → nat_lt (suc a) (suc b) ≡ v
  at true e = grind (arith, nat_tests)
  at false e = grind (arith, nat_tests)

-- There is room for all of it.
pub in_room : (l : List ℕ) (n : ℕ) (x : List ℕ) → n ≤ last_line → length l + length (text_of x) ≤ longest_line
    → fed (at_line l n) (first_line x) ≡ record (at_line (l ++ text_of x) n) { whole = nat_lt (length (text_of x)) (length x) }
in_room l n [] low room = ap (λ k. at_line k n) (sym (append-nil l))
in_room l n (b ∷ x) low room = at (λ left. in_room (l ++ b ∷ []) n x low left) (is_break b) refl where
  at : (length (l ++ b ∷ []) + length (text_of x) ≤ longest_line → fed (at_line (l ++ b ∷ []) n) (first_line x) ≡ record (at_line ((l ++ b ∷ []) ++ text_of x) n) { whole = nat_lt (length (text_of x)) (length x) })
      → (v : Bool) → is_break b ≡ v → fed (at_line l n) (first_line (b ∷ x)) ≡ record (at_line (l ++ text_of (b ∷ x)) n) { whole = nat_lt (length (text_of (b ∷ x))) (length (b ∷ x)) }
  at more true e = let z : nat_lt 0 (suc (length x)) ≡ true = grind (arith, nat_tests) in rw (break_line b x e, break_text b x e, append-nil l, z) (break_byte l n b low e)
  at more false e =
      let len : length (text_of (b ∷ x)) ≡ suc (length (text_of x)) = ap length (other_text b x e) in
      let short : length l < longest_line = omega (arith, len) in
      let left : length (l ++ b ∷ []) + length (text_of x) ≤ longest_line = omega (arith, len, length-append l (b ∷ [])) in
      ap (fed (at_line l n)) (other_line b x e) ∙ ap (λ g. fed g (first_line x)) (other_byte l n b low e short)
      ∙ more left
      ∙ rw (other_text b x e, less_suc (length (text_of x)) (length x), append_assoc l (b ∷ []) (text_of x)) refl

-- what a line that is too long leaves
abbrev pub too_long : List ℕ → ℕ → List ℕ → Feeding
too_long l n x = record (at_line (l ++ take (longest_line - length l) (text_of x)) n) { refusal = Some LineTooLong }

-- There is none for one of its bytes.
pub past_room : (l : List ℕ) (n : ℕ) (x : List ℕ) → n ≤ last_line → length l ≤ longest_line → longest_line < length l + length (text_of x)
    → fed (at_line l n) (first_line x) ≡ too_long l n x
past_room l n [] low room over = absurd (omega arith)
past_room l n (b ∷ x) low room over = at (past_room (l ++ b ∷ []) n x low) (is_break b) refl where
  full : is_break b ≡ false → longest_line ≤ length l → fed (at_line l n) (first_line (b ∷ x)) ≡ too_long l n (b ∷ x)
  full e long =
      let none : longest_line - length l ≡ 0 = omega arith in
      ap (fed (at_line l n)) (other_line b x e) ∙ ap (λ g. fed g (first_line x)) (past_length l n b low e long)
      ∙ kept (record (at_line l n) { refusal = Some LineTooLong }) LineTooLong (first_line x) refl
      ∙ rw (none, append-nil l) refl

  grows : (length (l ++ b ∷ []) ≤ longest_line → longest_line < length (l ++ b ∷ []) + length (text_of x) → fed (at_line (l ++ b ∷ []) n) (first_line x) ≡ too_long (l ++ b ∷ []) n x)
      → is_break b ≡ false → length l < longest_line → fed (at_line l n) (first_line (b ∷ x)) ≡ too_long l n (b ∷ x)
  grows more e short =
      let len : length (text_of (b ∷ x)) ≡ suc (length (text_of x)) = ap length (other_text b x e) in
      let one : length (l ++ b ∷ []) ≡ length l + 1 = length-append l (b ∷ []) in
      let left : longest_line - length l ≡ suc (longest_line - length (l ++ b ∷ [])) = omega (arith, one) in
      ap (fed (at_line l n)) (other_line b x e) ∙ ap (λ g. fed g (first_line x)) (other_byte l n b low e short)
      ∙ more (omega (arith, one)) (omega (arith, one, len))
      ∙ rw (other_text b x e, left, append_assoc l (b ∷ []) (take (longest_line - length (l ++ b ∷ [])) (text_of x))) refl

  room_for : (length (l ++ b ∷ []) ≤ longest_line → longest_line < length (l ++ b ∷ []) + length (text_of x) → fed (at_line (l ++ b ∷ []) n) (first_line x) ≡ too_long (l ++ b ∷ []) n x)
      → (w : Bool) → nat_lt (length l) longest_line ≡ w → is_break b ≡ false → fed (at_line l n) (first_line (b ∷ x)) ≡ too_long l n (b ∷ x)
  room_for more true r e = grows more e (grind (arith, nat_tests))
  room_for more false r e = full e (grind (arith, nat_tests))

  at : (length (l ++ b ∷ []) ≤ longest_line → longest_line < length (l ++ b ∷ []) + length (text_of x) → fed (at_line (l ++ b ∷ []) n) (first_line x) ≡ too_long (l ++ b ∷ []) n x)
      → (v : Bool) → is_break b ≡ v → fed (at_line l n) (first_line (b ∷ x)) ≡ too_long l n (b ∷ x)
  at more true e = let none : length (text_of (b ∷ x)) ≡ 0 = ap length (break_text b x e) in absurd (omega (arith, none))
  at more false e = room_for more (nat_lt (length l) longest_line) refl e

-- ---- the same, as a push has it

pub is_at : (f : Feeding) → f.whole ≡ false → f.refusal ≡ None → f ≡ at_line f.line f.number
is_at f w r =
    ap (λ v. let g : Feeding = record { line = f.line; number = f.number; whole = v; refusal = f.refusal } in g) w
    ∙ ap (λ o. let g : Feeding = record { line = f.line; number = f.number; whole = false; refusal = o } in g) r

pub push_past_count : (f : Feeding) (x : List ℕ) → f.whole ≡ false → f.refusal ≡ None → last_line < f.number → 0 < length x → record f { refusal = Some TooManyLines } ≡ fed f (first_line x)
push_past_count f x w r past some = sym (ap (λ g. fed g (first_line x)) (is_at f w r) ∙ one_too_many f.line f.number x past some ∙ ap (λ v. let g : Feeding = record { line = f.line; number = f.number; whole = v; refusal = Some TooManyLines } in g) (sym w))

-- the bytes that were put, and what then stands
pub push_past_length : (f : Feeding) (x line : List ℕ) (count : ℕ) → f.whole ≡ false → f.refusal ≡ None → f.number ≤ last_line → length f.line ≤ longest_line
    → count ≡ min (longest_line - length f.line) (length (text_of x)) → count < length (text_of x) → line ≡ f.line ++ take count (text_of x)
    → record f { line = line; refusal = Some LineTooLong } ≡ fed f (first_line x)
push_past_length f x line count w r low room is cut put =
    let all : count ≡ longest_line - length f.line = omega arith in
    let over : longest_line < length f.line + length (text_of x) = omega arith in
    sym (ap (λ g. fed g (first_line x)) (is_at f w r) ∙ past_room f.line f.number x low room over
    ∙ rw (put, all, w) refl)

pub push_in_room : (f : Feeding) (x line : List ℕ) (count : ℕ) → f.whole ≡ false → f.refusal ≡ None → f.number ≤ last_line → length f.line ≤ longest_line
    → count ≡ min (longest_line - length f.line) (length (text_of x)) → length (text_of x) ≤ count → line ≡ f.line ++ take count (text_of x)
    → record f { line = line; whole = nat_lt count (length x) } ≡ fed f (first_line x)
push_in_room f x line count w r low room is cut put =
    let all : count ≡ length (text_of x) = omega arith in
    let fits : length f.line + length (text_of x) ≤ longest_line = omega arith in
    let whole : take (length (text_of x)) (text_of x) ≡ text_of x = take_all (length (text_of x)) (text_of x) (omega arith) in
    sym (ap (λ g. fed g (first_line x)) (is_at f w r) ∙ in_room f.line f.number x low fits
    ∙ rw (put, all, whole, r) refl)

pub some_bytes : (x : List ℕ) → false ≡ (length x == 0) → 0 < length x
some_bytes [] h = absurd (cc)
some_bytes (b ∷ x) h = omega arith
