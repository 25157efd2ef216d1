-- What a push does to an open line.
use Rattle.std.proofs.Common.{◌≡◌, ◌⊎◌, inl, inr, ℕ, zero, suc, ◌+◌, ◌<◌, ◌≤◌, Bool, true, false, nat_lt, List, [], ◌∷◌, ◌++◌, length, Some, None, All, refl, ap, sym, ◌∙◌, subst, arith, length-append}
use Rattle.std.specs.Prelude.{if◌then◌else◌}
use Rattle.std.proofs.lemmas.Bool.Decides.{nat_tests}
use Rattle.std.proofs.lemmas.List.Splits.{slice_split-cons_yes, slice_split-cons_no}
use Rattle.extern_rows.specs.declared.fault.RowFault.{RowFault}
use Rattle.extern_rows.specs.declared.fault.RowFault.TheVariants.{LineTooLong, TooManyLines}
use Rattle.extern_rows.specs.Lines.{is_break, parts, first_line, longest_line, last_line, limit_fault}
use Rattle.extern_rows.specs.Feeding.{Feeding, fed}
use Rattle.extern_rows.proofs.Feeds.{at_line, is_at, text_of, break_text, other_text, break_line, other_line, one_too_many, in_room, past_room, too_long}
use Rattle.row_sessions.specs.Standing.{IsOpen}

abbrev pub NoBreak : List ℕ → Type 0
NoBreak l = All (λ b. is_break b ≡ false) l

All-cons : (b : ℕ) (rest : List ℕ) → is_break b ≡ false → NoBreak rest → NoBreak (b ∷ rest)
All-cons b rest e h zero d low = e
All-cons b rest e h (suc k) d low = h k d (omega arith)

pub both_unbroken : (a b : List ℕ) → NoBreak a → NoBreak b → NoBreak (a ++ b)
both_unbroken [] b h k = k
both_unbroken (x ∷ a) b h k = All-cons x (a ++ b) (h 0 x (omega arith)) (both_unbroken a b (λ i d low. h (suc i) d (omega arith)) k)

-- ---- a text up to its first line feed

-- whether it has one
pub record FirstCut (x : List ℕ) (whole : Bool) : Type 0 where
  pub unbroken : NoBreak (text_of x)
  pub line : first_line x ≡ text_of x ++ (if whole then 10 ∷ [] else [])
  pub all : whole ≡ false → text_of x ≡ x
  pub more : length (text_of x) + (if whole then 1 else 0) ≤ length x

pub first_cut : (x : List ℕ) → FirstCut x (nat_lt (length (text_of x)) (length x))
first_cut [] = record { unbroken = λ k d low. absurd (omega arith); line = refl; all = λ h. refl; more = omega arith }
first_cut (b ∷ x) = at (is_break b) refl (first_cut x) where
  ten : is_break b ≡ true → b ≡ 10
  ten h = grind (arith, nat_tests)

  same : nat_lt (length (text_of x)) (length x) ≡ nat_lt (suc (length (text_of x))) (suc (length x))
  same = by (nat_lt (length (text_of x)) (length x)) refl where
    by : (v : Bool) → nat_lt (length (text_of x)) (length x) ≡ v → v ≡ nat_lt (suc (length (text_of x))) (suc (length x))
    by true e = grind (arith, nat_tests)
    by false e = grind (arith, nat_tests)

  other : (v : Bool) → is_break b ≡ false → FirstCut x v → FirstCut (b ∷ x) v
  other true e c = record {
    unbroken = rw (other_text b x e) (All-cons b (text_of x) e c.unbroken);
    line = rw (other_line b x e, other_text b x e, c.line) refl;
    all = λ h. absurd (cc);
    more = let s : length (text_of (b ∷ x)) ≡ suc (length (text_of x)) = ap length (other_text b x e) in omega (arith, s, c.more);
  }
  other false e c = record {
    unbroken = rw (other_text b x e) (All-cons b (text_of x) e c.unbroken);
    line = rw (other_line b x e, other_text b x e, c.line) refl;
    all = λ h. other_text b x e ∙ ap (λ (y : List ℕ). b ∷ y) (c.all refl);
    more = let s : length (text_of (b ∷ x)) ≡ suc (length (text_of x)) = ap length (other_text b x e) in omega (arith, s, c.more);
  }

  at : (v : Bool) → is_break b ≡ v → FirstCut x (nat_lt (length (text_of x)) (length x)) → FirstCut (b ∷ x) (nat_lt (length (text_of (b ∷ x))) (length (b ∷ x)))
  at true e c =
      let none : text_of (b ∷ x) ≡ [] = break_text b x e in
      let some : nat_lt (length (text_of (b ∷ x))) (length (b ∷ x)) ≡ true = let z : length (text_of (b ∷ x)) ≡ 0 = ap length none in grind (arith, nat_tests) in
      subst (λ (v : Bool). FirstCut (b ∷ x) v) (sym some)
      (record {
        unbroken = rw none (λ k d low. absurd (omega arith));
        line = rw (break_line b x e, none, ten e) refl;
        all = λ h. absurd (cc);
        more = let z : length (text_of (b ∷ x)) ≡ 0 = ap length none in omega (arith, z);
      })
  at false e c =
      let longer : length (text_of (b ∷ x)) ≡ suc (length (text_of x)) = ap length (other_text b x e) in
      let is : nat_lt (length (text_of x)) (length x) ≡ nat_lt (length (text_of (b ∷ x))) (length (b ∷ x)) = same ∙ ap (λ (k : ℕ). nat_lt k (suc (length x))) (sym longer) in
      subst (λ (v : Bool). FirstCut (b ∷ x) v) is (other (nat_lt (length (text_of x)) (length x)) e c)

-- the first part of a text is what stands before its first line feed
pub record FirstPart (x : List ℕ) : Type 0 where
  pub more : List (List ℕ)
  pub is : parts x ≡ text_of x ∷ more
  pub some : 0 < length x → 0 < length (text_of x) + length more

pub first_part : (x : List ℕ) → FirstPart x
first_part [] = record { more = []; is = refl; some = λ h. h }
first_part (b ∷ x) = at (is_break b) refl (first_part x) where
  at : (v : Bool) → is_break b ≡ v → FirstPart x → FirstPart (b ∷ x)
  at true e p = record {
    more = parts x;
    is = rw (slice_split-cons_yes is_break b x e, break_text b x e) refl;
    some = λ h. let s : length (parts x) ≡ suc (length p.more) = ap length p.is in omega (arith, s);
  }
  at false e p = record {
    more = p.more;
    is = rw (slice_split-cons_no is_break b x e, p.is, other_text b x e) refl;
    some = λ h. let s : length (text_of (b ∷ x)) ≡ suc (length (text_of x)) = ap length (other_text b x e) in omega (arith, s);
  }

-- bytes before it stay its first bytes
pub text_more : (a x : List ℕ) → NoBreak a → text_of (a ++ x) ≡ a ++ text_of x
text_more [] x h = refl
text_more (b ∷ a) x h = other_text b (a ++ x) (h 0 b (omega arith)) ∙ ap (λ (y : List ℕ). b ∷ y) (text_more a x (λ i d low. h (suc i) d (omega arith)))

pub text_grows : (x back : List ℕ) → (q : List ℕ) × (text_of (x ++ back) ≡ text_of x ++ q)
text_grows [] back = (text_of back, refl)
text_grows (b ∷ x) back = at (is_break b) refl (text_grows x back) where
  at : (v : Bool) → is_break b ≡ v → (q : List ℕ) × (text_of (x ++ back) ≡ text_of x ++ q) → (q : List ℕ) × (text_of (b ∷ x ++ back) ≡ text_of (b ∷ x) ++ q)
  at true e p = ([], rw (break_text b (x ++ back) e, break_text b x e) refl)
  at false e p = (p.0, rw (other_text b (x ++ back) e, other_text b x e, p.1) refl)

-- ---- limits

pub within : (n : ℕ) (l : List ℕ) → n ≤ last_line → length l ≤ longest_line → limit_fault n l ≡ None
within n l low short =
    let a : nat_lt last_line n ≡ false = grind (arith, nat_tests) in
    let b : nat_lt longest_line (length l) ≡ false = grind (arith, nat_tests) in rw (a, b) refl

pub past_count : (n : ℕ) (l : List ℕ) → last_line < n → limit_fault n l ≡ Some TooManyLines
past_count n l past = let t : nat_lt last_line n ≡ true = grind (arith, nat_tests) in rw t refl

pub past_length : (n : ℕ) (l : List ℕ) → n ≤ last_line → longest_line < length l → limit_fault n l ≡ Some LineTooLong
past_length n l low long =
    let a : nat_lt last_line n ≡ false = grind (arith, nat_tests) in
    let b : nat_lt longest_line (length l) ≡ true = grind (arith, nat_tests) in rw (a, b) refl

-- ---- a push

-- What a push leaves of an open line: it is one line too many, it is too long, or it is longer or whole.
pub record Grew (l : List ℕ) (n : ℕ) (x : List ℕ) (g : Feeding) : Type 0 where
  pub is : g ≡ record (at_line (l ++ text_of x) n) { whole = nat_lt (length (text_of x)) (length x) }
  pub low : n ≤ last_line
  pub short : length (l ++ text_of x) ≤ longest_line

pub record Refused (l : List ℕ) (n : ℕ) (x : List ℕ) (g : Feeding) (fault : RowFault) : Type 0 where
  pub is : g.refusal ≡ Some fault
  pub number : g.number ≡ n

pub record Count (l : List ℕ) (n : ℕ) (x : List ℕ) (g : Feeding) : Type 0 where
  pub refused : Refused l n x g TooManyLines
  pub past : last_line < n

pub record Long (l : List ℕ) (n : ℕ) (x : List ℕ) (g : Feeding) : Type 0 where
  pub refused : Refused l n x g LineTooLong
  pub low : n ≤ last_line
  pub past : longest_line < length (l ++ text_of x)

abbrev pub Pushes : List ℕ → ℕ → List ℕ → Feeding → Type 0
Pushes l n x g = Grew l n x g ⊎ (Count l n x g ⊎ Long l n x g)

pub pushes : (f : Feeding) (x : List ℕ) → IsOpen f → 0 < length x → Pushes f.line f.number x (fed f (first_line x))
pushes f x open_line some = at (nat_lt last_line f.number) refl where
  l : List ℕ
  l = f.line

  n : ℕ
  n = f.number

  start : fed f (first_line x) ≡ fed (at_line l n) (first_line x)
  start = ap (λ (g : Feeding). fed g (first_line x)) (is_at f open_line.part open_line.clear)

  many : last_line < n → Count l n x (fed f (first_line x))
  many past =
      let is : fed f (first_line x) ≡ record (at_line l n) { refusal = Some TooManyLines } = start ∙ one_too_many l n x past some in
      record { refused = record { is = ap (λ (g : Feeding). g.refusal) is; number = ap (λ (g : Feeding). g.number) is }; past = past }

  size : length (l ++ text_of x) ≡ length l + length (text_of x)
  size = length-append l (text_of x)

  long : n ≤ last_line → longest_line < length l + length (text_of x) → Long l n x (fed f (first_line x))
  long low over =
      let is : fed f (first_line x) ≡ too_long l n x = start ∙ past_room l n x low open_line.short over in
      record { refused = record { is = ap (λ (g : Feeding). g.refusal) is; number = ap (λ (g : Feeding). g.number) is }; low = low; past = omega (arith, size) }

  room : n ≤ last_line → (v : Bool) → nat_lt longest_line (length l + length (text_of x)) ≡ v → Pushes l n x (fed f (first_line x))
  room low true e = inr (inr (long low (grind (arith, nat_tests))))
  room low false e =
      let fits : length l + length (text_of x) ≤ longest_line = grind (arith, nat_tests) in
      inl (record { is = start ∙ in_room l n x low fits; low = low; short = omega (arith, size) })

  at : (v : Bool) → nat_lt last_line n ≡ v → Pushes l n x (fed f (first_line x))
  at true e = inr (inl (many (grind (arith, nat_tests))))
  at false e = room (grind (arith, nat_tests)) (nat_lt longest_line (length l + length (text_of x))) refl
