-- What a text shows before a place, one byte further.
use Rattle.std.proofs.Common.{◌≡◌, ℕ, zero, suc, ◌+◌, ◌<◌, ◌≤◌, Bool, true, false, List, [], ◌∷◌, length, drop, Option, Some, None, refl, ap, sym, ◌∙◌, arith, add-zero, add-suc, append-nil}
use Rattle.std.specs.Prelude.{◌&&◌, ◌||◌, ◌==◌, slice_index, if◌then◌else◌}
use Rattle.std.specs.List.{take_while}
use Rattle.spec_forest.specs.Scan.{TextFault, bad_byte, unbalanced, too_deep, is_break, is_blank, is_mark, is_allowed, deepest, count_below, earlier, first_below, commented, opens, closes, depth, fault_at}
use Rattle.spec_forest.specs.Tokens.{Token, left, right, word, is_letter, is_fresh, token_at, tokens_before}
use Rattle.spec_forest.specs.Scanning.{Boundary}
use Rattle.spec_forest.proofs.Comments.{commented-suc}
use Rattle.spec_forest.proofs.ByteFacts.{letter_is, blank_is}
use Rattle.std.proofs.Math.Bool.{or-false}

-- what a text shows before a place
pub record Seen : Type 0 where
  pub known : List Token
  pub lefts : ℕ
  pub rights : ℕ
  pub fault : Option TextFault

abbrev pub seen : List ℕ → ℕ → Seen
seen text k = record { known = tokens_before text k; lefts = count_below k (opens text); rights = count_below k (closes text); fault = first_below k (fault_at text) }

earlier-none : {X : Type 0} (x : Option X) → earlier x None ≡ x
earlier-none None = refl
earlier-none (Some x) = refl

-- ---- one byte

-- what a byte adds
pub record Adds (text : List ℕ) (k : ℕ) (ts : List Token) (l r : Bool) (f : Option TextFault) : Type 0 where
  pub begins : token_at text k ≡ ts
  pub lefts : opens text k ≡ l
  pub rights : closes text k ≡ r
  pub fault : fault_at text k ≡ f

pub nothing : (text : List ℕ) (k : ℕ) → Adds text k [] false false None → seen text (suc k) ≡ seen text k
nothing text k a =
    rw (a.begins, a.lefts, a.rights, a.fault, append-nil (tokens_before text k), add-zero (count_below k (opens text)), add-zero (count_below k (closes text)), earlier-none (first_below k (fault_at text))) refl

pub commented_adds : (text : List ℕ) (k : ℕ) → commented text k ≡ true → Adds text k [] false false None
unfolding token_at opens closes fault_at
commented_adds text k c = record { begins = rw c refl; lefts = rw c refl; rights = rw c refl; fault = rw c refl }

-- ---- an uncommented byte

pub blank_adds : (text : List ℕ) (k : ℕ) → commented text k ≡ false → is_blank (slice_index text k) ≡ true → Adds text k [] false false None
unfolding token_at opens closes fault_at
blank_adds text k c b =
    let is = blank_is (slice_index text k) b in
    record {
      begins = rw (c, is.no_letter, is.no_left, is.no_right) refl;
      lefts = rw (c, is.no_left) refl;
      rights = rw (c, is.no_right) refl;
      fault = rw (c, is.allowed, is.no_right, is.no_left) refl;
    }

pub inner_adds : (text : List ℕ) (k : ℕ) → commented text k ≡ false → is_letter (slice_index text k) ≡ true → is_fresh text k ≡ false → Adds text k [] false false None
unfolding token_at opens closes fault_at
inner_adds text k c b f =
    let is = letter_is (slice_index text k) b in
    record {
      begins = rw (c, b, f, is.no_left, is.no_right) refl;
      lefts = rw (c, is.no_left) refl;
      rights = rw (c, is.no_right) refl;
      fault = rw (c, is.allowed, is.no_right, is.no_left) refl;
    }

pub word_adds : (text : List ℕ) (k : ℕ) → commented text k ≡ false → is_letter (slice_index text k) ≡ true → is_fresh text k ≡ true
    → Adds text k (word k (take_while is_letter (drop k text)) ∷ []) false false None
unfolding token_at opens closes fault_at
word_adds text k c b f =
    let is = letter_is (slice_index text k) b in
    record {
      begins = rw (c, b, f, is.no_left, is.no_right) refl;
      lefts = rw (c, is.no_left) refl;
      rights = rw (c, is.no_right) refl;
      fault = rw (c, is.allowed, is.no_right, is.no_left) refl;
    }

pub left_adds : (text : List ℕ) (k : ℕ) → commented text k ≡ false → slice_index text k ≡ 40
    → Adds text k (left k ∷ []) true false (if depth text k == deepest then Some (too_deep k) else None)
unfolding token_at opens closes fault_at
left_adds text k c b = record { begins = rw (c, b) refl; lefts = rw (c, b) refl; rights = rw (c, b) refl; fault = rw (c, b) refl }

pub right_adds : (text : List ℕ) (k : ℕ) → commented text k ≡ false → slice_index text k ≡ 41
    → Adds text k (right ∷ []) false true (if depth text k == 0 then Some (unbalanced k) else None)
unfolding token_at opens closes fault_at
right_adds text k c b = record { begins = rw (c, b) refl; lefts = rw (c, b) refl; rights = rw (c, b) refl; fault = rw (c, b) refl }

pub bad_adds : (text : List ℕ) (k : ℕ) → commented text k ≡ false → is_allowed (slice_index text k) ≡ false → fault_at text k ≡ Some (bad_byte k)
unfolding fault_at
bad_adds text k c b = rw (c, b) refl

-- ---- boundaries

-- behind an uncommented byte that is no letter
pub boundary-next : (text : List ℕ) (k : ℕ) → commented text k ≡ false → is_letter (slice_index text k) ≡ false → Boundary text (suc k)
boundary-next text k c b = record {
  clear = λ _. rw (commented-suc text k, c) (or-false (is_mark (slice_index text (suc k))));
  fresh = λ _. rw b refl;
}

-- behind a line feed
pub boundary-line : (text : List ℕ) (k : ℕ) → is_break (slice_index text k) ≡ true → Boundary text (suc k)
boundary-line text k b = record {
  clear = λ _. rw (commented-suc text k, b) (none (commented text k) (is_mark (slice_index text (suc k))));
  fresh = λ _. rw (no_letter (slice_index text k) b) refl;
} where
  none : (c x : Bool) → (x || (c && false)) ≡ x
  none true true = refl
  none true false = refl
  none false true = refl
  none false false = refl

  no_letter : (n : ℕ) → is_break n ≡ true → is_letter n ≡ false
  no_letter n e = (blank_is n (rw e (blank (n == 32) (n == 9) (n == 13)))).no_letter where
    blank : (x y z : Bool) → (x || y || true || z) ≡ true
    blank true true z = refl
    blank true false z = refl
    blank false true z = refl
    blank false false z = refl

-- at the end
pub boundary-end : (text : List ℕ) (k : ℕ) → length text ≤ k → slice_index text k ≡ 0 → Boundary text k
boundary-end text k past none = record {
  clear = λ h. absurd (omega arith);
  fresh = λ h. absurd (let no : false ≡ true = ap is_letter (sym none) ∙ h in cc);
}

-- ---- several bytes

pub stays : {A : Type 0} (F : ℕ → A) (k n : ℕ) → ((i : ℕ) → i < n → F (suc (k + i)) ≡ F (k + i)) → F (k + n) ≡ F k
stays F k zero h = ap F (add-zero k)
stays F k (suc n) h = ap F (add-suc k n) ∙ h n (omega arith) ∙ stays F k n (λ i l. h i (omega arith))
