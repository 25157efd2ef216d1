-- The fault of a text, found where a scan stands.
use Rattle.std.proofs.Common.{◌≡◌, ℕ, zero, suc, ◌+◌, ◌-◌, ◌<◌, ◌≤◌, true, false, List, length, Some, None, refl, ap, sym, ◌∙◌, arith}
use Rattle.std.specs.Prelude.{◌==◌, slice_index, if◌then◌else◌, nat_lt}
use Rattle.std.proofs.lemmas.Bool.{eqb-true, false_from_ne_true}
use Rattle.std.proofs.lemmas.Bool.Decides.{nat_tests}
use Rattle.spec_forest.specs.Scan.{TextFault, text_too_long, bad_byte, unbalanced, too_deep, longest_text, is_mark, is_allowed, deepest, first_below, depth, fault_at, end_fault, scan_fault}
use Rattle.spec_forest.specs.Tokens.{Token, tokens}
use Rattle.spec_forest.specs.Scanning.{IsScanned}
use Rattle.spec_forest.proofs.Shown.{left_adds, right_adds, bad_adds}
use Rattle.spec_forest.proofs.ScanSteps.{depth-here}

pub too-long : (text : List ℕ) → longest_text < length text → scan_fault text ≡ Some text_too_long
unfolding scan_fault
too-long text h = let t : nat_lt longest_text (length text) ≡ true = grind (arith, nat_tests) in rw t refl

first-fault : (text : List ℕ) (k d : ℕ) (held : List Token) (fault : TextFault) → IsScanned text k d held → length text ≤ longest_text → k < length text → fault_at text k ≡ Some fault → scan_fault text ≡ Some fault
unfolding scan_fault
first-fault text k d held fault s short low e =
    let t : nat_lt longest_text (length text) ≡ false = grind (arith, nat_tests) in
    let here : first_below (suc k) (fault_at text) ≡ Some fault = rw (s.sound, e) refl in
    let on : length text ≡ suc k + (length text - suc k) = omega arith in
    let all : first_below (length text) (fault_at text) ≡ Some fault = ap (λ n. first_below n (fault_at text)) on ∙ later (length text - suc k) here in
    rw (t, all) refl where
      later : (n : ℕ) → first_below (suc k) (fault_at text) ≡ Some fault → first_below (suc k + n) (fault_at text) ≡ Some fault
      later zero here = let z : suc k + 0 ≡ suc k = omega arith in ap (λ m. first_below m (fault_at text)) z ∙ here
      later (suc n) here = let z : suc k + suc n ≡ suc (suc k + n) = omega arith in let more = later n here in rw (z, more) refl

pub bad-byte : (text : List ℕ) (k d : ℕ) (held : List Token) → IsScanned text k d held → length text ≤ longest_text → k < length text → is_allowed (slice_index text k) ≡ false → scan_fault text ≡ Some (bad_byte k)
bad-byte text k d held s short low b = first-fault text k d held (bad_byte k) s short low (bad_adds text k (s.boundary.clear low ∙ no_mark (slice_index text k) b) b) where
  no_mark : (n : ℕ) → is_allowed n ≡ false → is_mark n ≡ false
  no_mark n h = false_from_ne_true (is_mark n) (λ m. let no : true ≡ false = sym (ap is_allowed (eqb-true n 59 m)) ∙ h in cc)

pub too-deep : (text : List ℕ) (k d : ℕ) (held : List Token) → IsScanned text k d held → length text ≤ longest_text → k < length text → slice_index text k ≡ 40 → d ≡ deepest → scan_fault text ≡ Some (too_deep k)
too-deep text k d held s short low b full =
    let a = left_adds text k (s.boundary.clear low ∙ ap is_mark b) b in
    let deep : (depth text k == deepest) ≡ true = rw (depth-here text k d s.level, full) refl in
    first-fault text k d held (too_deep k) s short low (a.fault ∙ ap (λ x. if x then Some (too_deep k) else None) deep)

pub unopened : (text : List ℕ) (k d : ℕ) (held : List Token) → IsScanned text k d held → length text ≤ longest_text → k < length text → slice_index text k ≡ 41 → d ≡ 0 → scan_fault text ≡ Some (unbalanced k)
unopened text k d held s short low b none =
    let a = right_adds text k (s.boundary.clear low ∙ ap is_mark b) b in
    let deep : (depth text k == 0) ≡ true = rw (depth-here text k d s.level, none) refl in
    first-fault text k d held (unbalanced k) s short low (a.fault ∙ ap (λ x. if x then Some (unbalanced k) else None) deep)

-- ---- at the end

at-end : (text : List ℕ) (d : ℕ) (held : List Token) → IsScanned text (length text) d held → length text ≤ longest_text → scan_fault text ≡ end_fault (length text) d
unfolding scan_fault
at-end text d held s short =
    let t : nat_lt longest_text (length text) ≡ false = grind (arith, nat_tests) in
    rw (t, s.sound, depth-here text (length text) d s.level) refl

pub unclosed : (text : List ℕ) (d : ℕ) (held : List Token) → IsScanned text (length text) d held → length text ≤ longest_text → 0 < d → scan_fault text ≡ Some (unbalanced (length text))
unclosed text d held s short some = let t : (d == 0) ≡ false = grind (arith, nat_tests) in at-end text d held s short ∙ rw t refl

pub no-fault : (text : List ℕ) (d : ℕ) (held : List Token) → IsScanned text (length text) d held → length text ≤ longest_text → d ≡ 0 → scan_fault text ≡ None
no-fault text d held s short none = at-end text d held s short ∙ rw none refl

pub all-tokens : (text : List ℕ) (d : ℕ) (held : List Token) → IsScanned text (length text) d held → tokens text ≡ held
unfolding tokens
all-tokens text d held s = s.known
