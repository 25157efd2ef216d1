-- What a scan takes, as it answers.
use Rattle.std.proofs.Common.{◌≡◌, ℕ, suc, ◌+◌, ◌-◌, ◌<◌, ◌≤◌, true, List, [], ◌∷◌, ◌++◌, length, drop, min, Ok, Err, sym, subst, arith, add-one, length-drop}
use Rattle.std.specs.Prelude.{slice_index}
use Rattle.std.specs.List.{prefix_len, position_or_len, take_while}
use Rattle.spec_forest.specs.declared.fault.ScanFault.{ScanFault}
use Rattle.spec_forest.specs.declared.fault.ScanFault.TheVariants.{TextTooLong, BadByte, Unbalanced, TooDeep, Memory}
use Rattle.spec_forest.specs.declared.scan.Scanner.{Scanner}
use Rattle.spec_forest.specs.Scan.{is_break, is_blank, deepest}
use Rattle.spec_forest.specs.Tokens.{Token, left, right, word, is_letter}
use Rattle.spec_forest.specs.Scanning.{IsScanned, held, levels, Enters, Leaves, Takes}
use Rattle.spec_forest.proofs.ScanSteps.{step-blank, step-left, step-right, scanned-comment, scanned-word, some-letters}
use Rattle.spec_forest.proofs.Faults.{too-deep, unopened}

next : (text : List ℕ) (k d : ℕ) (ts : List Token) → IsScanned text (suc k) d ts → IsScanned text (k + 1) d ts
next text k d ts s = rw add-one s

pub takes-blank : (text : List ℕ) (k : ℕ) (s : Scanner) → IsScanned text k (levels s) (held s) → k < length text → is_blank (slice_index text k) ≡ true → Takes text k s (Ok 1)
takes-blank text k s h low b = (omega arith, next text k (levels s) (held s) (step-blank text k (levels s) (held s) h low b))

pub takes-left : (text : List ℕ) (k : ℕ) (s t : Scanner) → IsScanned text k (levels s) (held s) → k < length text → slice_index text k ≡ 40
    → levels s < deepest → levels t ≡ levels s + 1 → held t ≡ held s ++ left k ∷ [] → Takes text k t (Ok 1)
takes-left text k s t h low b shallow n e =
    let step : IsScanned text (k + 1) (levels s + 1) (held s ++ left k ∷ []) = next text k (levels s + 1) (held s ++ left k ∷ []) (step-left text k (levels s) (held s) h low b shallow) in
    (omega arith, same step)
  where
    same : IsScanned text (k + 1) (levels s + 1) (held s ++ left k ∷ []) → IsScanned text (k + 1) (levels t) (held t)
    same step =
        let P : ℕ → Type 0 = λ d. IsScanned text (k + 1) d (held t) in
        let Q : List Token → Type 0 = λ ts. IsScanned text (k + 1) (levels s + 1) ts in
        subst P (sym n) (subst Q (sym e) step)

pub takes-right : (text : List ℕ) (k : ℕ) (s t : Scanner) → IsScanned text k (levels s) (held s) → k < length text → slice_index text k ≡ 41
    → levels s ≡ levels t + 1 → held t ≡ held s ++ right ∷ [] → Takes text k t (Ok 1)
takes-right text k s t h low b n e =
    let step : IsScanned text (k + 1) (levels s - 1) (held s ++ right ∷ []) = next text k (levels s - 1) (held s ++ right ∷ []) (step-right text k (levels s) (held s) h low b (omega (arith, n))) in
    (omega arith, same step)
  where
    same : IsScanned text (k + 1) (levels s - 1) (held s ++ right ∷ []) → IsScanned text (k + 1) (levels t) (held t)
    same step =
        let P : ℕ → Type 0 = λ d. IsScanned text (k + 1) d (held t) in
        let Q : List Token → Type 0 = λ ts. IsScanned text (k + 1) (levels s - 1) ts in
        let m : levels s - 1 ≡ levels t = omega (arith, n) in
        subst P m (subst Q (sym e) step)

pub takes-comment : (text : List ℕ) (k n : ℕ) (s : Scanner) → IsScanned text k (levels s) (held s) → k < length text → slice_index text k ≡ 59
    → n ≡ min (position_or_len is_break (drop k text) + 1) (length (drop k text)) → Takes text k s (Ok n)
takes-comment text k n s h low b e =
    let some : 0 < n = omega (arith, e, length-drop k text) in
    let P : ℕ → Type 0 = λ m. IsScanned text (k + m) (levels s) (held s) in
    (some, subst P (sym e) (scanned-comment text k (levels s) (held s) h low b))

pub takes-word : (text : List ℕ) (k n : ℕ) (s t : Scanner) → IsScanned text k (levels s) (held s) → k < length text → is_letter (slice_index text k) ≡ true
    → n ≡ prefix_len is_letter (drop k text) → levels t ≡ levels s → held t ≡ held s ++ word k (take_while is_letter (drop k text)) ∷ [] → Takes text k t (Ok n)
takes-word text k n s t h low b e l q =
    let some : 0 < n = omega (arith, e, some-letters text k low b) in
    (some, same (scanned-word text k (levels s) (held s) h low b))
  where
    same : IsScanned text (k + prefix_len is_letter (drop k text)) (levels s) (held s ++ word k (take_while is_letter (drop k text)) ∷ []) → IsScanned text (k + n) (levels t) (held t)
    same step =
        let P : ℕ → Type 0 = λ m. IsScanned text (k + m) (levels t) (held t) in
        let Q : ℕ → Type 0 = λ d. IsScanned text (k + prefix_len is_letter (drop k text)) d (held t) in
        let R : List Token → Type 0 = λ ts. IsScanned text (k + prefix_len is_letter (drop k text)) (levels s) ts in
        subst P (sym e) (subst Q (sym l) (subst R (sym q) step))

-- ---- refusals

pub refuses-left : (text : List ℕ) (k : ℕ) (s t : Scanner) (e : ScanFault) → IsScanned text k (levels s) (held s) → length text ≤ 1048576 → k < length text → slice_index text k ≡ 40
    → Enters s k t (Err e) → Takes text k t (Err e)
refuses-left text k s t TextTooLong h short low b a = absurd a
refuses-left text k s t (BadByte n) h short low b a = absurd a
refuses-left text k s t (Unbalanced n) h short low b a = absurd a
refuses-left text k s t (TooDeep n) h short low b a = rw a.0 (too-deep text k (levels s) (held s) h short low b a.1)
refuses-left text k s t Memory h short low b a = tt

pub refuses-right : (text : List ℕ) (k : ℕ) (s t : Scanner) (e : ScanFault) → IsScanned text k (levels s) (held s) → length text ≤ 1048576 → k < length text → slice_index text k ≡ 41
    → Leaves s k t (Err e) → Takes text k t (Err e)
refuses-right text k s t TextTooLong h short low b a = absurd a
refuses-right text k s t (BadByte n) h short low b a = absurd a
refuses-right text k s t (Unbalanced n) h short low b a = rw a.0 (unopened text k (levels s) (held s) h short low b a.1)
refuses-right text k s t (TooDeep n) h short low b a = absurd a
refuses-right text k s t Memory h short low b a = tt
