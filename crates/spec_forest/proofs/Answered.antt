-- What a scan answers at the end of its text.
use Rattle.std.proofs.Common.{◌≡◌, ℕ, ◌≤◌, List, length, None, Result, Ok, Err, IfOk, sym, ◌∙◌, subst, arith}
use Rattle.spec_forest.specs.declared.fault.ScanFault.{ScanFault}
use Rattle.spec_forest.specs.declared.fault.ScanFault.TheVariants.{TextTooLong, BadByte, Unbalanced, TooDeep, Memory}
use Rattle.spec_forest.specs.declared.tree.Forest.{Forest}
use Rattle.spec_forest.specs.declared.scan.Scanner.{Scanner}
use Rattle.spec_forest.specs.Node.{forest_nodes}
use Rattle.spec_forest.specs.Scan.{scan_fault}
use Rattle.spec_forest.specs.Tokens.{forest_tokens, IsForestOf}
use Rattle.spec_forest.specs.Extents.{nesting, list_count, item_count, IsWithin}
use Rattle.spec_forest.specs.Answers.{TellsFault}
use Rattle.spec_forest.specs.Scanning.{IsScanned, held, levels, Finishes}
use Rattle.spec_forest.proofs.Faults.{unclosed, no-fault, all-tokens}
use Rattle.spec_forest.proofs.Bounds.{few-lists, few-items, within-text, shallow}

-- the clauses of `trees`
pub record Answered (text : List ℕ) (r : Result Forest ScanFault) : Type 0 where
  pub fault : TellsFault text r
  pub forest : IfOk r (λ f. IsForestOf text (forest_nodes f))
  pub nesting : IfOk r (λ f. nesting (forest_nodes f) ≤ 64)
  pub lists : IfOk r (λ f. list_count (forest_nodes f) ≤ 524288)
  pub items : IfOk r (λ f. item_count (forest_nodes f) ≤ 1048576)
  pub places : IfOk r (λ f. IsWithin (length text) (forest_nodes f))

answered-ok : (text : List ℕ) (f : Forest) → scan_fault text ≡ None → IsForestOf text (forest_nodes f) → Answered text (Ok f)
answered-ok text f e is = record {
  fault = e;
  forest = is;
  nesting = shallow text (forest_nodes f) e is;
  lists = few-lists text (forest_nodes f) e is;
  items = few-items text (forest_nodes f) e is;
  places = within-text text (forest_nodes f) is;
}

forest-here : (text : List ℕ) (s : Scanner) (f : Forest) → IsScanned text (length text) (levels s) (held s) → forest_tokens (forest_nodes f) ≡ held s → IsForestOf text (forest_nodes f)
unfolding IsForestOf
forest-here text s f h e = all-tokens text (levels s) (held s) h ∙ sym e

finished : (text : List ℕ) (s : Scanner) (r : Result Forest ScanFault) → IsScanned text (length text) (levels s) (held s) → length text ≤ 1048576 → Finishes s (length text) r → Answered text r
finished text s (Ok f) h short a = answered-ok text f (no-fault text (levels s) (held s) h short a.0) (forest-here text s f h a.1)
finished text s (Err TextTooLong) h short a = absurd a
finished text s (Err (BadByte k)) h short a = absurd a
finished text s (Err (TooDeep k)) h short a = absurd a
finished text s (Err Memory) h short a = absurd a
finished text s (Err (Unbalanced k)) h short a = record {
  fault = rw a.0 (unclosed text (levels s) (held s) h short a.1);
  forest = tt;
  nesting = tt;
  lists = tt;
  items = tt;
  places = tt;
}

-- the same where the scan came past the last byte
pub finished-at : (text : List ℕ) (k : ℕ) (s : Scanner) (r : Result Forest ScanFault) → length text ≤ k → IsScanned text k (levels s) (held s) → length text ≤ 1048576 → Finishes s k r → Answered text r
finished-at text k s r past h short a =
    let e : k ≡ length text = omega (arith, h.low, past) in
    let P : ℕ → Type 0 = λ n. IsScanned text n (levels s) (held s) in
    let Q : ℕ → Type 0 = λ n. Finishes s n r in
    finished text s r (subst P e h) short (subst Q e a)
