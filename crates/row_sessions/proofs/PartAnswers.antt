-- What the answer of a push says of the session.
use Rattle.std.proofs.Common.{◌≡◌, ℕ, ◌+◌, ◌<◌, ◌≤◌, Bool, true, false, not, List, ◌++◌, length, Option, Some, None, Result, Ok, Err, refl, ap, sym, ◌∙◌, subst}
use Rattle.extern_rows.specs.declared.fault.RowFault.{RowFault}
use Rattle.extern_rows.specs.declared.feed.Pushed.{Pushed}
use Rattle.extern_rows.specs.declared.header.Leaf.{Leaf}
use Rattle.extern_rows.specs.Columns.{Columns}
use Rattle.extern_rows.specs.Feeding.{Feeding, next_line, fed, pushed}
use Rattle.extern_rows.specs.Lines.{first_line, last_line, without_cr}
use Rattle.row_sessions.specs.Session.{piece, machine_sessions}
use Rattle.row_sessions.specs.Stepping.{Output, MayStep}
use Rattle.row_sessions.specs.Standing.{line_read, row_ending, LineTaken, LineKept, IsOpen, Stands, Ends, Fronts, reach}
use Rattle.row_sessions.specs.declared.ending.Ending.{Ending}
use Rattle.row_sessions.specs.declared.lines.Lines.{Lines}
use Rattle.row_sessions.proofs.Parts.{left, part_stands, refused_ends, may_step, whole_stands, whole_ends, part_reach, whole_reach, stands_front}

pushed_err : (refusal : Option RowFault) (whole : Bool) (bytes : List ℕ) (fault : RowFault) → pushed refusal whole bytes ≡ Err fault → refusal ≡ Some fault
pushed_err None whole bytes fault h = absurd (cc)
pushed_err (Some told) whole bytes fault h = cc

record PushedOk (refusal : Option RowFault) (whole : Bool) (bytes : List ℕ) (p : Pushed) : Type 0 where
  clear : refusal ≡ None
  is : record { taken = length bytes; whole = whole } ≡ p

pushed_ok : (refusal : Option RowFault) (whole : Bool) (bytes : List ℕ) (p : Pushed) → pushed refusal whole bytes ≡ Ok p → PushedOk refusal whole bytes p
pushed_ok None whole bytes p h = record { clear = refl; is = cc }
pushed_ok (Some told) whole bytes p h = absurd (cc)

same_not : (a b : Bool) → not a ≡ not b → a ≡ b
same_not true true h = refl
same_not true false h = absurd (cc)
same_not false true h = absurd (cc)
same_not false false h = refl

-- a push that refused nothing
pub record PushedOn (f : Feeding) (x : List ℕ) (f' : Feeding) (p : Pushed) (whole : Bool) : Type 0 where
  pub is : f' ≡ fed f (first_line x)
  pub clear : (fed f (first_line x)).refusal ≡ None
  pub ended : (fed f (first_line x)).whole ≡ whole
  pub count : p.taken ≡ length (first_line x)

pub pushed_on : (f : Feeding) (x : List ℕ) (f' : Feeding) (p : Pushed) (whole : Bool) → f' ≡ fed f (first_line x) → Ok p ≡ pushed f'.refusal f'.whole (first_line x) → not p.whole ≡ not whole → PushedOn f x f' p whole
pushed_on f x f' p whole is answer at =
    let ok = pushed_ok f'.refusal f'.whole (first_line x) p (sym answer) in
    record {
      is = is;
      clear = ap (λ (y : Feeding). y.refusal) (sym is) ∙ ok.clear;
      ended = ap (λ (y : Feeding). y.whole) (sym is) ∙ ap (λ (q : Pushed). q.whole) ok.is ∙ same_not p.whole whole at;
      count = sym (ap (λ (q : Pushed). q.taken) ok.is);
    }

-- ---- a refusal

pub refusal_ends : {F : Type 0} (answers : List (List ℕ) → Result (List ℕ) F) (leaves : List Leaf) (first : Option (List ℕ)) (lines : Lines) (stands : List (List ℕ) → Type 0) (taken : Option (List ℕ)) (text x : List ℕ) (f' : Feeding) (fault : RowFault) (number : ℕ) (told : Ending F)
    → Stands answers leaves first lines stands taken text → 0 < length x → length x ≤ piece → f' ≡ fed lines.feed (first_line x) → Err fault ≡ pushed f'.refusal f'.whole (first_line x) → number ≡ f'.number → told ≡ row_ending number fault
    → Ends answers leaves first (text ++ x) taken told × Fronts (machine_sessions answers leaves (text ++ x) false) first taken
refusal_ends {F = F} answers leaves first lines stands taken text x f' fault number told s some small is answer count e =
    let refusal : (fed lines.feed (first_line x)).refusal ≡ Some fault = ap (λ (y : Feeding). y.refusal) (sym is) ∙ pushed_err f'.refusal f'.whole (first_line x) fault (sym answer) in
    let same : number ≡ (fed lines.feed (first_line x)).number = count ∙ ap (λ (y : Feeding). y.number) is in
    let row : told ≡ row_ending (fed lines.feed (first_line x)).number fault = e ∙ ap (λ (k : ℕ). let y : Ending F = row_ending k fault in y) same in (
      subst (λ (y : Ending F). Ends answers leaves first (text ++ x) taken y) (sym row) (refused_ends answers leaves first lines stands taken text x fault s some small refusal),
      stands_front answers leaves first lines stands taken text x false s,
    )

-- ---- a part of a line

pub part_leads : (f f' : Feeding) (x : List ℕ) (p : Pushed) → IsOpen f → 0 < length x → PushedOn f x f' p false → reach f + p.taken ≤ reach f'
part_leads f f' x p open_line some o =
    subst (λ (y : Feeding). reach f + p.taken ≤ reach y) (sym o.is)
    (subst (λ (k : ℕ). reach f + k ≤ reach (fed f (first_line x))) (sym o.count) (part_reach f x open_line some o.clear o.ended))

pub part_goes : {F : Type 0} (answers : List (List ℕ) → Result (List ℕ) F) (leaves : List Leaf) (first : Option (List ℕ)) (lines lines' : Lines) (stands : List (List ℕ) → Type 0) (taken : Option (List ℕ)) (text x : List ℕ) (p : Pushed)
    → Stands answers leaves first lines stands taken text → 0 < length x → PushedOn lines.feed x lines'.feed p false → lines'.header ≡ lines.header → lines'.steps ≡ lines.steps
    → Stands answers leaves first lines' stands taken (text ++ first_line x)
part_goes answers leaves first lines lines' stands taken text x p s some o header count =
    part_stands answers leaves first lines lines' stands taken text x s some o.is header count o.clear o.ended

-- ---- a whole line

pub whole_leads : (f f' behind : Feeding) (x : List ℕ) (p : Pushed) → IsOpen f → 0 < length x → PushedOn f x f' p true → behind ≡ next_line f' → reach f + p.taken ≤ reach behind
whole_leads f f' behind x p open_line some o e =
    subst (λ (y : Feeding). reach f + p.taken ≤ reach y) (sym (e ∙ ap next_line o.is))
    (subst (λ (k : ℕ). reach f + k ≤ reach (next_line (fed f (first_line x)))) (sym o.count) (whole_reach f x open_line some o.clear o.ended))

pub may_take : {F : Type 0} (answers : List (List ℕ) → Result (List ℕ) F) (leaves : List Leaf) (first : Option (List ℕ)) (lines : Lines) (stands : List (List ℕ) → Type 0) (taken : Option (List ℕ)) (text x : List ℕ) (f' : Feeding) (p : Pushed)
    → Stands answers leaves first lines stands taken text → 0 < length x → PushedOn lines.feed x f' p true → MayStep stands × (lines.steps < last_line)
may_take answers leaves first lines stands taken text x f' p s some o =
    may_step answers leaves first lines stands taken text s ((left lines.feed x true s.feed some o.clear o.ended).low)

pub line_goes : {F : Type 0} (answers : List (List ℕ) → Result (List ℕ) F) (leaves : List Leaf) (first : Option (List ℕ)) (lines between lines' behind : Lines) (stands stands' : List (List ℕ) → Type 0) (before after : Output) (text x : List ℕ) (p : Pushed)
    → Stands answers leaves first lines stands before.taken text → 0 < length x → PushedOn lines.feed x between.feed p true → between.header ≡ lines.header → between.steps ≡ lines.steps
    → LineKept (line_read leaves between.header (without_cr between.feed.line)) between lines' stands stands'
    → ((rows : List (List ℕ)) → stands rows → LineTaken answers rows between.feed.number between.steps (line_read leaves between.header (without_cr between.feed.line)) before after (Ok tt))
    → lines'.feed ≡ between.feed → behind.feed ≡ next_line lines'.feed → behind.header ≡ lines'.header → behind.steps ≡ lines'.steps
    → Stands answers leaves first behind stands' after.taken (text ++ first_line x)
line_goes {F = F} answers leaves first lines between lines' behind stands stands' before after text x p s some o header count kept taken same next behind_header behind_steps =
    whole_stands answers leaves first lines between lines' stands stands' before after text x s some o.clear o.ended header count
    (subst (λ (y : Feeding). LineKept (line_read leaves lines.header (without_cr y.line)) between lines' stands stands') o.is
    (subst (λ (h : Option Columns). LineKept (line_read leaves h (without_cr between.feed.line)) between lines' stands stands') header kept))
    (subst (λ (y : Feeding). (rows : List (List ℕ)) → stands rows → LineTaken answers rows y.number lines.steps (line_read leaves lines.header (without_cr y.line)) before after (Ok tt)) o.is
    (subst (λ (h : Option Columns). (rows : List (List ℕ)) → stands rows → LineTaken answers rows between.feed.number lines.steps (line_read leaves h (without_cr between.feed.line)) before after (Ok tt)) header
    (subst (λ (k : ℕ). (rows : List (List ℕ)) → stands rows → LineTaken answers rows between.feed.number k (line_read leaves between.header (without_cr between.feed.line)) before after (Ok tt)) count taken)))
    behind (next ∙ ap next_line (same ∙ o.is)) behind_header behind_steps

pub line_ends_there : {F : Type 0} (answers : List (List ℕ) → Result (List ℕ) F) (leaves : List Leaf) (first : Option (List ℕ)) (lines : Lines) (f' : Feeding) (stands : List (List ℕ) → Type 0) (before after : Output) (text x : List ℕ) (p : Pushed) (ending : Ending F)
    → Stands answers leaves first lines stands before.taken text → 0 < length x → length x ≤ piece → PushedOn lines.feed x f' p true
    → ((rows : List (List ℕ)) → stands rows → LineTaken answers rows f'.number lines.steps (line_read leaves lines.header (without_cr f'.line)) before after (Err ending))
    → Ends answers leaves first (text ++ x) after.taken ending × Fronts (machine_sessions answers leaves (text ++ x) false) first after.taken
line_ends_there {F = F} answers leaves first lines f' stands before after text x p ending s some small o taken =
    whole_ends answers leaves first lines stands before after text x ending s some small o.clear o.ended
    (subst (λ (y : Feeding). (rows : List (List ℕ)) → stands rows → LineTaken answers rows y.number lines.steps (line_read leaves lines.header (without_cr y.line)) before after (Err ending)) o.is taken)
