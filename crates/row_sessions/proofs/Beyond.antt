-- The steps over rows that end behind an offset.
use Rattle.std.proofs.Common.{◌≡◌, ℕ, zero, suc, ◌+◌, ◌-◌, ◌<◌, ◌≤◌, Bool, true, false, nat_lt, List, [], ◌∷◌, ◌++◌, length, take, Option, Some, None, Result, Ok, Err, refl, ap, sym, ◌∙◌, subst, arith, length-append, append-nil}
use Rattle.std.specs.Prelude.{slice_get, if◌then◌else◌}
use Rattle.std.proofs.lemmas.Bool.Decides.{nat_tests}
use Rattle.extern_rows.specs.declared.fault.RowFault.{RowFault}
use Rattle.extern_rows.specs.declared.header.Leaf.{Leaf}
use Rattle.extern_rows.specs.Columns.{Columns, header_of, row_of}
use Rattle.extern_rows.specs.FeedStanding.{part_limit}
use Rattle.extern_rows.specs.Lines.{parts, limit_fault, without_cr, is_blank}
use Rattle.extern_rows.specs.SampleRows.{RowAt, FaultAt, Rows, no_rows, within_limits, after_header, after_row, at_text, at_line, rows_from}
use Rattle.extern_rows.proofs.Feeds.{text_of}
use Rattle.row_sessions.specs.Session.{SessionStep, after_step, text_of_steps}
use Rattle.row_sessions.specs.Standing.{session_after}
use Rattle.row_sessions.proofs.Pushes.{NoBreak, first_part, text_more}

-- each row ends there or behind it
abbrev pub RowsBeyond : ℕ → List RowAt → Type 0
RowsBeyond bound rows = (k : ℕ) (row : RowAt) → slice_get rows k ≡ Some row → bound ≤ row.end

abbrev pub StepsBeyond : ℕ → List SessionStep → Type 0
StepsBeyond bound steps = (k : ℕ) (step : SessionStep) → slice_get steps k ≡ Some step → bound ≤ step.end

-- ---- rows

none_there : {X : Type 0} (x : X) → None ≡ Some x → ⊥
none_there x h = absurd (cc)

no_row : (bound : ℕ) → RowsBeyond bound []
no_row bound k row h = absurd (none_there row h)

one_row : (bound : ℕ) (first : RowAt) (rows : List RowAt) → bound ≤ first.end → RowsBeyond bound rows → RowsBeyond bound (first ∷ rows)
one_row bound first rows low more zero row h = let e : first ≡ row = cc in subst (λ (r : RowAt). bound ≤ r.end) e low
one_row bound first rows low more (suc k) row h = more k row h

nearer : (bound bound' : ℕ) (rows : List RowAt) → bound ≤ bound' → RowsBeyond bound' rows → RowsBeyond bound rows
nearer bound bound' rows low more k row h = omega (arith, low, more k row h)

limits_beyond : (bound number begin : ℕ) (fault : Option RowFault) (later : Rows) → RowsBeyond bound later.rows → RowsBeyond bound (within_limits number begin fault later).rows
limits_beyond bound number begin None later more = more
limits_beyond bound number begin (Some fault) later more = no_row bound

line_beyond : (leaves : List Leaf) (bound number end : ℕ) (line : List ℕ) (header : Option Columns) (later : Option Columns → Rows)
    → bound ≤ end → ((h : Option Columns) → RowsBeyond bound (later h).rows) → RowsBeyond bound (at_line leaves number end line header later).rows
line_beyond leaves bound number end line header later low more = at (is_blank (without_cr line)) where
  of_header : (r : Result Columns RowFault) → RowsBeyond bound (after_header number end r later).rows
  of_header (Ok columns) = more (Some columns)
  of_header (Err fault) = no_row bound

  of_row : (columns : Columns) (r : Result (List ℕ) RowFault) → RowsBeyond bound (after_row number end r (later (Some columns))).rows
  of_row columns (Ok words) = one_row bound (record { words = words; end = end }) (later (Some columns)).rows low (more (Some columns))
  of_row columns (Err fault) = no_row bound

  of_text : (h : Option Columns) → RowsBeyond bound (at_text leaves number end (without_cr line) h later).rows
  of_text None = of_header (header_of leaves (without_cr line))
  of_text (Some columns) = of_row columns (row_of columns (without_cr line))

  at : (v : Bool) → RowsBeyond bound (if v then later header else at_text leaves number end (without_cr line) header later).rows
  at true = more header
  at false = of_text header

last_beyond : (leaves : List Leaf) (number offset : ℕ) (rest : List ℕ) (header : Option Columns) (ended : Bool)
    → RowsBeyond (offset + length rest) (if ended then at_line leaves number (offset + length rest) rest header (λ h. no_rows) else no_rows).rows
last_beyond leaves number offset rest header true = line_beyond leaves (offset + length rest) number (offset + length rest) rest header (λ h. no_rows) (omega arith) (λ h. no_row (offset + length rest))
last_beyond leaves number offset rest header false = no_row (offset + length rest)

pub rows_beyond : (leaves : List Leaf) (ended : Bool) (number offset : ℕ) (line : List ℕ) (more : List (List ℕ)) (header : Option Columns)
    → RowsBeyond (offset + length line) (rows_from leaves ended number offset (line ∷ more) header).rows
rows_beyond leaves ended number offset line [] header =
    limits_beyond (offset + length line) number offset (part_limit number line []) (if ended then at_line leaves number (offset + length line) line header (λ h. no_rows) else no_rows)
    (last_beyond leaves number offset line header ended)
rows_beyond leaves ended number offset line (next ∷ more) header =
    let end : ℕ = offset + length line + 1 in
    let later : Option Columns → Rows = rows_from leaves ended (number + 1) end (next ∷ more) in
    limits_beyond (offset + length line) number offset (limit_fault number line) (at_line leaves number end line header later)
    (line_beyond leaves (offset + length line) number end line header later (omega arith)
    (λ h. nearer (offset + length line) (end + length next) (later h).rows (omega arith) (rows_beyond leaves ended (number + 1) end next more h)))

-- behind an open line
pub rows_behind_line : (leaves : List Leaf) (ended : Bool) (number offset : ℕ) (line x : List ℕ) (header : Option Columns)
    → NoBreak line → RowsBeyond (offset + length line) (rows_from leaves ended number offset (parts (line ++ x)) header).rows
rows_behind_line leaves ended number offset line x header clean =
    let p = first_part (line ++ x) in
    let text : text_of (line ++ x) ≡ line ++ text_of x = text_more line x clean in
    let size : length (text_of (line ++ x)) ≡ length line + length (text_of x) = ap length text ∙ length-append line (text_of x) in
    subst (λ (ps : List (List ℕ)). RowsBeyond (offset + length line) (rows_from leaves ended number offset ps header).rows) (sym p.is)
    (nearer (offset + length line) (offset + length (text_of (line ++ x))) (rows_from leaves ended number offset (text_of (line ++ x) ∷ p.more) header).rows (omega (arith, size))
    (rows_beyond leaves ended number offset (text_of (line ++ x)) p.more header))

-- ---- steps

no_step : (bound : ℕ) → StepsBeyond bound []
no_step bound k step h = absurd (none_there step h)

one_step : (bound : ℕ) (first : SessionStep) (steps : List SessionStep) → bound ≤ first.end → StepsBeyond bound steps → StepsBeyond bound (first ∷ steps)
one_step bound first steps low more zero step h = let e : first ≡ step = cc in subst (λ (s : SessionStep). bound ≤ s.end) e low
one_step bound first steps low more (suc k) step h = more k step h

pub steps_beyond : {F : Type 0} (answers : List (List ℕ) → Result (List ℕ) F) (before : List (List ℕ)) (bound : ℕ) (rows : List RowAt) (fault : Option FaultAt)
    → RowsBeyond bound rows → StepsBeyond bound (session_after answers before rows fault).steps
steps_beyond answers before bound [] fault more = no_step bound
steps_beyond {F = F} answers before bound (row ∷ rows) fault more =
    at (answers (before ++ row.words ∷ [])) (steps_beyond answers (before ++ row.words ∷ []) bound rows fault (λ k r h. more (suc k) r h)) where
      at : (answer : Result (List ℕ) F) → StepsBeyond bound (session_after answers (before ++ row.words ∷ []) rows fault).steps
          → StepsBeyond bound (after_step (length before) row.end answer (session_after answers (before ++ row.words ∷ []) rows fault)).steps
      at (Ok text) later = one_step bound (record { text = text; end = row.end }) (session_after answers (before ++ row.words ∷ []) rows fault).steps (more zero row refl) later
      at (Err fault') later = no_step bound

-- ---- the step in which a number of bytes ends

pub record Cut (steps : List SessionStep) (count : ℕ) : Type 0 where
  pub k : ℕ
  pub step : SessionStep
  pub is : slice_get steps k ≡ Some step
  pub before : length (text_of_steps (take k steps)) ≤ count
  pub cut : count < length (text_of_steps (take (suc k) steps))

text_cons : (step : SessionStep) (steps : List SessionStep) → length (text_of_steps (step ∷ steps)) ≡ length step.text + length (text_of_steps steps)
text_cons step steps = length-append step.text (text_of_steps steps)

pub find_cut : (steps : List SessionStep) (count : ℕ) → count < length (text_of_steps steps) → Cut steps count
find_cut [] count low = absurd (omega arith)
find_cut (step ∷ steps) count low = at (λ c less. find_cut steps c less) (nat_lt count (length step.text)) refl where
  size : length (text_of_steps (step ∷ steps)) ≡ length step.text + length (text_of_steps steps)
  size = text_cons step steps

  here : count < length step.text → Cut (step ∷ steps) count
  here small = record {
    k = zero;
    step = step;
    is = refl;
    before = omega arith;
    cut = let e : length (text_of_steps (step ∷ [])) ≡ length step.text = ap length (append-nil step.text) in omega (arith, e, small);
  }

  later : length step.text ≤ count → Cut steps (count - length step.text) → Cut (step ∷ steps) count
  later past c = record {
    k = suc c.k;
    step = c.step;
    is = c.is;
    before = omega (arith, text_cons step (take c.k steps), c.before, past);
    cut = omega (arith, text_cons step (take (suc c.k) steps), c.cut, past);
  }

  at : ((c : ℕ) → c < length (text_of_steps steps) → Cut steps c) → (v : Bool) → nat_lt count (length step.text) ≡ v → Cut (step ∷ steps) count
  at more true e = here (grind (arith, nat_tests))
  at more false e = let past : length step.text ≤ count = grind (arith, nat_tests) in later past (more (count - length step.text) (omega (arith, size, low, past)))
