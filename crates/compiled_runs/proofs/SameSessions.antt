-- The sessions of a specification and of its program, where their steps agree.
use Rattle.std.specs.Prelude.{◌≡◌, ℕ, ◌+◌, ◌<◌, ◌≤◌, ◌⊎◌, Bool, true, false, nat_eq, List, [], ◌∷◌, length, Option, Some, None, Result, Ok, Err, IsOk}
use Rattle.std.specs.List.{AllByRecursion, filter, flat_map}
use Rattle.std.proofs.Common.{refl, sym, ap, subst, ◌∙◌, inl, inr, arith}
use Rattle.std.proofs.lemmas.Bool.Decides.{nat_tests}
use Rattle.std.proofs.lemmas.List.{length-map}
use Rattle.stream_types.specs.declared.scalar.Hazard.{Hazard}
use Rattle.stream_types.specs.declared.scalar.Scalar.{Scalar}
use Rattle.stream_types.specs.Types.{AreWords}
use Rattle.stream_core.specs.Value.{SpecValue}
use Rattle.stream_core.specs.Term.{TreeSpec, trees, without_defs}
use Rattle.stream_core.specs.Eval.{Event, row_leaves, step_events}
use Rattle.stream_core.specs.Meaning.{IsHistory, Clean}
use Rattle.c99_tree.specs.declared.undefined.Undefined.{Undefined}
use Rattle.c99_tree.specs.declared.unit.Unit.{Unit as CUnit}
use Rattle.extern_rows.specs.declared.header.Leaf.{Leaf}
use Rattle.extern_rows.specs.Leaves.{scalars_of}
use Rattle.extern_rows.specs.SampleRows.{RowAt, FaultAt, Rows, rows_in}
use Rattle.extern_rows.proofs.RowWords.{rows_are_words}
use Rattle.row_sessions.specs.Session.{Session, SessionStep, SessionStop, StepAnswers, after_step, row_stop, session_from, session_over, words_of}
use Rattle.row_sessions.specs.declared.ending.Ending.{Ending}
use Rattle.row_sessions.specs.declared.ending.Ending.TheVariants as ending
use Rattle.interpreter.specs.Interpreted.{columns_of, interpreted, line_of_event, shown}
use Rattle.interpreter.proofs.FewColumns.{scalars-are}
use Rattle.c_runner.specs.Executed.{step_lines, unit_columns}
use Rattle.ring_codegen.proofs.Listing.{by_recursion, to_map}
use Rattle.compiled_runs.specs.Agreement.{Agrees, is_call, shown_calls}

-- ---- stops

-- whether a session stopped at a step
abbrev at_step : {F : Type 0} → Ending F → Bool
at_step (ending.Stopped step fault) = true
at_step _ = false

abbrev stops_at_step : {F : Type 0} → Option (SessionStop F) → Bool
stops_at_step None = false
stops_at_step (Some stop) = at_step stop.ending

rows_stop_at_no_step : (F : Type 0) (fault : Option FaultAt) → stops_at_step (row_stop {F = F} fault) ≡ false
rows_stop_at_no_step F None = refl
rows_stop_at_no_step F (Some at) = refl

failed : {P : Type 0} → false ≡ true → P
failed q = absurd (cc)

-- a step before others went well where the session stops as the rows do
went_well : {F : Type 0} (n end : ℕ) (answer : Result (List ℕ) F) (later : Session F) (fault : Option FaultAt) → (after_step n end answer later).stop ≡ row_stop fault → IsOk answer × (later.stop ≡ row_stop fault)
went_well n end (Ok text) later fault h = (refl, h)
went_well {F} n end (Err e) later fault h = absurd (differ (ap stops_at_step h ∙ rows_stop_at_no_step F fault))
  where
    differ : true ≡ false → ⊥
    differ q = cc

-- a number from n on is n or behind it
here_or_later : (n k : ℕ) → n ≤ k → (n ≡ k) ⊎ (n + 1 ≤ k)
here_or_later n k low = by (nat_eq n k) refl
  where
    by : (b : Bool) → nat_eq n k ≡ b → (n ≡ k) ⊎ (n + 1 ≤ k)
    by true e = inl (grind (arith, nat_tests, e))
    by false e = inr (grind (arith, nat_tests, e, low))

-- each step went well
all_well : {F : Type 0} (answers : StepAnswers F) (n : ℕ) (rows : List RowAt) (f fault : Option FaultAt) → (session_from answers n rows f).stop ≡ row_stop fault
    → (k : ℕ) → n ≤ k → k < n + length rows → IsOk (answers k)
all_well answers n [] f fault h k low high = absurd (omega (arith, low, high))
all_well {F} answers n (row ∷ rows) f fault h k low high =
    let here = went_well n row.end (answers n) (session_from answers (n + 1) rows f) fault h in
    by here.0 (λ l. all_well answers (n + 1) rows f fault here.1 k l (omega (arith, high))) (here_or_later n k low)
  where
    by : IsOk (answers n) → (n + 1 ≤ k → IsOk (answers k)) → (n ≡ k) ⊎ (n + 1 ≤ k) → IsOk (answers k)
    by ok later (inl e) = subst (λ m. IsOk (answers m)) e ok
    by ok later (inr l) = later l

-- then the session stops as the rows do
last_stop : {F : Type 0} (answers : StepAnswers F) (n : ℕ) (rows : List RowAt) (f : Option FaultAt) → ((k : ℕ) → n ≤ k → k < n + length rows → IsOk (answers k))
    → (session_from answers n rows f).stop ≡ row_stop f
last_stop answers n [] f well = refl
last_stop {F} answers n (row ∷ rows) f well =
    over (answers n) (well n (omega arith) (omega arith)) (last_stop answers (n + 1) rows f (λ k low high. well k (omega (arith, low)) (omega (arith, high))))
  where
    over : (answer : Result (List ℕ) F) → IsOk answer → (session_from answers (n + 1) rows f).stop ≡ row_stop f → (after_step n row.end answer (session_from answers (n + 1) rows f)).stop ≡ row_stop f
    over (Ok text) ok h = h
    over (Err e) ok h = failed ok

-- ---- steps

-- steps that write the same
same_steps : {F G : Type 0} (a : StepAnswers F) (b : StepAnswers G) (n : ℕ) (rows : List RowAt) (f : Option FaultAt)
    → ((k : ℕ) → n ≤ k → k < n + length rows → (text : List ℕ) × (a k ≡ Ok text) × (b k ≡ Ok text)) → (session_from a n rows f).steps ≡ (session_from b n rows f).steps
same_steps a b n [] f same = refl
same_steps {F} {G} a b n (row ∷ rows) f same =
    let here = same n (omega arith) (omega arith) in
    ap (λ (r : Result (List ℕ) F). (after_step n row.end r (session_from a (n + 1) rows f)).steps) here.1
    ∙ ap (λ (later : List SessionStep). record { text = here.0; end = row.end } ∷ later) (same_steps a b (n + 1) rows f (λ k low high. same k (omega (arith, low)) (omega (arith, high))))
    ∙ sym (ap (λ (r : Result (List ℕ) G). (after_step n row.end r (session_from b (n + 1) rows f)).steps) here.2)

-- ---- the rows' fault

abbrev back_ending : {F : Type 0} → ℕ → Ending F → Option FaultAt
back_ending end (ending.BadRow line fault) = Some (record { line = line; fault = fault; end = end })
back_ending end _ = None

abbrev back : {F : Type 0} → Option (SessionStop F) → Option FaultAt
back None = None
back (Some stop) = back_ending stop.end stop.ending

back_row : (F : Type 0) (fault : Option FaultAt) → back (row_stop {F = F} fault) ≡ fault
back_row F None = refl
back_row F (Some at) = refl

same_fault : (a b : Option FaultAt) → row_stop {F = Hazard} a ≡ row_stop b → a ≡ b
same_fault a b h = sym (back_row Hazard a) ∙ ap back h ∙ back_row Hazard b

-- ---- a specification and its program

-- the program's steps write the lines of the specification's calls
abbrev pub StepsAgree : SpecValue → CUnit → Type 0
StepsAgree s u = (h : List (List ℕ)) (n : ℕ) (events : List Event) → IsHistory s h → Clean s h (n + 1) → step_events (without_defs (trees s)) h n ≡ Ok events
    → step_lines u h n ≡ Ok (flat_map (line_of_event (trees s) n) (filter is_call events))

module _ (s : SpecValue) (u : CUnit) (columns : unit_columns u ≡ columns_of (trees s)) (agree : StepsAgree s u)
    (text : List ℕ) (ended : Bool) (fault : Option FaultAt) (stops : (interpreted s text ended).stop ≡ row_stop fault) where
  abbrev t : TreeSpec
  t = trees s

  abbrev c : TreeSpec
  c = without_defs (trees s)

  abbrev rows : Rows
  rows = rows_in (columns_of t) ended text

  abbrev h : List (List ℕ)
  h = words_of rows.rows

  abbrev ran : StepAnswers Hazard
  ran = λ n. shown t n (step_events c h n)

  abbrev called : StepAnswers Hazard
  called = λ n. shown_calls t n (step_events c h n)

  all_ran : (k : ℕ) → 0 ≤ k → k < 0 + length rows.rows → IsOk (ran k)
  all_ran = all_well ran 0 rows.rows rows.fault fault stops

  shown_well : (n : ℕ) (r : Result (List Event) Hazard) → IsOk (shown t n r) → (events : List Event) × (r ≡ Ok events)
  shown_well n (Ok events) ok = (events, refl)
  shown_well n (Err hazard) ok = failed ok

  well : (r : Result (List Event) Hazard) (events : List Event) → r ≡ Ok events → IsOk r
  well r events is = subst IsOk (sym is) refl

  long : length h ≡ length rows.rows
  long = length-map rows.rows (λ (row : RowAt). row.words)

  events_at : (k : ℕ) → k < length h → (events : List Event) × (step_events c h k ≡ Ok events)
  events_at k low = shown_well k (step_events c h k) (all_ran k (omega arith) (omega (arith, low, long)))

  clean : (n : ℕ) → n ≤ length h → Clean s h n
  clean n low = record {
    within = low;
    ok = λ k less. let e = events_at k (omega (arith, less, low)) in well (step_events c h k) e.0 e.1;
  }

  history : IsHistory s h
  history =
      to_map (AreWords (row_leaves c)) (λ (row : RowAt). row.words) rows.rows
      (subst (λ (ss : List Scalar). AllByRecursion (λ (row : RowAt). AreWords ss row.words) rows.rows) (scalars-are s)
      (by_recursion (λ (row : RowAt). AreWords (scalars_of (columns_of t)) row.words) rows.rows (rows_are_words (columns_of t) ended text)))

  each : (k : ℕ) → 0 ≤ k → k < 0 + length rows.rows → (lines : List ℕ) × (step_lines u h k ≡ Ok lines) × (called k ≡ Ok lines)
  each k low high =
      let e = events_at k (omega (arith, high, long)) in
      (flat_map (line_of_event t k) (filter is_call e.0), agree h k e.0 history (clean (k + 1) (omega (arith, high, long))) e.1, ap (shown_calls t k) e.1)

  steps_well : (k : ℕ) → 0 ≤ k → k < 0 + length rows.rows → IsOk (step_lines u h k)
  steps_well k low high = let e = each k low high in subst IsOk (sym e.1) refl

  -- the program's session over these columns
  abbrev over : List Leaf → Session Undefined
  over leaves = session_over (step_lines u (words_of (rows_in leaves ended text).rows)) (rows_in leaves ended text)

  pub agrees : Agrees s u text ended fault
  agrees = record {
    columns = columns;
    steps = ap (λ (ls : List Leaf). (over ls).steps) columns ∙ same_steps (step_lines u h) called 0 rows.rows rows.fault each;
    stop =
        ap (λ (ls : List Leaf). (over ls).stop) columns
        ∙ last_stop (step_lines u h) 0 rows.rows rows.fault steps_well
        ∙ ap row_stop (same_fault rows.fault fault (sym (last_stop ran 0 rows.rows rows.fault all_ran) ∙ stops));
  }
