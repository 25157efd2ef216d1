-- What a step of the machine does, by what the call of the unit's `step` answers.
use Rattle.std.proofs.Common.{◌≡◌, ℕ, zero, suc, ◌+◌, ◌-◌, List, [], ◌∷◌, ◌++◌, length, take, Option, Some, None, Result, Ok, Err, true, false, refl}
use Rattle.std.proofs.Common.{sym, ap, ◌∙◌, subst, arith, length-append, unwrap_or}
use Rattle.std.specs.Prelude.{All, IfOk, slice_get}
use Rattle.std.specs.List.{flat_map}
use Rattle.std.specs.Option.{option_map_or}
use Rattle.std.proofs.lemmas.List.Concat.{flat_map-cons}
use Rattle.stream_types.specs.declared.scalar.Scalar.{Scalar}
use Rattle.stream_types.specs.declared.scalar.Ty.{Ty}
use Rattle.stream_types.specs.declared.types.TypeEntry.{TypeEntry}
use Rattle.stream_types.specs.Types.{AreWords, leaves}
use Rattle.c99_tree.specs.declared.types.CVar.{CVar}
use Rattle.c99_tree.specs.declared.undefined.Undefined.{Undefined}
use Rattle.c99_tree.specs.declared.unit.Unit.{Unit as CUnit}
use Rattle.c99_tree.specs.Evaluation.{Met, done}
use Rattle.c99_tree.specs.Step.{Called, Progress, step}
use Rattle.c99_tree.specs.Run.{first_statics, Ran, Stopped, row_at, with_step, stepped, run_to, calls_of}
use Rattle.c99_tree.specs.Typed.{IsCallOf, IsRow, IsStepOf}
use Rattle.c99_tree.specs.WellFormed.{IsWellFormed}
use Rattle.c99_tree.proofs.Runs.{next_step}
use Rattle.c99_tree.proofs.TypedRuns.{step_is}
use Rattle.c_exec.specs.Machine.{Answers, Kept, called_of, outcome, statics_of}
use Rattle.sm_io.specs.Written.{WritesText}
use Rattle.extern_rows.specs.declared.event.Piece.{Piece}
use Rattle.extern_rows.specs.declared.header.Leaf.{Leaf}
use Rattle.extern_rows.specs.Leaves.{leaf_columns, scalars_of}
use Rattle.extern_rows.proofs.LeafNames.{scalars-columns}
use Rattle.row_sessions.specs.Stepping.{IsStep, Output, output}
use Rattle.row_sessions.specs.declared.ending.Stop.TheVariants.{Failed, Fault}
use Rattle.c_runner.specs.Read.{read_type, read_types}
use Rattle.c_runner.specs.Executed.{calls_at, last_step, line_of_call, shown, step_lines, unit_columns}
use Rattle.c_runner.specs.Lines.{Executes}
use Rattle.c_runner.proofs.ReadRows.{row_read}
use Rattle.c_runner.proofs.RowsSoFar.{same_run}

-- ---- the columns' scalars

scalars-append : (xs ys : List Leaf) → scalars_of (xs ++ ys) ≡ scalars_of xs ++ scalars_of ys
scalars-append [] ys = refl
scalars-append (x ∷ xs) ys = ap (λ (r : List Scalar). x.scalar ∷ r) (scalars-append xs ys)

columns_scalars : (types : List TypeEntry) (ty : CVar → Ty) (xs : List CVar)
    → scalars_of (flat_map (λ (x : CVar). leaf_columns types x.name (ty x)) xs) ≡ flat_map (λ (x : CVar). leaves types (ty x)) xs
columns_scalars types ty [] = refl
columns_scalars types ty (x ∷ xs) =
    let columns : CVar → List Leaf = λ y. leaf_columns types y.name (ty y) in
    let scalars : CVar → List Scalar = λ y. leaves types (ty y) in
    ap scalars_of (flat_map-cons columns x xs)
    ∙ scalars-append (columns x) (flat_map columns xs)
    ∙ ap (λ (ss : List Scalar). ss ++ scalars_of (flat_map columns xs)) (scalars-columns types x.name (ty x))
    ∙ ap (λ (ss : List Scalar). leaves types (ty x) ++ ss) (columns_scalars types ty xs)
    ∙ sym (flat_map-cons scalars x xs)

pub row_fits : (u : CUnit) → IsWellFormed u → (row : List ℕ) → AreWords (scalars_of (unit_columns u)) row → IsRow u row
row_fits u w row h =
    row_read u w.types_first row
    (subst (λ (ss : List Scalar). AreWords ss row) (columns_scalars (read_types u.types) (λ (x : CVar). read_type u.types x.ty) u.externs) h)

-- ---- lists

take_front : {X : Type 0} (xs ys : List X) → take (length xs) (xs ++ ys) ≡ xs
take_front [] ys = refl
take_front (x ∷ xs) ys = ap (λ r. x ∷ r) (take_front xs ys)

get_last : {X : Type 0} (xs : List X) (x : X) (n : ℕ) → length xs ≡ n → slice_get (xs ++ x ∷ []) n ≡ Some x
get_last [] x zero h = refl
get_last [] x (suc n) h = absurd (omega (arith, h))
get_last (y ∷ xs) x zero h = absurd (omega (arith, h))
get_last (y ∷ xs) x (suc n) h = get_last xs x n (omega (arith, h))

-- ---- a run has as many steps as rows

with_long : (n : ℕ) (before : List (List Called)) (r : Result Progress Undefined) (ran : Ran) → length before ≡ n → with_step n before r ≡ Ok ran
    → length ran.called ≡ suc n
with_long n before (Err e) ran l h = absurd (cc h)
with_long n before (Ok p) ran l h =
    let same : record { statics = p.statics; called = before ++ p.called ∷ [] } ≡ ran = cc h in
    let long = length-append before (p.called ∷ []) in
    let own : length (before ++ p.called ∷ []) ≡ suc n = omega (arith, l, long) in
    subst (λ (r : Ran). length r.called ≡ suc n) same own

stepped_long : (u : CUnit) (row : List ℕ) (n : ℕ) (r : Result Ran Stopped) (ran : Ran) → ((before : Ran) → r ≡ Ok before → length before.called ≡ n)
    → stepped u row n r ≡ Ok ran → length ran.called ≡ suc n
stepped_long u row n (Err stop) ran ih h = absurd (cc h)
stepped_long u row n (Ok before) ran ih h = with_long n before.called (step u before.statics row).value ran (ih before refl) h

first_long : (first ran : Ran) (r : Result Ran Stopped) → length first.called ≡ 0 → r ≡ Ok first → r ≡ Ok ran → length ran.called ≡ 0
first_long first ran r l e h = let same : first ≡ ran = cc (e, h) in subst (λ (x : Ran). length x.called ≡ 0) same l

run_long : (u : CUnit) (rows : List (List ℕ)) (n : ℕ) (ran : Ran) → run_to u rows n ≡ Ok ran → length ran.called ≡ n
unfolding run_to
run_long u rows zero ran h = first_long (record { statics = first_statics u; called = [] }) ran (run_to u rows zero) refl refl h
run_long u rows (suc n) ran h = stepped_long u (row_at rows n) n (run_to u rows n) ran (run_long u rows n) h

-- ---- what a call answers

pub answered_ok : (o : Result Progress Undefined) (old new : Kept) (d : Unit {0}) → Answers o old new (Ok d)
    → (p : Progress) × (o ≡ Ok p) × (new.unit ≡ old.unit) × (statics_of new ≡ p.statics) × (called_of new ≡ p.called) × (new.met ≡ None)
answered_ok (Ok p) old new d h = (p, refl, h.1, h.2, h.3, h.4)
answered_ok (Err e) old new d h = absurd (cc h.0)

pub answered_err : (o : Result Progress Undefined) (old new : Kept) (why : Undefined) → Answers o old new (Err why) → o ≡ Err why
answered_err (Ok p) old new why h = absurd (cc h.0)
answered_err (Err e) old new why h = let same : e ≡ why = cc h.0 in ap (λ (z : Undefined). Err z) same

-- ---- the step

module _ (u : CUnit) (m : Kept) (shapes : List (List Piece)) (time : ℕ) (rows : List (List ℕ)) (st : Executes u m shapes time rows)
    (row : List ℕ) (fits : AreWords (scalars_of (unit_columns u)) row) where
  pub row_is : IsRow m.unit row
  row_is = subst (λ (v : CUnit). IsRow v row) (sym st.unit_is) (row_fits u st.well_formed row fits)

  abbrev longer : List (List ℕ)
  longer = rows ++ row ∷ []

  long : length longer ≡ length rows + 1
  long = let l = length-append rows (row ∷ []) in omega (arith, l)

  before : run_to u longer (length rows) ≡ Ok st.ran
  before =
      sym (same_run u longer (length rows) (length rows) (omega arith))
      ∙ ap (λ (h : List (List ℕ)). run_to u h (length rows)) (take_front rows (row ∷ []))
      ∙ st.run_is

  row_last : row_at longer (length rows) ≡ row
  row_last = ap (λ (o : Option (List ℕ)). option_map_or (λ r. r) o []) (get_last rows row (length rows) refl)

  stepping : outcome m row ≡ step u st.ran.statics row
  stepping =
      (λ j. option_map_or (λ (e : Undefined). done (Err e)) (st.met_nothing j) (step (st.unit_is j) (st.statics_are j) row))

  run_is : (o : Result Progress Undefined) → (outcome m row).value ≡ o → run_to u longer (length rows + 1) ≡ with_step (length rows) st.ran.called o
  run_is o is =
      next_step u longer (length rows) st.ran before
      ∙ ap (λ (r : List ℕ). with_step (length rows) st.ran.called (step u st.ran.statics r).value) row_last
      ∙ ap (λ (k : Met Progress). with_step (length rows) st.ran.called k.value) (sym stepping)
      ∙ ap (with_step (length rows) st.ran.called) is

  last : (o : Result Progress Undefined) → (outcome m row).value ≡ o
      → last_step u longer ≡ shown u (length rows) (calls_at (length rows) (calls_of (with_step (length rows) st.ran.called o)))
  last o is =
      let n : length longer - 1 ≡ length rows = omega (arith, long) in
      ap (step_lines u longer) n ∙ ap (λ (r : Result Ran Stopped). shown u (length rows) (calls_at (length rows) (calls_of r))) (run_is o is)

  pub fault : (why : Undefined) → (outcome m row).value ≡ Err why → last_step u longer ≡ Err why
  fault why is = last (Err why) is

  pub went : (p : Progress) → (outcome m row).value ≡ Ok p → last_step u longer ≡ Ok (flat_map (line_of_call u time) p.called)
  went p is =
      let there = get_last st.ran.called p.called (length rows) (run_long u rows (length rows) st.ran st.run_is) in
      last (Ok p) is
      ∙ ap (λ (o : Option (List Called)). shown u (length rows) (Ok (unwrap_or o []))) there
      ∙ ap (λ (n : ℕ). Ok (flat_map (line_of_call u n) p.called)) (sym st.time_is)

  step_typed : (p : Progress) → (outcome m row).value ≡ Ok p → IsStepOf u p
  step_typed p is =
      let own : (step u st.ran.statics row).value ≡ Ok p = ap (λ (k : Met Progress). k.value) (sym stepping) ∙ is in
      let h = step_is u st.ran.statics row (record { well_formed = st.well_formed; statics = st.typed; given = row_fits u st.well_formed row fits }) in
      ok_has (step u st.ran.statics row).value p own h
    where
      ok_has : (r : Result Progress Undefined) (q : Progress) → r ≡ Ok q → IfOk r (IsStepOf u) → IsStepOf u q
      ok_has (Ok x) q e g = let same : x ≡ q = cc e in subst (IsStepOf u) same g
      ok_has (Err x) q e g = absurd (cc e)

  pub calls_typed : (p : Progress) → (outcome m row).value ≡ Ok p → All (IsCallOf u) p.called
  calls_typed p is = (step_typed p is).1

  pub next : (p : Progress) (n : Kept) → (outcome m row).value ≡ Ok p → n.unit ≡ m.unit → statics_of n ≡ p.statics → n.met ≡ None
      → Executes u n shapes (time + 1) longer
  next p n is unit statics met = record {
    well_formed = st.well_formed;
    shapes_are = st.shapes_are;
    unit_is = unit ∙ st.unit_is;
    ran = record { statics = p.statics; called = st.ran.called ++ p.called ∷ [] };
    run_is = ap (run_to u longer) long ∙ run_is (Ok p) is;
    typed = (step_typed p is).0;
    statics_are = statics;
    met_nothing = met;
    time_is = omega (arith, long, st.time_is);
  }

-- ---- what the step's answer says

module _ (u : CUnit) (m : Kept) (shapes : List (List Piece)) (time : ℕ) (rows : List (List ℕ)) (st : Executes u m shapes time rows)
    (row : List ℕ) (fits : AreWords (scalars_of (unit_columns u)) row) (new : Kept) where
  abbrev after_rows : List (List ℕ)
  after_rows = rows ++ row ∷ []

  -- something undefined ends the session, and nothing was written
  pub fault_ends : (out : Output) (why : Undefined) → Answers (outcome m row).value m new (Err why) → IsStep (last_step u after_rows) out out (Err (Fault why))
  fault_ends out why h =
      let is = answered_err (outcome m row).value m new why h in
      subst (λ (r : Result (List ℕ) Undefined). IsStep r out out (Err (Fault why))) (sym (fault u m shapes time rows st row fits why is))
      (refl, record { same = refl; steady = refl })

  pub calls_fit : (d : Unit {0}) → Answers (outcome m row).value m new (Ok d) → All (IsCallOf u) (called_of new)
  calls_fit d h =
      let a = answered_ok (outcome m row).value m new d h in
      subst (λ (calls : List Called). All (IsCallOf u) calls) (sym a.4) (calls_typed u m shapes time rows st row fits a.0 a.1)

  lines_are : (d : Unit {0}) → Answers (outcome m row).value m new (Ok d) → last_step u after_rows ≡ Ok (flat_map (line_of_call u time) (called_of new))
  lines_are d h =
      let a = answered_ok (outcome m row).value m new d h in
      went u m shapes time rows st row fits a.0 a.1 ∙ ap (λ (calls : List Called). Ok (flat_map (line_of_call u time) calls)) (sym a.4)

  -- the lines were written, or their first bytes
  pub all_written : (d : Unit {0}) (calls : List Called) → Answers (outcome m row).value m new (Ok d) → calls ≡ called_of new
      → {k k' : Option (List ℕ)} {f f' : ℕ}
      → WritesText k k' f f' true (flat_map (line_of_call u time) calls) → IsStep (last_step u after_rows) (output k f) (output k' f') (Ok tt)
  all_written d calls h same {k} {k'} {f} {f'} w =
      let text : List Called → List ℕ = flat_map (line_of_call u time) in
      let t = subst (λ (cs : List Called). WritesText k k' f f' true (text cs)) same w in
      subst (λ (r : Result (List ℕ) Undefined). IsStep r (output k f) (output k' f') (Ok tt)) (sym (lines_are d h)) (record { all = t.all; steady = t.steady })

  pub part_written : (d : Unit {0}) (calls : List Called) → Answers (outcome m row).value m new (Ok d) → calls ≡ called_of new
      → {k k' : Option (List ℕ)} {f f' : ℕ}
      → WritesText k k' f f' false (flat_map (line_of_call u time) calls) → IsStep (last_step u after_rows) (output k f) (output k' f') (Err Failed)
  part_written d calls h same {k} {k'} {f} {f'} w =
      let text : List Called → List ℕ = flat_map (line_of_call u time) in
      let t = subst (λ (cs : List Called). WritesText k k' f f' false (text cs)) same w in
      subst (λ (r : Result (List ℕ) Undefined). IsStep r (output k f) (output k' f') (Err Failed)) (sym (lines_are d h))
      (record { count = t.front.0; part = t.front.1; failed = (t.later, t.failed) })

  pub next_stands : (d : Unit {0}) → Answers (outcome m row).value m new (Ok d) → Executes u new shapes (time + 1) after_rows
  next_stands d h =
      let a = answered_ok (outcome m row).value m new d h in
      next u m shapes time rows st row fits a.0 new a.1 a.2 a.3 a.5
