-- What a step of the machine does, by what its monitor's step answers.
use Rattle.std.proofs.Common.{◌≡◌, ℕ, ◌+◌, ◌-◌, ◌<◌, List, [], ◌∷◌, ◌++◌, length, Option, Result, Ok, Err, true, false, refl, sym, ap, ◌∙◌, subst, arith, length-append}
use Rattle.std.specs.List.{AllByRecursion, flat_map}
use Rattle.stream_types.specs.declared.scalar.Scalar.{Scalar}
use Rattle.stream_types.specs.declared.scalar.Hazard.{Hazard}
use Rattle.stream_types.specs.Types.{AreWords}
use Rattle.stream_core.specs.Value.{SpecValue}
use Rattle.stream_core.specs.Term.{TreeSpec, trees, without_defs}
use Rattle.stream_core.specs.Lower.{lowered_spec}
use Rattle.stream_core.specs.Eval.{Event, row_leaves, step_events}
use Rattle.stream_core.specs.EventWords.{AreWordsOf}
use Rattle.stream_core.specs.Meaning.{IsHistory, closed_spec, step, table}
use Rattle.stream_core.proofs.PartsOfSteps.{bind_apart, events_apart}
use Rattle.stream_core.proofs.Roots.{acyclic}
use Rattle.stream_core.proofs.TypedEvents.{event_words}
use Rattle.form_laws.proofs.LoweredMeaning.{plain_step_same}
use Rattle.form_laws.proofs.PlainForms.{each_append}
use Rattle.sm_io.specs.Written.{WritesText}
use Rattle.row_sessions.specs.Stepping.{IsStep, Output, output}
use Rattle.row_sessions.specs.declared.ending.Stop.TheVariants.{Failed, Fault}
use Rattle.stream_interp.specs.Standing.{MonitorValue, StandsFor}
use Rattle.interpreter.specs.Interpreted.{last_step, line_of_event, shown}
use Rattle.interpreter.specs.Lines.{Interprets, ShapesValue}

-- a row is one for what a specification is lowered to where it is one for the specification
same_leaves : (s p : SpecValue) → trees p ≡ lowered_spec (trees s) → row_leaves (closed_spec p) ≡ row_leaves (closed_spec s)
same_leaves s p is = ap (λ (t : TreeSpec). row_leaves (without_defs t)) is

module _ (s : SpecValue) (m : MonitorValue) (shapes : ShapesValue) (time : ℕ) (rows : List (List ℕ)) (st : Interprets s m shapes time rows)
    (row : List ℕ) (fits : AreWords (row_leaves (closed_spec s)) row) where
  pub row_fits : AreWords (row_leaves (closed_spec m.spec)) row
  row_fits = subst (λ (ss : List Scalar). AreWords ss row) (sym (same_leaves s m.spec st.monitored.lowered)) fits

  abbrev longer : List (List ℕ)
  longer = rows ++ row ∷ []

  history : IsHistory s longer
  history =
      each_append (AreWords (row_leaves (closed_spec s))) rows (row ∷ [])
      (subst (λ (ss : List Scalar). AllByRecursion (AreWords ss) rows) (same_leaves s m.spec st.monitored.lowered) st.stands.history)
      (fits, tt)

  low : length rows < length longer
  low = let l = length-append rows (row ∷ []) in omega (arith, l)

  same : step m.spec longer (length rows) ≡ step s longer (length rows)
  same =
      ap (λ (t : TreeSpec). step_events (without_defs t) longer (length rows)) st.monitored.lowered
      ∙ plain_step_same s st.monitored.typed st.monitored.sound.0 longer history (length rows) low

  last : last_step s longer ≡ shown (trees s) (length rows) (step s longer (length rows))
  last =
      let l = length-append rows (row ∷ []) in
      let n : length longer - 1 ≡ length rows = omega (arith, l) in
      ap (λ (k : ℕ). shown (trees s) k (step s longer k)) n

  pub hazard : (z : Hazard) → step m.spec longer (length rows) ≡ Err z → last_step s longer ≡ Err z
  hazard z is = last ∙ ap (shown (trees s) (length rows)) (sym same ∙ is)

  pub went : (events : List Event) → step m.spec longer (length rows) ≡ Ok events → last_step s longer ≡ Ok (flat_map (line_of_event (trees s) time) events)
  went events is =
      let lines : ℕ → Result (List ℕ) Hazard = λ n. Ok (flat_map (line_of_event (trees s) n) events) in
      last ∙ ap (shown (trees s) (length rows)) (sym same ∙ is) ∙ ap lines (sym st.time_is)

  pub worded : (events : List Event) → step m.spec longer (length rows) ≡ Ok events → AllByRecursion (λ (e : Event). AreWordsOf s e.who e.words) events
  worded events is =
      let own : step s longer (length rows) ≡ Ok events = sym same ∙ is in
      let first = bind_apart _ _ events own in
      let before = bind_apart (table s longer (length rows)) _ first.0 first.1 in
      let found = events_apart (closed_spec s) longer (length rows) before.0 before.1 events own in
      let w = st.monitored.typed in
      subst (AllByRecursion (λ (e : Event). AreWordsOf s e.who e.words)) (sym found.2)
      (event_words s w (acyclic s w st.monitored.sound.0) longer history (length rows) before.0 before.1 low found.0 found.1)

  pub next : (n : MonitorValue) → StandsFor n longer → n.spec ≡ m.spec → Interprets s n shapes (time + 1) longer
  next n stands is = record {
    monitored = record {
      typed = st.monitored.typed;
      sound = st.monitored.sound;
      lowered = ap trees is ∙ st.monitored.lowered;
      shapes_are = st.monitored.shapes_are;
    };
    stands = stands;
    time_is = let l = length-append rows (row ∷ []) in omega (arith, l, st.time_is);
  }

-- ---- what the step's answer says

module _ (s : SpecValue) (m : MonitorValue) (shapes : ShapesValue) (time : ℕ) (rows : List (List ℕ)) (st : Interprets s m shapes time rows)
    (row : List ℕ) (fits : AreWords (row_leaves (closed_spec s)) row) where
  abbrev after_rows : List (List ℕ)
  after_rows = rows ++ row ∷ []

  -- a hazard ends the session, and nothing was written
  pub hazard_ends : (out : Output) (z : Hazard) → step m.spec after_rows (length rows) ≡ Err z → IsStep (last_step s after_rows) out out (Err (Fault z))
  hazard_ends out z is = subst (λ (r : Result (List ℕ) Hazard). IsStep r out out (Err (Fault z))) (sym (hazard s m shapes time rows st row fits z is)) (refl, record { same = refl; steady = refl })

  pub words_fit : (events : List Event) → step m.spec after_rows (length rows) ≡ Ok events → AllByRecursion (λ (e : Event). AreWordsOf s e.who e.words) events
  words_fit events is = worded s m shapes time rows st row fits events is

  -- the lines were written, or their first bytes
  pub all_written : (events shown : List Event) → step m.spec after_rows (length rows) ≡ Ok events → shown ≡ events → {k k' : Option (List ℕ)} {f f' : ℕ}
      → WritesText k k' f f' true (flat_map (line_of_event (trees s) time) shown) → IsStep (last_step s after_rows) (output k f) (output k' f') (Ok tt)
  all_written events shown is same {k} {k'} {f} {f'} w =
      let text : List Event → List ℕ = flat_map (line_of_event (trees s) time) in
      let t = subst (λ (es : List Event). WritesText k k' f f' true (text es)) same w in
      subst (λ (r : Result (List ℕ) Hazard). IsStep r (output k f) (output k' f') (Ok tt)) (sym (went s m shapes time rows st row fits events is))
      (record { all = t.all; steady = t.steady })

  pub part_written : (events shown : List Event) → step m.spec after_rows (length rows) ≡ Ok events → shown ≡ events → {k k' : Option (List ℕ)} {f f' : ℕ}
      → WritesText k k' f f' false (flat_map (line_of_event (trees s) time) shown) → IsStep (last_step s after_rows) (output k f) (output k' f') (Err Failed)
  part_written events shown is same {k} {k'} {f} {f'} w =
      let text : List Event → List ℕ = flat_map (line_of_event (trees s) time) in
      let t = subst (λ (es : List Event). WritesText k k' f f' false (text es)) same w in
      subst (λ (r : Result (List ℕ) Hazard). IsStep r (output k f) (output k' f') (Err Failed)) (sym (went s m shapes time rows st row fits events is))
      (record { count = t.front.0; part = t.front.1; failed = (t.later, t.failed) })

  pub next_stands : (n : MonitorValue) → StandsFor n after_rows → n.spec ≡ m.spec → Interprets s n shapes (time + 1) after_rows
  next_stands n stands is = next s m shapes time rows st row fits n stands is
