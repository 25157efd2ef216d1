-- A step is made of the triggers' events, the observers' events and the streams' next values.
use Rattle.std.proofs.Common.{◌≡◌, ℕ, List, [], ◌∷◌, ◌++◌, map, Result, Ok, Err, OnOk, IfErr, refl, sym, ap, ◌∙◌}
use Rattle.stream_types.specs.declared.scalar.Hazard.{Hazard}
use Rattle.stream_core.specs.Value.{SpecValue}
use Rattle.stream_core.specs.Library.{bind}
use Rattle.stream_core.specs.Eval.{Moment, Line, Event, StepValues, values, fired, observed, lines, step_at, events_of}
use Rattle.stream_core.specs.Meaning.{closed_spec}
use Rattle.stream_interp.specs.Roots.{closed_triggers, closed_observers, closed_exprs, or_hazard, then_events}
use Rattle.stream_interp.proofs.ClosedForms.{triggers_are, observers_are, exprs_are}
use Rattle.stream_interp.proofs.EventsSoFar.{then_ok, then_err}

module _ (s : SpecValue) (m : Moment) (none : s.libs ≡ []) where
  abbrev F : Result (List Event) Hazard
  F = fired m 0 (closed_triggers s s.triggers)

  abbrev O : Result (List Event) Hazard
  O = observed m 0 (closed_observers s s.observers)

  abbrev V : Result (List (List ℕ)) Hazard
  V = values m (closed_exprs s s.streams)

  abbrev after : Result (List Event) Hazard → Result (List Event) Hazard → Result (List (List ℕ)) Hazard → Result StepValues Hazard
  after a b c = bind a (λ ts. bind b (λ os. bind c (λ ns. Ok (record { triggered = ts; observed = os; nexts = ns }))))

  abbrev lines_values : Result (List (List ℕ)) Hazard
  lines_values = values m (map (λ (l : Line). l.expr) (lines (closed_spec s)))

  step_is : step_at (closed_spec s) m ≡ after F O V
  step_is =
      ap (λ xs. after (fired m 0 xs) (observed m 0 (closed_spec s).observers) lines_values) (triggers_are s)
      ∙ ap (λ xs. after F (observed m 0 xs) lines_values) (observers_are s)
      ∙ ap (λ es. after F O (values m es)) (exprs_are s none)

  pub not_fired : (z : Hazard) → then_events [] F ≡ Err z → step_at (closed_spec s) m ≡ Err z
  not_fired z e = step_is ∙ ap (λ (r : Result (List Event) Hazard). after r O V) (then_err [] F z e)

  module _ (ts : List Event) (fires : then_events [] F ≡ Ok ts) where
    abbrev own : (es : List Event) × (F ≡ Ok es) × ([] ++ es ≡ ts)
    own = then_ok [] F ts fires

    after_fired : step_at (closed_spec s) m ≡ after (Ok own.0) O V
    after_fired = step_is ∙ ap (λ (r : Result (List Event) Hazard). after r O V) own.1

    pub not_observed : (z : Hazard) → then_events ts O ≡ Err z → step_at (closed_spec s) m ≡ Err z
    not_observed z e = after_fired ∙ ap (λ (r : Result (List Event) Hazard). after (Ok own.0) r V) (then_err ts O z e)

    module _ (both : List Event) (shows : then_events ts O ≡ Ok both) where
      abbrev others : (es : List Event) × (O ≡ Ok es) × (ts ++ es ≡ both)
      others = then_ok ts O both shows

      after_observed : step_at (closed_spec s) m ≡ after (Ok own.0) (Ok others.0) V
      after_observed = after_fired ∙ ap (λ (r : Result (List Event) Hazard). after (Ok own.0) r V) others.1

      pub not_valued : (z : Hazard) → V ≡ Err z → step_at (closed_spec s) m ≡ Err z
      not_valued z e = after_observed ∙ ap (after (Ok own.0) (Ok others.0)) e

      pub found : (rows : List (List ℕ)) → V ≡ Ok rows → (v : StepValues) × (step_at (closed_spec s) m ≡ Ok v) × (both ≡ events_of v) × (rows ≡ v.nexts)
      found rows e = (
        record { triggered = own.0; observed = others.0; nexts = rows },
        after_observed ∙ ap (after (Ok own.0) (Ok others.0)) e,
        sym others.2 ∙ ap (λ (es : List Event). es ++ others.0) (sym own.2),
        refl,
      )

      -- by what the last call returns
      pub found_if : {T : Type 0} (r : Result T Hazard) (rows : List (List ℕ)) → V ≡ or_hazard r rows → OnOk r ((v : StepValues) × (step_at (closed_spec s) m ≡ Ok v) × (both ≡ events_of v) × (rows ≡ v.nexts))
      found_if (Ok t) rows e = found rows e
      found_if (Err z) rows e = tt

      pub not_valued_if : {T : Type 0} (r : Result T Hazard) (rows : List (List ℕ)) → V ≡ or_hazard r rows → IfErr r (λ z. step_at (closed_spec s) m ≡ Err z)
      not_valued_if (Ok t) rows e = tt
      not_valued_if (Err z) rows e = not_valued z e
