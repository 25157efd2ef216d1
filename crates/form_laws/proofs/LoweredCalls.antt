-- A lowered specification has the handlers of the specification, and over the histories without hazard its calls.
use Rattle.std.proofs.Common.{◌≡◌, ℕ, zero, suc, ◌<◌, ◌≤◌, List, [], ◌∷◌, ◌++◌, length, map, refl, sym, ap, ◌∙◌, subst, arith}
use Rattle.std.specs.Prelude.{slice_get, nat_eq, if◌then◌else◌, IsOk, ◌↔◌}
use Rattle.std.specs.List.{list_any, position_or_len}
use Rattle.std.specs.Cmp.Lexicographic.{pointwise}
use Rattle.stream_core.specs.Value.{SpecValue}
use Rattle.stream_core.specs.Term.{Term, TreeSpec, TreeTrigger, trees, root_with, defs_of}
use Rattle.stream_core.specs.Soundness.{HasNoCycle}
use Rattle.stream_core.specs.WellTyped.{WellTyped}
use Rattle.stream_core.specs.Eval.{Who, trigger, observer, Event, Clean, log, step_events}
use Rattle.stream_core.specs.Handlers.{handlers_after, handlers, trigger_name, handler_of, call_of, calls_of, calls}
use Rattle.stream_core.specs.Meaning.{IsHistory, closed_spec}
use Rattle.stream_core.specs.KeptLimits.{plain_form}
use Rattle.stream_core.specs.Lower.{lowered_spec}
use Rattle.form_laws.specs.Kept.{lowered_in}
use Rattle.form_laws.proofs.OutOfSpecs.{commutes, map_alike}
use Rattle.form_laws.proofs.LoweredMeaning.{plain_step_same, plain_log_same}

module _ (f : Term → Term) where
  abbrev changed : TreeTrigger → TreeTrigger
  changed x = record x { guard = root_with f x.guard; args = map (root_with f) x.args }

  handlers_stay : (seen : List (List ℕ)) (xs : List TreeTrigger) → handlers_after seen (map changed xs) ≡ handlers_after seen xs
  handlers_stay seen [] = refl
  handlers_stay seen (x ∷ xs) = handlers_stay (if list_any (pointwise nat_eq x.name) seen then seen else seen ++ x.name ∷ []) xs

  name_stays : (xs : List TreeTrigger) (i : ℕ) → trigger_name (slice_get (map changed xs) i) ≡ trigger_name (slice_get xs i)
  name_stays [] i = refl
  name_stays (x ∷ xs) zero = refl
  name_stays (x ∷ xs) (suc i) = name_stays xs i

module _ (s : TreeSpec) where
  lowered_handlers : handlers (lowered_spec s) ≡ handlers s
  lowered_handlers = handlers_stay (lowered_in s) [] s.triggers

  handler_same : (i : ℕ) → handler_of (lowered_spec s) i ≡ handler_of s i
  handler_same i =
      ap (λ name. position_or_len (pointwise nat_eq name) (handlers (lowered_spec s))) (name_stays (lowered_in s) s.triggers i)
      ∙ ap (position_or_len (pointwise nat_eq (trigger_name (slice_get s.triggers i)))) lowered_handlers

  call_same : (who : Who) (words : List ℕ) → call_of (lowered_spec s) who words ≡ call_of s who words
  call_same (trigger i) words = ap (λ k. record { handler = k; words = words } ∷ []) (handler_same i)
  call_same (observer i) words = refl

  lowered_calls : (es : List Event) → calls_of (lowered_spec s) es ≡ calls_of s es
  lowered_calls [] = refl
  lowered_calls (e ∷ es) = ap (λ cs. cs ++ calls_of (lowered_spec s) es) (call_same e.who e.words) ∙ ap (λ cs. call_of s e.who e.words ++ cs) (lowered_calls es)

pub plain_handlers : (s : SpecValue) → handlers (plain_form (trees s)) ≡ handlers (closed_spec s)
plain_handlers s = ap handlers (sym (commutes (trees s))) ∙ lowered_handlers (closed_spec s)

module _ (s : SpecValue) (w : WellTyped s) (none : HasNoCycle (defs_of s)) (h : List (List ℕ)) (history : IsHistory s h) where
  abbrev plain : TreeSpec
  plain = plain_form (trees s)

  pub plain_calls : (n : ℕ) → n ≤ length h → calls plain h n ≡ calls (closed_spec s) h n
  plain_calls n b =
      ap (map (calls_of plain)) (plain_log_same s w none h history n b)
      ∙ ap (λ p. map (calls_of p) (log (closed_spec s) h n)) (sym (commutes (trees s)))
      ∙ map_alike (calls_of (lowered_spec (closed_spec s))) (calls_of (closed_spec s)) (log (closed_spec s) h n) (lowered_calls (closed_spec s))

  ok_same : (n : ℕ) → n ≤ length h → (t : ℕ) → t < n → step_events plain h t ≡ step_events (closed_spec s) h t
  ok_same n b t less = plain_step_same s w none h history t (omega (arith, b, less))

  pub plain_clean : (n : ℕ) → Clean plain h n ↔ Clean (closed_spec s) h n
  plain_clean n = (
    λ c. record { within = c.within; ok = λ t less. subst IsOk (ok_same n c.within t less) (c.ok t less) },
    λ c. record { within = c.within; ok = λ t less. subst IsOk (sym (ok_same n c.within t less)) (c.ok t less) },
  )
