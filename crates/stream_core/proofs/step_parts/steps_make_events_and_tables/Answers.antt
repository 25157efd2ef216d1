use Rattle.std.proofs.Common.{◌≡◌, ap, sym, ◌∙◌, suc, ◌+◌, Ok}
use Rattle.std.proofs.Math.Numerals.{add-one}
use Rattle.stream_core.specs.Eval.{events_of, moment, step_at}
use Rattle.stream_core.specs.Meaning.{closed_spec, table}
use Rattle.stream_core.proofs.CleanSteps.{bind_first}
use Rattle.stream_core.proofs.PartsOfSteps.{events_apart, events_together, table_apart, table_together}
use Rattle.stream_core.proofs.step_parts.steps_make_events_and_tables.Goals as goal

pub returns-clause-events : goal.returns-clause-events
returns-clause-events c = λ s h t lists events is. (events_apart (closed_spec s) h t lists is events, λ p. events_together (closed_spec s) h t lists is events p.0 p.1 p.2)

pub returns-clause-next : goal.returns-clause-next
returns-clause-next c = λ s h t lists next is.
    let one : t + 1 ≡ suc t = add-one t in
    (λ e. table_apart (closed_spec s) h t lists is next (sym (ap (table s h) one) ∙ e), λ p. ap (table s h) one ∙ table_together (closed_spec s) h t lists is next p.0 p.1 p.2)

pub returns-clause-before : goal.returns-clause-before
returns-clause-before c = λ s h t ok. bind_first (table s h t) (λ lists. step_at (closed_spec s) (moment (closed_spec s) lists h t)) (bind_first _ (λ v. Ok (events_of v)) ok)
