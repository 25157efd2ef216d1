use Rattle.std.proofs.Common.{◌≡◌, ◌+◌, ◌≤◌, [], Ok, Err, sym, ap, ◌∙◌, subst, arith}
use Rattle.std.specs.Vec.{with_items}
use Rattle.std.proofs.lemmas.List.{with_items_is}
use Rattle.std.proofs.lemmas.Result.{err_from_is_err_and}
use Rattle.stream_core.specs.Eval.{fired}
use Rattle.stream_interp.specs.Roots.{closed_triggers, or_hazard, rows_in, then_events}
use Rattle.stream_interp.specs.Seen.{now_moment}
use Rattle.stream_interp.proofs.FoundSteps.{found_if, not_fired, not_observed, not_valued_if}
use Rattle.stream_interp.proofs.ReadyRoots.{roots_weigh}
use Rattle.stream_interp.proofs.steps.find.Goals as goal

pub returns-in_err-fire-clause-err : goal.returns-in_err-fire-clause-err
returns-in_err-fire-clause-err g c =
    let s = c.args.sight.now.spec.now in
    let m = now_moment s c.args.sight.now.rings.now c.args.sight.now.row.now in
    let none = c.requires.seen.plain.no_forms in
    let p = err_from_is_err_and c.from_residual.result c.from_residual.ensures.1 in
    let z = c.in_err-fire.field-0.0 in
    let e : then_events [] (fired m 0 (closed_triggers s s.triggers)) ≡ Err z = ap (λ es. then_events es (fired m 0 (closed_triggers s s.triggers))) (sym c.requires.blank) ∙ c.in_err-fire.ensures.value in
    rw p.1 (rw p.2 (not_fired s m none z e))

pub returns-in_err-fire-clause-steps : goal.returns-in_err-fire-clause-steps
returns-in_err-fire-clause-steps g c = let w = roots_weigh c.args.sight.now.spec.now in omega (arith, w, c.in_err-fire.ensures.steps)

pub returns-in_err-observe-clause-err : goal.returns-in_err-observe-clause-err
returns-in_err-observe-clause-err g c =
    let s = c.args.sight.now.spec.now in
    let m = now_moment s c.args.sight.now.rings.now c.args.sight.now.row.now in
    let none = c.requires.seen.plain.no_forms in
    let fires : then_events [] (fired m 0 (closed_triggers s s.triggers)) ≡ Ok c.fire.new.log.events = ap (λ es. then_events es (fired m 0 (closed_triggers s s.triggers))) (sym c.requires.blank) ∙ c.in_ok-fire.ensures.value in
    let p = err_from_is_err_and c.from_residual-in_err-observe.result c.from_residual-in_err-observe.ensures.1 in
    rw p.1 (rw p.2 (not_observed s m none c.fire.new.log.events fires c.in_err-observe.field-0.0 c.in_err-observe.ensures.value))

pub returns-in_err-observe-clause-steps : goal.returns-in_err-observe-clause-steps
returns-in_err-observe-clause-steps g c = let w = roots_weigh c.args.sight.now.spec.now in omega (arith, w, c.in_ok-fire.ensures.steps, c.in_err-observe.ensures.steps)

pub returns-clause-value : goal.returns-clause-value
returns-clause-value g c =
    let s = c.args.sight.now.spec.now in
    let m = now_moment s c.args.sight.now.rings.now c.args.sight.now.row.now in
    let none = c.requires.seen.plain.no_forms in
    let fires : then_events [] (fired m 0 (closed_triggers s s.triggers)) ≡ Ok c.fire.new.log.events = ap (λ es. then_events es (fired m 0 (closed_triggers s s.triggers))) (sym c.requires.blank) ∙ c.in_ok-fire.ensures.value in
    let work = c.args.work.now in
    let items : (with_items work.rows c.next_rows.new.rows).items ≡ c.next_rows.new.rows = with_items_is work.rows c.next_rows.new.rows (c.next_rows.auto.rows ∙ c.deref_mut-3.ensures.len) in
    found_if s m none c.fire.new.log.events fires c.observe.new.log.events c.in_ok-observe.ensures.value c.next_rows.result (rows_in s.types s.streams (with_items work.rows c.next_rows.new.rows).items)
    (c.next_rows.ensures.value ∙ ap (λ ws. or_hazard c.next_rows.result (rows_in s.types s.streams ws)) (sym items))

pub returns-clause-err : goal.returns-clause-err
returns-clause-err g c =
    let s = c.args.sight.now.spec.now in
    let m = now_moment s c.args.sight.now.rings.now c.args.sight.now.row.now in
    let none = c.requires.seen.plain.no_forms in
    let fires : then_events [] (fired m 0 (closed_triggers s s.triggers)) ≡ Ok c.fire.new.log.events = ap (λ es. then_events es (fired m 0 (closed_triggers s s.triggers))) (sym c.requires.blank) ∙ c.in_ok-fire.ensures.value in
    not_valued_if s m none c.fire.new.log.events fires c.observe.new.log.events c.in_ok-observe.ensures.value c.next_rows.result (rows_in s.types s.streams c.next_rows.new.rows) c.next_rows.ensures.value

pub returns-clause-steps : goal.returns-clause-steps
returns-clause-steps g c = let w = roots_weigh c.args.sight.now.spec.now in omega (arith, w, c.in_ok-fire.ensures.steps, c.in_ok-observe.ensures.steps, c.next_rows.ensures.steps)
