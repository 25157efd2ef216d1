use Rattle.std.proofs.Common.{◌≡◌, ◌+◌, ◌≤◌, ◌++◌, ◌∷◌, [], length, sym, ap, ◌∙◌, subst, arith}
use Rattle.stream_types.specs.Types.{AreWords}
use Rattle.stream_core.specs.Eval.{row_leaves}
use Rattle.stream_core.specs.Meaning.{closed_spec, step, weight}
use Rattle.stream_interp.specs.Running.{value_of}
use Rattle.stream_interp.specs.Standing.{MonitorValue, StandsFor}
use Rattle.stream_interp.proofs.Stepping.{row_seen, rows_pushed, running_next, stands_next}
use Rattle.stream_interp.proofs.Taken.{refused}
use Rattle.stream_interp.proofs.WideRings.{rings_wide}
use Rattle.stream_interp.proofs.monitor.Monitor.step.Goals as goal

pub find-requires-clause-seen : goal.find-requires-clause-seen
find-requires-clause-seen g c =
    let s = c.self.inside.spec.now in
    let row = c.args.row.now in
    let same : s ≡ c.args.self.now.spec = ap (λ (v : MonitorValue). v.spec) c.self.view_is in
    let words = subst (λ t. AreWords (row_leaves (closed_spec t)) row) (sym same) c.requires.row in
    row_seen s c.self.inside.layout c.self.inside.rings c.self.inside.time c.self.inside.work c.self.invariant row words

pub push_rows-requires-clause-wide : goal.push_rows-requires-clause-wide
push_rows-requires-clause-wide g c =
    let s = c.self.inside.spec.now in
    let row = c.args.row.now in
    let same : s ≡ c.args.self.now.spec = ap (λ (v : MonitorValue). v.spec) c.self.view_is in
    let words = subst (λ t. AreWords (row_leaves (closed_spec t)) row) (sym same) c.requires.row in
    rings_wide s c.self.inside.rings row (row_seen s c.self.inside.layout c.self.inside.rings c.self.inside.time c.self.inside.work c.self.invariant row words)

pub invariant_of-self : goal.invariant_of-self
invariant_of-self g c =
    let s = c.self.inside.spec.now in
    let row = c.args.row.now in
    let same : s ≡ c.args.self.now.spec = ap (λ (v : MonitorValue). v.spec) c.self.view_is in
    let words = subst (λ t. AreWords (row_leaves (closed_spec t)) row) (sym same) c.requires.row in
    let v = c.in-Ok.ensures.value in
    let work = c.find.new.work in
    let pushed = rows_pushed s c.self.inside.rings c.push_rows.new.rings c.deref.result.now work.rows.items v.0.nexts c.push_rows.ensures c.deref.ensures.value v.3 in
    running_next s c.self.inside.layout c.self.inside.rings c.self.inside.time c.self.inside.work c.self.invariant row words v.0 v.1 c.push_rows.new.rings c.saturating_add-self-inside.result work pushed c.saturating_add-self-inside.ensures v.2 c.in-Ok.ensures.fits

pub returns-in-Ok-clause-ok : goal.returns-in-Ok-clause-ok
returns-in-Ok-clause-ok g c = λ h stands.
    let s = c.self.inside.spec.now in
    let row = c.args.row.now in
    let same : s ≡ c.args.self.now.spec = ap (λ (v : MonitorValue). v.spec) c.self.view_is in
    let words = subst (λ t. AreWords (row_leaves (closed_spec t)) row) (sym same) c.requires.row in
    let v = c.in-Ok.ensures.value in
    let work = c.find.new.work in
    let pushed = rows_pushed s c.self.inside.rings c.push_rows.new.rings c.deref.result.now work.rows.items v.0.nexts c.push_rows.ensures c.deref.ensures.value v.3 in
    let r = stands_next s c.self.inside.layout c.self.inside.rings c.self.inside.time c.self.inside.work c.self.invariant row words v.0 v.1 c.push_rows.new.rings c.saturating_add-self-inside.result work pushed c.saturating_add-self-inside.ensures v.2 h (subst (λ m. StandsFor m h) (sym c.self.view_is) stands) in
    (r.0, ap (λ t. step t (h ++ row ∷ []) (length h)) (sym same) ∙ r.1)

pub returns-in-Ok-clause-steps : goal.returns-in-Ok-clause-steps
returns-in-Ok-clause-steps g c =
    let s = c.self.inside.spec.now in
    let row = c.args.row.now in
    let same : s ≡ c.args.self.now.spec = ap (λ (v : MonitorValue). v.spec) c.self.view_is in
    omega (arith, ap weight same, c.in-Ok.ensures.steps)

pub returns-in-Err-clause-err : goal.returns-in-Err-clause-err
returns-in-Err-clause-err g c = λ h stands.
    let s = c.self.inside.spec.now in
    let row = c.args.row.now in
    let same : s ≡ c.args.self.now.spec = ap (λ (v : MonitorValue). v.spec) c.self.view_is in
    let z = c.in-Err.hazard in
    ap (λ t. step t (h ++ row ∷ []) (length h)) (sym same)
    ∙ refused (value_of s c.self.inside.rings c.self.inside.time c.self.inside.work) h row z (subst (λ m. StandsFor m h) (sym c.self.view_is) stands) c.in-Err.ensures.err

pub returns-in-Err-clause-steps : goal.returns-in-Err-clause-steps
returns-in-Err-clause-steps g c =
    let s = c.self.inside.spec.now in
    let row = c.args.row.now in
    let same : s ≡ c.args.self.now.spec = ap (λ (v : MonitorValue). v.spec) c.self.view_is in
    omega (arith, ap weight same, c.in-Err.ensures.steps)
