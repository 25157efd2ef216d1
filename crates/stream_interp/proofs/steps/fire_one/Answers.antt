use Rattle.std.proofs.Common.{◌≡◌, ◌+◌, ◌++◌, ◌∷◌, [], ◌<◌, length, Ok, Err, sym, ap, ◌∙◌, subst, arith}
use Rattle.std.specs.Prelude.{All}
use Rattle.std.proofs.lemmas.Result.{err_from_is_err_and, on_ok_weaker}
use Rattle.stream_types.specs.declared.scalar.Scalar.TheVariants as scalar
use Rattle.stream_core.specs.Eval.{concat_values, trigger}
use Rattle.stream_core.specs.Library.{bind}
use Rattle.stream_core.specs.Weights.{roots_weight}
use Rattle.stream_interp.specs.Reading.{NodeHasType}
use Rattle.stream_interp.specs.Roots.{IsReadyRoot, closed_roots, roots_words}
use Rattle.stream_interp.specs.Seen.{now_moment}
use Rattle.stream_interp.proofs.EventsSoFar.{called, refused_guard, silent}
use Rattle.stream_interp.proofs.steps.fire_one.Goals as goal

pub word-requires-clause-scalar : goal.word-requires-clause-scalar
word-requires-clause-scalar g c =
    let s = c.args.sight.now.spec.now in
    let r = c.requires.ready in
    (scalar.Bool, subst (NodeHasType s c.args.trigger.now.guard.expr) r.truth r.guard.0.typed)

pub word-requires-clause-there : goal.word-requires-clause-there
word-requires-clause-there g c = c.requires.ready.guard.0.there

pub word-requires-clause-plain : goal.word-requires-clause-plain
word-requires-clause-plain g c = c.requires.ready.guard.0.plain

pub word-requires-clause-room : goal.word-requires-clause-room
word-requires-clause-room g c = c.requires.ready.guard.0.enough

pub returns-in_err-guard-clause-value : goal.returns-in_err-guard-clause-value
returns-in_err-guard-clause-value g c =
    let s = c.args.sight.now.spec.now in
    let m = now_moment s c.args.sight.now.rings.now c.args.sight.now.row.now in
    let p = err_from_is_err_and c.from_residual.result c.from_residual.ensures.1 in
    rw p.1 (rw p.2 (refused_guard m s c.args.number c.args.trigger.now c.args.log.now.events c.in_err-guard.field-0.0 c.in_err-guard.ensures.value))

pub returns-then-guard-eq0-clause-value : goal.returns-then-guard-eq0-clause-value
returns-then-guard-eq0-clause-value g c =
    let s = c.args.sight.now.spec.now in
    let m = now_moment s c.args.sight.now.rings.now c.args.sight.now.row.now in
    silent m s c.args.number c.args.trigger.now c.args.log.now.events c.in_ok-guard.guard c.in_ok-guard.ensures.value (omega arith)

pub add-requires-clause-ready : goal.add-requires-clause-ready
add-requires-clause-ready g c =
    let s = c.args.sight.now.spec.now in
    let same : length c.word.new.scratch ≡ length c.args.scratch.now = omega arith in
    subst (λ n. All (IsReadyRoot s n) c.as_slice.result.now) (sym same) (subst (All (IsReadyRoot s (length c.args.scratch.now))) (sym c.as_slice.ensures) c.requires.ready.args)

pub add-requires-clause-words : goal.add-requires-clause-words
add-requires-clause-words g c =
    let w = ap (roots_words c.args.sight.now.spec.now.types) c.as_slice.ensures in
    omega (arith, w, c.requires.words)

pub returns-clause-value : goal.returns-clause-value
returns-clause-value g c =
    let s = c.args.sight.now.spec.now in
    let m = now_moment s c.args.sight.now.rings.now c.args.sight.now.row.now in
    let old = c.args.log.now.events in
    called m s c.args.number c.args.trigger.now old c.in_ok-guard.guard c.in_ok-guard.ensures.value (omega arith)
    ∙ ap (λ rs. bind (concat_values m (closed_roots s rs)) (λ ws. Ok (old ++ record { who = trigger c.args.number; words = ws } ∷ []))) (sym c.as_slice.ensures)
    ∙ c.add.ensures.value

pub returns-clause-steps : goal.returns-clause-steps
returns-clause-steps g c =
    let w = ap (roots_weight c.args.sight.now.spec.now) c.as_slice.ensures in
    omega (arith, w, c.in_ok-guard.ensures.steps, c.add.ensures.steps)
