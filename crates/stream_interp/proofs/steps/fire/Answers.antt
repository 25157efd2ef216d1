use Rattle.std.proofs.Common.{◌≡◌, ◌+◌, ◌<◌, ◌≤◌, ◌∷◌, length, drop, get_or, refl, sym, ap, ◌∙◌, subst, arith}
use Rattle.std.specs.Prelude.{All}
use Rattle.std.proofs.lemmas.List.{drop_more, drop_all}
use Rattle.std.proofs.lemmas.Result.{err_from_is_err_and}
use Rattle.stream_core.specs.declared.spec.TriggerItem.{TriggerItem}
use Rattle.stream_core.specs.Weights.{triggers_weight}
use Rattle.stream_interp.specs.Roots.{IsReadyTrigger}
use Rattle.stream_interp.specs.Seen.{now_moment}
use Rattle.stream_interp.proofs.EventsSoFar.{fired_all, fired_few, fired_first, fired_used, item_err, item_few, item_next, item_used}
use Rattle.stream_interp.proofs.ReadItems.{item_of}
use Rattle.stream_interp.proofs.steps.fire.Goals as goal

pub loop-i-init : goal.loop-i-init
loop-i-init g c =
    let s = c.args.sight.now.spec.now in
    let m = now_moment s c.args.sight.now.rings.now c.args.sight.now.row.now in
    record { so_far = fired_first m s s.triggers c.args.log.now.events; words = refl; marks = refl; steps = omega arith }

pub fire_one-requires-clause-ready : goal.fire_one-requires-clause-ready
fire_one-requires-clause-ready g c =
    let s = c.args.sight.now.spec.now in
    let m = now_moment s c.args.sight.now.rings.now c.args.sight.now.row.now in
    let i = c.loop-i.i in
    let x = c.trigger-item.result in
    let is : x ≡ get_or s.triggers i x = c.trigger-item.is ∙ ap (λ ys. get_or ys i x) c.triggers-trigger-items.ensures in
    let less : i < length s.triggers = omega (arith, ap length c.triggers-trigger-items.ensures, c.loop-i-test.true) in
    let l = c.loop-i.invariant in
    subst (λ n. IsReadyTrigger s n x) (sym c.loop-i.auto.scratch) (item_of (IsReadyTrigger s (length c.args.scratch.now)) s.triggers i x c.requires.ready.triggers is less)

pub fire_one-requires-clause-words : goal.fire_one-requires-clause-words
fire_one-requires-clause-words g c =
    let s = c.args.sight.now.spec.now in
    let m = now_moment s c.args.sight.now.rings.now c.args.sight.now.row.now in
    let i = c.loop-i.i in
    let x = c.trigger-item.result in
    let is : x ≡ get_or s.triggers i x = c.trigger-item.is ∙ ap (λ ys. get_or ys i x) c.triggers-trigger-items.ensures in
    let less : i < length s.triggers = omega (arith, ap length c.triggers-trigger-items.ensures, c.loop-i-test.true) in
    let l = c.loop-i.invariant in
    let u = item_used m s s.triggers i c.args.log.now.events c.loop-i.log.events l.so_far x is less in
    omega (arith, u, l.words, c.requires.words)

pub fire_one-requires-clause-mark : goal.fire_one-requires-clause-mark
fire_one-requires-clause-mark g c =
    let s = c.args.sight.now.spec.now in
    let m = now_moment s c.args.sight.now.rings.now c.args.sight.now.row.now in
    let i = c.loop-i.i in
    let x = c.trigger-item.result in
    let is : x ≡ get_or s.triggers i x = c.trigger-item.is ∙ ap (λ ys. get_or ys i x) c.triggers-trigger-items.ensures in
    let less : i < length s.triggers = omega (arith, ap length c.triggers-trigger-items.ensures, c.loop-i-test.true) in
    let l = c.loop-i.invariant in
    let u = item_few m s s.triggers i c.args.log.now.events c.loop-i.log.events l.so_far x is less in
    omega (arith, u, l.marks, c.requires.marks)

pub loop-i-preserved : goal.loop-i-preserved
loop-i-preserved g c =
    let s = c.args.sight.now.spec.now in
    let m = now_moment s c.args.sight.now.rings.now c.args.sight.now.row.now in
    let i = c.loop-i.i in
    let x = c.trigger-item.result in
    let is : x ≡ get_or s.triggers i x = c.trigger-item.is ∙ ap (λ ys. get_or ys i x) c.triggers-trigger-items.ensures in
    let less : i < length s.triggers = omega (arith, ap length c.triggers-trigger-items.ensures, c.loop-i-test.true) in
    let l = c.loop-i.invariant in
    let more = ap (triggers_weight s) (drop_more s.triggers i x less ∙ ap (λ y. y ∷ drop (i + 1) s.triggers) (sym is)) in
    let e = c.in_ok-fire_one.ensures in
    record {
      so_far = item_next m s s.triggers i c.args.log.now.events c.loop-i.log.events l.so_far x is less _ e.value e.used e.one;
      words = e.room.0 ∙ l.words;
      marks = e.room.1 ∙ l.marks;
      steps = omega (arith, more, e.steps, l.steps);
    }

pub returns-in_err-fire_one-clause-value : goal.returns-in_err-fire_one-clause-value
returns-in_err-fire_one-clause-value g c =
    let s = c.args.sight.now.spec.now in
    let m = now_moment s c.args.sight.now.rings.now c.args.sight.now.row.now in
    let i = c.loop-i.i in
    let x = c.trigger-item.result in
    let is : x ≡ get_or s.triggers i x = c.trigger-item.is ∙ ap (λ ys. get_or ys i x) c.triggers-trigger-items.ensures in
    let less : i < length s.triggers = omega (arith, ap length c.triggers-trigger-items.ensures, c.loop-i-test.true) in
    let l = c.loop-i.invariant in
    let p = err_from_is_err_and c.from_residual.result c.from_residual.ensures.1 in
    rw p.1 (rw p.2 (item_err m s s.triggers i c.args.log.now.events c.loop-i.log.events l.so_far x is less c.in_err-fire_one.field-0.0 c.in_err-fire_one.ensures.value))

pub returns-clause-value : goal.returns-clause-value
returns-clause-value g c =
    let s = c.args.sight.now.spec.now in
    let m = now_moment s c.args.sight.now.rings.now c.args.sight.now.row.now in
    let over : length s.triggers ≤ c.loop-i.i = omega (arith, ap length c.triggers-trigger-items.ensures, c.loop-i-test.false) in
    fired_all m s s.triggers c.loop-i.i c.args.log.now.events c.loop-i.log.events c.loop-i.invariant.so_far over

pub returns-clause-used : goal.returns-clause-used
returns-clause-used g c =
    let s = c.args.sight.now.spec.now in
    let m = now_moment s c.args.sight.now.rings.now c.args.sight.now.row.now in
    let over : length s.triggers ≤ c.loop-i.i = omega (arith, ap length c.triggers-trigger-items.ensures, c.loop-i-test.false) in
    fired_used m s s.triggers c.loop-i.i c.args.log.now.events c.loop-i.log.events c.loop-i.invariant.so_far over

pub returns-clause-few : goal.returns-clause-few
returns-clause-few g c =
    let s = c.args.sight.now.spec.now in
    let m = now_moment s c.args.sight.now.rings.now c.args.sight.now.row.now in
    let over : length s.triggers ≤ c.loop-i.i = omega (arith, ap length c.triggers-trigger-items.ensures, c.loop-i-test.false) in
    fired_few m s s.triggers c.loop-i.i c.args.log.now.events c.loop-i.log.events c.loop-i.invariant.so_far over

pub returns-in_err-fire_one-clause-room : goal.returns-in_err-fire_one-clause-room
returns-in_err-fire_one-clause-room g c = let l = c.loop-i.invariant in let e = c.in_err-fire_one.ensures in (e.room.0 ∙ l.words, e.room.1 ∙ l.marks)

pub returns-in_err-fire_one-clause-steps : goal.returns-in_err-fire_one-clause-steps
returns-in_err-fire_one-clause-steps g c =
    let s = c.args.sight.now.spec.now in
    let i = c.loop-i.i in
    let x = c.trigger-item.result in
    let is : x ≡ get_or s.triggers i x = c.trigger-item.is ∙ ap (λ ys. get_or ys i x) c.triggers-trigger-items.ensures in
    let less : i < length s.triggers = omega (arith, ap length c.triggers-trigger-items.ensures, c.loop-i-test.true) in
    let more = ap (triggers_weight s) (drop_more s.triggers i x less ∙ ap (λ y. y ∷ drop (i + 1) s.triggers) (sym is)) in
    omega (arith, more, c.in_err-fire_one.ensures.steps, c.loop-i.invariant.steps)

pub returns-clause-room : goal.returns-clause-room
returns-clause-room g c = (c.loop-i.invariant.words, c.loop-i.invariant.marks)

pub returns-clause-steps : goal.returns-clause-steps
returns-clause-steps g c = let l = c.loop-i.invariant in omega (arith, l.steps)
