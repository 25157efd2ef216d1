use Rattle.std.proofs.Common.{◌≡◌, ◌+◌, ◌<◌, ◌≤◌, ◌∷◌, [], Ok, Err, length, drop, get_or, refl, sym, ap, ◌∙◌, subst, arith}
use Rattle.std.specs.Prelude.{All}
use Rattle.std.proofs.lemmas.List.{drop_more, drop_all}
use Rattle.std.proofs.lemmas.List.Elements.{All-from_recursion}
use Rattle.std.proofs.lemmas.Result.{err_from_is_err_and}
use Rattle.stream_core.specs.declared.spec.ObserverItem.{ObserverItem}
use Rattle.stream_core.specs.Weights.{observers_weight, roots_weight}
use Rattle.stream_interp.specs.EventLog.{used}
use Rattle.stream_interp.specs.Roots.{IsReadyRoot, roots_words}
use Rattle.stream_interp.specs.Seen.{now_moment}
use Rattle.stream_interp.proofs.EventsSoFar.{observed_all, observed_first, one_root, shown_err, shown_few, shown_next, shown_used}
use Rattle.stream_interp.proofs.ReadItems.{item_of}
use Rattle.stream_interp.proofs.steps.observe.Goals as goal

pub loop-i-init : goal.loop-i-init
loop-i-init g c =
    let s = c.args.sight.now.spec.now in
    let m = now_moment s c.args.sight.now.rings.now c.args.sight.now.row.now in
    record { so_far = observed_first m s s.observers c.args.log.now.events; words = refl; marks = refl; steps = omega arith }

pub add-requires-clause-ready : goal.add-requires-clause-ready
add-requires-clause-ready g c =
    let s = c.args.sight.now.spec.now in
    let m = now_moment s c.args.sight.now.rings.now c.args.sight.now.row.now in
    let i = c.loop-i.i in
    let x = c.observer-item.result in
    let is : x ≡ get_or s.observers i x = c.observer-item.is ∙ ap (λ ys. get_or ys i x) c.observers-observer-items.ensures in
    let less : i < length s.observers = omega (arith, ap length c.observers-observer-items.ensures, c.loop-i-test.true) in
    let l = c.loop-i.invariant in
    let r = subst (λ n. IsReadyRoot s n x.root) (sym c.loop-i.auto.scratch) (item_of (λ (y : ObserverItem). IsReadyRoot s (length c.args.scratch.now) y.root) s.observers i x c.requires.ready.observers is less) in
    subst (All (IsReadyRoot s (length c.loop-i.scratch))) (sym c.from_ref.ensures.value) (All-from_recursion (IsReadyRoot s (length c.loop-i.scratch)) (x.root ∷ []) (r, tt))

pub add-requires-clause-words : goal.add-requires-clause-words
add-requires-clause-words g c =
    let s = c.args.sight.now.spec.now in
    let m = now_moment s c.args.sight.now.rings.now c.args.sight.now.row.now in
    let i = c.loop-i.i in
    let x = c.observer-item.result in
    let is : x ≡ get_or s.observers i x = c.observer-item.is ∙ ap (λ ys. get_or ys i x) c.observers-observer-items.ensures in
    let less : i < length s.observers = omega (arith, ap length c.observers-observer-items.ensures, c.loop-i-test.true) in
    let l = c.loop-i.invariant in
    let u = shown_used m s s.observers i c.args.log.now.events c.loop-i.log.events l.so_far x is less in
    let w = ap (roots_words s.types) c.from_ref.ensures.value in
    omega (arith, u, w, l.words, c.requires.words)

pub add-requires-clause-mark : goal.add-requires-clause-mark
add-requires-clause-mark g c =
    let s = c.args.sight.now.spec.now in
    let m = now_moment s c.args.sight.now.rings.now c.args.sight.now.row.now in
    let i = c.loop-i.i in
    let x = c.observer-item.result in
    let is : x ≡ get_or s.observers i x = c.observer-item.is ∙ ap (λ ys. get_or ys i x) c.observers-observer-items.ensures in
    let less : i < length s.observers = omega (arith, ap length c.observers-observer-items.ensures, c.loop-i-test.true) in
    let l = c.loop-i.invariant in
    let u = shown_few m s s.observers i c.args.log.now.events c.loop-i.log.events l.so_far x is less in
    omega (arith, u, l.marks, c.requires.marks)

pub loop-i-preserved : goal.loop-i-preserved
loop-i-preserved g c =
    let s = c.args.sight.now.spec.now in
    let m = now_moment s c.args.sight.now.rings.now c.args.sight.now.row.now in
    let i = c.loop-i.i in
    let x = c.observer-item.result in
    let is : x ≡ get_or s.observers i x = c.observer-item.is ∙ ap (λ ys. get_or ys i x) c.observers-observer-items.ensures in
    let less : i < length s.observers = omega (arith, ap length c.observers-observer-items.ensures, c.loop-i-test.true) in
    let l = c.loop-i.invariant in
    let more = ap (observers_weight s) (drop_more s.observers i x less ∙ ap (λ y. y ∷ drop (i + 1) s.observers) (sym is)) in
    let e = c.in_ok-add.ensures in
    let one = c.from_ref.ensures.value in
    let before = c.loop-i.log.events in
    let value = one_root m s i before c.from_ref.result.now x.root (Ok c.add.new.self.events) one e.value in
    let words = e.used ∙ ap (λ rs. used before + roots_words s.types rs) one in
    let weighs = ap (roots_weight s) one in
    record {
      so_far = shown_next m s s.observers i c.args.log.now.events before l.so_far x is less c.add.new.self.events value words e.one;
      words = e.room.0 ∙ l.words;
      marks = e.room.1 ∙ l.marks;
      steps = omega (arith, more, weighs, e.steps, l.steps);
    }

pub returns-in_err-add-clause-value : goal.returns-in_err-add-clause-value
returns-in_err-add-clause-value g c =
    let s = c.args.sight.now.spec.now in
    let m = now_moment s c.args.sight.now.rings.now c.args.sight.now.row.now in
    let i = c.loop-i.i in
    let x = c.observer-item.result in
    let is : x ≡ get_or s.observers i x = c.observer-item.is ∙ ap (λ ys. get_or ys i x) c.observers-observer-items.ensures in
    let less : i < length s.observers = omega (arith, ap length c.observers-observer-items.ensures, c.loop-i-test.true) in
    let l = c.loop-i.invariant in
    let p = err_from_is_err_and c.from_residual.result c.from_residual.ensures.1 in
    let one = c.from_ref.ensures.value in
    let before = c.loop-i.log.events in
    let value = one_root m s i before c.from_ref.result.now x.root (Err c.in_err-add.field-0.0) one c.in_err-add.ensures.value in
    rw p.1 (rw p.2 (shown_err m s s.observers i c.args.log.now.events before l.so_far x is less c.in_err-add.field-0.0 value))

pub returns-clause-value : goal.returns-clause-value
returns-clause-value g c =
    let s = c.args.sight.now.spec.now in
    let m = now_moment s c.args.sight.now.rings.now c.args.sight.now.row.now in
    let over : length s.observers ≤ c.loop-i.i = omega (arith, ap length c.observers-observer-items.ensures, c.loop-i-test.false) in
    observed_all m s s.observers c.loop-i.i c.args.log.now.events c.loop-i.log.events c.loop-i.invariant.so_far over

pub returns-in_err-add-clause-room : goal.returns-in_err-add-clause-room
returns-in_err-add-clause-room g c = let l = c.loop-i.invariant in let e = c.in_err-add.ensures in (e.room.0 ∙ l.words, e.room.1 ∙ l.marks)

pub returns-in_err-add-clause-steps : goal.returns-in_err-add-clause-steps
returns-in_err-add-clause-steps g c =
    let s = c.args.sight.now.spec.now in
    let i = c.loop-i.i in
    let x = c.observer-item.result in
    let is : x ≡ get_or s.observers i x = c.observer-item.is ∙ ap (λ ys. get_or ys i x) c.observers-observer-items.ensures in
    let less : i < length s.observers = omega (arith, ap length c.observers-observer-items.ensures, c.loop-i-test.true) in
    let more = ap (observers_weight s) (drop_more s.observers i x less ∙ ap (λ y. y ∷ drop (i + 1) s.observers) (sym is)) in
    let weighs = ap (roots_weight s) c.from_ref.ensures.value in
    omega (arith, more, weighs, c.in_err-add.ensures.steps, c.loop-i.invariant.steps)

pub returns-clause-room : goal.returns-clause-room
returns-clause-room g c = (c.loop-i.invariant.words, c.loop-i.invariant.marks)

pub returns-clause-steps : goal.returns-clause-steps
returns-clause-steps g c = let l = c.loop-i.invariant in omega (arith, l.steps)
