use Rattle.std.proofs.Common.{◌≡◌, ◌+◌, ◌<◌, ◌≤◌, ◌∷◌, length, drop, get_or, sym, ap, ◌∙◌, arith}
use Rattle.std.proofs.lemmas.List.{drop_all, drop_more}
use Rattle.stream_interp.specs.Roots.{observers_words}
use Rattle.stream_interp.proofs.ReadyRoots.{observer_stands}
use Rattle.stream_interp.proofs.buffers.event_words.Goals as goal

pub with_words-requires : goal.with_words-requires
with_words-requires c =
    let s = c.args.spec.now in
    let e = c.observers-observer-items.ensures in
    let i = c.loop-observer.observer-index in
    let x = c.observer-item.result in
    observer_stands s c.requires c.observers-observer-items.result.now e i x c.observer-item.is c.loop-observer-test.true

pub loop-observer-preserved : goal.loop-observer-preserved
loop-observer-preserved c =
    let s = c.args.spec.now in
    let e = c.observers-observer-items.ensures in
    let i = c.loop-observer.observer-index in
    let x = c.observer-item.result in
    let is : x ≡ get_or s.observers i x = c.observer-item.is ∙ ap (λ ys. get_or ys i x) e in
    let less : i < length s.observers = omega (arith, ap length e, c.loop-observer-test.true) in
    let more = ap (observers_words s.types) (drop_more s.observers i x less ∙ ap (λ y. y ∷ drop (i + 1) s.observers) (sym is)) in
    omega (arith, more, c.in_ok-total.ensures, c.loop-observer.invariant)

pub returns : goal.returns
returns c =
    let s = c.args.spec.now in
    let over : length s.observers ≤ c.loop-observer.observer-index = omega (arith, ap length c.observers-observer-items.ensures, c.loop-observer-test.false) in
    let z = ap (observers_words s.types) (drop_all c.loop-observer.observer-index s.observers over) in
    omega (arith, z, c.loop-observer.invariant)
