use Rattle.std.proofs.Common.{◌≡◌, ◌+◌, ◌<◌, ◌≤◌, ◌∷◌, length, drop, get_or, sym, ap, ◌∙◌, subst, arith}
use Rattle.std.specs.Prelude.{All}
use Rattle.std.proofs.lemmas.List.{drop_all, drop_more}
use Rattle.stream_types.specs.TypeList.{Stands}
use Rattle.stream_core.specs.declared.spec.Root.{Root}
use Rattle.stream_interp.specs.Roots.{triggers_words, roots_words}
use Rattle.stream_interp.proofs.ReadyRoots.{trigger_stands}
use Rattle.stream_interp.proofs.buffers.trigger_words.Goals as goal

pub with_roots-requires : goal.with_roots-requires
with_roots-requires c =
    let s = c.args.spec.now in
    let e = c.triggers-trigger-items.ensures in
    let i = c.loop-trigger.trigger-index in
    let x = c.trigger-item.result in
    subst (All (λ (r : Root). Stands s.types r.ty)) (sym c.as_slice.ensures) (trigger_stands s c.requires c.triggers-trigger-items.result.now e i x c.trigger-item.is c.loop-trigger-test.true)

pub loop-trigger-preserved : goal.loop-trigger-preserved
loop-trigger-preserved c =
    let s = c.args.spec.now in
    let e = c.triggers-trigger-items.ensures in
    let i = c.loop-trigger.trigger-index in
    let x = c.trigger-item.result in
    let is : x ≡ get_or s.triggers i x = c.trigger-item.is ∙ ap (λ ys. get_or ys i x) e in
    let less : i < length s.triggers = omega (arith, ap length e, c.loop-trigger-test.true) in
    let more = ap (triggers_words s.types) (drop_more s.triggers i x less ∙ ap (λ y. y ∷ drop (i + 1) s.triggers) (sym is)) in
    let w = ap (roots_words s.types) c.as_slice.ensures in
    omega (arith, more, w, c.in_ok-total.ensures, c.loop-trigger.invariant)

pub returns : goal.returns
returns c =
    let s = c.args.spec.now in
    let over : length s.triggers ≤ c.loop-trigger.trigger-index = omega (arith, ap length c.triggers-trigger-items.ensures, c.loop-trigger-test.false) in
    let z = ap (triggers_words s.types) (drop_all c.loop-trigger.trigger-index s.triggers over) in
    omega (arith, z, c.loop-trigger.invariant)
