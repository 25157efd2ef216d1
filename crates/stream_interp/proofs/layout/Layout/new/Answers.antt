use Rattle.std.proofs.Common.{◌≡◌, ◌+◌, ◌<◌, ◌++◌, ◌∷◌, [], length, drop, get_or, sym, ap, ◌∙◌, subst, arith}
use Rattle.std.proofs.lemmas.List.{append_assoc, drop_more}
use Rattle.stream_types.specs.TypeList.{Stands}
use Rattle.stream_types.specs.Types.{words}
use Rattle.stream_core.specs.declared.spec.ExternItem.{ExternItem}
use Rattle.stream_interp.specs.Reading.{extern_firsts}
use Rattle.stream_interp.proofs.layout.Layout.new.Goals as goal

pub words-requires : goal.words-requires
words-requires c =
    let s = c.args.spec.now in
    let xs = c.externs-x-items.result.now in
    let is = c.externs-x-items.ensures in
    let here = subst (λ ys. Stands s.types (get_or ys c.loop-x.x-index c.x-item.result).ty) (sym is) (c.requires.typed.externs c.loop-x.x-index c.x-item.result (omega (arith, ap length is))) in
    subst (λ types. Stands types c.x-item.result.ty) (sym c.types.ensures) (subst (λ (y : ExternItem). Stands s.types y.ty) (sym c.x-item.is) here)

pub loop-x-preserved : goal.loop-x-preserved
loop-x-preserved c =
    let s = c.args.spec.now in
    let xs = s.externs in
    let i = c.loop-x.x-index in
    let x = c.x-item.result in
    let at = c.loop-x.at in
    let firsts = c.loop-x.firsts.items in
    let is = c.externs-x-items.ensures in
    let read : x ≡ get_or xs i x = c.x-item.is ∙ ap (λ ys. get_or ys i x) is in
    let less : i < length xs = omega (arith, ap length is, c.loop-x-test.true) in
    let more : drop i xs ≡ x ∷ drop (i + 1) xs = drop_more xs i x less ∙ ap (λ y. y ∷ drop (i + 1) xs) (sym read) in
    let next : c.in_ok-at.at ≡ at + words s.types x.ty = c.in_ok-at.ensures ∙ ap (λ n. at + n) (c.words.ensures.value ∙ ap (λ types. words types x.ty) c.types.ensures) in
    ap (λ ys. ys ++ extern_firsts s.types c.in_ok-at.at (drop (i + 1) xs)) c.in_ok-push.ensures.items
    ∙ ap (λ n. (firsts ++ at ∷ []) ++ extern_firsts s.types n (drop (i + 1) xs)) next
    ∙ append_assoc firsts (at ∷ []) (extern_firsts s.types (at + words s.types x.ty) (drop (i + 1) xs))
    ∙ ap (λ ys. firsts ++ extern_firsts s.types at ys) (sym more)
    ∙ c.loop-x.invariant
