use Rattle.std.proofs.Common.{◌≡◌, ◌+◌, suc, drop, length, Some, refl, ◌∙◌, sym, ap, arith}
use Rattle.std.specs.Prelude.{slice_get}
use Rattle.std.proofs.lemmas.Option.{slice_get_read}
use Rattle.recursion_check.specs.Loads.{root_of, roots_of, triggers_of, with_load, with_loads}
use Rattle.recursion_check.proofs.ListElements.{drop_get}
use Rattle.recursion_check.proofs.Tallied.{loads_append}
use Rattle.recursion_check.proofs.roots.with_triggers.Goals as goal

pub loop-x-preserved : goal.loop-x-preserved
loop-x-preserved c =
    let s = c.args.spec.now in
    let xs = c.args.triggers.now in
    let i = c.loop-x.x-index in
    let x = c.x-item.result in
    let e : slice_get xs i ≡ Some x = slice_get_read xs (length xs) i x refl c.loop-x-test.true c.x-item.is in
    let tally = c.loop-x.tally in
    let next : i + 1 ≡ suc i = omega arith in
    let own = c.with_roots-tally.ensures ∙ ap (λ rs. with_loads c.with_root-tally.result (roots_of s rs)) c.as_slice.ensures ∙ ap (λ t. with_loads t (roots_of s x.args)) c.with_root-tally.ensures in
    ap (λ n. with_loads c.with_roots-tally.result (triggers_of s (drop n xs))) next
    ∙ ap (λ t. with_loads t (triggers_of s (drop (suc i) xs))) own
    ∙ loads_append (with_load tally (root_of s x.guard)) (roots_of s x.args) (triggers_of s (drop (suc i) xs))
    ∙ sym (ap (λ ys. with_loads tally (triggers_of s ys)) (drop_get i xs x e))
    ∙ c.loop-x.invariant
