use Rattle.std.proofs.Common.{◌∷◌, ◌-◌, max, refl, ap, ◌∙◌, arith}
use Rattle.stream_core.specs.Lower.{agos}
use Rattle.stream_lib.specs.Built.{idle, joined, tree_at}
use Rattle.stream_lib.proofs.AddedParts.{joined_part}
use Rattle.stream_lib.proofs.PlacedTrees.{makes_as, makes_over}
use Rattle.stream_lib.proofs.Operands.{bounded_past}
use Rattle.stream_lib.proofs.forms.bounded.Goals as goal

pub returns-clause-made : goal.returns-clause-made
returns-clause-made c =
    let all = c.args.all in
    let low = c.args.low in
    let n = c.in_ok-now.ensures.made in
    let now = idle all (tree_at c.args.spec.now c.args.p) in
    let f = joined all (now ∷ agos c.args.b (max c.args.high 1) low (c.args.high - (low - 1))) in
    makes_as _ _ _ _ _ (bounded_past all low c.args.high c.args.b (tree_at c.args.spec.now c.args.p) (omega (arith, c.if-low-eq0.false)))
    (makes_over _ _ _ _ _ _ _ f n c.in_ok-id.ensures.made
    (ap (λ x. joined all (x ∷ agos c.args.b (max c.args.high 1) low c.saturating_sub.result)) n.is ∙ ap (λ k. joined all (now ∷ agos c.args.b (max c.args.high 1) low k)) c.saturating_sub.ensures)
    (joined_part all (now ∷ agos c.args.b (max c.args.high 1) low (c.args.high - (low - 1))) 0 now refl))
