use Rattle.std.proofs.Common.{List, ℕ, [], ◌∷◌, ◌++◌, ◌+◌, ◌-◌, ◌%◌, ap, ◌∙◌}
use Rattle.std.specs.List.{range_with_len}
use Rattle.demo.proofs.Ranged.{range_taken}
use Rattle.demo.proofs.build.first_values.Goals as goal

pub loop-n-preserved : goal.loop-n-preserved
loop-n-preserved c =
    let n = c.loop-n.n in
    let end = c.args.i + c.args.i % 8 + 1 in
    let more : List ℕ → List ℕ = λ xs. xs ++ range_with_len (n + 1) (end - (n + 1)) in
    ap more (c.in_ok-push.ensures.items ∙ ap (λ x. c.loop-n.words.items ++ x ∷ []) c.from.ensures) ∙ range_taken c.loop-n.words.items n end c.loop-n-test.true ∙ c.loop-n.invariant
