use Rattle.std.proofs.Common.{◌∷◌, max, ap, ◌∙◌}
use Rattle.stream_core.specs.Lower.{agos}
use Rattle.stream_lib.specs.Built.{joined, tree_at, trees_at}
use Rattle.stream_lib.proofs.AddedParts.{adds_all_within, adds_as, joined_part}
use Rattle.stream_lib.proofs.PlacedTrees.{makes_after, makes_as}
use Rattle.stream_lib.proofs.forms.reach.Goals as goal

pub returns-clause-made : goal.returns-clause-made
returns-clause-made c =
    let s = c.args.spec.now in
    let all = c.in_ok-ids.ensures.made in
    let m = c.in_ok-id.ensures.made in
    let first = tree_at s c.args.first in
    let es = first ∷ agos c.args.b c.at_least_one-m.result c.args.from c.args.n in
    let f = joined c.args.all (first ∷ agos c.args.b (max c.args.high 1) c.args.from c.args.n) in
    let same = ap (λ k. joined c.args.all (first ∷ agos c.args.b k c.args.from c.args.n)) c.at_least_one-m.ensures in
    let r = ap (λ is. joined c.args.all (trees_at c.window.new.spec is)) c.as_slice.ensures.value ∙ ap (joined c.args.all) all.are ∙ same in
    let parts = adds_as _ _ (joined c.args.all es) f same (adds_all_within _ _ es (joined c.args.all es) all.adds (joined_part c.args.all es)) in
    makes_after _ _ _ _ f all.grows parts (makes_as _ _ _ _ f r m)
