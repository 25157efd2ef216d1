use Rattle.std.proofs.Common.{◌∙◌, ap, sym, length}
use Rattle.stream_core.specs.Term.{bin}
use Rattle.stream_lib.specs.Built.{tree_at}
use Rattle.stream_lib.proofs.WindowSamples.{window_best, window_length}
use Rattle.stream_lib.proofs.windows.best.Goals as goal

pub best_of-requires-clause-last : goal.best_of-requires-clause-last
best_of-requires-clause-last c =
    let is = c.in_ok-samples.ensures.made.are in
    let first = tree_at c.args.spec.now c.args.first in
    window_length c.window.new.spec c.in_ok-samples.samples.items first c.args.b c.at_least_one-m.result c.saturating_sub-older.result is ∙ ap length (sym c.as_slice.ensures.value)

pub returns-clause-made : goal.returns-clause-made
returns-clause-made c =
    window_best (bin c.args.op c.args.s) c.args.spec.now c.window.new.spec c.best_of.new.spec c.in_ok-samples.samples.items c.as_slice.result.now (tree_at c.args.spec.now c.args.first) c.args.b c.at_least_one-m.result c.saturating_sub-older.result c.args.n c.in_ok-id.id c.as_slice.ensures.value c.saturating_sub-older.ensures c.at_least_one-m.ensures c.in_ok-samples.ensures.made c.in_ok-id.ensures.made
