use Rattle.std.proofs.Common.{true, ap}
use Rattle.stream_core.specs.Term.{bin}
use Rattle.stream_lib.specs.Built.{joined, trees_at}
use Rattle.stream_lib.proofs.PlacedTrees.{makes_as}
use Rattle.stream_lib.proofs.WindowSamples.{better_makes}
use Rattle.stream_lib.proofs.windows.better.Goals as goal

pub returns-clause-made : goal.returns-clause-made
returns-clause-made c =
    let some = makes_as c.tests_of.new.spec c.joined.new.spec c.in_ok-passes.passes _ _ (ap (λ is. joined true (trees_at c.tests_of.new.spec is)) c.as_slice.ensures.value) c.in_ok-passes.ensures.made in
    better_makes (bin c.args.op c.args.s) c.args.spec.now c.tests_of.new.spec c.joined.new.spec c.put.new.spec c.args.samples.now c.in_ok-tests.tests.items c.args.i c.index-samples-i.result c.args.rest c.in_ok-passes.passes c.in_ok-id.id c.requires.there c.requires.within c.requires.rest c.index-samples-i.is c.in_ok-tests.ensures.made some c.in_ok-id.ensures.made
