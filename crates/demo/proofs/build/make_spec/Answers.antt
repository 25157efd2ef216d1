use Rattle.demo.proofs.Names.{good_names}
use Rattle.demo.proofs.Whole.{whole, trees_are, well_typed}
use Rattle.demo.proofs.build.make_spec.Goals as goal

pub returns-clause-trees : goal.returns-clause-trees
returns-clause-trees c =
    let w = whole c.args.streams c.loop-i-2.i c.loop-i-2.spec c.loop-i-2.invariant c.loop-i-2-test.false in
    trees_are c.args.streams c.loop-i-2.spec w

pub returns-clause-typed : goal.returns-clause-typed
returns-clause-typed c =
    let w = whole c.args.streams c.loop-i-2.i c.loop-i-2.spec c.loop-i-2.invariant c.loop-i-2-test.false in
    well_typed c.args.streams c.loop-i-2.spec w c.requires
    (good_names c.args.streams c.requires c.loop-i-2.spec (trees_are c.args.streams c.loop-i-2.spec w))
