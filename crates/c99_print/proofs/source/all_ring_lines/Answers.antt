use Rattle.std.specs.Prelude.{is_some}
use Rattle.c99_tree.specs.Values.{first_values}
use Rattle.c99_print.proofs.Rings.{all_at}
use Rattle.sm_print.proofs.Printing.{first-none, first-more, first-all}
use Rattle.c99_print.proofs.source.all_ring_lines.Goals as goal

pub loop-r-init : goal.loop-r-init
loop-r-init g c = first-none

pub loop-r-preserved : goal.loop-r-preserved
loop-r-preserved g c =
    first-more c.loop-r-test.true c.r-item.is c.loop-r.invariant c.ring_lines.ensures

pub returns : goal.returns
returns g c = first-all c.loop-r-test.false c.loop-r.invariant

pub ring_lines-requires : goal.ring_lines-requires
ring_lines-requires g c = all_at (λ r. is_some (first_values c.args.types.now r)) c.args.rings.now c.loop-r.r-index c.r-item.result c.requires c.loop-r-test.true c.r-item.is
