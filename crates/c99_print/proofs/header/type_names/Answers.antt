use Rattle.std.proofs.Common.{map, sym}
use Rattle.c99_tree.specs.Spelling.{type_text}
use Rattle.sm_print.proofs.Printing.{Prints-is, parted-none, parted-more, parted-all}
use Rattle.c99_print.proofs.Commas.{with_commas-separated}
use Rattle.c99_print.proofs.header.type_names.Goals as goal

pub loop-t-init : goal.loop-t-init
loop-t-init g c = parted-none

pub loop-t-preserved : goal.loop-t-preserved
loop-t-preserved g c = parted-more c.loop-t-test.true c.t-item.is c.loop-t.invariant c.put.ensures c.type_name.ensures

pub returns : goal.returns
returns g c = Prints-is (sym (with_commas-separated (map type_text c.args.types.now))) (parted-all c.loop-t-test.false c.loop-t.invariant)
