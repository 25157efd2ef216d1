use Rattle.std.proofs.Common.{codes}
use Rattle.c99_tree.specs.Values.{first_values}
use Rattle.sm_print.proofs.Printing.{◌⨾◌, Prints-is, Prints-line}
use Rattle.c99_print.proofs.Rings.{some_of, single-is}
use Rattle.c99_print.proofs.source.single_ring.Goals as goal

pub returns : goal.returns
returns g c =
    let v = some_of (first_values c.args.types.now c.args.r.now) c.requires.first in
    Prints-is (rw (c.bytes.ensures.bytes) (single-is c.args.types.now c.args.r.now v.0 v.1 c.requires.single))
    (Prints-line (codes ";") (c.put.ensures ⨾ c.type_name.ensures ⨾ c.put-2.ensures ⨾ c.put-3.ensures ⨾ c.put-4.ensures ⨾ (c.first_values.ensures v.0 v.1)) c.put-5.ensures)
