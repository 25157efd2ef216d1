use Rattle.c99_tree.specs.Tree.{statement}
use Rattle.c99_tree.specs.Spelling.{statement_line}
use Rattle.sm_print.proofs.Printing.{◌⨾◌, Prints-is}
use Rattle.c99_print.proofs.Rings.{lines-map, lines-arrays}
use Rattle.c99_print.proofs.source.source_lines.Goals as goal

pub all_ring_lines-requires : goal.all_ring_lines-requires
all_ring_lines-requires g c = rw (c.as_slice-types.ensures, c.as_slice-2.ensures) c.requires.constants

pub returns : goal.returns
returns g c =
    let arrays = Prints-is (lines-arrays c.as_slice-types.result.now) c.pick_lines.ensures in
    let step = Prints-is (lines-map (statement_line c.args.unit.now) statement c.as_slice-3.result.now) c.statements.ensures in
    Prints-is (rw (c.as_slice-types.ensures, c.as_slice.ensures, c.as_slice-2.ensures, c.as_slice-3.ensures))
    (c.include_line.ensures ⨾ arrays ⨾ c.copy_lines.ensures ⨾ c.all_ring_lines.ensures ⨾ c.put.ensures ⨾ c.put-2.ensures ⨾ step ⨾ c.put-3.ensures)
