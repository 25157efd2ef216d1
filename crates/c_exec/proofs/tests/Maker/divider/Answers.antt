use Rattle.c99_tree.specs.declared.types.CScalar.TheVariants as scalars
use Rattle.c99_tree.specs.declared.unit.Unit.{Unit as CUnit}
use Rattle.c_exec.proofs.TestRows.{one_row}
use Rattle.c_exec.proofs.tests.Maker.divider.Goals as goal

pub returns : goal.returns
returns g c = λ w h.
    let u : CUnit = record c.unit-unit.result { externs = c.one.result; handlers = c.one-3.result; step = c.two.result } in
    one_row u c.scalar.result scalars.I32 w c.unit-unit.ensures.types c.one.ensures c.scalar.ensures h
