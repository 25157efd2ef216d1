use Rattle.spec_text.specs.Form.{form_of_const}
use Rattle.sm_print.proofs.Printing.{Prints-is, parted-none, parted-more, parted-all}
use Rattle.spec_print.proofs.Items.{separated-texts}
use Rattle.spec_print.proofs.constants.constants.Goals as goal

pub loop-value-init : goal.loop-value-init
loop-value-init g c = parted-none

pub loop-value-preserved : goal.loop-value-preserved
loop-value-preserved g c = parted-more c.loop-value-test.true c.value-item.is c.loop-value.invariant c.put.ensures c.constant.ensures

pub returns : goal.returns
returns g c = Prints-is (separated-texts form_of_const c.args.all.now) (parted-all c.loop-value-test.false c.loop-value.invariant)
