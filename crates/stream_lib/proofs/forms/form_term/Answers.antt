use Rattle.stream_lib.proofs.PlacedTrees.{makes_as}
use Rattle.stream_lib.proofs.Operands.{two_operands}
use Rattle.stream_lib.proofs.forms.form_term.Goals as goal

pub returns-in_ok-id-in-len2-up-clause-made : goal.returns-in_ok-id-in-len2-up-clause-made
returns-in_ok-id-in-len2-up-clause-made c = makes_as _ _ _ _ _ (two_operands c.args.spec.now c.args.form c.args.b c.args.ps.now c.p-item-2.result c.q-item.result c.in-len2-up.len_at_least c.p-item-2.is c.q-item.is) c.in_ok-id-in-len2-up.ensures.made
