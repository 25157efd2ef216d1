use Rattle.std.proofs.Common.{None, subst}
use Rattle.stream_core.specs.Value.{SpecValue}
use Rattle.stream_core.specs.Meaning.{IsFirstFault}
use Rattle.interpreter.proofs.FewColumns.{columns_few, scalars-are}
use Rattle.interpreter.proofs.externs.columns_fit_rows.Goals as goal

pub returns-clause-few : goal.returns-clause-few
returns-clause-few c = columns_few c.args.sound.now (subst (λ (s : SpecValue). IsFirstFault s None) c.spec.ensures.spec c.spec.ensures.sound)

pub returns-clause-scalars : goal.returns-clause-scalars
returns-clause-scalars c = scalars-are c.args.sound.now
