use Rattle.c_runner.proofs.Few.{few_columns}
use Rattle.c_runner.proofs.externs.columns_are_few.Goals as goal

pub returns : goal.returns
returns c = few_columns c.args.unit.now c.requires
