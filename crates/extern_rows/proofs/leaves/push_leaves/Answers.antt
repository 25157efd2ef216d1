use Rattle.extern_rows.proofs.LeafNames.{scalars-columns}
use Rattle.extern_rows.proofs.leaves.push_leaves.Goals as goal

pub returns-clause-scalars : goal.returns-clause-scalars
returns-clause-scalars c = scalars-columns c.args.types.now c.args.name.now c.args.ty

pub returns-in_err-path-clause-scalars : goal.returns-in_err-path-clause-scalars
returns-in_err-path-clause-scalars c = scalars-columns c.args.types.now c.args.name.now c.args.ty
