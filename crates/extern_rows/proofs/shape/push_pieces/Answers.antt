use Rattle.extern_rows.proofs.ValuePieces.{scalars-pieces}
use Rattle.extern_rows.proofs.shape.push_pieces.Goals as goal

pub returns-clause-scalars : goal.returns-clause-scalars
returns-clause-scalars c = scalars-pieces c.args.types.now c.args.ty
