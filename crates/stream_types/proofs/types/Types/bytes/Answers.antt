use Rattle.std.proofs.Common.{sym, ◌∙◌}
use Rattle.stream_types.proofs.LeafWords.{size-leaves}
use Rattle.stream_types.proofs.types.Types.bytes.Goals as goal

pub returns-clause-scalars : goal.returns-clause-scalars
returns-clause-scalars c = c.extent.ensures.bytes ∙ sym (size-leaves c.args.self.now c.args.ty)
