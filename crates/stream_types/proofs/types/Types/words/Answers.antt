use Rattle.std.proofs.Common.{sym, ◌∙◌}
use Rattle.stream_types.proofs.Widths.{words-entry}
use Rattle.stream_types.proofs.LeafWords.{length-leaves}
use Rattle.stream_types.proofs.types.Types.words.Goals as goal

pub returns-clause-by_entry : goal.returns-clause-by_entry
returns-clause-by_entry c = c.extent.ensures.words ∙ words-entry c.args.self.now c.args.ty c.extent.ensures.list c.requires

pub returns-clause-scalars : goal.returns-clause-scalars
returns-clause-scalars c = c.extent.ensures.words ∙ sym (length-leaves c.args.self.now c.args.ty)
