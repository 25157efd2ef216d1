use Rattle.std.proofs.Common.{sym, ◌∙◌, Global}
use Rattle.std.specs.String.{string_bytes}
use Rattle.std.proofs.lemmas.List.{length-map}
use Rattle.tool_top.proofs.Words.{not_three}
use Rattle.tool_top.proofs.command.ogma_command.Goals as goal

pub returns-then-words-ne3-clause-value : goal.returns-then-words-ne3-clause-value
returns-then-words-ne3-clause-value c = not_three _ (λ three. c.if-words-ne3.true (sym (length-map c.args.words.now (string_bytes {Z = Global})) ∙ three))
