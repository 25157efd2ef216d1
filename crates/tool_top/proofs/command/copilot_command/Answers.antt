use Rattle.std.proofs.Common.{sym, ◌∙◌, Global}
use Rattle.std.specs.String.{string_bytes}
use Rattle.std.proofs.lemmas.List.{length-map}
use Rattle.tool_top.proofs.Words.{not_two_or_three}
use Rattle.tool_top.proofs.command.copilot_command.Goals as goal

pub returns-clause-value : goal.returns-clause-value
returns-clause-value c =
    not_two_or_three _ (λ two. c.if-words-eq2.false (sym (length-map c.args.words.now (string_bytes {Z = Global})) ∙ two))
    (λ three. c.if-words-eq3.false (sym (length-map c.args.words.now (string_bytes {Z = Global})) ∙ three))
