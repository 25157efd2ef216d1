use Rattle.std.proofs.Common.{sym, ◌∙◌}
use Rattle.spec_forest.specs.Scan.{is_break}
use Rattle.spec_forest.proofs.Holding.{some-position, no-position}
use Rattle.spec_forest.proofs.scan.comment_len.Goals as goal

pub returns-in-Some : goal.returns-in-Some
returns-in-Some c = some-position is_break c.args.text.now c.in-Some.end (sym c.first_break.ensures ∙ c.in-Some.is)

pub returns-in-None : goal.returns-in-None
returns-in-None c = no-position is_break c.args.text.now (sym c.first_break.ensures ∙ c.in-None.is)
