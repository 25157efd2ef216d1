use Rattle.std.proofs.Common.{ap, sym, ◌∙◌}
use Rattle.std.proofs.Math.Numerals.{add-one}
use Rattle.stream_core.specs.Meaning.{table}
use Rattle.stream_core.proofs.RingsOfTables.{rings_long, rings_next, rings_first}
use Rattle.stream_core.proofs.plain_values.rings_follow_tables.Goals as goal

pub returns-clause-length : goal.returns-clause-length
returns-clause-length c = λ s h n lists k w is. rings_long s w h n lists is k

pub returns-clause-first : goal.returns-clause-first
returns-clause-first c = rings_first

pub returns-clause-next : goal.returns-clause-next
returns-clause-next c = λ s h n lists nexts w none is e. rings_next s w h n lists is none nexts (sym (ap (table s h) (add-one n)) ∙ e)
