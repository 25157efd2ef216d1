use Rattle.c99_tree.proofs.Refused.{all_refused, kept}
use Rattle.c99_tree.proofs.rows.each_rule_refuses.Goals as goal

pub returns : goal.returns
returns c = record { kept = kept; refused = all_refused }
