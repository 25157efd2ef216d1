use Rattle.form_laws.proofs.VoteWords.{majority_kept}
use Rattle.form_laws.proofs.votes.majority_is_kept.Goals as goal

pub returns : goal.returns
returns c = majority_kept
