use Rattle.form_laws.proofs.VoteWords.{agreed_kept}
use Rattle.form_laws.proofs.votes.agreed_is_kept.Goals as goal

pub returns : goal.returns
returns c = agreed_kept
