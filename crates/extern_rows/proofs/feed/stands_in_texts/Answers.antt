use Rattle.extern_rows.proofs.FeedStanding.{stands_in_texts, cuts_anywhere, moves_on}
use Rattle.extern_rows.proofs.feed.stands_in_texts.Goals as goal

pub returns : goal.returns
returns c = record { texts = stands_in_texts; cuts = cuts_anywhere; next = moves_on }
