use Rattle.extern_rows.proofs.TakenTexts.{took_nothing, takes_more, refuses_more, next_takes_nothing, finishes_text}
use Rattle.extern_rows.proofs.feed.feeds_take_texts.Goals as goal

pub returns : goal.returns
returns c = record { new = took_nothing; push = takes_more; refusal = refuses_more; next = next_takes_nothing; finish = finishes_text }
