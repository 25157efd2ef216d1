use Rattle.stream_core.proofs.Recent.{next_from}
use Rattle.stream_core.proofs.plain_values.lists_from_now_on_move.Goals as goal

pub returns : goal.returns
returns c = next_from
