use Rattle.stream_core.proofs.Recent.{from_here, recent}
use Rattle.stream_core.proofs.plain_values.plain_values_read_from_now_on.Goals as goal

pub returns-clause-from : goal.returns-clause-from
returns-clause-from c = λ m t lists e h. from_here m lists t e h

pub returns-clause-agreeing : goal.returns-clause-agreeing
returns-clause-agreeing c = λ m bound t lists rings e h reads agree. recent m lists t rings bound e h reads agree
