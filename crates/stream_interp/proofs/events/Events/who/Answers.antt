use Rattle.std.proofs.Common.{ap}
use Rattle.stream_core.specs.Eval.{Event}
use Rattle.stream_interp.proofs.LogLists.{event_is}
use Rattle.stream_interp.proofs.events.Events.who.Goals as goal

pub returns : goal.returns
returns c = λ e is. ap (λ (x : Event). x.who) (event_is c.self.inside.words.now c.self.inside.marks.now c.args.self.now c.args.i e c.self.view_is c.requires is)
