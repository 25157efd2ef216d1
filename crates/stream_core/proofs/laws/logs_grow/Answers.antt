use Rattle.std.proofs.Common.{ap}
use Rattle.std.proofs.Math.Numerals.{add-one}
use Rattle.stream_core.specs.Meaning.{log}
use Rattle.stream_core.proofs.laws.logs_grow.Goals as goal

pub returns : goal.returns
returns c = λ s h n. ap (log s h) (add-one n)
