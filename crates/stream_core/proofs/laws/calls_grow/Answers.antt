use Rattle.std.proofs.Common.{ap, ◌∙◌}
use Rattle.std.proofs.Math.Numerals.{add-one}
use Rattle.sm_io.proofs.Elements.{map_push}
use Rattle.stream_core.specs.Eval.{or_none}
use Rattle.stream_core.specs.Handlers.{calls_of}
use Rattle.stream_core.specs.Meaning.{calls, closed_spec, log, step}
use Rattle.stream_core.proofs.laws.calls_grow.Goals as goal

pub returns : goal.returns
returns c = λ s h n. ap (calls s h) (add-one n) ∙ map_push (calls_of (closed_spec s)) (log s h n) (or_none (step s h n))
