use Rattle.stream_types.specs.declared.scalar.Scalar.TheVariants as scalar
use Rattle.stream_lib.proofs.MadeStreams.{one_made}
use Rattle.stream_lib.proofs.buffers.own.Goals as goal

pub returns-clause-made : goal.returns-clause-made
returns-clause-made c = one_made _ _ _ _ c.args.number scalar.Bool 1 c.args.w c.args.at _ c.in_ok-id.ensures.made c.in_ok-all.ensures
