use Rattle.std.proofs.Common.{[], refl}
use Rattle.stream_core.specs.declared.node.Node.TheVariants as node
use Rattle.stream_core.specs.Term as t
use Rattle.type_check.specs.Judged.{has, judged}
use Rattle.type_check.specs.NamedType.{scalar}
use Rattle.type_check.specs.Standing.{both_some}
use Rattle.typed_spec.proofs.Making.{makes_none, plain_made}
use Rattle.typed_spec.proofs.nodes.literal.Goals as goal

pub returns-clause-made : goal.returns-clause-made
returns-clause-made c = λ names s n at.
    plain_made (node.Lit c.args.scalar c.args.word) c.in_ok-id.id _ (judged [] (has (scalar c.args.scalar))) (λ as_. t.lit c.args.scalar c.args.word) (makes_none names c.args.arena.now) c.in_ok-id.ensures.puts refl refl
    (λ all f. refl) (both_some (record { is = refl }))
