use Rattle.std.proofs.Common.{refl, ap}
use Rattle.stream_core.specs.declared.node.Node.TheVariants as node
use Rattle.stream_core.specs.Term as t
use Rattle.type_check.specs.Judged.{over_drop, named_in}
use Rattle.typed_text.specs.ReadSpec.{number_in}
use Rattle.typed_spec.proofs.Making.{makes_none, plain_made}
use Rattle.typed_spec.proofs.nodes.earlier.Goals as goal

pub returns-clause-made : goal.returns-clause-made
returns-clause-made c = λ names s n h.
    let x = c.args.x.now in
    plain_made (node.Drop c.number-stream.result c.args.k) c.in_ok-id.id c.dropped-ty.result (over_drop c.args.at c.args.k x (named_in s.all x.name)) (λ as_. t.dropped (number_in n.streams x.name) c.args.k) (makes_none names c.args.arena.now)
    c.in_ok-id.ensures.puts refl refl (λ all f. ap (λ i. t.dropped i c.args.k) (c.number-stream.ensures n.streams h.streams)) (c.dropped-ty.ensures names s h.scope)
