use Rattle.std.proofs.Common.{refl, ap}
use Rattle.spec_text.specs.declared.surface.Expr.TheOpen.{Expr-F}
use Rattle.stream_core.specs.declared.node.Node.TheVariants as node
use Rattle.stream_core.specs.Term as t
use Rattle.type_check.specs.Judged.{expr_step}
use Rattle.typed_text.specs.ReadSpec.{operand, scalar_of}
use Rattle.typed_spec.proofs.Making.{plain_made}
use Rattle.typed_spec.proofs.Lists.{type_made}
use Rattle.typed_spec.proofs.operators.sign.Goals as goal

pub returns-clause-made : goal.returns-clause-made
returns-clause-made c = λ names s n start p d k.
    plain_made (node.Sign c.scalar_of.result c.args.a.id) c.in_ok-id.id c.integer-ty.result (expr_step s (Expr-F.Sign c.args.at p.judged)) (λ as_. t.sign (scalar_of p) (operand as_ 0)) k c.in_ok-id.ensures.puts refl refl
    (λ all f. ap (λ x. t.sign x (f c.args.a.id)) (c.scalar_of.ensures names p.judged (type_made k)))
    (c.integer-ty.ensures names p.judged (type_made k))
