use Rattle.std.proofs.Common.{refl}
use Rattle.spec_text.specs.declared.surface.Expr.TheOpen.{Expr-F}
use Rattle.stream_core.specs.declared.node.Node.TheVariants as node
use Rattle.stream_core.specs.Term as t
use Rattle.type_check.specs.Judged.{expr_step}
use Rattle.typed_text.specs.ReadSpec.{operand}
use Rattle.typed_spec.proofs.Making.{makes_then, plain_made}
use Rattle.typed_spec.proofs.Lists.{type_made}
use Rattle.typed_spec.proofs.operators.implies.Goals as goal

pub returns-clause-made : goal.returns-clause-made
returns-clause-made c = λ names s n start mid p q d k l.
    plain_made (node.Implies c.args.a.id c.args.b.id) c.in_ok-id.id c.truths-ty.result (expr_step s (Expr-F.Implies c.args.at p.judged q.judged)) (λ as_. t.implies (operand as_ 0) (operand as_ 1)) (makes_then k l) c.in_ok-id.ensures.puts refl refl
    (λ all f. refl)
    (c.truths-ty.ensures names p.judged q.judged d (type_made k) (type_made l))
