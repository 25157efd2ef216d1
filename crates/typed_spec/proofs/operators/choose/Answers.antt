use Rattle.std.proofs.Common.{refl}
use Rattle.spec_text.specs.declared.surface.Expr.TheOpen.{Expr-F}
use Rattle.stream_core.specs.declared.node.Node.TheVariants as node
use Rattle.stream_core.specs.Term as t
use Rattle.type_check.specs.Judged.{expr_step}
use Rattle.typed_text.specs.ReadSpec.{operand}
use Rattle.typed_spec.proofs.Making.{makes_then, plain_made}
use Rattle.typed_spec.proofs.Lists.{type_made}
use Rattle.typed_spec.proofs.operators.choose.Goals as goal

pub returns-clause-made : goal.returns-clause-made
returns-clause-made c = λ names s n start mid late p q r d k l m.
    plain_made (node.If c.args.c.id c.args.a.id c.args.b.id) c.in_ok-id.id c.choice-ty.result (expr_step s (Expr-F.If c.args.at p.judged q.judged r.judged)) (λ as_. t.choose (operand as_ 0) (operand as_ 1) (operand as_ 2)) (makes_then (makes_then k l) m) c.in_ok-id.ensures.puts refl refl
    (λ all f. refl)
    (c.choice-ty.ensures names p.judged q.judged r.judged d (type_made k) (type_made l) (type_made m))
