use Rattle.std.proofs.Common.{refl, ap}
use Rattle.spec_text.specs.declared.surface.Expr.TheOpen.{Expr-F}
use Rattle.stream_core.specs.declared.node.Node.TheVariants as node
use Rattle.stream_core.specs.Term as t
use Rattle.type_check.specs.Judged.{expr_step}
use Rattle.typed_text.specs.ReadSpec.{operand, ty_in}
use Rattle.typed_spec.proofs.Making.{makes_then, plain_made}
use Rattle.typed_spec.proofs.Lists.{type_made}
use Rattle.typed_spec.proofs.operators.element.Goals as goal

pub returns-clause-made : goal.returns-clause-made
returns-clause-made c = λ names s n start mid p q d k l.
    plain_made (node.Index c.ty.result c.args.a.id c.args.i.id) c.in_ok-id.id c.index-ty.result (expr_step s (Expr-F.Index c.args.at p.judged q.judged)) (λ as_. t.index (ty_in n p.judged) (operand as_ 0) (operand as_ 1)) (makes_then k l) c.in_ok-id.ensures.puts refl refl
    (λ all f. ap (λ x. t.index x (f c.args.a.id) (f c.args.i.id)) (c.ty.ensures names s n p.judged d (type_made k)))
    (c.index-ty.ensures names p.judged q.judged d.scope.distinct (type_made k) (type_made l))
