use Rattle.std.proofs.Common.{refl, ap₂}
use Rattle.spec_text.specs.declared.surface.Expr.TheOpen.{Expr-F}
use Rattle.stream_core.specs.declared.node.Node.TheVariants as node
use Rattle.stream_core.specs.Term as t
use Rattle.type_check.specs.Judged.{expr_step}
use Rattle.typed_text.specs.ReadSpec.{operand, scalar_of}
use Rattle.typed_spec.proofs.Making.{makes_then, plain_made}
use Rattle.typed_spec.proofs.Lists.{type_made}
use Rattle.typed_spec.proofs.operators.shift.Goals as goal

pub returns-clause-made : goal.returns-clause-made
returns-clause-made c = λ names s n start mid p q d k l.
    plain_made (node.Shift c.args.dir c.scalar_of.result c.args.a.id c.scalar_of-2.result c.args.count.id) c.in_ok-id.id c.shifted-ty.result (expr_step s (Expr-F.Shift c.args.at c.args.dir p.judged q.judged)) (λ as_. t.shift c.args.dir (scalar_of p) (operand as_ 0) (scalar_of q) (operand as_ 1)) (makes_then k l) c.in_ok-id.ensures.puts refl refl
    (λ all f. ap₂ (λ x y. t.shift c.args.dir x (f c.args.a.id) y (f c.args.count.id)) (c.scalar_of.ensures names p.judged (type_made k)) (c.scalar_of-2.ensures names q.judged (type_made l)))
    (c.shifted-ty.ensures names p.judged q.judged (type_made k) (type_made l))
