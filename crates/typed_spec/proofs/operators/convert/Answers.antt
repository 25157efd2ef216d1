use Rattle.std.proofs.Common.{refl, ap₂}
use Rattle.spec_text.specs.declared.surface.Expr.TheOpen.{Expr-F}
use Rattle.stream_core.specs.declared.node.Node.TheVariants as node
use Rattle.stream_core.specs.Term as t
use Rattle.type_check.specs.Judged.{type_of, judge_form, expr_step}
use Rattle.typed_text.specs.ReadSpec.{operand, scalar_of, scalar_in}
use Rattle.typed_spec.proofs.Making.{plain_made}
use Rattle.typed_spec.proofs.Lists.{type_made}
use Rattle.typed_spec.proofs.operators.convert.Goals as goal

pub returns-clause-made : goal.returns-clause-made
returns-clause-made c = λ names s n start p d k.
    let told = c.cast-ty.ensures names (judge_form s.before c.args.to.now) p.judged (c.written.ensures names s n d) (type_made k) in
    plain_made (node.Cast c.scalar_of.result c.scalar_of-2.result c.args.a.id) c.in_ok-id.id c.cast-ty.result (expr_step s (Expr-F.Cast c.args.at c.args.to.now p.judged)) (λ as_. t.cast (scalar_of p) (scalar_in (type_of (expr_step s (Expr-F.Cast c.args.at c.args.to.now p.judged)))) (operand as_ 0)) k c.in_ok-id.ensures.puts refl refl
    (λ all f. ap₂ (λ x y. t.cast x y (f c.args.a.id)) (c.scalar_of.ensures names p.judged (type_made k)) (c.scalar_of-2.ensures names (expr_step s (Expr-F.Cast c.args.at c.args.to.now p.judged)) told))
    (told)
