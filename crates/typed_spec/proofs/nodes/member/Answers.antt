use Rattle.std.proofs.Common.{refl, ap₂}
use Rattle.spec_text.specs.declared.surface.Expr.TheOpen.{Expr-F}
use Rattle.stream_core.specs.declared.node.Node.TheVariants as node
use Rattle.stream_core.specs.Term as t
use Rattle.type_check.specs.Judged.{type_of, expr_step}
use Rattle.type_check.specs.NamedType.{struct_in}
use Rattle.typed_text.specs.ReadSpec.{operand, ty_in, struct_name, member_number}
use Rattle.typed_spec.proofs.Making.{plain_made}
use Rattle.typed_spec.proofs.Lists.{type_made}
use Rattle.typed_spec.proofs.nodes.member.Goals as goal

pub returns-clause-made : goal.returns-clause-made
returns-clause-made c = λ names s n at start p h k.
    let x = c.args.x.now in
    let o = struct_in s.all (struct_name (type_of p.judged)) in
    let kept = c.struct_of-found.ensures names s n p.judged h (type_made k) in
    plain_made (node.Field c.ty.result c.member_number.result c.args.a.id) c.in_ok-id.id c.member_type-ty.result (expr_step s (Expr-F.Field at p.judged x)) (λ as_. t.field (ty_in n p.judged) (member_number o x.name) (operand as_ 0)) k
    c.in_ok-id.ensures.puts refl refl (λ all f. ap₂ (λ y i. t.field y i (f c.args.a.id)) (c.ty.ensures names s n p.judged h (type_made k)) (c.member_number.ensures names o kept))
    (c.member_type-ty.ensures names s p.judged at x h.nameless refl kept)
