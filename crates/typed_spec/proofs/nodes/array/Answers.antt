use Rattle.std.proofs.Common.{map, refl, sym, ap, ap₂, ◌∙◌, subst}
use Rattle.spec_text.specs.declared.surface.Expr.TheOpen.{Expr-F}
use Rattle.stream_core.specs.declared.node.Node.TheVariants as node
use Rattle.stream_core.specs.Term as t
use Rattle.stream_core.specs.Term.{terms_of}
use Rattle.type_check.specs.Judged.{expr_step}
use Rattle.type_check.specs.Standing.{AllMeanOption, ty_of_part}
use Rattle.typed_text.specs.ReadSpec.{Read, ty_in, terms}
use Rattle.typed_spec.proofs.Making.{plain_made}
use Rattle.typed_spec.proofs.Lists.{ids_are, list_types, list_terms}
use Rattle.typed_spec.proofs.nodes.array.Goals as goal

pub returns-clause-made : goal.returns-clause-made
returns-clause-made c = λ names s n start ps d m.
    let is = c.args.items.ids.items in
    let ts = c.args.items.types.items in
    let js = map (λ (p : Read). p.judged) ps in
    let j = expr_step s (Expr-F.Array c.args.at js) in
    let types = subst (λ us. AllMeanOption names us (map ty_of_part js)) (sym c.as_slice.ensures.value) (list_types is ts c.requires.paired m) in
    let told = c.in_ok-ty.ensures names s js d.scope types in
    plain_made (node.Array c.ty.result c.of.result) c.in_ok-id.id c.in_ok-ty.ty j (λ as_. t.array (ty_in n j) (terms as_)) m c.in_ok-id.ensures.puts refl (c.of.ensures ∙ sym (ids_are is ts c.requires.paired))
    (λ all f. ap₂ (λ y es. t.array y es) (c.ty.ensures names s n j d told) (ap (terms_of f) c.of.ensures ∙ list_terms f is ts c.requires.paired))
    told
