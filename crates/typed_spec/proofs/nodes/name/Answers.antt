use Rattle.std.proofs.Common.{ap, ◌∙◌}
use Rattle.stream_core.specs.Term as t
use Rattle.stream_core.specs.Term.{build}
use Rattle.type_check.specs.Judged.{over_name, named_in}
use Rattle.typed_text.specs.ReadSpec.{name_term}
use Rattle.typed_spec.specs.Made.{is_form}
use Rattle.typed_spec.proofs.Making.{makes_none, plain_made}
use Rattle.typed_spec.proofs.NameNodes.{name_plain, name_built}
use Rattle.typed_spec.proofs.nodes.name.Goals as goal

pub returns-clause-made : goal.returns-clause-made
returns-clause-made c = λ names s n h.
    let x = c.args.x.now in
    let e = c.named.ensures.node names s n h in
    plain_made c.named.result c.in_ok-id.id c.declared-ty.result (over_name x (named_in s.all x.name)) (λ as_. name_term n x.name) (makes_none names c.args.arena.now) c.in_ok-id.ensures.puts (ap is_form e ∙ name_plain n x.name) c.named.ensures.leaf
    (λ all f. ap (build all t.def f) e ∙ name_built n x.name all f) (c.declared-ty.ensures names s h.scope)
