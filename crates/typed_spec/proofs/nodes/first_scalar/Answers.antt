use Rattle.std.proofs.Common.{sym, ap, ◌∙◌}
use Rattle.std.specs.Prelude.{option_copied}
use Rattle.typed_spec.proofs.Lists.{first_is, first_none}
use Rattle.typed_spec.proofs.nodes.first_scalar.Goals as goal

pub returns-in-Some : goal.returns-in-Some
returns-in-Some c = λ names ps h.
    first_is names c.args.types.now ps c.in-Some.ty.now c.scalar_of.result (sym c.first.ensures.value ∙ ap (λ o. option_copied o) c.in-Some.is) (λ j m. c.scalar_of.ensures names j m) h

pub returns-in-None : goal.returns-in-None
returns-in-None c = λ names ps h. first_none names c.args.types.now ps (sym c.first.ensures.value ∙ ap (λ o. option_copied o) c.in-None.is) h
