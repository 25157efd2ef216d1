use Rattle.std.proofs.Common.{sym, subst}
use Rattle.type_check.specs.declared.known.Known.{Known}
use Rattle.type_check.specs.Judged.{type_of}
use Rattle.type_check.specs.Standing.{Means}
use Rattle.typed_spec.proofs.FoundTypes.{means_or}
use Rattle.typed_spec.proofs.text.Text.ty.Goals as goal

pub returns : goal.returns
returns c = λ names s n j h m.
    c.ty.ensures names h.placed n.order (type_of j) h.scope.distinct h.numbers h.order
    (subst (λ (k : Known). Means names k (type_of j)) (sym c.unwrap_or.ensures) (means_or names c.args.ty j.ty m))
