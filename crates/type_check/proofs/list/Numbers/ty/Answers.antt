use Rattle.std.proofs.Common.{◌∙◌, subst}
use Rattle.type_check.specs.declared.known.Known.{Known}
use Rattle.type_check.specs.Standing.{Means}
use Rattle.type_check.proofs.Numbering.{same_number_of, array_listed}
use Rattle.type_check.proofs.list.Numbers.ty.Goals as goal

pub returns-in-Element : goal.returns-in-Element
returns-in-Element c = λ names placed order t d n a m.
    c.element_ty.ensures names placed order t d n a (subst (λ (k : Known). Means names k t) c.in-Element.is m)

pub returns-in-Array : goal.returns-in-Array
returns-in-Array c = λ names placed order t d n a m.
    array_listed names order _ _ c.of.result t (subst (λ (k : Known). Means names k t) c.in-Array.is m) (c.of.ensures placed n ∙ same_number_of names d c.args.ty t m placed order a)
