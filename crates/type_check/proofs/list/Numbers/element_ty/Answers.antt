use Rattle.std.proofs.Common.{◌∙◌, subst}
use Rattle.type_check.specs.declared.known.Known.TheVariants as known
use Rattle.type_check.specs.declared.known.Element.{Element}
use Rattle.type_check.specs.Standing.{Means}
use Rattle.type_check.proofs.Numbering.{same_number_of, scalar_listed, struct_listed}
use Rattle.type_check.proofs.list.Numbers.element_ty.Goals as goal

pub returns-in-Scalar : goal.returns-in-Scalar
returns-in-Scalar c = λ names placed order t d n a m.
    scalar_listed names order c.in-Scalar.s t (subst (λ (e : Element). Means names (known.Element e) t) c.in-Scalar.is m)

pub returns-in-Struct : goal.returns-in-Struct
returns-in-Struct c = λ names placed order t d n a m.
    struct_listed names order _ c.of.result t (subst (λ (e : Element). Means names (known.Element e) t) c.in-Struct.is m) (c.of.ensures placed n ∙ same_number_of names d (known.Element c.args.elem) t m placed order a)
