use Rattle.std.proofs.Common.{◌≡◌, ap, ◌∙◌}
use Rattle.std.specs.Prelude.{Some}
use Rattle.type_check.specs.declared.known.Known.{Known}
use Rattle.type_check.specs.declared.known.Known.TheVariants as known
use Rattle.type_check.specs.declared.known.Element.{Element}
use Rattle.type_check.specs.declared.known.Element.TheVariants as element
use Rattle.typed_spec.proofs.FoundMembers.{struct_kept}
use Rattle.typed_spec.proofs.members.struct_of.Goals as goal

pub returns-in-Some-Element-Struct : goal.returns-in-Some-Element-Struct
returns-in-Some-Element-Struct c = λ names s n j h m.
    let p = c.in-Some-Element-Struct in
    let outer : p.field-0 ≡ known.Element p.field-0-0 = rw p.is at p.field-0-is in
    let is : c.args.ty ≡ Some (known.Element p.field-0-0) = p.is ∙ ap (λ (k : Known). Some k) outer in
    let inner : p.field-0-0 ≡ element.Struct p.number = rw is at p.field-0-0-is in
    struct_kept names s j c.args.text.now.scope.structs.all.items p.number c.args.ty _ h.scope.structs_are h.few m (is ∙ ap (λ (e : Element). Some (known.Element e)) inner) c.numbered.ensures
