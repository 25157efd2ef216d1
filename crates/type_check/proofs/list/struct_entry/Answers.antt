use Rattle.std.proofs.Common.{List, sym, ap, ◌∙◌, subst}
use Rattle.std.specs.Prelude.{option_copied}
use Rattle.type_check.specs.declared.known.Known.TheVariants as known
use Rattle.type_check.specs.declared.known.Element.{Element}
use Rattle.type_check.specs.declared.structs.Member.{Member}
use Rattle.type_check.specs.Standing.{Means, AreMembers}
use Rattle.type_check.proofs.Fielding.{struct_entry, no_entry}
use Rattle.type_check.proofs.list.struct_entry.Goals as goal

pub returns-in_default-numbered-clause-ok : goal.returns-in_default-numbered-clause-ok
returns-in_default-numbered-clause-ok c = λ names placed order all t d n a h m.
    absurd (no_entry names all c.args.structs.now.all.items c.in-Struct.number t h (subst (λ (e : Element). Means names (known.Element e) t) c.in-Struct.is m) (sym c.numbered.ensures ∙ ap option_copied c.in_default-numbered.is))

pub returns-clause-ok : goal.returns-clause-ok
returns-clause-ok c = λ names placed order all t d n a h m.
    struct_entry names order all c.args.structs.now.all.items c.in-Struct.number t c.in-Some.found.now c.in_ok-name.name c.in_ok-fields.fields.items h
    (subst (λ (e : Element). Means names (known.Element e) t) c.in-Struct.is m) (sym c.numbered.ensures ∙ ap option_copied c.in-Some.is) c.in_ok-name.ensures
    (λ before forms ms. c.in_ok-fields.ensures.ok names placed order before forms d n a (subst (λ (ls : List Member). AreMembers names before forms ls) (sym c.as_slice.ensures) ms))
