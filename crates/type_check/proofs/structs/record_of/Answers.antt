use Rattle.std.proofs.Common.{ℕ, sym, ap, ◌∙◌, subst}
use Rattle.std.specs.Prelude.{Option, None}
use Rattle.type_check.specs.declared.fault.TypeFault.TheVariants.{Unknown}
use Rattle.type_check.specs.NamedType.{Struct}
use Rattle.type_check.specs.Judged.{lacks, on_record}
use Rattle.type_check.specs.Standing.{is_fault, IsNumbered}
use Rattle.type_check.proofs.Reasons.{verdict_is}
use Rattle.type_check.proofs.structs.record_of.Goals as goal

pub returns-in_default : goal.returns-in_default
returns-in_default c = λ names before ts d h m.
    let x = c.args.name.now in
    let n : IsNumbered names before c.args.structs.now.all.items x.name None = subst (λ (o : Option ℕ). IsNumbered names before c.args.structs.now.all.items x.name o) (sym c.number.ensures ∙ c.in_default.is) (h.numbers_are x.name) in
    verdict_is names (lacks (Unknown x.at)) _ _ is_fault (sym (ap (λ (s : Option Struct). on_record s c.args.at x ts) n))
