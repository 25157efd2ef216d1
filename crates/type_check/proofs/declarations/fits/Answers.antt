use Rattle.std.proofs.Common.{Bool, sym, ap, ◌∙◌, subst}
use Rattle.type_check.specs.declared.fault.TypeFault.TheVariants.{TypeClash}
use Rattle.type_check.specs.NamedType.{bool}
use Rattle.type_check.specs.Judged.{judged, if_so}
use Rattle.type_check.specs.Standing.{IsDone}
use Rattle.type_check.proofs.Declared.{fits_done, clash_told}
use Rattle.type_check.proofs.declarations.fits.Goals as goal

pub returns-then-fits : goal.returns-then-fits
returns-then-fits c = λ names n old new ps p.
    subst (λ (b : Bool). IsDone names n old new (judged ps (if_so b bool (TypeClash c.args.at)))) (sym c.if-fits.true) (fits_done names n old new ps (TypeClash c.args.at) p)

pub returns-else-fits : goal.returns-else-fits
returns-else-fits c = λ names n old new ps p.
    ap (λ b. (judged ps (if_so b bool (TypeClash c.args.at))).fault) c.if-fits.false ∙ clash_told names n old new ps (TypeClash c.args.at) p
