use Rattle.std.proofs.Common.{◌≡◌, refl, sym, ap, ◌∙◌}
use Rattle.type_check.specs.declared.fault.TypeFault.TheVariants.{TypeClash}
use Rattle.type_check.specs.NamedType.{scalar}
use Rattle.type_check.specs.Judged.{lacks, if_so, on_shift}
use Rattle.type_check.specs.Standing.{is_fault}
use Rattle.type_check.proofs.Reasons.{verdict_is, is_scalar, clash}
use Rattle.type_check.proofs.verdicts.on_shift.Goals as goal

pub returns-in_default : goal.returns-in_default
returns-in_default c = λ names t u m n. verdict_is names (lacks (TypeClash c.args.at)) _ _ is_fault (clash names (λ v. on_shift c.args.at v u) (TypeClash c.args.at) (λ x. refl) (λ v k. refl) c.args.a t m (sym c.scalar_of.ensures ∙ c.in_default.is))

pub returns-in_default-scalar_of : goal.returns-in_default-scalar_of
returns-in_default-scalar_of c = λ names t u m n.
    let e : t ≡ scalar c.in-Some.s = is_scalar names c.args.a t c.in-Some.s m (sym c.scalar_of.ensures ∙ c.in-Some.is) in
    verdict_is names (lacks (TypeClash c.args.at)) _ _ is_fault (clash names (on_shift c.args.at (scalar c.in-Some.s)) (TypeClash c.args.at) (λ x. refl) (λ v k. refl) c.args.count u n (sym c.scalar_of-2.ensures ∙ c.in_default-scalar_of.is)
    ∙ sym (ap (λ v. on_shift c.args.at v u) e))

pub returns : goal.returns
returns c = λ names t u m n.
    let s = c.in-Some.s in
    let k = c.in-Some-scalar_of.c in
    let at = c.args.at in
    let e : t ≡ scalar s = is_scalar names c.args.a t s m (sym c.scalar_of.ensures ∙ c.in-Some.is) in
    let f : u ≡ scalar k = is_scalar names c.args.count u k n (sym c.scalar_of-2.ensures ∙ c.in-Some-scalar_of.is) in
    verdict_is names _ _ c.if_so.result (c.if_so.ensures names t m)
    (ap (λ v. if_so c.shift_applies.result v (TypeClash at)) e ∙ ap (λ b. if_so b (scalar s) (TypeClash at)) c.shift_applies.ensures
    ∙ sym (ap (λ v. on_shift at v u) e ∙ ap (on_shift at (scalar s)) f))
