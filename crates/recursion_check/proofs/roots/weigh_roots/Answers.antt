use Rattle.std.proofs.Common.{◌≡◌, ◌+◌, min, ◌∙◌, sym, ap, arith}
use Rattle.stream_core.specs.Weights.{triggers_weight, observers_weight, streams_weight, libs_weight}
use Rattle.stream_core.proofs.WholeWeight.{weight_is}
use Rattle.recursion_check.specs.declared.roots.Tally.{Tally}
use Rattle.recursion_check.specs.Loads.{or_form}
use Rattle.recursion_check.proofs.Heavy.{heavy_is}
use Rattle.recursion_check.proofs.Tallied.{declared_first, declared_total}
use Rattle.recursion_check.proofs.roots.weigh_roots.Goals as goal

pub returns-clause-total : goal.returns-clause-total
returns-clause-total c =
    let s = c.args.spec.now in
    let d = ap (λ (t : Tally). t.total) c.weigh_declared-declared.ensures ∙ declared_total s in
    let e : c.sum.result ≡ min (triggers_weight s s.triggers + observers_weight s s.observers + streams_weight s s.streams + libs_weight s s.libs) 262145 = omega (arith, c.sum.ensures, d, c.weigh_forms.ensures) in
    e ∙ ap (λ w. min w 262145) (sym (weight_is s))

pub returns-clause-first : goal.returns-clause-first
returns-clause-first c =
    let s = c.args.spec.now in
    let d = ap (λ (t : Tally). t.first) c.weigh_declared-declared.ensures ∙ declared_first s in
    c.first_of.ensures ∙ ap (λ o. or_form o c.heavy_form.result) d ∙ ap (or_form _) c.heavy_form.ensures ∙ sym (heavy_is s c.requires.typed)
