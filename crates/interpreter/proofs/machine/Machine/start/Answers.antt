use Rattle.std.proofs.Common.{None, ap, ◌∙◌, subst}
use Rattle.stream_core.specs.Value.{SpecValue}
use Rattle.stream_core.specs.Meaning.{IsFirstFault}
use Rattle.stream_core.specs.WellTyped.{WellTyped}
use Rattle.interpreter.specs.Lines.{shapes_of}
use Rattle.interpreter.proofs.Started.{first_stands}
use Rattle.interpreter.proofs.machine.Machine.start.Goals as goal

pub returns : goal.returns
returns g c =
    let is = c.spec-spec.ensures.spec in (
      is,
      first_stands c.args.sound.now c.args.plain.now c.in_ok-start.field-0 c.in_ok-new.field-0
          (subst WellTyped is c.spec-spec.ensures.typed) (subst (λ (s : SpecValue). IsFirstFault s None) is c.spec-spec.ensures.sound) c.requires
          c.in_ok-start.ensures.0 (c.in_ok-new.ensures ∙ ap shapes_of is) c.in_ok-start.ensures.1,
    )
