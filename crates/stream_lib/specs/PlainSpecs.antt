-- Specifications without forms of the library, as the interpreter and the generator take them.
use Rattle.std.specs.Prelude.{◌≡◌, []}
use Rattle.stream_core.specs.Value.{SpecValue}
use Rattle.stream_core.specs.Term.{trees}
use Rattle.stream_core.specs.WellTyped.{WellTyped}
use Rattle.stream_core.specs.Plain.{IsPlainSpec}
use Rattle.stream_core.specs.Soundness.{HasNoCycle}
use Rattle.stream_core.specs.KeptLimits.{KeepsLimits, plain_form}

-- A well typed specification without forms of the library, abs, sign and votes and without a cycle of defs, which keeps
-- the limits but perhaps that on declarations.
pub record IsSoundPlain (s : SpecValue) : Type 0 where
  pub typed : WellTyped s
  pub no_forms : s.libs ≡ []
  pub plain : IsPlainSpec (trees s)
  pub no_cycle : HasNoCycle (trees s).defs
  pub limits : KeepsLimits (plain_form (trees s))
