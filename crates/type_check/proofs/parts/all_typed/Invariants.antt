use Rattle.std.proofs.Common.{◌≡◌, ◌++◌, drop}
use Rattle.std.specs.Option.{option_map}
use Rattle.type_check.specs.Standing.{all_known}
use Rattle.type_check.proofs.parts.all_typed.Given as goal

abbrev pub invariant-loop-part : goal.invariant-loop-part
invariant-loop-part l = all_known l.parts ≡ option_map (λ js. l.types.items ++ js) (all_known (drop l.part-index l.parts))
