use Rattle.ring_codegen.proofs.Translated.{heater-is, empty-is, door-is, counter-is, pair-is, square-is, least-is, constants-is, picker-is}
use Rattle.ring_codegen.proofs.laws.translations_are_written.Goals as goal

pub returns : goal.returns
returns c = record { heater_is = heater-is; empty_is = empty-is; door_is = door-is; counter_is = counter-is; pair_is = pair-is; square_is = square-is; least_is = least-is; constants_is = constants-is; picker_is = picker-is }
