use Rattle.c99_tree.proofs.WorkedPrograms.{heater-works, empty-works, door-works, counter-works, old_counter-works, pair-works, square-works, least-works, constants-works, picker-works}
use Rattle.c99_tree.proofs.rows.programs_work.Goals as goal

pub returns : goal.returns
returns c = record { heater = heater-works; empty = empty-works; door = door-works; counter = counter-works; old_counter = old_counter-works; pair = pair-works; square = square-works; least = least-works; constants = constants-works; picker = picker-works }
