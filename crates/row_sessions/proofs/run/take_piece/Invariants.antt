use Rattle.std.proofs.Common.{◌≡◌, ◌≤◌, ◌+◌, ◌-◌, ◌++◌, ℕ, List, Option, length, take}
use Rattle.row_sessions.specs.Session.{text_of_steps}
use Rattle.row_sessions.specs.Standing.{Stands, MayHold, Went, reach}
use Rattle.row_sessions.proofs.run.take_piece.Given as goal

abbrev pub invariant-loop-done : goal.invariant-loop-done
invariant-loop-done g l = record {
  within : l.done ≤ length l.bytes;
  answers : g.M.Stepper.answers l.machine ≡ g.M.Stepper.answers l.fn.machine;
  scalars : g.M.Stepper.scalars l.machine ≡ g.M.Stepper.scalars l.fn.machine;
  goes : MayHold (g.M.Stepper.answers l.fn.machine) l.leaves l.lines (g.M.Stepper.stands l.machine) l.held.bytes.items;
  reached : reach l.fn.lines.feed + l.done ≤ reach l.lines.feed;
  faults : g.K.Sink.faults l.out ≡ g.K.Sink.faults l.fn.out;
  stands : (first : Option (List ℕ)) (text : List ℕ) (s : Stands (g.M.Stepper.answers l.fn.machine) l.leaves first l.fn.lines (g.M.Stepper.stands l.fn.machine) (g.K.Sink.taken l.fn.out) text)
      → Went (g.M.Stepper.answers l.fn.machine) l.leaves l.lines (g.M.Stepper.stands l.machine) (text ++ take l.done l.bytes) (text_of_steps s.steps) (g.K.Sink.taken l.fn.out) (g.K.Sink.taken l.out) l.held.bytes.items;
}

abbrev pub decreases-loop-done : goal.decreases-loop-done
decreases-loop-done g l = length l.bytes - l.done
