use Rattle.std.proofs.Common.{◌≡◌, ◌-◌, ◌*◌, ◌++◌, [], ℕ, List, Option}
use Rattle.sm_io.specs.Known.{before_known}
use Rattle.row_sessions.specs.Standing.{Stands, MayGoOn, reach}
use Rattle.row_sessions.proofs.run.take_input.Given as goal

abbrev pub invariant-loop-count : goal.invariant-loop-count
invariant-loop-count g l = record {
  answers : g.M.Stepper.answers l.machine ≡ g.M.Stepper.answers l.fn.machine;
  scalars : g.M.Stepper.scalars l.machine ≡ g.M.Stepper.scalars l.fn.machine;
  goes : MayGoOn (g.M.Stepper.answers l.fn.machine) l.leaves l.lines (g.M.Stepper.stands l.machine) (g.K.Sink.taken l.out);
  empty : l.held.bytes.items ≡ [];
  read : g.S.Source.faults l.input ≡ g.S.Source.faults l.fn.input;
  faults : g.K.Sink.faults l.out ≡ g.K.Sink.faults l.fn.out;
  stands : (first : Option (List ℕ)) (text : List ℕ) → Stands (g.M.Stepper.answers l.fn.machine) l.leaves first l.fn.lines (g.M.Stepper.stands l.fn.machine) (g.K.Sink.taken l.fn.out) text
      → (x : List ℕ) × (g.S.Source.left l.fn.input ≡ before_known x (g.S.Source.left l.input)) × Stands (g.M.Stepper.answers l.fn.machine) l.leaves first l.lines (g.M.Stepper.stands l.machine) (g.K.Sink.taken l.out) (text ++ x);
}

-- each piece leads further, and a feed comes only so far
abbrev pub decreases-loop-count : goal.decreases-loop-count
decreases-loop-count g l = 4294967298 * 1048577 - reach l.lines.feed
