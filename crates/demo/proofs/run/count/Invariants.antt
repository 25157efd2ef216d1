use Rattle.std.proofs.Common.{◌-◌, ◌≡◌, ◌≤◌, ◌*◌}
use Rattle.stream_interp.specs.Standing.{StandsFor}
use Rattle.demo.specs.Figures.{calls_below, empty_rows}
use Rattle.demo.proofs.run.count.Given as goal

abbrev pub invariant-loop-n : goal.invariant-loop-n
invariant-loop-n g l = record {
  spec : l.monitor.spec ≡ l.fn.plain;
  stands : StandsFor l.monitor (empty_rows l.n);
  within : l.n ≤ l.steps;
  few : l.events ≤ 1000 * l.n;
  counted : l.events ≡ calls_below l.streams l.steps l.n;
}

abbrev pub decreases-loop-n : goal.decreases-loop-n
decreases-loop-n g l = l.steps - l.n
