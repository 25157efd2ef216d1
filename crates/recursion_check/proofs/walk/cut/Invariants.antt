use Rattle.std.proofs.Common.{ℕ, ◌≤◌, length}
use Rattle.recursion_check.specs.Graph.{Has}
use Rattle.recursion_check.specs.Walked.{Rising}
use Rattle.recursion_check.proofs.walk.cut.Given as goal

abbrev pub invariant-loop-start : goal.invariant-loop-start
invariant-loop-start l = record {
  rising : Rising l.starts.items;
  from : (b : ℕ) → Has l.starts.items b → Has l.initial.starts.items b;
  all : (b : ℕ) → Has l.initial.starts.items b → b ≤ l.place → Has l.starts.items b;
  short : length l.starts.items ≤ length l.initial.starts.items;
}

abbrev pub decreases-loop-start : goal.decreases-loop-start
decreases-loop-start l = length l.starts.items
