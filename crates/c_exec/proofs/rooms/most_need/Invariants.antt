use Rattle.std.proofs.Common.{◌≡◌, drop, map}
use Rattle.std.specs.Prelude.{max}
use Rattle.c_exec.specs.Codes.{act_of}
use Rattle.c_exec.specs.Needs.{most_need}
use Rattle.c_exec.proofs.rooms.most_need.Given as goal

abbrev pub invariant-loop-line : goal.invariant-loop-line
invariant-loop-line l = max l.most (most_need (map act_of (drop l.line-index l.lines))) ≡ most_need (map act_of l.lines)
