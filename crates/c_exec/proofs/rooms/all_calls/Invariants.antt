use Rattle.std.proofs.Common.{◌≡◌, ◌+◌, drop, map}
use Rattle.std.specs.List.{sum_by}
use Rattle.c_exec.specs.Codes.{act_of}
use Rattle.c_exec.specs.Needs.{call_count}
use Rattle.c_exec.proofs.rooms.all_calls.Given as goal

abbrev pub invariant-loop-line : goal.invariant-loop-line
invariant-loop-line l = l.total + sum_by call_count (map act_of (drop l.line-index l.lines)) ≡ sum_by call_count (map act_of l.lines)
