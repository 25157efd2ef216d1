use Rattle.std.proofs.Common.{◌≡◌, take, map}
use Rattle.c99_tree.specs.Tree.{statement}
use Rattle.c_exec.specs.Codes.{act_of}
use Rattle.c_exec.specs.Resolving.{act_for}
use Rattle.c_exec.proofs.lines.lines_of.Given as goal

abbrev pub invariant-loop-s : goal.invariant-loop-s
invariant-loop-s l = map act_of l.lines.items ≡ map (act_for l.unit) (map statement (take l.s-index l.unit.step))
