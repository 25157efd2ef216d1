use Rattle.std.proofs.Common.{◌≡◌, ◌+◌, drop, length, map}
use Rattle.c_exec.specs.Codes.{act_of}
use Rattle.c_exec.specs.Going.{act_all}
use Rattle.c_exec.specs.Logs.{memory_of, rooms_of}
use Rattle.c_exec.proofs.carry.act_all.Given as goal

abbrev pub invariant-loop-line : goal.invariant-loop-line
invariant-loop-line g l = record {
  statics_long : length l.statics ≡ length l.fn.statics;
  locals_long : length l.locals ≡ length l.fn.locals;
  rooms : rooms_of l.pile l.log ≡ rooms_of l.fn.pile l.fn.log;
  value : (act_all (rooms_of l.fn.pile l.fn.log) l.row (map act_of (drop l.line-index l.lines)) (memory_of l.statics l.locals l.log)).value
      ≡ (act_all (rooms_of l.fn.pile l.fn.log) l.row (map act_of l.lines) (memory_of l.fn.statics l.fn.locals l.fn.log)).value;
  count : l.steps + (act_all (rooms_of l.fn.pile l.fn.log) l.row (map act_of (drop l.line-index l.lines)) (memory_of l.statics l.locals l.log)).count
      ≡ l.fn.steps + (act_all (rooms_of l.fn.pile l.fn.log) l.row (map act_of l.lines) (memory_of l.fn.statics l.fn.locals l.fn.log)).count;
}
