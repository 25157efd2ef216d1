use Rattle.std.proofs.Common.{◌≡◌, ◌-◌, ◌<◌, true, []}
use Rattle.std.specs.Prelude.{is_some}
use Rattle.c99_tree.specs.Values.{shape_of}
use Rattle.c99_read.specs.Front.{after_all}
use Rattle.c99_read.specs.WordsAt.{times_shaped}
use Rattle.c99_read.proofs.values.init_at.Given as goal

abbrev pub invariant-loop-i : goal.invariant-loop-i
invariant-loop-i l = record {
  same : times_shaped 8192 l.n (shape_of l.types l.t) [] l.bytes ≡ after_all l.all (times_shaped 8192 (l.n - l.i) (shape_of l.types l.t) l.before l.rest);
  shaped : 0 < l.i → is_some (shape_of l.types l.t) ≡ true;
}
