use Rattle.std.proofs.Common.{◌≡◌, ◌≤◌, take}
use Rattle.std.specs.List.{count_by}
use Rattle.stream_core.specs.Soundness.{is_struct}
use Rattle.recursion_check.proofs.sizes.structs.Given as goal

abbrev pub invariant-loop-i : goal.invariant-loop-i
invariant-loop-i l = record {
  counted : l.count ≡ count_by is_struct (take l.i l.types);
  bounded : l.count ≤ l.i;
}
