use Rattle.std.proofs.Common.{◌≡◌, ◌++◌, length, map, drop, ◌+◌}
use Rattle.std.specs.List.{AllByRecursion}
use Rattle.stream_lib.specs.Renamed.{HasNumbers, new_of, renamed_trigger}
use Rattle.stream_lib.proofs.copies.add_triggers.Given as goal

abbrev pub invariant-loop-x : goal.invariant-loop-x
invariant-loop-x l = record {
  count : length l.spec.triggers ≡ length l.fn.spec.triggers + l.x-index;
  others : l.spec ≡ record l.fn.spec { triggers = l.spec.triggers };
  rest : AllByRecursion (HasNumbers (length l.news)) (drop l.x-index l.source.triggers);
  same : l.spec.triggers ++ map (renamed_trigger (new_of l.news)) (drop l.x-index l.source.triggers) ≡ l.fn.spec.triggers ++ map (renamed_trigger (new_of l.news)) l.source.triggers;
}
