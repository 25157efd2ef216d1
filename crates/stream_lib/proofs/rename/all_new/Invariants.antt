use Rattle.std.proofs.Common.{◌≡◌, ◌++◌, ◌<◌, length, map, drop}
use Rattle.std.specs.List.{AllByRecursion}
use Rattle.stream_lib.specs.Renamed.{new_of}
use Rattle.stream_lib.proofs.rename.all_new.Given as goal

abbrev pub invariant-loop-id : goal.invariant-loop-id
invariant-loop-id l = record {
  rest : AllByRecursion (λ i. i < length l.news) (drop l.id-index l.ids);
  same : l.all.items ++ map (new_of l.news) (drop l.id-index l.ids) ≡ map (new_of l.news) l.ids;
}
