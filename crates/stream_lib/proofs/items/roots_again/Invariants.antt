use Rattle.std.proofs.Common.{◌≡◌, ◌++◌, ◌<◌, length, map, drop}
use Rattle.std.specs.List.{AllByRecursion}
use Rattle.stream_core.specs.declared.spec.Root.{Root}
use Rattle.stream_lib.specs.Renamed.{new_of, renamed_root}
use Rattle.stream_lib.proofs.items.roots_again.Given as goal

abbrev pub invariant-loop-root : goal.invariant-loop-root
invariant-loop-root l = record {
  rest : AllByRecursion (λ (r : Root). r.expr < length l.news) (drop l.root-index l.roots);
  same : l.all.items ++ map (renamed_root (new_of l.news)) (drop l.root-index l.roots) ≡ map (renamed_root (new_of l.news)) l.roots;
}
