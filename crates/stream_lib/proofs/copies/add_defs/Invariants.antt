use Rattle.std.proofs.Common.{◌≡◌, ◌++◌, ◌<◌, length, map, drop, ◌+◌}
use Rattle.std.specs.List.{AllByRecursion}
use Rattle.stream_core.specs.declared.spec.DefItem.{DefItem}
use Rattle.stream_lib.specs.Renamed.{new_of, renamed_def}
use Rattle.stream_lib.proofs.copies.add_defs.Given as goal

abbrev pub invariant-loop-x : goal.invariant-loop-x
invariant-loop-x l = record {
  count : length l.spec.defs ≡ length l.fn.spec.defs + l.x-index;
  others : l.spec ≡ record l.fn.spec { defs = l.spec.defs };
  rest : AllByRecursion (λ (x : DefItem). x.expr < length l.news) (drop l.x-index l.source.defs);
  same : l.spec.defs ++ map (renamed_def (new_of l.news)) (drop l.x-index l.source.defs) ≡ l.fn.spec.defs ++ map (renamed_def (new_of l.news)) l.source.defs;
}
