use Rattle.std.proofs.Common.{◌≡◌, ◌++◌, ◌<◌, length, map, drop, ◌+◌}
use Rattle.std.specs.List.{AllByRecursion}
use Rattle.stream_core.specs.declared.spec.ObserverItem.{ObserverItem}
use Rattle.stream_lib.specs.Renamed.{new_of, renamed_observer}
use Rattle.stream_lib.proofs.copies.add_observers.Given as goal

abbrev pub invariant-loop-x : goal.invariant-loop-x
invariant-loop-x l = record {
  count : length l.spec.observers ≡ length l.fn.spec.observers + l.x-index;
  others : l.spec ≡ record l.fn.spec { observers = l.spec.observers };
  rest : AllByRecursion (λ (x : ObserverItem). x.root.expr < length l.news) (drop l.x-index l.source.observers);
  same : l.spec.observers ++ map (renamed_observer (new_of l.news)) (drop l.x-index l.source.observers) ≡ l.fn.spec.observers ++ map (renamed_observer (new_of l.news)) l.source.observers;
}
