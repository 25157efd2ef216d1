use Rattle.std.proofs.Common.{◌≡◌, take}
use Rattle.stream_types.specs.Measures.{entries_of}
use Rattle.stream_types.specs.ArrayPlaces.{ArePlaces}
use Rattle.stream_types.proofs.types.Types.copy.Given as goal

abbrev pub invariant-loop-i : goal.invariant-loop-i
invariant-loop-i l = record {
  entries : l.entries.items ≡ take l.i l.kept-items;
  places : ArePlaces l.places.entries (entries_of (take l.i l.kept-items));
}
