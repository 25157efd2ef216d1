use Rattle.std.proofs.Common.{◌≡◌, length}
use Rattle.stream_lib.specs.Built.{Grows}
use Rattle.stream_lib.specs.Renamed.{AddsLowered, AreLowered}
use Rattle.stream_lib.proofs.nodes.lower_nodes.Given as goal

abbrev pub invariant-loop-i : goal.invariant-loop-i
invariant-loop-i l = record {
  grows : Grows l.fn.spec l.spec;
  count : length l.news.items ≡ l.i;
  lowered : AreLowered l.source l.spec l.news.items;
  adds : AddsLowered l.source l.fn.spec l.spec l.i;
}
