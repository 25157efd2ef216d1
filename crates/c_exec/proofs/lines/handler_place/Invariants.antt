use Rattle.std.proofs.Common.{◌≡◌, ◌+◌, drop}
use Rattle.std.specs.List.{position_or_len}
use Rattle.c99_tree.specs.Words.{is_same}
use Rattle.c99_tree.specs.declared.types.CProto.{CProto}
use Rattle.c_exec.proofs.lines.handler_place.Given as goal

abbrev pub invariant-loop-proto : goal.invariant-loop-proto
invariant-loop-proto l = record {
  k_is : l.k ≡ l.proto-index;
  place : position_or_len (λ (p : CProto). is_same l.h p.name) l.handlers ≡ l.proto-index + position_or_len (λ (p : CProto). is_same l.h p.name) (drop l.proto-index l.handlers);
}
