use Rattle.std.proofs.Common.{◌≡◌, ◌+◌, take, drop}
use Rattle.std.specs.List.{sum_by, find, position_or_len}
use Rattle.c99_tree.specs.Lookup.{place_of_ring, ring_of}
use Rattle.c99_tree.specs.Words.{is_same}
use Rattle.c99_tree.specs.declared.unit.CRing.{CRing}
use Rattle.c_exec.specs.Layout.{var_width, ring_width, ring_words}
use Rattle.c_exec.proofs.layout.ring_place.Given as goal

abbrev pub invariant-loop-ring : goal.invariant-loop-ring
invariant-loop-ring l = record {
  index_is : l.index ≡ sum_by (var_width l.unit.types) l.unit.externs + sum_by (ring_words l.unit.types) (take l.ring-index l.unit.rings);
  local_is : l.local ≡ sum_by (ring_width l.unit.types) (take l.ring-index l.unit.rings);
  place : place_of_ring l.unit l.r ≡ l.ring-index + position_or_len (λ (y : CRing). is_same l.r y.name) (drop l.ring-index l.unit.rings);
  found : ring_of l.unit l.r ≡ find (λ (y : CRing). is_same l.r y.name) (drop l.ring-index l.unit.rings);
}
