use Rattle.std.proofs.Common.{◌≡◌, ◌+◌, drop}
use Rattle.std.specs.List.{position_or_len}
use Rattle.typed_spec.proofs.FoundMembers.{named}
use Rattle.typed_spec.proofs.members.position.Given as goal

abbrev pub invariant-loop-i : goal.invariant-loop-i
invariant-loop-i l = position_or_len (named l.name) l.members ≡ l.i + position_or_len (named l.name) (drop l.i l.members)
