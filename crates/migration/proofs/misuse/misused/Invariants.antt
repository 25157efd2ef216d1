use Rattle.std.proofs.Common.{◌≡◌, ◌+◌, drop}
use Rattle.std.specs.List.{position_from}
use Rattle.migration.specs.Migration.{is_misused}
use Rattle.migration.proofs.misuse.misused.Given as goal

abbrev pub invariant-loop-r : goal.invariant-loop-r
invariant-loop-r l = record {
  counted : l.number ≡ l.r-index;
  rest : position_from (is_misused l.unit) (l.number + 1) (drop l.r-index l.unit.rings) ≡ position_from (is_misused l.unit) 1 l.unit.rings;
}
