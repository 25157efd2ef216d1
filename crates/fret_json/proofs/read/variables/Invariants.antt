use Rattle.std.proofs.Common.{◌≡◌, ◌+◌}
use Rattle.std.specs.Prelude.{drop}
use Rattle.serde_json.specs.View.{items_view}
use Rattle.fret_json.specs.Requirements.{variable_of, entries}
use Rattle.fret_json.proofs.EntriesRead.{behind}
use Rattle.fret_json.proofs.read.variables.Given as goal

abbrev pub invariant-loop-i : goal.invariant-loop-i
invariant-loop-i l = entries variable_of 1 (items_view l.list) ≡ behind l.found.items (entries variable_of (l.i + 1) (items_view (drop l.i l.list)))
