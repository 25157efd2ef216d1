use Rattle.std.proofs.Common.{◌≡◌}
use Rattle.type_check.proofs.Redeclarations.{IsWalked}
use Rattle.type_check.proofs.names.name_fault.Given as goal

abbrev pub invariant-loop-decl : goal.invariant-loop-decl
invariant-loop-decl l = record {
  version_is : l.seen.version ≡ l.surface.version;
  walked : IsWalked l.surface l.decl-index l.seen.structs.keys l.seen.items.entries;
}
