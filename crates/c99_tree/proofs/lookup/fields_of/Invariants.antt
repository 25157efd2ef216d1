use Rattle.std.proofs.Common.{◌≡◌, drop}
use Rattle.c99_tree.specs.Lookup.{fields_of}
use Rattle.c99_tree.proofs.lookup.fields_of.Given as goal

abbrev pub invariant-loop-def : goal.invariant-loop-def
invariant-loop-def l = fields_of (drop l.def-index l.types) l.x ≡ fields_of l.types l.x
