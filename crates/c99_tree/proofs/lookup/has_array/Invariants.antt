use Rattle.std.proofs.Common.{◌≡◌, drop}
use Rattle.c99_tree.specs.Lookup.{is_defined}
use Rattle.c99_tree.specs.declared.types.CTy.TheVariants as ty
use Rattle.c99_tree.proofs.lookup.has_array.Given as goal

abbrev pub invariant-loop-def : goal.invariant-loop-def
invariant-loop-def l = is_defined (drop l.def-index l.types) (ty.Array l.x l.n) ≡ is_defined l.types (ty.Array l.x l.n)
