use Rattle.std.proofs.Common.{◌≡◌, drop}
use Rattle.std.specs.List.{list_all}
use Rattle.c99_tree.specs.Lookup.{is_defined}
use Rattle.c99_ast.proofs.rules.are_defined_params.Given as goal

abbrev pub invariant-loop-h : goal.invariant-loop-h
invariant-loop-h l = list_all (λ h. list_all (is_defined l.types) h.params) (drop l.h-index l.handlers) ≡ list_all (λ h. list_all (is_defined l.types) h.params) l.handlers
