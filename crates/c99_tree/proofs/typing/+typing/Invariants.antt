use Rattle.std.proofs.Common.{◌≡◌, map, drop}
use Rattle.std.specs.List.{list_all}
use Rattle.c99_tree.specs.Tree.{tree, exprs}
use Rattle.c99_tree.specs.Kinds.{kind_type}
use Rattle.c99_tree.specs.Typing.{types_of, fits_in, fit_members}
use Rattle.c99_tree.proofs.typing.+typing.Given as goal

abbrev pub invariant-fit_elements-loop-e : goal.invariant-fit_elements-loop-e
invariant-fit_elements-loop-e l = list_all (λ a. fits_in a (kind_type l.t)) (types_of l.unit (exprs (map tree (drop l.e-index l.all)))) ≡ list_all (λ a. fits_in a (kind_type l.t)) (types_of l.unit (exprs (map tree l.all)))

abbrev pub invariant-fit_members-loop-e : goal.invariant-fit_members-loop-e
invariant-fit_members-loop-e l = fit_members (types_of l.unit (exprs (map tree (drop l.e-index l.all)))) l.left ≡ fit_members (types_of l.unit (exprs (map tree l.all))) l.fields
