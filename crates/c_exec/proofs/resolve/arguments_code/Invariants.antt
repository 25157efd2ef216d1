use Rattle.std.proofs.Common.{◌≡◌, drop, map}
use Rattle.c99_tree.specs.Tree.{tree, exprs}
use Rattle.c_exec.specs.Codes.{op_of, nothing}
use Rattle.c_exec.specs.Resolving.{code_of_values}
use Rattle.c_exec.proofs.resolve.arguments_code.Given as goal

abbrev pub invariant-loop-e : goal.invariant-loop-e
invariant-loop-e l =
    code_of_values l.unit l.left (op_of l.code) (exprs (map tree (drop l.e-index l.all))) ≡ code_of_values l.unit l.params nothing (exprs (map tree l.all))
