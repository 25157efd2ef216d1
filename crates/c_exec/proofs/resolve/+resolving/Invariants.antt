use Rattle.std.proofs.Common.{◌≡◌, drop, map}
use Rattle.c99_tree.specs.declared.types.CVar.{CVar}
use Rattle.c99_tree.specs.Tree.{tree, exprs}
use Rattle.c99_tree.specs.Kinds.{kind_type}
use Rattle.c_exec.specs.Codes.{op_of, nothing}
use Rattle.c_exec.specs.Resolving.{code_of_elements, code_of_values}
use Rattle.c_exec.proofs.resolve.+resolving.Given as goal

abbrev pub invariant-elements_code-loop-e : goal.invariant-elements_code-loop-e
invariant-elements_code-loop-e l =
    code_of_elements l.unit (kind_type l.to) (op_of l.code) (exprs (map tree (drop l.e-index l.all))) ≡ code_of_elements l.unit (kind_type l.to) nothing (exprs (map tree l.all))

abbrev pub invariant-members_code-loop-e : goal.invariant-members_code-loop-e
invariant-members_code-loop-e l =
    code_of_values l.unit (map (λ (v : CVar). v.ty) l.left) (op_of l.code) (exprs (map tree (drop l.e-index l.all))) ≡ code_of_values l.unit (map (λ (v : CVar). v.ty) l.fields) nothing (exprs (map tree l.all))
