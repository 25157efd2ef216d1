-- Each expression of a well formed program, on the words of its statics.
use Rattle.std.proofs.Common.{◌≡◌, ℕ, true, List, Some}
use Rattle.std.specs.Prelude.{IsTrue}
use Rattle.c99_tree.specs.declared.types.CTy.{CTy}
use Rattle.c99_tree.specs.declared.types.CTy.TheVariants as ty
use Rattle.c99_tree.specs.declared.unit.Unit.{Unit as CUnit}
use Rattle.c99_tree.specs.Tree.{Expr, Exprs}
use Rattle.c99_tree.specs.Lookup.{place_of_var}
use Rattle.c99_tree.specs.Values.{parts, words_of}
use Rattle.c99_tree.specs.Typing.{type_of, types_of, fields_in}
use Rattle.c99_tree.specs.Evaluation.{Statics, value_at, evaluate}
use Rattle.c99_tree.specs.WellFormed.{parts_of, parts_of_all, types_come_first}
use Rattle.c99_tree.proofs.Shaped.{shape_of-defined}
use Rattle.c99_tree.proofs.TypedExpressions.{Premises}
use Rattle.c99_tree.proofs.TypedValues.{fit_types}
use Rattle.c_exec.specs.Layout.{var_start, var_length}
use Rattle.c_exec.specs.Machine.{words_of_statics}
use Rattle.c_exec.specs.Resolving.{code_of}
use Rattle.c_exec.proofs.ExpressionsGo.{Sims}
use Rattle.c_exec.proofs.ListsGo.{AllSim}
use Rattle.c_exec.proofs.CodeGoes.{Good, Laid, run_taken, code_sims, all_sims}
use Rattle.c_exec.proofs.LaidOut.{copies_laid, copy_wide, index_laid, ring_laid}
use Rattle.c_exec.proofs.PartsLaid.{elements_laid, member_run}
use Rattle.c_exec.proofs.TypesShaped.{ordered, type_shaped}

pub statics_laid : (u : CUnit) (s : Statics) → IsTrue (types_come_first u) → Premises u s → Laid u s (words_of_statics s)
statics_laid u s t c = record {
  given = c;
  shaped = type_shaped u t;
  copies = λ x v e. copies_laid u s x v t c.statics e;
  copy_long = λ x v e. copy_wide u s x v t c.statics e;
  indices = λ r ring e. index_laid u s r ring t c.statics e;
  rings = λ r ring e. ring_laid u s r ring t c.statics e;
  elements = λ x n v d p. elements_laid u.types x n v (shape_of-defined u.types (ordered u t) (ty.Array x n) d) p;
  members = λ y x v f h g p.
      run_taken (words_of v) (var_start u.types (fields_in u.types (Some (ty.Struct y))) x) (var_length u.types (fields_in u.types (Some (ty.Struct y))) x)
      (words_of (value_at (parts v) (place_of_var (fields_in u.types (Some (ty.Struct y))) x))) (member_run u.types y x v f h g p);
  member_long = λ y x v f h g p. (member_run u.types y x v f h g p).long;
}

-- an expression of a well formed program, on a pile
pub expression_goes : (u : CUnit) (s : Statics) (room : ℕ) (e : Expr) (r : CTy) → IsTrue (types_come_first u) → Premises u s → Good u (parts_of e)
    → type_of u e ≡ Some r → Sims room (words_of_statics s) (code_of u e) (evaluate u s e)
expression_goes u s room e r t c g h = code_sims u s (words_of_statics s) room (statics_laid u s t c) e r g h

-- expressions of which each fits the type at its place
pub expressions_go : (u : CUnit) (s : Statics) (room : ℕ) (es : Exprs) (rs : List CTy) → IsTrue (types_come_first u) → Premises u s
    → Good u (parts_of_all es) → fit_types (types_of u es) rs ≡ true → AllSim u s room (words_of_statics s) rs es
expressions_go u s room es rs t c g h = all_sims u s (words_of_statics s) room (statics_laid u s t c) rs es g h
