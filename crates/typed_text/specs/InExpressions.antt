-- Each node of a specification stands in one of its expressions.
use Rattle.std.specs.Prelude.{◌≡◌, ◌<◌, ℕ, length, slice_get, Some}
use Rattle.stream_core.specs.Value.{SpecValue}
use Rattle.stream_core.specs.Term.{Term, TreeSpec, TreeRoot, TreeStream, TreeDef, TreeTrigger, TreeObserver, TreeLib, tree, trees}
use Rattle.stream_core.specs.PartOf.{IsPartOf}

-- an expression of an item, or an operand of a library form
pub data IsExpression (s : TreeSpec) : Term → Type 0 where
  of_stream : (i : ℕ) (x : TreeStream) → slice_get s.streams i ≡ Some x → IsExpression s x.expr
  of_def : (i : ℕ) (x : TreeDef) → slice_get s.defs i ≡ Some x → IsExpression s x.expr
  of_guard : (i : ℕ) (x : TreeTrigger) → slice_get s.triggers i ≡ Some x → IsExpression s x.guard.expr
  of_argument : (i j : ℕ) (x : TreeTrigger) (r : TreeRoot) → slice_get s.triggers i ≡ Some x → slice_get x.args j ≡ Some r → IsExpression s r.expr
  of_observer : (i : ℕ) (x : TreeObserver) → slice_get s.observers i ≡ Some x → IsExpression s x.root.expr
  of_form : (i j : ℕ) (x : TreeLib) (e : Term) → slice_get s.libs i ≡ Some x → slice_get x.args j ≡ Some e → IsExpression s e

pub record StandsIn (s : TreeSpec) (e : Term) : Type 0 where
  pub whole : Term
  pub is : IsExpression s whole
  pub part : IsPartOf e whole

pub record AreParts (x : SpecValue) : Type 0 where
  pub parts : (i : ℕ) → i < length x.nodes → StandsIn (trees x) (tree x.nodes x.libs i)
