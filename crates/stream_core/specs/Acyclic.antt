-- No def leads back to itself.
use Rattle.std.specs.Prelude.{ℕ, List, length, ◌<◌, ◌≡◌, slice_get, Some}
use Rattle.stream_core.specs.Term.{TreeDef}
use Rattle.stream_core.specs.Limits.{Ranks}
use Rattle.stream_core.specs.Ordered.{Ordered, DefsThere}
use Rattle.stream_core.specs.Value.{SpecValue}
use Rattle.stream_core.specs.Term.{defs_of}
use Rattle.stream_core.specs.declared.node.Node.{Node}
use Rattle.stream_core.specs.declared.spec.DefItem.{DefItem}

-- a rank for each def, which falls along mentions
pub record Acyclic (defs : List TreeDef) : Type 0 where
  pub rank : ℕ → ℕ
  pub ranks : Ranks defs rank

-- what the trees of a specification's nodes need: parts and operands come before what uses them, no def leads back to
-- itself, and each def that a node names is there and has an expression
pub record WellFounded (s : SpecValue) : Type 0 where
  pub ordered : Ordered s.nodes s.libs
  pub acyclic : Acyclic (defs_of s)
  pub named : (i : ℕ) (n : Node) → slice_get s.nodes i ≡ Some n → DefsThere s.defs n
  pub exprs : (d : ℕ) (x : DefItem) → slice_get s.defs d ≡ Some x → x.expr < length s.nodes
