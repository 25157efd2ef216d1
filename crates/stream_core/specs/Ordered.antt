-- Parts and operands have smaller numbers.
use Rattle.std.specs.Prelude.{ℕ, ◌<◌, ◌≡◌, List, [], slice_get, length, Option, Some, None}
use Rattle.std.specs.List.{AllByRecursion}
use Rattle.stream_core.specs.declared.node.Node.{Node}
use Rattle.stream_core.specs.declared.node.Node.TheVariants as node
use Rattle.stream_core.specs.declared.spec.LibItem.{LibItem}
use Rattle.stream_core.specs.declared.spec.DefItem.{DefItem}
use Rattle.stream_core.specs.Parts.{parts}

abbrev pub args_of : Option LibItem → List ℕ
args_of None = []
args_of (Some item) = item.args

-- the parts of a node, and the operands of a form that it names
abbrev pub all_parts : List LibItem → Node → List ℕ
all_parts libs (node.Lib k) = args_of (slice_get libs k)
all_parts libs n = parts n

pub record Ordered (nodes : List Node) (libs : List LibItem) : Type 0 where
  pub below : (i : ℕ) (n : Node) → slice_get nodes i ≡ Some n → AllByRecursion (λ j. j < i) (all_parts libs n)

-- the def that a node names is there
abbrev pub DefsThere : List DefItem → Node → Type 0
DefsThere defs (node.Def d) = d < length defs
DefsThere defs n = Unit {0}
