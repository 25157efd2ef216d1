-- For the tests alone: specifications that they make. No clause of a call outside the tests cites this file.
use Rattle.std.specs.Prelude.{ℕ, zero, suc, ◌+◌, ◌*◌, List, [], ◌∷◌, ◌++◌, replicate}
use Rattle.stream_types.specs.declared.scalar.Scalar.TheVariants as scalar
use Rattle.stream_types.specs.declared.scalar.Op2.TheVariants as op2
use Rattle.stream_types.specs.declared.scalar.Ty.{Ty}
use Rattle.stream_types.specs.declared.scalar.Ty.TheVariants as ty
use Rattle.stream_core.specs.declared.node.Node.{Node}
use Rattle.stream_core.specs.declared.node.Node.TheVariants as node
use Rattle.stream_core.specs.declared.spec.Root.{Root}
use Rattle.stream_core.specs.declared.spec.ExternItem.{ExternItem}
use Rattle.stream_core.specs.declared.spec.DefItem.{DefItem}
use Rattle.stream_core.specs.declared.spec.TriggerItem.{TriggerItem}
use Rattle.stream_core.specs.Value.{SpecValue}
use Rattle.stream_core.specs.WellTyped.{bool}

abbrev pub empty : SpecValue
empty = record { name = 115 ∷ []; types = []; nodes = []; externs = []; streams = []; defs = []; triggers = []; observers = []; libs = [] }

abbrev pub with_node : SpecValue → Node → SpecValue
with_node s n = record s { nodes = s.nodes ++ n ∷ [] }

abbrev pub yes_node : Node
yes_node = node.Lit scalar.Bool 1

abbrev pub bool_def : ℕ → ℕ → ℕ → DefItem
bool_def letter expr at = record { name = letter ∷ []; ty = bool; expr = expr; at = at }

abbrev pub five_nodes : List Node
five_nodes = yes_node ∷ node.Def 0 ∷ node.Def 1 ∷ node.Def 2 ∷ node.Def 3 ∷ []

-- the defs a, b, c and d of Bool, each the literal true, which is 0, or a def, of which the first is 1
abbrev pub four_defs : ℕ → ℕ → ℕ → ℕ → SpecValue
four_defs a b c d = record empty { nodes = five_nodes; defs = bool_def 97 a 8 ∷ bool_def 98 b 23 ∷ bool_def 99 c 38 ∷ bool_def 100 d 53 ∷ [] }

abbrev pub bare_trigger : List Root → TriggerItem
bare_trigger args = record { name = 116 ∷ []; guard = record { expr = 0; ty = bool; at = 100 }; args = args }

-- so many triggers of one name
abbrev pub many : ℕ → SpecValue
many n = record empty { nodes = yes_node ∷ []; triggers = replicate n (bare_trigger []) }

abbrev pub word8 : Ty
word8 = ty.Scalar scalar.Word8

abbrev pub sum_node : ℕ → Node
sum_node i = node.Bin op2.Add scalar.Word8 i i

-- the sum of the def before and itself, and the def's own mention, so many times
abbrev pub sum_nodes : ℕ → List Node
sum_nodes zero = []
sum_nodes (suc n) = sum_nodes n ++ sum_node (2 * n + 1) ∷ node.Def n ∷ []

abbrev pub sum_def : ℕ → DefItem
sum_def n = record { name = (98 + n) ∷ []; ty = word8; expr = 2 * n + 2; at = n }

abbrev pub sum_defs : ℕ → List DefItem
sum_defs zero = []
sum_defs (suc n) = sum_defs n ++ sum_def n ∷ []

abbrev pub a_item : ExternItem
a_item = record { name = 97 ∷ []; ty = word8 }

-- over an extern a of Word8, so many defs, each the sum of the one before and itself
abbrev pub sums : ℕ → SpecValue
sums n = record empty { nodes = yes_node ∷ node.Extern 0 ∷ sum_nodes n; externs = a_item ∷ []; defs = sum_defs n }

-- eleven of them, of which a trigger takes this one
abbrev pub doubled : ℕ → SpecValue
doubled d = record (sums 11) { triggers = bare_trigger (record { expr = 2 * d + 1; ty = word8; at = 200 } ∷ []) ∷ [] }
