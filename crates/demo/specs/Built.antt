-- A demonstration's specification while it is built.
use Rattle.std.specs.Prelude.{ℕ, ◌≡◌, ◌≤◌, List, [], slice_get, length, Some}
use Rattle.stream_types.specs.declared.scalar.Ty.{Ty}
use Rattle.stream_core.specs.declared.node.Node.{Node}
use Rattle.stream_core.specs.Parts.{IsNodeList}
use Rattle.stream_core.specs.Ordered.{Ordered}
use Rattle.stream_core.specs.Signature.{signature_of}
use Rattle.stream_core.specs.Term.{tree, trees_by}
use Rattle.stream_core.specs.Value.{SpecValue}
use Rattle.stream_core.specs.WellTyped.{HasType}
use Rattle.demo.specs.Demonstration.{demo_part, demo_spec}

-- the nodes of a list keep their numbers in another one
abbrev pub Keeps : List Node → List Node → Type 0
Keeps some all = (i : ℕ) (n : Node) → slice_get some i ≡ Some n → slice_get all i ≡ Some n

-- each node has a type in the whole specification of k streams
abbrev pub AreTyped : ℕ → List Node → List Node → Type 0
AreTyped k some all = (i : ℕ) (n : Node) → slice_get some i ≡ Some n → (t : Ty) × HasType (signature_of (demo_spec k)) (tree all [] i) t

-- Of a specification of k streams, the first n streams and the first m triggers are there. More nodes change nothing.
pub record IsBuilt (k n m : ℕ) (s : SpecValue) : Type 0 where
  pub streams : n ≤ k
  pub triggers : m ≤ k
  pub list : IsNodeList s.nodes
  pub stream_count : length s.streams ≡ n
  pub trigger_count : length s.triggers ≡ m
  pub trees_are : (all : List Node) → Keeps s.nodes all → Ordered all [] → trees_by (tree all []) s ≡ demo_part n m
  pub typed : (all : List Node) → Keeps s.nodes all → Ordered all [] → AreTyped k s.nodes all
