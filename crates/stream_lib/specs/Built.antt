-- Nodes placed one after another, and the trees that they make.
use Rattle.std.specs.Prelude.{ℕ, zero, suc, ◌-◌, ◌<◌, max, ◌≤◌, ◌≡◌, List, [], ◌∷◌, length, map, nat_le, Bool, if◌then◌else◌, slice_get, Some}
use Rattle.std.specs.List.{AllByRecursion}
use Rattle.stream_types.specs.declared.scalar.Scalar.TheVariants as scalar
use Rattle.stream_core.specs.Value.{SpecValue}
use Rattle.stream_core.specs.Term.{Term, and, or, choose, lit, tree}
use Rattle.stream_core.specs.PartOf.{IsPartOf}
use Rattle.stream_core.specs.Lower.{ago, agos, all_of, no, tests, yes}

-- the tree of a node, over no library forms
unfoldable pub tree_at : SpecValue → ℕ → Term
tree_at s i = tree s.nodes [] i

abbrev pub trees_at : SpecValue → List ℕ → List Term
trees_at s is = map (tree_at s) is

abbrev pub AreThere : SpecValue → List ℕ → Type 0
AreThere s is = AllByRecursion (λ i. i < length s.nodes) is

-- nodes alone were added, and earlier trees are as before
pub record Grows (old new : SpecValue) : Type 0 where
  pub others : new ≡ record old { nodes = new.nodes }
  pub size : length old.nodes ≤ length new.nodes
  pub trees : (i : ℕ) → i < length old.nodes → tree_at new i ≡ tree_at old i

-- an expression within one of these
pub record IsPartOfOne (e : Term) (es : List Term) : Type 0 where
  pub place : ℕ
  pub whole : Term
  pub is : slice_get es place ≡ Some whole
  pub part : IsPartOf e whole

-- each node that was added is within this expression
pub record AddsParts (old new : SpecValue) (e : Term) : Type 0 where
  pub parts : (j : ℕ) → length old.nodes ≤ j → j < length new.nodes → IsPartOf (tree_at new j) e

-- each node that was added is within one of these expressions
pub record AddsPartsOf (old new : SpecValue) (es : List Term) : Type 0 where
  pub parts : (j : ℕ) → length old.nodes ≤ j → j < length new.nodes → IsPartOfOne (tree_at new j) es

-- nodes alone were added, and this node's tree is this expression
pub record Makes (old new : SpecValue) (i : ℕ) (e : Term) : Type 0 where
  pub grows : Grows old new
  pub there : i < length new.nodes
  pub is : tree_at new i ≡ e
  pub adds : AddsParts old new e

-- nodes alone were added, and the trees of these nodes are these expressions
pub record MakesAll (old new : SpecValue) (is : List ℕ) (es : List Term) : Type 0 where
  pub grows : Grows old new
  pub there : AreThere new is
  pub are : trees_at new is ≡ es
  pub adds : AddsPartsOf old new es

-- `and` where all are to hold, else `or`
abbrev pub both : Bool → Term → Term → Term
both all a b = if all then and a b else or a b

-- all of these, or some of them, nested to the right
abbrev pub joined : Bool → List Term → Term
joined all [] = lit scalar.Bool (if all then 1 else 0)
joined all (a ∷ []) = a
joined all (a ∷ b ∷ bs) = both all a (joined all (b ∷ bs))

-- a test of a sample before the best of the older ones
abbrev pub better : (Term → Term → Term) → (ℕ → Term) → ℕ → ℕ → Term → Term
better test at count i rest = choose (all_of (tests test at i 0 count)) (at i) rest

-- one distance of the bounded since, before what holds from the next one on
abbrev pub since_step : ℕ → ℕ → ℕ → ℕ → ℕ → Term → Term
since_step low p q m i rest = if nat_le low i then or (ago q m i) (and (ago p m i) rest) else and (ago p m i) rest

-- what of the bounded since holds now
abbrev pub since_now : ℕ → Term → Term
since_now zero q = q
since_now (suc low) q = and q no

-- an operand that is evaluated, and then changes nothing: false among some, true among all
abbrev pub idle : Bool → Term → Term
idle all p = if all then or p yes else and p no

-- all, or some, of an operand's values from `low` to `high` steps ago
abbrev pub bounded : Bool → ℕ → ℕ → ℕ → Term → Term
bounded all zero high b p = joined all (p ∷ agos b (max high 1) 1 high)
bounded all (suc low) high b p = joined all (idle all p ∷ agos b (max high 1) (suc low) (high - low))
