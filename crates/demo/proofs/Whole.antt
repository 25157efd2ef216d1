-- The whole specification of a demonstration is well typed.
use Rattle.std.proofs.Common.{◌≡◌, ℕ, zero, suc, ◌+◌, ◌<◌, ◌≤◌, List, [], ◌∷◌, length, map, refl, sym, ap, ◌∙◌, subst, arith}
use Rattle.std.specs.Prelude.{slice_get, Some, All}
use Rattle.std.specs.List.{AllByRecursion, range_with_len}
use Rattle.sm_io.proofs.Elements.{all_by_place, get_within}
use Rattle.stream_types.specs.declared.scalar.Ty.{Ty}
use Rattle.stream_types.specs.TypeList.{IsTypeList, Stands}
use Rattle.stream_core.specs.declared.node.Node.{Node}
use Rattle.stream_core.specs.declared.node.Node.TheVariants as node
use Rattle.stream_core.specs.declared.spec.ExternItem.{ExternItem}
use Rattle.stream_core.specs.declared.spec.LibItem.{LibItem}
use Rattle.stream_core.specs.Value.{SpecValue}
use Rattle.stream_core.specs.Parts.{IsNodeList}
use Rattle.stream_core.specs.Ordered.{Ordered, all_parts}
use Rattle.stream_core.specs.Signature.{signature_of}
use Rattle.stream_core.specs.Term.{TreeObserver, TreeSpec, tree, trees, trees_by}
use Rattle.stream_core.specs.WellTyped.{HasGoodNames, HasType, IsGoodDef, IsGoodLib, IsGoodStream, IsGoodTrigger, RootHasType, WellTyped}
use Rattle.stream_core.proofs.Premises.{no_types}
use Rattle.demo.specs.Built.{IsBuilt, Keeps}
use Rattle.demo.specs.Demonstration.{demo_spec, demo_stream, demo_trigger}
use Rattle.demo.proofs.Typing.{guard_typed, read_typed, stream_initial, stream_typed}

-- ---- order

-- a list of nodes without library forms has its parts in order
pub list_ordered : (nodes : List Node) → IsNodeList nodes → Ordered nodes []
list_ordered nodes list = record { below = λ i n h. below_at i n h }
  where
    below_at : (i : ℕ) (n : Node) → slice_get nodes i ≡ Some n → AllByRecursion (λ j. j < i) (all_parts [] n)
    below_at i (node.Lit a b) h = list.below i _ h
    below_at i (node.Extern a) h = list.below i _ h
    below_at i (node.Stream a) h = list.below i _ h
    below_at i (node.Def a) h = list.below i _ h
    below_at i (node.Drop a b) h = list.below i _ h
    below_at i (node.Un o a b) h = list.below i _ h
    below_at i (node.Bin o a b c) h = list.below i _ h
    below_at i (node.Shift o a b c g) h = list.below i _ h
    below_at i (node.Cast a b c) h = list.below i _ h
    below_at i (node.And a b) h = list.below i _ h
    below_at i (node.Or a b) h = list.below i _ h
    below_at i (node.Implies a b) h = list.below i _ h
    below_at i (node.If a b c) h = list.below i _ h
    below_at i (node.Index a b c) h = list.below i _ h
    below_at i (node.Field a b c) h = list.below i _ h
    below_at i (node.Array a b) h = list.below i _ h
    below_at i (node.Record a b) h = list.below i _ h
    below_at i (node.Abs a b) h = list.below i _ h
    below_at i (node.Sign a b) h = list.below i _ h
    below_at i (node.Majority a b) h = list.below i _ h
    below_at i (node.Agreed a b) h = list.below i _ h
    below_at i (node.Lib k) h = tt

-- ---- lists over ranges

all_ranged : {X : Type 0} (P : X → Type 0) (f : ℕ → X) (a n : ℕ) → ((i : ℕ) → i < a + n → P (f i)) → AllByRecursion P (map f (range_with_len a n))
all_ranged P f a zero h = tt
all_ranged P f a (suc n) h = (h a (omega arith), all_ranged P f (a + 1) n (λ i low. h i (omega (arith, low))))

none_mapped : {X Y : Type 0} (f : X → Y) (xs : List X) → map f xs ≡ [] → xs ≡ []
none_mapped f [] e = refl
none_mapped f (x ∷ xs) e = absurd (cc)

-- ---- the whole

module _ (k : ℕ) (s : SpecValue) (b : IsBuilt k k k s) where
  ordered : Ordered s.nodes []
  ordered = list_ordered s.nodes b.list

  same : Keeps s.nodes s.nodes
  same = λ i n e. e

  by_nodes : trees_by (tree s.nodes []) s ≡ demo_spec k
  by_nodes = b.trees_are s.nodes same ordered

  no_libs : s.libs ≡ []
  no_libs =
      let f = tree s.nodes [] in
      none_mapped (λ (x : LibItem). record { form = x.form; args = map f x.args; at = x.at }) s.libs (ap (λ (t : TreeSpec). t.libs) by_nodes)

  pub trees_are : trees s ≡ demo_spec k
  trees_are = ap (λ (xs : List LibItem). trees_by (tree s.nodes xs) s) no_libs ∙ by_nodes

  streams_good : k ≤ 1000 → AllByRecursion (IsGoodStream (signature_of (demo_spec k))) (demo_spec k).streams
  streams_good few = all_ranged (IsGoodStream (signature_of (demo_spec k))) demo_stream 0 k
      (λ i low. record { stands = tt; initial = stream_initial i (omega (arith, few, low)); expr = stream_typed k i (omega (arith, few, low)) (omega (arith, low)) })

  triggers_good : AllByRecursion (IsGoodTrigger (signature_of (demo_spec k))) (demo_spec k).triggers
  triggers_good = all_ranged (IsGoodTrigger (signature_of (demo_spec k))) demo_trigger 0 k
      (λ i low. record {
        guard = guard_typed k i (omega (arith, low));
        truth = refl;
        args = all_by_place (RootHasType (signature_of (demo_spec k))) (demo_trigger i).args (read_typed k i (omega (arith, low)), tt);
        few = omega arith;
      })

  abbrev All_of : TreeSpec → Type 0
  All_of t = All (IsGoodStream (signature_of t)) t.streams × All (IsGoodDef (signature_of t)) t.defs × All (IsGoodTrigger (signature_of t)) t.triggers × All (λ (x : TreeObserver). RootHasType (signature_of t) x.root) t.observers × All (IsGoodLib (signature_of t)) t.libs

  all_good : k ≤ 1000 → All_of (trees s)
  all_good few = subst All_of (sym trees_are) (
    all_by_place (IsGoodStream (signature_of (demo_spec k))) (demo_spec k).streams (streams_good few),
    all_by_place (IsGoodDef (signature_of (demo_spec k))) [] tt,
    all_by_place (IsGoodTrigger (signature_of (demo_spec k))) (demo_spec k).triggers triggers_good,
    all_by_place (λ (x : TreeObserver). RootHasType (signature_of (demo_spec k)) x.root) [] tt,
    all_by_place (IsGoodLib (signature_of (demo_spec k))) [] tt,
  )

  typed_at : (i : ℕ) → i < length s.nodes → (t : Ty) × HasType (signature_of (trees s)) (tree s.nodes s.libs i) t
  typed_at i low =
      let at = get_within s.nodes i low in
      let h = b.typed s.nodes same ordered i at.0 at.1 in (
        h.0,
        subst (λ (t : TreeSpec). HasType (signature_of t) (tree s.nodes s.libs i) h.0) (sym trees_are)
            (subst (λ (xs : List LibItem). HasType (signature_of (demo_spec k)) (tree s.nodes xs i) h.0) (sym no_libs) h.1),
      )

  pub well_typed : k ≤ 1000 → HasGoodNames s → WellTyped s
  well_typed few names =
      let good = all_good few in
      let no_entries : s.types ≡ [] = ap (λ (t : TreeSpec). t.types) by_nodes in
      let no_externs : s.externs ≡ [] = ap (λ (t : TreeSpec). t.externs) by_nodes in
      record {
        types = subst IsTypeList (sym no_entries) no_types;
        ordered = subst (Ordered s.nodes) (sym no_libs) ordered;
        nodes = typed_at;
        externs = subst (All (λ (x : ExternItem). Stands s.types x.ty)) (sym no_externs) (all_by_place (λ (x : ExternItem). Stands s.types x.ty) [] tt);
        streams = good.0;
        defs = good.1;
        triggers = good.2;
        observers = good.3;
        libs = good.4;
        names = names;
      }

-- behind the last trigger
pub whole : (k m : ℕ) (s : SpecValue) → IsBuilt k k m s → k ≤ m → IsBuilt k k k s
whole k m s b high = let e : m ≡ k = let t = b.triggers in omega (arith, high, t) in subst (λ i. IsBuilt k k i s) e b
