-- The tests' specifications are well typed.
use Rattle.std.proofs.Common.{◌≡◌, ℕ, ◌<◌, List, [], ◌∷◌, get_or, Some, IsTrue, inl, refl, sym, ap, subst, arith}
use Rattle.std.specs.Prelude.{slice_get, ◌≢◌}
use Rattle.std.specs.List.{AllByRecursion}
use Rattle.std.proofs.lemmas.List.Elements.{All-nil}
use Rattle.sm_io.specs.Words.{reserved, limit_fronts, limit_ends}
use Rattle.sm_io.proofs.Elements.{get_within, all_by_place}
use Rattle.stream_types.specs.declared.scalar.Ty.{Ty}
use Rattle.stream_types.specs.declared.scalar.Scalar.TheVariants as scalar
use Rattle.stream_types.specs.Numbers.{is_word}
use Rattle.stream_types.specs.TypeList.{Stands}
use Rattle.stream_types.specs.Types.{AreWords}
use Rattle.stream_core.specs.declared.node.Node.{Node}
use Rattle.stream_core.specs.declared.spec.Root.{Root}
use Rattle.stream_core.specs.declared.spec.ExternItem.{ExternItem}
use Rattle.stream_core.specs.declared.spec.StreamItem.{StreamItem}
use Rattle.stream_core.specs.declared.spec.ObserverItem.{ObserverItem}
use Rattle.stream_core.specs.declared.spec.TriggerItem.{TriggerItem}
use Rattle.stream_core.specs.Value.{SpecValue}
use Rattle.stream_core.specs.Ordered.{all_parts}
use Rattle.stream_core.specs.Eval.{row_leaves}
use Rattle.stream_core.specs.Lower.{lowered_spec}
use Rattle.stream_core.specs.Meaning.{closed_spec}
use Rattle.stream_core.specs.Term.{TreeObserver, TreeRoot, TreeSpec, tree, trees, tree_root, without_defs}
use Rattle.stream_core.specs.Signature.{signature_of}
use Rattle.stream_core.specs.WellTyped.{bool, HasType, HasGoodNames, IsName, IsStreamName, IsGoodStream, IsGoodTrigger, RootHasType, WellTyped, argument_types, declared_names}
use Rattle.stream_core.proofs.Premises.{no_types}
use Rattle.recursion_check.proofs.Places.{each_of}
use Rattle.recursion_check.proofs.Each.{Each, each_at, names_of, once_by, up, up_rising, among}
use Rattle.stream_interp.specs.TestSpecs.{counter, root, two_streams, word8}

abbrev Typed : SpecValue → ℕ → Node → Type 0
Typed s i n = (t : Ty) × HasType (signature_of (trees s)) (tree s.nodes s.libs i) t

abbrev InOrder : SpecValue → ℕ → Node → Type 0
InOrder s i n = AllByRecursion (λ j. j < i) (all_parts s.libs n)

abbrev root_tree : SpecValue → Root → TreeRoot
root_tree s r = tree_root (tree s.nodes s.libs) r

above : (a n k : ℕ) → AllByRecursion (λ b. k < b) (up a n) → (j : ℕ) → slice_get (names_of (up a n)) j ≢ Some (k ∷ [])
above a n k far j e = let h = each_of (λ b. k < b) (up a n) k far (among (up a n) j k e) in absurd (omega (arith, h))

-- no declaration but a trigger has the trigger's name
abbrev Apart : SpecValue → ℕ → TriggerItem → Type 0
Apart s i x = (j : ℕ) → slice_get (declared_names s) j ≢ Some x.name

-- triggers of the trigger's name have its argument types
abbrev Alike : SpecValue → ℕ → TriggerItem → Type 0
Alike s i x = Each s.triggers (λ (j : ℕ) (y : TriggerItem). x.name ≡ y.name → argument_types x ≡ argument_types y)

alike_by : (s : SpecValue) → Each s.triggers (Alike s) → (i j : ℕ) (x y : TriggerItem) → slice_get s.triggers i ≡ Some x → slice_get s.triggers j ≡ Some y → x.name ≡ y.name → argument_types x ≡ argument_types y
alike_by s h i j x y e f = each_at s.triggers (λ (k : ℕ) (z : TriggerItem). x.name ≡ z.name → argument_types x ≡ argument_types z) (each_at s.triggers (Alike s) h i x e) j y f

apart_by : (s : SpecValue) → Each s.triggers (Apart s) → (i j : ℕ) (x : TriggerItem) → slice_get s.triggers i ≡ Some x → slice_get (declared_names s) j ≢ Some x.name
apart_by s h i j x e = each_at s.triggers (Apart s) h i x e j

-- ---- the counter

counter_nodes : Each counter.nodes (Typed counter)
unfolding tree
counter_nodes = ((word8, record { stream = _; is = refl; type_is = refl }), ((word8, (refl, refl)), ((word8, (refl, record { stream = _; is = refl; type_is = refl }, (refl, refl), refl)), tt)))

counter_order : Each counter.nodes (InOrder counter)
counter_order = (tt, (tt, ((omega arith, (omega arith, tt)), tt)))

counter_names : HasGoodNames counter
unfolding reserved limit_fronts limit_ends
counter_names = record {
  spec = refl;
  types = All-nil _;
  externs = All-nil _;
  streams = all_by_place (λ (x : StreamItem). IsStreamName [] x.name) counter.streams (inl refl, tt);
  defs = All-nil _;
  triggers = All-nil _;
  observers = all_by_place (λ (x : ObserverItem). IsName x.name) counter.observers (refl, tt);
  once = once_by (up 110 2) (up_rising 2 110);
  apart = apart_by counter tt;
  alike = alike_by counter tt;
}

pub counter_typed : WellTyped counter
unfolding tree
counter_typed = record {
  types = no_types;
  ordered = record { below = each_at counter.nodes (InOrder counter) counter_order };
  nodes = λ i h. let x = get_within counter.nodes i h in each_at counter.nodes (Typed counter) counter_nodes i x.0 x.1;
  externs = All-nil _;
  streams = all_by_place (IsGoodStream (signature_of (trees counter))) (trees counter).streams (record { stands = tt; initial = record { some = omega arith; most = omega arith; values = (refl, tt); flat = omega arith }; expr = (refl, record { stream = _; is = refl; type_is = refl }, (refl, refl), refl) }, tt);
  defs = All-nil _;
  triggers = All-nil _;
  observers = all_by_place (λ (x : TreeObserver). RootHasType (signature_of (trees counter)) x.root) (trees counter).observers (record { stream = _; is = refl; type_is = refl }, tt);
  libs = All-nil _;
  names = counter_names;
}

-- ---- two streams

two_nodes : Each two_streams.nodes (Typed two_streams)
unfolding tree
two_nodes = ((bool, refl), ((word8, refl), ((word8, record { stream = _; is = refl; type_is = refl }), ((word8, record { stream = _; is = refl; type_is = refl }), ((word8, (refl, record { stream = _; is = refl; type_is = refl }, refl, refl)), tt)))))

two_order : Each two_streams.nodes (InOrder two_streams)
two_order = (tt, (tt, (tt, (tt, ((omega arith, (omega arith, tt)), tt)))))

two_names : HasGoodNames two_streams
unfolding reserved limit_fronts limit_ends
two_names = record {
  spec = refl;
  types = All-nil _;
  externs = all_by_place (λ (x : ExternItem). IsName x.name) two_streams.externs (refl, (refl, tt));
  streams = all_by_place (λ (x : StreamItem). IsStreamName [] x.name) two_streams.streams (inl refl, (inl refl, tt));
  defs = All-nil _;
  triggers = all_by_place (λ (x : TriggerItem). IsName x.name) two_streams.triggers (refl, tt);
  observers = all_by_place (λ (x : ObserverItem). IsName x.name) two_streams.observers (refl, tt);
  once = once_by (up 98 5) (up_rising 5 98);
  apart = apart_by two_streams (above 98 5 97 (omega arith, (omega arith, (omega arith, (omega arith, (omega arith, tt))))), tt);
  alike = alike_by two_streams (((λ e. refl), tt), tt);
}

pub two_typed : WellTyped two_streams
unfolding tree
two_typed = record {
  types = no_types;
  ordered = record { below = each_at two_streams.nodes (InOrder two_streams) two_order };
  nodes = λ i h. let x = get_within two_streams.nodes i h in each_at two_streams.nodes (Typed two_streams) two_nodes i x.0 x.1;
  externs = all_by_place (λ (x : ExternItem). Stands [] x.ty) two_streams.externs (tt, (tt, tt));
  streams = all_by_place (IsGoodStream (signature_of (trees two_streams))) (trees two_streams).streams (
    record { stands = tt; initial = record { some = omega arith; most = omega arith; values = (refl, tt); flat = omega arith }; expr = refl },
    (record { stands = tt; initial = record { some = omega arith; most = omega arith; values = (refl, (refl, tt)); flat = omega arith }; expr = (refl, record { stream = _; is = refl; type_is = refl }, refl, refl) }, tt),
  );
  defs = All-nil _;
  triggers = all_by_place (IsGoodTrigger (signature_of (trees two_streams))) (trees two_streams).triggers (
    record {
      guard = refl;
      truth = refl;
      args = all_by_place (RootHasType (signature_of (trees two_streams))) (root_tree two_streams (root 1 word8) ∷ root_tree two_streams (root 2 word8) ∷ []) (refl, (record { stream = _; is = refl; type_is = refl }, tt));
      few = omega arith;
    },
    tt,
  );
  observers = all_by_place (λ (x : TreeObserver). RootHasType (signature_of (trees two_streams)) x.root) (trees two_streams).observers (record { stream = _; is = refl; type_is = refl }, tt);
  libs = All-nil _;
  names = two_names;
}

-- ---- their rows

leaves_are : (s : SpecValue) (t : TreeSpec) → trees s ≡ t → row_leaves (closed_spec s) ≡ row_leaves (without_defs t)
leaves_are s t e = ap (λ (u : TreeSpec). row_leaves (without_defs u)) e

-- the counter has no externs
pub counter_row : (s : SpecValue) → trees s ≡ lowered_spec (trees counter) → AreWords (row_leaves (closed_spec s)) []
counter_row s e = subst (λ xs. AreWords xs []) (sym (leaves_are s (lowered_spec (trees counter)) e)) tt

-- a truth value and a byte
pub two_row : (s : SpecValue) (b c : ℕ) → trees s ≡ lowered_spec (trees two_streams) → IsTrue (is_word scalar.Bool b) → IsTrue (is_word scalar.Word8 c) → AreWords (row_leaves (closed_spec s)) (b ∷ c ∷ [])
two_row s b c e p q = subst (λ xs. AreWords xs (b ∷ c ∷ [])) (sym (leaves_are s (lowered_spec (trees two_streams)) e)) (p, (q, tt))
