-- (extern x Word8) (trigger t true (+ x x) (+ x x)), made call by call, is well typed and has no cycle.
use Rattle.std.proofs.Common.{◌≡◌, ⊎_elim, ℕ, zero, suc, ◌<◌, List, [], ◌∷◌, Some, refl, ap, ◌∙◌, subst, arith}
use Rattle.std.specs.Prelude.{slice_get}
use Rattle.std.specs.List.{AllByRecursion}
use Rattle.std.proofs.lemmas.List.Elements.{All-nil}
use Rattle.sm_io.specs.Words.{reserved, limit_fronts, limit_ends}
use Rattle.stream_types.specs.declared.scalar.Scalar.TheVariants as scalar
use Rattle.stream_types.specs.declared.scalar.Op2.TheVariants as op2
use Rattle.stream_types.specs.declared.scalar.Ty.{Ty}
use Rattle.stream_types.specs.declared.scalar.Ty.TheVariants as ty
use Rattle.stream_types.specs.TypeList.{Stands}
use Rattle.stream_core.specs.declared.node.Node.{Node}
use Rattle.stream_core.specs.declared.node.Node.TheVariants as node
use Rattle.stream_core.specs.declared.spec.Root.{Root}
use Rattle.stream_core.specs.declared.spec.ExternItem.{ExternItem}
use Rattle.stream_core.specs.declared.spec.TriggerItem.{TriggerItem}
use Rattle.stream_core.specs.declared.spec.Item.TheVariants as item
use Rattle.stream_core.specs.Value.{SpecValue}
use Rattle.stream_core.specs.Ordered.{Ordered, all_parts}
use Rattle.stream_core.specs.Stored.{IsPlaced, with_item}
use Rattle.stream_core.specs.Term.{TreeRoot, tree, trees, tree_root, defs_of}
use Rattle.stream_core.specs.Limits.{Leads}
use Rattle.stream_core.specs.Soundness.{HasNoCycle}
use Rattle.stream_core.specs.Signature.{signature_of}
use Rattle.stream_core.specs.WellTyped.{bool, HasType, HasGoodNames, IsName, IsGoodTrigger, RootHasType, WellTyped, declared_names, argument_types}
use Rattle.stream_core.proofs.Premises.{one, two, no_types, first_byte, name_byte}

abbrev pub word8 : Ty
word8 = ty.Scalar scalar.Word8

abbrev pub x_item : ExternItem
x_item = record { name = 120 ∷ []; ty = word8 }

abbrev pub root_at : ℕ → Ty → Root
root_at n t = record { expr = n; ty = t; at = 9 }

abbrev pub t_item : ℕ → ℕ → ℕ → TriggerItem
t_item g a b = record { name = 116 ∷ []; guard = root_at g bool; args = root_at a word8 ∷ root_at b word8 ∷ [] }

abbrev pub with_nodes : List Node → List TriggerItem → SpecValue
with_nodes nodes triggers = record {
  name = 115 ∷ [];
  types = [];
  nodes = nodes;
  externs = x_item ∷ [];
  streams = [];
  defs = [];
  triggers = triggers;
  observers = [];
  libs = [];
}

abbrev yes_node : Node
yes_node = node.Lit scalar.Bool 1

abbrev pub both_node : ℕ → Node
both_node x = node.Bin op2.Add scalar.Word8 x x

abbrev three : List Node
three = yes_node ∷ node.Extern 0 ∷ both_node 1 ∷ []

abbrev pub shared : SpecValue
shared = with_nodes three (t_item 0 2 2 ∷ [])

each_node : (P : ℕ → Node → Type 0) → P 0 yes_node → P 1 (node.Extern 0) → P 2 (both_node 1) → (i : ℕ) (n : Node) → slice_get three i ≡ Some n → P i n
each_node P a b c zero n e = let is : yes_node ≡ n = cc in subst (P 0) is a
each_node P a b c (suc zero) n e = let is : node.Extern 0 ≡ n = cc in subst (P 1) is b
each_node P a b c (suc (suc zero)) n e = let is : both_node 1 ≡ n = cc in subst (P 2) is c
each_node P a b c (suc (suc (suc i))) n e = absurd (cc)

ordered : Ordered three []
ordered = record { below = each_node (λ i n. AllByRecursion (λ j. j < i) (all_parts [] n)) tt tt (omega arith, (omega arith, tt)) }

typed : (i : ℕ) → i < 3 → (t : Ty) × HasType (signature_of (trees shared)) (tree three [] i) t
unfolding tree
typed zero b = (bool, (refl, refl))
typed (suc zero) b = (word8, refl)
typed (suc (suc zero)) b = (word8, (refl, refl, refl, refl))
typed (suc (suc (suc i))) b = absurd (omega (arith, b))

good_names : HasGoodNames shared
unfolding reserved limit_fronts limit_ends
good_names = record {
  spec = refl;
  types = All-nil _;
  externs = one (λ (x : ExternItem). IsName x.name) x_item refl;
  streams = All-nil _;
  defs = All-nil _;
  triggers = one (λ (x : TriggerItem). IsName x.name) (t_item 0 2 2) refl;
  observers = All-nil _;
  once = once;
  apart = apart;
  alike = alike;
}
  where
    once : (i j : ℕ) (name : List ℕ) → slice_get (declared_names shared) i ≡ Some name → slice_get (declared_names shared) j ≡ Some name → i ≡ j
    once zero zero name e f = refl
    once (suc i) j name e f = absurd (cc)
    once zero (suc j) name e f = absurd (cc)

    apart : (i j : ℕ) (x : TriggerItem) → slice_get shared.triggers i ≡ Some x → slice_get (declared_names shared) j ≡ Some x.name → ⊥
    apart zero zero x e f = let q : 116 ≡ name_byte (Some x) = ap name_byte e in let r : 120 ≡ name_byte (Some x) = ap first_byte f in absurd (omega (arith, q, r))
    apart zero (suc j) x e f = absurd (cc)
    apart (suc i) j x e f = absurd (cc)

    alike : (i j : ℕ) (x y : TriggerItem) → slice_get shared.triggers i ≡ Some x → slice_get shared.triggers j ≡ Some y → x.name ≡ y.name → argument_types x ≡ argument_types y
    alike zero zero x y e f s = let is : x ≡ y = cc in ap argument_types is
    alike (suc i) j x y e f s = absurd (cc)
    alike zero (suc j) x y e f s = absurd (cc)

abbrev tree_of_root : Root → TreeRoot
tree_of_root r = tree_root (tree three []) r

argument : RootHasType (signature_of (trees shared)) (tree_of_root (root_at 2 word8))
unfolding tree
argument = (refl, refl, refl, refl)

pub well_typed : WellTyped shared
unfolding tree
well_typed = record {
  types = no_types;
  ordered = ordered;
  nodes = typed;
  externs = one (λ (x : ExternItem). Stands shared.types x.ty) x_item tt;
  streams = All-nil _;
  defs = All-nil _;
  triggers = one (IsGoodTrigger (signature_of (trees shared))) (record { name = 116 ∷ []; guard = tree_of_root (root_at 0 bool); args = tree_of_root (root_at 2 word8) ∷ tree_of_root (root_at 2 word8) ∷ [] }) (record { guard = (refl, refl); truth = refl; args = two (RootHasType (signature_of (trees shared))) (tree_of_root (root_at 2 word8)) (tree_of_root (root_at 2 word8)) argument argument; few = omega arith });
  observers = All-nil _;
  libs = All-nil _;
  names = good_names;
}

no_way : (n a b : ℕ) → Leads [] n a b → ⊥
no_way zero a b l = let e = l.is in absurd (cc)
no_way (suc n) a b l = let e = l.1.is in absurd (cc)

pub no_cycle : HasNoCycle (defs_of shared)
no_cycle d way = no_way way.0 d d way.1

-- ---- how it is made

first_placed : (s : SpecValue) (i : ℕ) → IsPlaced (with_nodes [] []) s yes_node i → (i ≡ 0) × (s ≡ with_nodes (yes_node ∷ []) [])
first_placed s i p = ⊎_elim (λ h. let e = h.0 in absurd (cc)) (λ h. (h.1, h.2)) p

extern_not_yes : (i : ℕ) → slice_get (yes_node ∷ []) i ≡ Some (node.Extern 0) → ⊥
extern_not_yes zero e = absurd (cc)
extern_not_yes (suc i) e = absurd (cc)

second_placed : (s : SpecValue) (i : ℕ) → IsPlaced (with_nodes (yes_node ∷ []) []) s (node.Extern 0) i → (i ≡ 1) × (s ≡ with_nodes (yes_node ∷ node.Extern 0 ∷ []) [])
second_placed s i p = ⊎_elim (λ h. absurd (extern_not_yes i h.0)) (λ h. (h.1, h.2)) p

no_both : (i : ℕ) → slice_get (yes_node ∷ node.Extern 0 ∷ []) i ≡ Some (both_node 1) → ⊥
no_both zero e = absurd (cc)
no_both (suc zero) e = absurd (cc)
no_both (suc (suc i)) e = absurd (cc)

third_placed : (s : SpecValue) (i : ℕ) → IsPlaced (with_nodes (yes_node ∷ node.Extern 0 ∷ []) []) s (both_node 1) i → (i ≡ 2) × (s ≡ with_nodes three [])
third_placed s i p = ⊎_elim (λ h. absurd (no_both i h.0)) (λ h. (h.1, h.2)) p

both_at : (i : ℕ) → slice_get three i ≡ Some (both_node 1) → i ≡ 2
both_at zero e = absurd (cc)
both_at (suc zero) e = absurd (cc)
both_at (suc (suc zero)) e = refl
both_at (suc (suc (suc i))) e = absurd (cc)

again_placed : (s : SpecValue) (i : ℕ) → IsPlaced (with_nodes three []) s (both_node 1) i → (i ≡ 2) × (s ≡ with_nodes three [])
again_placed s i p = ⊎_elim (λ h. (both_at i h.0, h.1)) (λ h. absurd (h.0 2 refl)) p

-- an extern, the guard, the operand, the sum and the sum again, and the trigger over them
pub made : (s0 s1 s2 s3 s4 s5 : SpecValue) (g x a b : ℕ) → s0 ≡ with_nodes [] [] → IsPlaced s0 s1 yes_node g → IsPlaced s1 s2 (node.Extern 0) x → IsPlaced s2 s3 (both_node x) a → IsPlaced s3 s4 (both_node x) b → s5 ≡ with_item s4 (item.Trigger (t_item g a b)) → s5 ≡ shared
made s0 s1 s2 s3 s4 s5 g x a b e p q r t f =
    let p' = first_placed s1 g (subst (λ o. IsPlaced o s1 yes_node g) e p) in
    let q' = second_placed s2 x (subst (λ o. IsPlaced o s2 (node.Extern 0) x) p'.1 q) in
    let r1 = subst (λ o. IsPlaced o s3 (both_node x) a) q'.1 r in
    let r' = third_placed s3 a (subst (λ y. IsPlaced (with_nodes (yes_node ∷ node.Extern 0 ∷ []) []) s3 (both_node y) a) q'.0 r1) in
    let t1 = subst (λ o. IsPlaced o s4 (both_node x) b) r'.1 t in
    let t' = again_placed s4 b (subst (λ y. IsPlaced (with_nodes three []) s4 (both_node y) b) q'.0 t1) in
    f
    ∙ ap (λ o. with_item o (item.Trigger (t_item g a b))) t'.1
    ∙ ap (λ y. with_item (with_nodes three []) (item.Trigger (t_item y a b))) p'.0
    ∙ ap (λ y. with_item (with_nodes three []) (item.Trigger (t_item 0 y b))) r'.0
    ∙ ap (λ y. with_item (with_nodes three []) (item.Trigger (t_item 0 2 y))) t'.0
