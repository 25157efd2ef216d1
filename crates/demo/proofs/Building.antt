-- Nodes and items added to a demonstration's specification.
use Rattle.std.proofs.Common.{◌≡◌, ◌⊎◌, ⊎_elim, inl, inr, ℕ, zero, suc, ◌+◌, ◌<◌, List, [], ◌∷◌, ◌++◌, length, map, refl, sym, ap, ap₂, ◌∙◌, subst, arith, length-append}
use Rattle.std.specs.Prelude.{slice_get, Some, codes, decimal}
use Rattle.std.specs.List.{range_with_len}
use Rattle.std.proofs.lemmas.List.FromFn.{map-range_with_len_more}
use Rattle.std.proofs.lemmas.Option.{same_Some}
use Rattle.sm_io.proofs.Elements.{map_push}
use Rattle.stream_types.specs.declared.scalar.Scalar.{Scalar}
use Rattle.stream_types.specs.declared.scalar.Op2.{Op2}
use Rattle.stream_types.specs.declared.scalar.Ty.{Ty}
use Rattle.stream_core.specs.declared.node.Node.{Node}
use Rattle.stream_core.specs.declared.node.Node.TheVariants as node
use Rattle.stream_core.specs.declared.spec.Item.TheVariants as item
use Rattle.stream_core.specs.declared.spec.StreamItem.{StreamItem}
use Rattle.stream_core.specs.declared.spec.TriggerItem.{TriggerItem}
use Rattle.stream_core.specs.Value.{SpecValue}
use Rattle.stream_core.specs.Stored.{IsPlaced, with_item}
use Rattle.stream_core.specs.Parts.{IsNodeList}
use Rattle.stream_core.specs.Ordered.{Ordered}
use Rattle.stream_core.specs.Signature.{signature_of}
use Rattle.stream_core.specs.Term.{Term, TreeSpec, TreeStream, TreeTrigger, bin, build, def, tree, tree_root, trees_by}
use Rattle.stream_core.specs.WellTyped.{HasType, bool, word32}
use Rattle.stream_core.proofs.Trees.{tree_of}
use Rattle.demo.specs.Built.{IsBuilt, Keeps}
use Rattle.demo.specs.Demonstration.{ahead, demo_argument, demo_guard, demo_part, demo_spec, demo_stream, demo_trigger}

-- ---- placed nodes

-- a node was placed, as the nodes before it stayed
pub record Places (s t : SpecValue) (x : Node) (id : ℕ) : Type 0 where
  pub others : t ≡ record s { nodes = t.nodes }
  pub kept : Keeps s.nodes t.nodes
  pub stands : slice_get t.nodes id ≡ Some x
  pub list : IsNodeList t.nodes
  pub only : (i : ℕ) (y : Node) → slice_get t.nodes i ≡ Some y → (slice_get s.nodes i ≡ Some y) ⊎ (y ≡ x)

last_or_before : (xs : List Node) (x y : Node) (i : ℕ) → slice_get (xs ++ x ∷ []) i ≡ Some y → (slice_get xs i ≡ Some y) ⊎ (y ≡ x)
last_or_before [] x y zero e = inr (sym (same_Some x y e))
last_or_before [] x y (suc i) e = absurd (cc)
last_or_before (z ∷ xs) x y zero e = inl e
last_or_before (z ∷ xs) x y (suc i) e = last_or_before xs x y i e

pub places : (s t : SpecValue) (x : Node) (id : ℕ) → IsPlaced s t x id → t ≡ record s { nodes = t.nodes } → Keeps s.nodes t.nodes → slice_get t.nodes id ≡ Some x → IsNodeList t.nodes → Places s t x id
places s t x id is others kept stands list = record {
  others = others;
  kept = kept;
  stands = stands;
  list = list;
  only = λ i y e. ⊎_elim
      (λ old. inl (ap (λ (v : SpecValue). slice_get v.nodes i) (sym old.1) ∙ e))
      (λ new. last_or_before s.nodes x y i (ap (λ (v : SpecValue). slice_get v.nodes i) (sym new.2) ∙ e))
      is;
}

-- ---- the trees of placed nodes

-- a node is this tree, whatever nodes come behind it
abbrev pub IsTree : SpecValue → ℕ → Term → Type 0
IsTree s id e = (all : List Node) → Keeps s.nodes all → Ordered all [] → tree all [] id ≡ e

pub tree_stays : (s t : SpecValue) (x : Node) (id at : ℕ) (e : Term) → Places s t x id → IsTree s at e → IsTree t at e
tree_stays s t x id at e p h all keeps ordered = h all (λ i n q. keeps i n (p.kept i n q)) ordered

-- a node without parts
pub leaf_tree : (s t : SpecValue) (x : Node) (id : ℕ) (e : Term) → Places s t x id → ((f : ℕ → Term) → build [] def f x ≡ e) → IsTree t id e
leaf_tree s t x id e p is all keeps ordered = tree_of all [] ordered id x (keeps id x p.stands) ∙ is (tree all [])

-- a node over two nodes
pub bin_tree : (s t : SpecValue) (o : Op2) (c : Scalar) (a b id : ℕ) (d e : Term) → Places s t (node.Bin o c a b) id → IsTree s a d → IsTree s b e → IsTree t id (bin o c d e)
bin_tree s t o c a b id d e p left right all keeps ordered =
    tree_of all [] ordered id (node.Bin o c a b) (keeps id (node.Bin o c a b) p.stands)
    ∙ ap₂ (bin o c) (left all (λ i n q. keeps i n (p.kept i n q)) ordered) (right all (λ i n q. keeps i n (p.kept i n q)) ordered)

-- ---- what stands while nodes are placed

trees_stay : (s t : SpecValue) (f : ℕ → Term) → t ≡ record s { nodes = t.nodes } → trees_by f t ≡ trees_by f s
trees_stay s t f e = ap (trees_by f) e

pub built_more : (k n m : ℕ) (s t : SpecValue) (x : Node) (id : ℕ) (e : Term) (ty : Ty) → IsBuilt k n m s → Places s t x id → IsTree t id e → HasType (signature_of (demo_spec k)) e ty → IsBuilt k n m t
built_more k n m s t x id e ty b p is typed = record {
  streams = b.streams;
  triggers = b.triggers;
  list = p.list;
  stream_count = ap (λ (v : SpecValue). length v.streams) p.others ∙ b.stream_count;
  trigger_count = ap (λ (v : SpecValue). length v.triggers) p.others ∙ b.trigger_count;
  trees_are = λ all keeps ordered. trees_stay s t (tree all []) p.others ∙ b.trees_are all (λ i y q. keeps i y (p.kept i y q)) ordered;
  typed = λ all keeps ordered i y q. ⊎_elim
      (λ old. b.typed all (λ j z r. keeps j z (p.kept j z r)) ordered i y old)
      (λ new.
      let here : slice_get all i ≡ Some x = keeps i y q ∙ ap Some new in
      let same : e ≡ tree all [] i =
      sym (is all keeps ordered) ∙ tree_of all [] ordered id x (keeps id x p.stands) ∙ sym (tree_of all [] ordered i x here) in
      (ty, subst (λ (a : Term). HasType (signature_of (demo_spec k)) a ty) same typed))
      (p.only i y q);
}

-- ---- items

abbrev pub stream_item : List ℕ → List ℕ → ℕ → StreamItem
stream_item name init expr = record { name = name; ty = word32; init = init; expr = expr; at = 0 }

abbrev pub trigger_item : List ℕ → ℕ → ℕ → TriggerItem
trigger_item name test value_ = record { name = name; guard = record { expr = test; ty = bool; at = 0 }; args = record { expr = value_; ty = word32; at = 0 } ∷ [] }

more_of : {X : Type 0} (xs : List X) (x : X) (n : ℕ) → length xs ≡ n → length (xs ++ x ∷ []) ≡ n + 1
more_of xs x n e = let l = length-append xs (x ∷ []) in omega (arith, l, e)

pub stream_added : (k n m : ℕ) (s t : SpecValue) (name init : List ℕ) (expr : ℕ) → IsBuilt k n m s → n < k → t ≡ with_item s (item.Stream (stream_item name init expr))
    → name ≡ codes "s" ++ decimal n → init ≡ range_with_len n (ahead n + 1) → IsTree s expr (demo_stream n).expr → IsBuilt k (n + 1) m t
stream_added k n m s t name init expr b low e named begins is = record {
  streams = omega (arith, low);
  triggers = b.triggers;
  list = subst (λ (v : SpecValue). IsNodeList v.nodes) (sym e) b.list;
  stream_count = ap (λ (v : SpecValue). length v.streams) e ∙ more_of s.streams (stream_item name init expr) n b.stream_count;
  trigger_count = ap (λ (v : SpecValue). length v.triggers) e ∙ b.trigger_count;
  trees_are = λ all keeps ordered.
      let f = tree all [] in
      let held : Keeps s.nodes all = λ i y q. keeps i y (ap (λ (v : SpecValue). slice_get v.nodes i) e ∙ q) in
      let made : List ℕ → List ℕ → Term → TreeStream = λ x w d. record { name = x; ty = word32; init = w; expr = d; at = 0 } in
      let item_of : StreamItem → TreeStream = λ (y : StreamItem). record { name = y.name; ty = y.ty; init = y.init; expr = f y.expr; at = y.at } in
      let z_is : made name init (f expr) ≡ demo_stream n =
      ap (λ x. made x init (f expr)) named ∙ ap (λ w. made (codes "s" ++ decimal n) w (f expr)) begins
      ∙ ap (λ d. made (codes "s" ++ decimal n) (range_with_len n (ahead n + 1)) d) (is all held ordered) in
      ap (trees_by f) e
      ∙ ap (λ (ss : List TreeStream). record (trees_by f s) { streams = ss }) (map_push item_of s.streams (stream_item name init expr))
      ∙ ap₂ (λ (v : TreeSpec) (y : TreeStream). record v { streams = v.streams ++ y ∷ [] }) (b.trees_are all held ordered) z_is
      ∙ ap (λ (ss : List TreeStream). record (demo_part n m) { streams = ss }) (sym (map-range_with_len_more demo_stream 0 n n (omega arith)));
  typed = λ all keeps ordered i y q.
      b.typed all (λ j z r. keeps j z (ap (λ (v : SpecValue). slice_get v.nodes j) e ∙ r)) ordered i y (ap (λ (v : SpecValue). slice_get v.nodes i) (sym e) ∙ q);
}

pub trigger_added : (k n m : ℕ) (s t : SpecValue) (name : List ℕ) (test value_ : ℕ) → IsBuilt k n m s → m < k → t ≡ with_item s (item.Trigger (trigger_item name test value_))
    → name ≡ codes "h" ++ decimal m → IsTree s test (demo_guard m).expr → IsTree s value_ (demo_argument m).expr → IsBuilt k n (m + 1) t
trigger_added k n m s t name test value_ b low e named tests reads = record {
  streams = b.streams;
  triggers = omega (arith, low);
  list = subst (λ (v : SpecValue). IsNodeList v.nodes) (sym e) b.list;
  stream_count = ap (λ (v : SpecValue). length v.streams) e ∙ b.stream_count;
  trigger_count = ap (λ (v : SpecValue). length v.triggers) e ∙ more_of s.triggers (trigger_item name test value_) m b.trigger_count;
  trees_are = λ all keeps ordered.
      let f = tree all [] in
      let held : Keeps s.nodes all = λ i y q. keeps i y (ap (λ (v : SpecValue). slice_get v.nodes i) e ∙ q) in
      let made : List ℕ → Term → Term → TreeTrigger = λ x g d. record { name = x; guard = record { expr = g; ty = bool; at = 0 }; args = record { expr = d; ty = word32; at = 0 } ∷ [] } in
      let item_of : TriggerItem → TreeTrigger = λ (y : TriggerItem). record { name = y.name; guard = tree_root f y.guard; args = map (tree_root f) y.args } in
      let z_is : made name (f test) (f value_) ≡ demo_trigger m =
      ap (λ x. made x (f test) (f value_)) named ∙ ap₂ (made (codes "h" ++ decimal m)) (tests all held ordered) (reads all held ordered) in
      ap (trees_by f) e
      ∙ ap (λ (ts : List TreeTrigger). record (trees_by f s) { triggers = ts }) (map_push item_of s.triggers (trigger_item name test value_))
      ∙ ap₂ (λ (v : TreeSpec) (y : TreeTrigger). record v { triggers = v.triggers ++ y ∷ [] }) (b.trees_are all held ordered) z_is
      ∙ ap (λ (ts : List TreeTrigger). record (demo_part n m) { triggers = ts }) (sym (map-range_with_len_more demo_trigger 0 m m (omega arith)));
  typed = λ all keeps ordered i y q.
      b.typed all (λ j z r. keeps j z (ap (λ (v : SpecValue). slice_get v.nodes j) e ∙ r)) ordered i y (ap (λ (v : SpecValue). slice_get v.nodes i) (sym e) ∙ q);
}

-- ---- at the start

abbrev pub empty_spec : List ℕ → SpecValue
empty_spec name = record { name = name; types = []; nodes = []; externs = []; streams = []; defs = []; triggers = []; observers = []; libs = [] }

pub first_built : (k : ℕ) (s : SpecValue) (name : List ℕ) → s ≡ empty_spec name → name ≡ codes "demo" → IsBuilt k 0 0 s
first_built k s name e named = subst (IsBuilt k 0 0) (sym (e ∙ ap empty_spec named)) (record {
  streams = omega arith;
  triggers = omega arith;
  list = record { below = λ i n q. absurd (cc); once = λ i j n q r. absurd (cc) };
  stream_count = refl;
  trigger_count = refl;
  trees_are = λ all keeps ordered. refl;
  typed = λ all keeps ordered i y q. absurd (cc);
})
