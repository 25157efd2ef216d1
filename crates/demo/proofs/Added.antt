-- A stream and a trigger, with their nodes, added to a demonstration's specification.
use Rattle.std.proofs.Common.{◌≡◌, ℕ, ◌+◌, ◌<◌, ◌≤◌, List, ◌++◌, refl, arith}
use Rattle.std.specs.Prelude.{codes, decimal}
use Rattle.std.specs.List.{range_with_len}
use Rattle.stream_types.specs.declared.scalar.Scalar.TheVariants as scalar
use Rattle.stream_types.specs.declared.scalar.Op2.TheVariants as op2
use Rattle.stream_core.specs.declared.node.Node.TheVariants as node
use Rattle.stream_core.specs.declared.spec.Item.TheVariants as item
use Rattle.stream_core.specs.Value.{SpecValue}
use Rattle.stream_core.specs.Stored.{with_item}
use Rattle.stream_core.specs.Term.{bin, dropped, lit, stream}
use Rattle.stream_core.specs.WellTyped.{bool, word32}
use Rattle.demo.specs.Built.{IsBuilt}
use Rattle.demo.specs.Demonstration.{ahead, demo_argument, demo_guard, demo_stream}
use Rattle.demo.proofs.Building.{IsTree, Places, bin_tree, built_more, leaf_tree, stream_added, stream_item, tree_stays, trigger_added, trigger_item}
use Rattle.demo.proofs.Typing.{drop_typed, guard_typed, lit_typed, read_typed, stream_typed}

module _ (k n m : ℕ) (few : n < 1000) (low : n < k) (s : SpecValue) (b : IsBuilt k n m s) where
  pub stream_next : (s1 s2 s3 t : SpecValue) (name init : List ℕ) (later one expr : ℕ)
      → Places s s1 (node.Drop n (ahead n)) later → Places s1 s2 (node.Lit scalar.Word32 1) one → Places s2 s3 (node.Bin op2.Add scalar.Word32 later one) expr
      → t ≡ with_item s3 (item.Stream (stream_item name init expr)) → name ≡ codes "s" ++ decimal n → init ≡ range_with_len n (ahead n + 1) → IsBuilt k (n + 1) m t
  stream_next s1 s2 s3 t name init later one expr p q r e named begins =
      let a1 : IsTree s1 later (dropped n (ahead n)) = leaf_tree s s1 (node.Drop n (ahead n)) later (dropped n (ahead n)) p (λ f. refl) in
      let a2 = tree_stays s1 s2 (node.Lit scalar.Word32 1) one later (dropped n (ahead n)) q a1 in
      let b2 : IsTree s2 one (lit scalar.Word32 1) = leaf_tree s1 s2 (node.Lit scalar.Word32 1) one (lit scalar.Word32 1) q (λ f. refl) in
      let c3 : IsTree s3 expr (demo_stream n).expr = bin_tree s2 s3 op2.Add scalar.Word32 later one expr (dropped n (ahead n)) (lit scalar.Word32 1) r a2 b2 in
      let d1 = built_more k n m s s1 (node.Drop n (ahead n)) later (dropped n (ahead n)) word32 b p a1 (drop_typed k n few low) in
      let d2 = built_more k n m s1 s2 (node.Lit scalar.Word32 1) one (lit scalar.Word32 1) word32 d1 q b2 (lit_typed k 1 (omega arith)) in
      let d3 = built_more k n m s2 s3 (node.Bin op2.Add scalar.Word32 later one) expr (demo_stream n).expr word32 d2 r c3 (stream_typed k n few low) in
      stream_added k n m s3 t name init expr d3 low e named begins c3

module _ (k n m : ℕ) (low : m < k) (s : SpecValue) (b : IsBuilt k n m s) where
  pub trigger_next : (s1 s2 s3 s4 s5 t : SpecValue) (name : List ℕ) (value_ seven rest zero_ test : ℕ)
      → Places s s1 (node.Stream m) value_ → Places s1 s2 (node.Lit scalar.Word32 7) seven → Places s2 s3 (node.Bin op2.Rem scalar.Word32 value_ seven) rest
      → Places s3 s4 (node.Lit scalar.Word32 0) zero_ → Places s4 s5 (node.Bin op2.Eq scalar.Word32 rest zero_) test
      → t ≡ with_item s5 (item.Trigger (trigger_item name test value_)) → name ≡ codes "h" ++ decimal m → IsBuilt k n (m + 1) t
  trigger_next s1 s2 s3 s4 s5 t name value_ seven rest zero_ test p q r u v e named =
      let left = bin op2.Rem scalar.Word32 (stream m) (lit scalar.Word32 7) in
      let a1 : IsTree s1 value_ (stream m) = leaf_tree s s1 (node.Stream m) value_ (stream m) p (λ f. refl) in
      let a2 = tree_stays s1 s2 (node.Lit scalar.Word32 7) seven value_ (stream m) q a1 in
      let b2 : IsTree s2 seven (lit scalar.Word32 7) = leaf_tree s1 s2 (node.Lit scalar.Word32 7) seven (lit scalar.Word32 7) q (λ f. refl) in
      let c3 : IsTree s3 rest left = bin_tree s2 s3 op2.Rem scalar.Word32 value_ seven rest (stream m) (lit scalar.Word32 7) r a2 b2 in
      let c4 = tree_stays s3 s4 (node.Lit scalar.Word32 0) zero_ rest left u c3 in
      let d4 : IsTree s4 zero_ (lit scalar.Word32 0) = leaf_tree s3 s4 (node.Lit scalar.Word32 0) zero_ (lit scalar.Word32 0) u (λ f. refl) in
      let f5 : IsTree s5 test (demo_guard m).expr = bin_tree s4 s5 op2.Eq scalar.Word32 rest zero_ test left (lit scalar.Word32 0) v c4 d4 in
      let a3 = tree_stays s2 s3 (node.Bin op2.Rem scalar.Word32 value_ seven) rest value_ (stream m) r a2 in
      let a4 = tree_stays s3 s4 (node.Lit scalar.Word32 0) zero_ value_ (stream m) u a3 in
      let a5 = tree_stays s4 s5 (node.Bin op2.Eq scalar.Word32 rest zero_) test value_ (stream m) v a4 in
      let g1 = built_more k n m s s1 (node.Stream m) value_ (stream m) word32 b p a1 (read_typed k m low) in
      let g2 = built_more k n m s1 s2 (node.Lit scalar.Word32 7) seven (lit scalar.Word32 7) word32 g1 q b2 (lit_typed k 7 (omega arith)) in
      let g3 = built_more k n m s2 s3 (node.Bin op2.Rem scalar.Word32 value_ seven) rest left word32 g2 r c3 (refl, read_typed k m low, lit_typed k 7 (omega arith), refl) in
      let g4 = built_more k n m s3 s4 (node.Lit scalar.Word32 0) zero_ (lit scalar.Word32 0) word32 g3 u d4 (lit_typed k 0 (omega arith)) in
      let g5 = built_more k n m s4 s5 (node.Bin op2.Eq scalar.Word32 rest zero_) test (demo_guard m).expr bool g4 v f5 (guard_typed k m low) in
      trigger_added k n m s5 t name test value_ g5 low e named f5 a5
