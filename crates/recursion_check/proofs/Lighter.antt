-- The steps of the graph lead to smaller places.
use Rattle.std.proofs.Common.{◌≡◌, ⊎_elim, inl, inr, ℕ, ◌+◌, ◌-◌, ◌*◌, ◌<◌, ◌≤◌, List, [], ◌∷◌, length, Option, Some, None, refl, ap, ◌∙◌, arith}
use Rattle.std.specs.Prelude.{slice_get}
use Rattle.std.proofs.lemmas.Option.{slice_get_past}
use Rattle.stream_core.specs.declared.node.Node.{Node}
use Rattle.stream_core.specs.declared.node.Node.TheVariants as node
use Rattle.stream_core.specs.declared.spec.DefItem.{DefItem}
use Rattle.stream_core.specs.declared.spec.LibItem.{LibItem}
use Rattle.stream_core.specs.Value.{SpecValue}
use Rattle.stream_core.specs.Acyclic.{WellFounded}
use Rattle.stream_core.specs.Limits.{tree_size}
use Rattle.stream_core.specs.Ordered.{all_parts, args_of}
use Rattle.stream_core.specs.Term.{closed, lib_of}
use Rattle.stream_core.specs.WellTyped.{WellTyped}
use Rattle.stream_core.proofs.Closed.{closed_is}
use Rattle.stream_core.proofs.NodeSizes.{size, node_size, all_sizes, array_size, lib_size, def_size, size_is}
use Rattle.recursion_check.specs.Graph.{Has, Joins}
use Rattle.recursion_check.specs.Weighed.{heft, size_or}
use Rattle.recursion_check.proofs.Places.{way, there_def}
use Rattle.sm_io.proofs.Elements.{get_within}

module _ (s : SpecValue) where
  abbrev D : ℕ
  D = length s.defs

  pub heft_node : (i : ℕ) → heft s (D + i) ≡ 2 * size s i
  unfolding heft
  heft_node i =
      let e : D + i - D ≡ i = omega arith in
      let b : D ≤ D + i = omega arith in
      ap (size_or s (D + i - D)) (slice_get_past s.defs (D + i) b) ∙ ap (λ k. 2 * size s k) e

  pub heft_def : (d : ℕ) (x : DefItem) → slice_get s.defs d ≡ Some x → heft s d ≡ 2 * size s x.expr + 1
  unfolding heft
  heft_def d x e = ap (size_or s (d - D)) e

  -- ---- parts

  size_in : (is : List ℕ) (j : ℕ) → Has is j → size s j ≤ all_sizes s is
  size_in [] j h = absurd h
  size_in (i ∷ is) j (inl e) = let q : size s i ≡ size s j = ap (size s) e in omega (arith, q)
  size_in (i ∷ is) j (inr h) = let r = size_in is j h in omega (arith, r)

  lib_parts : (k : ℕ) (o : Option LibItem) → slice_get s.libs k ≡ o → 1 + all_sizes s (args_of o) ≤ tree_size (lib_of (closed s) k o)
  lib_parts k None e = omega arith
  lib_parts k (Some x) e = let z = lib_size s k x e in let q : node_size s (node.Lib k) ≡ tree_size (lib_of (closed s) k (Some x)) = ap (λ o. tree_size (lib_of (closed s) k o)) e in omega (arith, z, q)

  -- a node is larger than its parts together
  parts_sizes : (n : Node) → 1 + all_sizes s (all_parts s.libs n) ≤ node_size s n
  parts_sizes (node.Lit c w) = omega arith
  parts_sizes (node.Extern x) = omega arith
  parts_sizes (node.Stream x) = omega arith
  parts_sizes (node.Drop x k) = omega arith
  parts_sizes (node.Def d) = omega arith
  parts_sizes (node.Un o c a) = omega arith
  parts_sizes (node.Bin o c a b) = omega arith
  parts_sizes (node.Shift d c a cs b) = omega arith
  parts_sizes (node.Cast f t a) = omega arith
  parts_sizes (node.And a b) = omega arith
  parts_sizes (node.Or a b) = omega arith
  parts_sizes (node.Implies a b) = omega arith
  parts_sizes (node.If c a b) = omega arith
  parts_sizes (node.Index t a b) = omega arith
  parts_sizes (node.Field t m a) = omega arith
  parts_sizes (node.Abs c a) = omega arith
  parts_sizes (node.Sign c a) = omega arith
  parts_sizes (node.Array t es) = let z = array_size s (node.Array t es) es refl in omega (arith, z)
  parts_sizes (node.Record t es) = let z = array_size s (node.Record t es) es refl in omega (arith, z)
  parts_sizes (node.Majority c es) = let z = array_size s (node.Majority c es) es refl in omega (arith, z)
  parts_sizes (node.Agreed c es) = let z = array_size s (node.Agreed c es) es refl in omega (arith, z)
  parts_sizes (node.Lib k) = lib_parts k (slice_get s.libs k) refl

  -- ---- steps

  module _ (w : WellTyped s) (f : WellFounded s) where
    size_at : (i : ℕ) (n : Node) → slice_get s.nodes i ≡ Some n → size s i ≡ node_size s n
    size_at i n e = size_is s i n (closed_is s i n f.ordered f.acyclic (f.named i n e) e)

    pub joins_lighter : (v x : ℕ) → Joins s v x → heft s x < heft s v
    joins_lighter v x j =
        ⊎_elim
        (λ y.
        let a = heft_def v y.0 y.1 in
        let b = heft_node y.0.expr in
        let c : heft s (D + y.0.expr) ≡ heft s x = ap (heft s) y.2 in
        omega (arith, a, b, c))
        (λ r.
        let i = r.0 in
        let n = r.2.0 in
        let a = heft_node i in
        let b : heft s (D + i) ≡ heft s v = ap (heft s) r.1 in
        let z = size_at i n r.2.1 in
        ⊎_elim
        (λ is.
        let y = get_within s.defs x (there_def s w i x n r.2.1 is) in
        let c = heft_def x y.0 y.1 in
        let q : node_size s n ≡ 1 + size s y.0.expr = ap (node_size s) is ∙ def_size s x y.0 y.1 in
        omega (arith, a, b, z, c, q))
        (λ p.
        let c = heft_node p.0 in
        let q : heft s (D + p.0) ≡ heft s x = ap (heft s) p.2 in
        let l = parts_sizes n in
        let m = size_in (all_parts s.libs n) p.0 p.1 in
        omega (arith, a, b, z, c, q, l, m))
        r.2.2)
        (way s w v x j)
