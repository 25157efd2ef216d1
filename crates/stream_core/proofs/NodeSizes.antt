-- A node by what its parts weigh, and the sizes by which recursions over trees end.
use Rattle.std.proofs.Common.{◌≡◌, ℕ, zero, suc, ◌+◌, ◌<◌, ◌≤◌, List, [], ◌∷◌, length, map, Option, Some, None, refl, ap, ◌∙◌, subst, arith}
use Rattle.std.specs.Prelude.{slice_get}
use Rattle.std.specs.List.{AllByRecursion}
use Rattle.stream_core.specs.declared.node.Node.{Node}
use Rattle.stream_core.specs.declared.node.Node.TheVariants as node
use Rattle.stream_core.specs.declared.spec.DefItem.{DefItem}
use Rattle.stream_core.specs.declared.spec.LibItem.{LibItem}
use Rattle.stream_core.specs.Value.{SpecValue}
use Rattle.stream_core.specs.Parts.{parts}
use Rattle.stream_core.specs.Ordered.{all_parts}
use Rattle.stream_core.specs.Term.{build, closed, closed_def, terms_of, lib_of, expr_at}
use Rattle.stream_core.specs.Limits.{tree_size, sizes}
use Rattle.stream_core.specs.Weights.{total, loaded, loads, heavy, nodes_weight, node_weight, lib_weight, form_weight, majority_weight, agreed_weight}
use Rattle.stream_core.proofs.Trees.{all_map}

abbrev pub size : SpecValue → ℕ → ℕ
size s i = tree_size (closed s i)

abbrev pub node_size : SpecValue → Node → ℕ
node_size s n = tree_size (build s.libs (closed_def s) (closed s) n)

abbrev pub all_sizes : SpecValue → List ℕ → ℕ
all_sizes s [] = 0
all_sizes s (i ∷ is) = size s i + all_sizes s is

module _ (s : SpecValue) where
  loads_of : (is : List ℕ) → loads (terms_of (closed s) is) ≡ map (heavy s) is
  loads_of [] = refl
  loads_of (i ∷ is) = let h = loads_of is in cc

  total_of : (is : List ℕ) → total (loads (terms_of (closed s) is)) ≡ nodes_weight s is
  total_of [] = refl
  total_of (i ∷ is) = let h = total_of is in cc

  sizes_of : (is : List ℕ) → sizes (terms_of (closed s) is) ≡ all_sizes s is
  sizes_of [] = refl
  sizes_of (i ∷ is) = let h = sizes_of is in cc

  lib_is : (k : ℕ) (o : Option LibItem) → loaded (lib_of (closed s) k o) ≡ lib_weight s o
  lib_is k None = refl
  lib_is k (Some x) = ap (form_weight x.form) (loads_of x.args)

  layer_is : (n : Node) → loaded (build s.libs (closed_def s) (closed s) n) ≡ node_weight s n
  layer_is (node.Lit c w) = refl
  layer_is (node.Extern x) = refl
  layer_is (node.Stream x) = refl
  layer_is (node.Drop x k) = refl
  layer_is (node.Def d) = refl
  layer_is (node.Un o c a) = omega arith
  layer_is (node.Bin o c a b) = omega arith
  layer_is (node.Shift d c a cs b) = omega arith
  layer_is (node.Cast f t a) = omega arith
  layer_is (node.And a b) = omega arith
  layer_is (node.Or a b) = omega arith
  layer_is (node.Implies a b) = omega arith
  layer_is (node.If c a b) = omega arith
  layer_is (node.Index t a b) = omega arith
  layer_is (node.Field t m a) = omega arith
  layer_is (node.Array t es) = let h = total_of es in omega (arith, h)
  layer_is (node.Record t es) = let h = total_of es in omega (arith, h)
  layer_is (node.Abs c a) = refl
  layer_is (node.Sign c a) = refl
  layer_is (node.Majority c es) = ap majority_weight (loads_of es)
  layer_is (node.Agreed c es) = ap agreed_weight (loads_of es)
  layer_is (node.Lib k) = lib_is k (slice_get s.libs k)

  pub heavy_is : (i : ℕ) (n : Node) → closed s i ≡ build s.libs (closed_def s) (closed s) n → heavy s i ≡ node_weight s n
  heavy_is i n e = ap loaded e ∙ layer_is n

  pub size_is : (i : ℕ) (n : Node) → closed s i ≡ build s.libs (closed_def s) (closed s) n → size s i ≡ node_size s n
  size_is i n e = ap tree_size e

  pub array_size : (n : Node) (is : List ℕ) → tree_size (build s.libs (closed_def s) (closed s) n) ≡ 1 + sizes (terms_of (closed s) is) → node_size s n ≡ 1 + all_sizes s is
  array_size n is e = e ∙ ap (λ m. 1 + m) (sizes_of is)

  lib_size_at : (k : ℕ) (o : Option LibItem) (x : LibItem) → o ≡ Some x → tree_size (lib_of (closed s) k o) ≡ 1 + all_sizes s x.args
  lib_size_at k o x e = ap (λ p. tree_size (lib_of (closed s) k p)) e ∙ ap (λ m. 1 + m) (sizes_of x.args)

  pub lib_size : (k : ℕ) (x : LibItem) → slice_get s.libs k ≡ Some x → node_size s (node.Lib k) ≡ 1 + all_sizes s x.args
  lib_size k x e = lib_size_at k (slice_get s.libs k) x e

  pub def_size : (d : ℕ) (x : DefItem) → slice_get s.defs d ≡ Some x → node_size s (node.Def d) ≡ 1 + size s x.expr
  def_size d x e = ap (λ o. 1 + size s (expr_at o)) e

  pub size_at : (is : List ℕ) (k i : ℕ) → slice_get is k ≡ Some i → size s i ≤ all_sizes s is
  size_at [] k i e = absurd (cc)
  size_at (j ∷ is) zero i e = let p : j ≡ i = cc in let q : size s j ≡ size s i = ap (size s) p in omega (arith, q)
  size_at (j ∷ is) (suc k) i e = let h = size_at is k i e in omega (arith, h)

parts_in : (s : SpecValue) (n : Node) (P : ℕ → Type 0) → AllByRecursion P (all_parts s.libs n) → AllByRecursion P (parts n)
parts_in s (node.Lib k) P h = tt
parts_in s (node.Lit c w) P h = tt
parts_in s (node.Extern x) P h = tt
parts_in s (node.Stream x) P h = tt
parts_in s (node.Drop x k) P h = tt
parts_in s (node.Def d) P h = tt
parts_in s (node.Un o c a) P h = h
parts_in s (node.Bin o c a b) P h = h
parts_in s (node.Shift d c a cs b) P h = h
parts_in s (node.Cast f t a) P h = h
parts_in s (node.And a b) P h = h
parts_in s (node.Or a b) P h = h
parts_in s (node.Implies a b) P h = h
parts_in s (node.If c a b) P h = h
parts_in s (node.Index t a b) P h = h
parts_in s (node.Field t m a) P h = h
parts_in s (node.Array t es) P h = h
parts_in s (node.Record t es) P h = h
parts_in s (node.Abs c a) P h = h
parts_in s (node.Sign c a) P h = h
parts_in s (node.Majority c es) P h = h
parts_in s (node.Agreed c es) P h = h

pub parts_there : (s : SpecValue) (i : ℕ) (n : Node) → i < length s.nodes → AllByRecursion (λ j. j < i) (all_parts s.libs n) → AllByRecursion (λ j. j < length s.nodes) (parts n)
parts_there s i n b h = parts_in s n (λ j. j < length s.nodes) (all_map (all_parts s.libs n) (λ j below. omega (arith, below, b)) h)

pub all_at : (P : ℕ → Type 0) (is : List ℕ) (k i : ℕ) → AllByRecursion P is → slice_get is k ≡ Some i → P i
all_at P [] k i h e = absurd (cc)
all_at P (j ∷ is) zero i h e = let p : j ≡ i = cc in subst P p h.0
all_at P (j ∷ is) (suc k) i h e = all_at P is k i h.1 e
