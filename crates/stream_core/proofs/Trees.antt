-- The tree of a node is its form over the trees of its parts.
use Rattle.std.proofs.Common.{◌≡◌, ℕ, zero, suc, ◌<◌, List, [], ◌∷◌, Option, Some, None, refl, ap, ◌∙◌, arith}
use Rattle.std.specs.Prelude.{slice_get}
use Rattle.std.specs.List.{AllByRecursion}
use Rattle.stream_core.specs.declared.node.Node.{Node}
use Rattle.stream_core.specs.declared.node.Node.TheVariants as node
use Rattle.stream_core.specs.declared.spec.LibItem.{LibItem}
use Rattle.stream_core.specs.Term.{Term, def, terms_of, lib_of, build, build_at, tree_to, tree}
use Rattle.stream_core.specs.Ordered.{args_of, all_parts, Ordered}

-- two ways to make trees agree on these nodes
abbrev Agree : (ℕ → Term) → (ℕ → Term) → List ℕ → Type 0
Agree f g is = AllByRecursion (λ j. f j ≡ g j) is

terms_same : (f g : ℕ → Term) (is : List ℕ) → Agree f g is → terms_of f is ≡ terms_of g is
terms_same f g [] h = refl
terms_same f g (i ∷ is) h = let e = h.0 in let r = terms_same f g is h.1 in cc

lib_same : (f g : ℕ → Term) (k : ℕ) (o : Option LibItem) → Agree f g (args_of o) → lib_of f k o ≡ lib_of g k o
lib_same f g k None h = refl
lib_same f g k (Some item) h = let r = terms_same f g item.args h in cc

build_same : (libs : List LibItem) (f g : ℕ → Term) (n : Node) → Agree f g (all_parts libs n) → build libs def f n ≡ build libs def g n
build_same libs f g (node.Lit s w) h = refl
build_same libs f g (node.Extern x) h = refl
build_same libs f g (node.Stream s) h = refl
build_same libs f g (node.Def d) h = refl
build_same libs f g (node.Drop s k) h = refl
build_same libs f g (node.Un o s a) h = let p = h.0 in cc
build_same libs f g (node.Bin o s a b) h = let p = h.0 in let q = h.1.0 in cc
build_same libs f g (node.Shift d s a cs c) h = let p = h.0 in let q = h.1.0 in cc
build_same libs f g (node.Cast x t a) h = let p = h.0 in cc
build_same libs f g (node.And a b) h = let p = h.0 in let q = h.1.0 in cc
build_same libs f g (node.Or a b) h = let p = h.0 in let q = h.1.0 in cc
build_same libs f g (node.Implies a b) h = let p = h.0 in let q = h.1.0 in cc
build_same libs f g (node.If c a b) h = let p = h.0 in let q = h.1.0 in let r = h.1.1.0 in cc
build_same libs f g (node.Index t a i) h = let p = h.0 in let q = h.1.0 in cc
build_same libs f g (node.Field t m a) h = let p = h.0 in cc
build_same libs f g (node.Array t es) h = let r = terms_same f g es h in cc
build_same libs f g (node.Record t es) h = let r = terms_same f g es h in cc
build_same libs f g (node.Abs s a) h = let p = h.0 in cc
build_same libs f g (node.Sign s a) h = let p = h.0 in cc
build_same libs f g (node.Majority s es) h = let r = terms_same f g es h in cc
build_same libs f g (node.Agreed s es) h = let r = terms_same f g es h in cc
build_same libs f g (node.Lib k) h = lib_same f g k (slice_get libs k) h

pub all_map : {P Q : ℕ → Type 0} (is : List ℕ) → ((j : ℕ) → P j → Q j) → AllByRecursion P is → AllByRecursion Q is
all_map [] f h = tt
all_map (i ∷ is) f h = (f i h.0, all_map is f h.1)

module _ (nodes : List Node) (libs : List LibItem) (ordered : Ordered nodes libs) where
  pub stable_at : (f g : ℕ → Term) (i : ℕ) (o : Option Node) → slice_get nodes i ≡ o → ((j : ℕ) → j < i → f j ≡ g j) → build_at libs f o ≡ build_at libs g o
  stable_at f g i None e same = refl
  stable_at f g i (Some n) e same = build_same libs f g n (all_map (all_parts libs n) same (ordered.below i n e))

  stable : (a b i : ℕ) → i < a → i < b → tree_to nodes libs a i ≡ tree_to nodes libs b i
  stable zero b i p q = absurd (omega (arith, p))
  stable (suc a) zero i p q = absurd (omega (arith, q))
  stable (suc a) (suc b) i p q = stable_at (tree_to nodes libs a) (tree_to nodes libs b) i (slice_get nodes i) refl (λ j below. stable a b j (omega arith) (omega arith))

  -- the tree of a node, by the trees of its parts
  pub tree_is : (i : ℕ) → tree nodes libs i ≡ build_at libs (tree nodes libs) (slice_get nodes i)
  unfolding tree
  tree_is i = stable_at (tree_to nodes libs i) (tree nodes libs) i (slice_get nodes i) refl (λ j below. stable i (suc j) j below (omega arith))

  pub tree_of : (i : ℕ) (n : Node) → slice_get nodes i ≡ Some n → tree nodes libs i ≡ build libs def (tree nodes libs) n
  tree_of i n e = tree_is i ∙ ap (build_at libs (tree nodes libs)) e

  pub below_of : (i : ℕ) (n : Node) → slice_get nodes i ≡ Some n → AllByRecursion (λ j. j < i) (all_parts libs n)
  below_of i n e = ordered.below i n e
