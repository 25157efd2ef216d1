-- What placing a node does to the trees.
use Rattle.std.proofs.Common.{◌≡◌, ⊎_elim, ℕ, ◌+◌, ◌<◌, ◌≤◌, List, [], ◌∷◌, ◌++◌, length, Some, refl, sym, ap, ◌∙◌, subst, arith}
use Rattle.std.specs.Prelude.{slice_get}
use Rattle.std.specs.List.{AllByRecursion}
use Rattle.std.proofs.lemmas.Option.{slice_get_within}
use Rattle.stream_core.specs.declared.node.Node.{Node}
use Rattle.stream_core.specs.declared.node.Node.TheVariants as node
use Rattle.stream_core.specs.Value.{SpecValue}
use Rattle.stream_core.specs.Parts.{parts, IsNodeList}
use Rattle.stream_core.specs.Ordered.{Ordered, all_parts}
use Rattle.stream_core.specs.Stored.{IsPlaced}
use Rattle.stream_core.specs.Term.{Term, build, def, tree}
use Rattle.stream_core.proofs.Trees.{tree_of, stable_at, all_map}
use Rattle.stream_core.proofs.Grown.{tree_stays}
use Rattle.stream_core.specs.PartOf.{IsPartOf}
use Rattle.stream_lib.specs.Built.{AddsParts, AreThere, Grows, Makes, MakesAll, tree_at, trees_at}
use Rattle.stream_lib.proofs.AddedParts.{adds_as, adds_first, adds_none, adds_of_back, adds_of_front, adds_of_one, adds_of_then, adds_then, is_whole}

parts_are_all : (n : Node) → all_parts [] n ≡ parts n
parts_are_all (node.Lit s w) = refl
parts_are_all (node.Extern x) = refl
parts_are_all (node.Stream s) = refl
parts_are_all (node.Def d) = refl
parts_are_all (node.Drop s k) = refl
parts_are_all (node.Un o s a) = refl
parts_are_all (node.Bin o s a b) = refl
parts_are_all (node.Shift d s a cs c) = refl
parts_are_all (node.Cast f t a) = refl
parts_are_all (node.And a b) = refl
parts_are_all (node.Or a b) = refl
parts_are_all (node.Implies a b) = refl
parts_are_all (node.If c a b) = refl
parts_are_all (node.Index t a i) = refl
parts_are_all (node.Field t m a) = refl
parts_are_all (node.Array t es) = refl
parts_are_all (node.Record t es) = refl
parts_are_all (node.Abs s a) = refl
parts_are_all (node.Sign s a) = refl
parts_are_all (node.Majority s es) = refl
parts_are_all (node.Agreed s es) = refl
parts_are_all (node.Lib k) = refl

-- over no library forms the parts are all that has to come before
pub ordered : (nodes : List Node) → IsNodeList nodes → Ordered nodes []
ordered nodes list = record { below = λ i n e. subst (AllByRecursion (λ j. j < i)) (sym (parts_are_all n)) (list.below i n e) }

abbrev with_nodes : List Node → SpecValue → SpecValue
with_nodes ns s = record s { nodes = ns }

pub grows_same : (s : SpecValue) → Grows s s
grows_same s = record { others = refl; size = omega arith; trees = λ i h. refl }

pub grows_then : (s t u : SpecValue) → Grows s t → Grows t u → Grows s u
grows_then s t u f g = record {
  others = g.others ∙ ap (with_nodes u.nodes) f.others;
  size = let a = f.size in let b = g.size in omega (arith, a, b);
  trees = λ i h. g.trees i (let a = f.size in omega (arith, a, h)) ∙ f.trees i h;
}

length_more : (ns : List Node) (m : Node) → length (ns ++ m ∷ []) ≡ length ns + 1
length_more [] m = refl
length_more (x ∷ ns) m = let r = length_more ns m in omega (arith, r)

-- one node more keeps the trees
grows_by : (s t : SpecValue) (n : Node) → IsNodeList s.nodes → t ≡ record s { nodes = s.nodes ++ n ∷ [] } → Grows s t
unfolding tree_at
grows_by s t n list e =
    let nodes : SpecValue → List Node = λ v. v.nodes in
    let more = ap nodes e in
    record {
      others = e ∙ ap (λ ns. with_nodes ns s) (sym more);
      size = subst (λ ns. length s.nodes ≤ length ns) (sym more) (let m = length_more s.nodes n in omega (arith, m));
      trees = λ i h. ap (λ ns. tree ns [] i) more ∙ tree_stays s.nodes (n ∷ []) [] (ordered s.nodes list) i h;
    }

-- the tree of a node is that node over the trees of its parts
pub placed_makes : (s t : SpecValue) (n : Node) (i : ℕ) → IsNodeList s.nodes → IsNodeList t.nodes → slice_get t.nodes i ≡ Some n
    → IsPlaced s t n i → Makes s t i (build [] def (tree_at s) n)
unfolding tree_at
placed_makes s t n i old new e placed = record { grows = grows; there = slice_get_within t.nodes i n e; is = whole; adds = adds }
  where
    grows : Grows s t
    grows = ⊎_elim (λ same. subst (λ v. Grows s v) (sym same.1) (grows_same s)) (λ last. grows_by s t n old last.2) placed

    same_parts : build [] def (tree t.nodes []) n ≡ build [] def (tree s.nodes []) n
    same_parts = ⊎_elim
        (λ same. ap (λ (v : SpecValue). build [] def (tree v.nodes []) n) same.1)
        (λ last. stable_at t.nodes [] (ordered t.nodes new) (tree t.nodes []) (tree s.nodes []) i (Some n) e (λ j b. grows.trees j (let f = last.1 in omega (arith, f, b))))
        placed

    whole : tree_at t i ≡ build [] def (tree_at s) n
    whole = tree_of t.nodes [] (ordered t.nodes new) i n e ∙ same_parts

    adds : AddsParts s t (build [] def (tree_at s) n)
    adds = ⊎_elim
        (λ same. subst (λ v. AddsParts s v (build [] def (tree_at s) n)) (sym same.1) (adds_none s (build [] def (tree_at s) n)))
        (λ last. record {
          parts = λ j low high.
              let k : j ≡ i =
              let f = last.1 in
              let l = ap (λ (v : SpecValue). length v.nodes) last.2 in
              let m = length_more s.nodes n in
              omega (arith, low, high, f, l, m)
              in
              is_whole (tree_at t j) (build [] def (tree_at s) n) (ap (tree_at t) k ∙ whole);
        })
        placed

-- lists of nodes that are there stay there, with their trees
pub still_there : (s t : SpecValue) (is : List ℕ) → length s.nodes ≤ length t.nodes → AreThere s is → AreThere t is
still_there s t is size there = all_map is (λ j b. omega (arith, b, size)) there

pub same_trees : (s t : SpecValue) (is : List ℕ) → Grows s t → AreThere s is → trees_at t is ≡ trees_at s is
same_trees s t [] g there = refl
same_trees s t (i ∷ is) g there = let a = g.trees i there.0 in let r = same_trees s t is g there.1 in cc

more_there : (s : SpecValue) (is : List ℕ) (i : ℕ) → AreThere s is → i < length s.nodes → AreThere s (is ++ i ∷ [])
more_there s [] i there h = (h, tt)
more_there s (j ∷ is) i there h = (there.0, more_there s is i there.1 h)

more_trees : (s : SpecValue) (is : List ℕ) (i : ℕ) → trees_at s (is ++ i ∷ []) ≡ trees_at s is ++ tree_at s i ∷ []
more_trees s [] i = refl
more_trees s (j ∷ is) i = ap (λ es. tree_at s j ∷ es) (more_trees s is i)

-- a node behind others
pub makes_more : (s t u : SpecValue) (is : List ℕ) (es : List Term) (i : ℕ) (e : Term) → MakesAll s t is es → Makes t u i e → MakesAll s u (is ++ i ∷ []) (es ++ e ∷ [])
makes_more s t u is es i e all one = record {
  grows = grows_then s t u all.grows one.grows;
  there = more_there u is i (still_there t u is one.grows.size all.there) one.there;
  are = more_trees u is i ∙ ap (λ es. es ++ tree_at u i ∷ []) (same_trees t u is one.grows all.there ∙ all.are) ∙ ap (λ x. es ++ x ∷ []) one.is;
  adds = adds_of_then s t u (es ++ e ∷ []) (adds_of_front s t es (e ∷ []) all.adds) one.grows (adds_of_back t u es (e ∷ []) (adds_of_one t u e one.adds));
}

-- the same node, by another expression
pub makes_as : (s t : SpecValue) (i : ℕ) (e f : Term) → e ≡ f → Makes s t i e → Makes s t i f
makes_as s t i e f is m = record { grows = m.grows; there = m.there; is = m.is ∙ is; adds = adds_as s t e f is m.adds }

-- after others were placed within it
pub makes_after : (s t u : SpecValue) (i : ℕ) (e : Term) → Grows s t → AddsParts s t e → Makes t u i e → Makes s u i e
makes_after s t u i e g a m = record { grows = grows_then s t u g m.grows; there = m.there; is = m.is; adds = adds_then s t u e a m.grows m.adds }

-- over a node that was placed
pub makes_over : (s t u : SpecValue) (k i : ℕ) (d e f : Term) → Makes s t k d → Makes t u i e → e ≡ f → IsPartOf d f → Makes s u i f
makes_over s t u k i d e f a m is part = makes_after s t u i f a.grows (adds_first s t f d k a part) (makes_as t u i e f is m)

-- a node by what is known of it
pub makes_by : (s t : SpecValue) (i : ℕ) (e : Term) → Grows s t → i < length t.nodes → tree_at t i ≡ e → AddsParts s t (tree_at t i) → Makes s t i e
makes_by s t i e grows there is adds = record { grows = grows; there = there; is = is; adds = adds_as s t (tree_at t i) e is adds }
