-- The trees of a list of nodes stay where nodes are added.
use Rattle.std.proofs.Common.{◌≡◌, ℕ, zero, suc, ◌<◌, List, [], ◌∷◌, ◌++◌, length, refl, ap, ◌∙◌, arith}
use Rattle.std.specs.Prelude.{slice_get}
use Rattle.stream_core.specs.declared.node.Node.{Node}
use Rattle.stream_core.specs.declared.spec.LibItem.{LibItem}
use Rattle.stream_core.specs.Ordered.{Ordered}
use Rattle.stream_core.specs.Term.{build_at, tree_to, tree}
use Rattle.stream_core.proofs.Trees.{stable_at}

pub get_front : (xs ys : List Node) (i : ℕ) → i < length xs → slice_get (xs ++ ys) i ≡ slice_get xs i
get_front [] ys i h = absurd (omega (arith, h))
get_front (x ∷ xs) ys zero h = refl
get_front (x ∷ xs) ys (suc i) h = get_front xs ys i (omega (arith, h))

module _ (nodes more_ : List Node) (libs : List LibItem) (ordered : Ordered nodes libs) where
  grown_to : (d i : ℕ) → i < length nodes → tree_to (nodes ++ more_) libs d i ≡ tree_to nodes libs d i
  grown_to zero i h = refl
  grown_to (suc d) i h =
      ap (build_at libs (tree_to (nodes ++ more_) libs d)) (get_front nodes more_ i h)
      ∙ stable_at nodes libs ordered (tree_to (nodes ++ more_) libs d) (tree_to nodes libs d) i (slice_get nodes i) refl (λ j below. grown_to d j (omega arith))

  pub tree_stays : (i : ℕ) → i < length nodes → tree (nodes ++ more_) libs i ≡ tree nodes libs i
  unfolding tree
  tree_stays i h = grown_to (suc i) i h
