-- The size of a node, which falls along its parts.
use Rattle.std.proofs.Common.{◌≡◌, ℕ, zero, suc, ◌+◌, ◌<◌, List, [], ◌∷◌, map, get_or, length, arith}
use Rattle.spec_forest.specs.Node.{Node, Nodes, atom, list, none, more, nodes, node}
use Rattle.spec_forest.specs.declared.tree.Tree.{Tree}

abbrev mutual
  pub size : Node → ℕ
  size (atom at text) = 1
  size (list at parts) = sizes parts + 8

  pub sizes : Nodes → ℕ
  sizes none = 0
  sizes (more x xs) = size x + sizes xs + 4

part : (xs : List Tree) (i : ℕ) (d : Tree) → i < length xs → size (node (get_or xs i d)) < sizes (nodes (map node xs))
part [] i d low = omega arith
part (y ∷ ys) zero d low = omega arith
part (y ∷ ys) (suc i) d low = omega (arith, part ys i d (omega arith))

pub size-part : (xs : List Tree) (i : ℕ) (x d : Tree) → i < length xs → x ≡ get_or xs i d → size (node x) < sizes (nodes (map node xs))
size-part xs i x d low is = rw is (part xs i d low)
