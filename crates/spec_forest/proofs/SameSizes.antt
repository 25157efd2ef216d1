-- Forests that are equal but for places have one size.
use Rattle.std.proofs.Common.{◌≡◌, ◌+◌, max, refl, ap, sym, ◌∙◌}
use Rattle.spec_forest.specs.Node.{Node, Nodes, atom, list, none, more}
use Rattle.spec_forest.specs.Extents.{node_nesting, nesting, node_lists, list_count, node_items, item_count}
use Rattle.spec_forest.specs.Pieces.{node_unplaced, unplaced, SameShape}

mutual
  node-nesting : (x : Node) → node_nesting (node_unplaced x) ≡ node_nesting x
  node-nesting (atom a t) = refl
  node-nesting (list a is) = ap (λ n. n + 1) (forest-nesting is)

  forest-nesting : (xs : Nodes) → nesting (unplaced xs) ≡ nesting xs
  forest-nesting none = refl
  forest-nesting (more x xs) = ap (λ n. max n (nesting (unplaced xs))) (node-nesting x) ∙ ap (λ n. max (node_nesting x) n) (forest-nesting xs)

mutual
  node-lists : (x : Node) → node_lists (node_unplaced x) ≡ node_lists x
  node-lists (atom a t) = refl
  node-lists (list a is) = ap (λ n. n + 1) (forest-lists is)

  forest-lists : (xs : Nodes) → list_count (unplaced xs) ≡ list_count xs
  forest-lists none = refl
  forest-lists (more x xs) = ap (λ n. n + list_count (unplaced xs)) (node-lists x) ∙ ap (λ n. node_lists x + n) (forest-lists xs)

mutual
  node-items : (x : Node) → node_items (node_unplaced x) ≡ node_items x
  node-items (atom a t) = refl
  node-items (list a is) = ap (λ n. n + 1) (forest-items is)

  forest-items : (xs : Nodes) → item_count (unplaced xs) ≡ item_count xs
  forest-items none = refl
  forest-items (more x xs) = ap (λ n. n + item_count (unplaced xs)) (node-items x) ∙ ap (λ n. node_items x + n) (forest-items xs)

pub same-nesting : (f g : Nodes) → SameShape f g → nesting f ≡ nesting g
same-nesting f g e = sym (forest-nesting f) ∙ ap nesting e ∙ forest-nesting g

pub same-lists : (f g : Nodes) → SameShape f g → list_count f ≡ list_count g
same-lists f g e = sym (forest-lists f) ∙ ap list_count e ∙ forest-lists g

pub same-items : (f g : Nodes) → SameShape f g → item_count f ≡ item_count g
same-items f g e = sym (forest-items f) ∙ ap item_count e ∙ forest-items g
