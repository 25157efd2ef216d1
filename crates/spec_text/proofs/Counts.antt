-- How many items a list has.
use Rattle.std.proofs.Common.{◌≡◌, ℕ, suc, refl, ◌∙◌, List, [], ◌∷◌, map, length, false, true, Bool, ◌&&◌, nat_le, arith}
use Rattle.spec_text.specs.KeepsTable.{kept_from, all_kept}
use Rattle.spec_forest.specs.Node.{Node, Nodes, more, nodes, node}
use Rattle.spec_forest.specs.declared.tree.Tree.{Tree}
use Rattle.spec_text.specs.Shape.{Further, has_items, count}

pub one_more : (n : ℕ) (further : Further) (x : Node) (xs ys : Nodes) → ys ≡ more x xs → has_items n further xs ≡ false → has_items (suc n) further ys ≡ false
one_more n further x xs ys e h = rw e h

pub count-nodes : (xs : List Node) → count (nodes xs) ≡ length xs
count-nodes [] = refl
count-nodes (x ∷ xs) = grind (arith, count-nodes xs)

length_map : {A B : Type 0} (f : A → B) (xs : List A) → length (map f xs) ≡ length xs
length_map f [] = refl
length_map f (x ∷ xs) = grind (arith, length_map f xs)

pub count_trees : (xs : List Tree) → count (nodes (map node xs)) ≡ length xs
count_trees xs = count-nodes (map node xs) ∙ length_map node xs

pub kept_count : (low high : ℕ) (xs : Nodes) (kept : List Bool) → (nat_le low (count xs) && nat_le (count xs) high) ≡ true → all_kept kept ≡ true → length kept ≡ count xs → kept_from low high kept ≡ true
kept_count low high xs kept counted all same = rw (same, counted, all) refl

pub kept_some : (xs : Nodes) (kept : List Bool) → (nat_le 1 (count xs) && true) ≡ true → all_kept kept ≡ true → length kept ≡ count xs → (nat_le 1 (length kept) && all_kept kept) ≡ true
kept_some xs kept counted all same = rw (same, all, counted) refl

pub ruleset counts = (count_trees)

pub ruleset kept_counts = (kept_count, kept_some)
