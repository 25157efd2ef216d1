-- The first fault in preorder, by cases.
use Rattle.std.proofs.Common.{◌≡◌, refl, ap, sym, ◌∙◌, List, [], ◌∷◌, ◌++◌, Option, Some, None}
use Rattle.std.specs.Option.{option_map_or}
use Rattle.spec_forest.specs.Node.{Node, Nodes, atom, list, none, more}
use Rattle.spec_text.specs.Shape.{SyntaxFault, Place, top, extra, shape_fault_of, Placed, preorder, preorders, first_fault, own_fault, list_fault, first_places, further_place, items_at, atom_fault}
use Rattle.spec_text.specs.FirstFault.{or_else, fault_in, fault_among, top_fault}

or_else-None : (f : Option SyntaxFault) → or_else f None ≡ f
or_else-None None = refl
or_else-None (Some f) = refl

or_else-or_else : (f g h : Option SyntaxFault) → or_else (or_else f g) h ≡ or_else f (or_else g h)
or_else-or_else None g h = refl
or_else-or_else (Some f) g h = refl

first_or : (f g : Option SyntaxFault) → option_map_or Some f g ≡ or_else f g
first_or None g = refl
first_or (Some f) g = refl

first_fault-append : (xs ys : List Placed) → first_fault (xs ++ ys) ≡ or_else (first_fault xs) (first_fault ys)
first_fault-append [] ys = refl
first_fault-append (x ∷ xs) ys =
    first_or (own_fault x.place x.node) (first_fault (xs ++ ys))
    ∙ ap (or_else (own_fault x.place x.node)) (first_fault-append xs ys)
    ∙ sym (or_else-or_else (own_fault x.place x.node) (first_fault xs) (first_fault ys))
    ∙ ap (λ f. or_else f (first_fault ys)) (sym (first_or (own_fault x.place x.node) (first_fault xs)))

mutual
  pub first_fault-preorder : (p : Place) (x : Node) → first_fault (preorder p x) ≡ fault_in p x
  first_fault-preorder p (atom at text) = first_or (atom_fault p at text) None ∙ or_else-None (atom_fault p at text)
  first_fault-preorder p (list at parts) =
      first_or (list_fault p at parts) (first_fault (preorders (first_places p (items_at p parts)) (further_place (items_at p parts)) parts))
      ∙ ap (or_else (list_fault p at parts)) (first_fault-preorders (first_places p (items_at p parts)) (further_place (items_at p parts)) parts)

  pub first_fault-preorders : (ps : List Place) (p : Place) (xs : Nodes) → first_fault (preorders ps p xs) ≡ fault_among ps p xs
  first_fault-preorders ps p none = refl
  first_fault-preorders [] p (more x xs) =
      first_fault-append (preorder p x) (preorders [] p xs)
      ∙ ap (λ f. or_else f (first_fault (preorders [] p xs))) (first_fault-preorder p x)
      ∙ ap (or_else (fault_in p x)) (first_fault-preorders [] p xs)
  first_fault-preorders (q ∷ ps) p (more x xs) =
      first_fault-append (preorder q x) (preorders ps p xs)
      ∙ ap (λ f. or_else f (first_fault (preorders ps p xs))) (first_fault-preorder q x)
      ∙ ap (or_else (fault_in q x)) (first_fault-preorders ps p xs)

pub top_is : (xs : Nodes) → shape_fault_of xs ≡ top_fault xs
unfolding shape_fault_of
top_is none = refl
top_is (more x xs) = first_fault-preorders (top ∷ []) extra (more x xs)
