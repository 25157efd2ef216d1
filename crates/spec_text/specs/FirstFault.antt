-- The first fault of a node and its parts, by cases.
use Rattle.std.specs.Prelude.{ℕ, List, [], ◌∷◌, length, Option, Some, None}
use Rattle.spec_forest.specs.Node.{Node, Nodes, atom, list, none, more}
use Rattle.spec_text.specs.Shape.{SyntaxFault, bad_form, Place, top, extra, Items, atom_fault, list_fault, first_places, further_place, items_at, has_items, place_of, unless}

abbrev pub or_else : Option SyntaxFault → Option SyntaxFault → Option SyntaxFault
or_else None later = later
or_else (Some fault) later = Some fault

abbrev mutual
  pub fault_in : Place → Node → Option SyntaxFault
  fault_in p (atom at text) = atom_fault p at text
  fault_in p (list at parts) = or_else (list_fault p at parts) (fault_among (first_places p (items_at p parts)) (further_place (items_at p parts)) parts)

  pub fault_among : List Place → Place → Nodes → Option SyntaxFault
  fault_among ps p none = None
  fault_among [] p (more x xs) = or_else (fault_in p x) (fault_among [] p xs)
  fault_among (q ∷ ps) p (more x xs) = or_else (fault_in q x) (fault_among ps p xs)

-- the first fault of a list's items behind its word: their number, or the first fault in one of them
abbrev pub faults_of : ℕ → Items → Nodes → Option SyntaxFault
faults_of at all parts = or_else (unless (has_items (length all.first) all.further parts) (bad_form at)) (fault_among all.first (place_of all.further) parts)

-- the first fault of a text's items at the top
abbrev pub top_fault : Nodes → Option SyntaxFault
top_fault none = Some (bad_form 0)
top_fault (more x xs) = or_else (fault_in top x) (fault_among [] extra xs)
