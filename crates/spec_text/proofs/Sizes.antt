-- A form is as large as the nodes that it matches, and a surface as its forest.
use Rattle.std.specs.Prelude.{◌≡◌, max, Option, Result, Ok, Err, IfOk}
use Rattle.std.proofs.Common.{refl, ap, ◌∙◌, arith}
use Rattle.spec_forest.specs.Node.{Node, Nodes, atom, list, none, more, forest_nodes}
use Rattle.spec_forest.specs.Extents as nodes
use Rattle.spec_forest.specs.declared.tree.Forest.{Forest}
use Rattle.spec_text.specs.Form.{Form, Forms, word, form, form_of, Matches, AllMatch, IsSurfaceOf}
use Rattle.spec_text.specs.Form.{none as no_form, more as more_form}
use Rattle.spec_text.specs.Extent.{nesting, deepest, list_count, list_counts, item_count, item_counts}
use Rattle.spec_text.specs.declared.surface.Surface.{Surface}
use Rattle.spec_text.specs.declared.fault.ShapeFault.{ShapeFault}
use Rattle.spec_text.specs.KeepsTable.{KeepsTable}
use Rattle.spec_text.specs.Shape.{SyntaxFault}
use Rattle.spec_text.specs.Parses.{Parses}

mutual
  same_lists : (f : Form) (x : Node) → Matches f x → list_count f ≡ nodes.node_lists x
  same_lists (word at bytes) (atom place text) m = refl
  same_lists (word at bytes) (list place parts) m = absurd m
  same_lists (form at items) (atom place text) m = absurd m
  same_lists (form at items) (list place parts) m = let e = all_same_lists items parts m.1 in omega arith

  all_same_lists : (fs : Forms) (xs : Nodes) → AllMatch fs xs → list_counts fs ≡ nodes.list_count xs
  all_same_lists no_form none m = refl
  all_same_lists no_form (more x xs) m = absurd m
  all_same_lists (more_form f fs) none m = absurd m
  all_same_lists (more_form f fs) (more x xs) m = let a = same_lists f x m.0 in let b = all_same_lists fs xs m.1 in omega arith

mutual
  same_items : (f : Form) (x : Node) → Matches f x → item_count f ≡ nodes.node_items x
  same_items (word at bytes) (atom place text) m = refl
  same_items (word at bytes) (list place parts) m = absurd m
  same_items (form at items) (atom place text) m = absurd m
  same_items (form at items) (list place parts) m = let e = all_same_items items parts m.1 in omega arith

  all_same_items : (fs : Forms) (xs : Nodes) → AllMatch fs xs → item_counts fs ≡ nodes.item_count xs
  all_same_items no_form none m = refl
  all_same_items no_form (more x xs) m = absurd m
  all_same_items (more_form f fs) none m = absurd m
  all_same_items (more_form f fs) (more x xs) m = let a = same_items f x m.0 in let b = all_same_items fs xs m.1 in omega arith

mutual
  same_nesting : (f : Form) (x : Node) → Matches f x → nesting f ≡ nodes.node_nesting x
  same_nesting (word at bytes) (atom place text) m = refl
  same_nesting (word at bytes) (list place parts) m = absurd m
  same_nesting (form at items) (atom place text) m = absurd m
  same_nesting (form at items) (list place parts) m = let e = all_same_nesting items parts m.1 in omega arith

  all_same_nesting : (fs : Forms) (xs : Nodes) → AllMatch fs xs → deepest fs ≡ nodes.nesting xs
  all_same_nesting no_form none m = refl
  all_same_nesting no_form (more x xs) m = absurd m
  all_same_nesting (more_form f fs) none m = absurd m
  all_same_nesting (more_form f fs) (more x xs) m = let a = same_nesting f x m.0 in let b = all_same_nesting fs xs m.1 in ap (λ n. max n (deepest fs)) a ∙ ap (max (nodes.node_nesting x)) b

-- a surface is as large as its forest
pub lists_of_surface : (forest : Forest) (s : Surface) → IsSurfaceOf forest s → list_count (form_of s) ≡ nodes.list_count (forest_nodes forest)
lists_of_surface forest s is = let e = all_same_lists (more_form (form_of s) no_form) (forest_nodes forest) is in omega arith

pub items_of_surface : (forest : Forest) (s : Surface) → IsSurfaceOf forest s → item_count (form_of s) ≡ nodes.item_count (forest_nodes forest)
items_of_surface forest s is = let e = all_same_items (more_form (form_of s) no_form) (forest_nodes forest) is in omega arith

pub nesting_of_surface : (forest : Forest) (s : Surface) → IsSurfaceOf forest s → nesting (form_of s) ≡ nodes.nesting (forest_nodes forest)
nesting_of_surface forest s is = let e = all_same_nesting (more_form (form_of s) no_form) (forest_nodes forest) is in omega arith

-- what is read has the sizes of its forest
pub record IsSized (forest : Forest) (r : Result Surface ShapeFault) : Type 0 where
  pub nested : IfOk r (λ s. nesting (form_of s) ≡ nodes.nesting (forest_nodes forest))
  pub lists : IfOk r (λ s. list_count (form_of s) ≡ nodes.list_count (forest_nodes forest))
  pub items : IfOk r (λ s. item_count (form_of s) ≡ nodes.item_count (forest_nodes forest))

pub sized : (forest : Forest) (fault : Option SyntaxFault) (r : Result Surface ShapeFault) → Parses fault (λ s. IsSurfaceOf forest s × KeepsTable s) r → IsSized forest r
sized forest fault (Ok s) h = record { nested = nesting_of_surface forest s h.1.0; lists = lists_of_surface forest s h.1.0; items = items_of_surface forest s h.1.0 }
sized forest fault (Err e) h = record { nested = tt; lists = tt; items = tt }
