-- The place at which each part of a surface stands, and the places that a form keeps.
use Rattle.std.specs.Prelude.{ℕ, List, [], ◌∷◌, ◌++◌, Option, Some, None}
use Rattle.std.specs.Option.{option_map_or}
use Rattle.spec_forest.specs.Node.{Node, atom, list}
use Rattle.spec_text.specs.declared.surface.TypeForm.{TypeForm}
use Rattle.spec_text.specs.declared.surface.ConstForm.{ConstForm}
use Rattle.spec_text.specs.declared.surface.Expr.{Expr}
use Rattle.spec_text.specs.declared.surface.Decl.{Decl}
use Rattle.spec_text.specs.Form.{Form, Forms, word, form, none, more, form_of_type, form_of_const, form_of_expr, form_of_decl}

-- the place of a form, or 0 where none is kept
abbrev pub place_in : Form → ℕ
place_in (word at bytes) = option_map_or (λ a. a) at 0
place_in (form at items) = option_map_or (λ a. a) at 0

-- Types, constants, expressions and declarations keep their places.
abbrev pub place_of_type : TypeForm → ℕ
place_of_type t = place_in (form_of_type t)

abbrev pub place_of_const : ConstForm → ℕ
place_of_const c = place_in (form_of_const c)

abbrev pub place_of_expr : Expr → ℕ
place_of_expr e = place_in (form_of_expr e)

abbrev pub place_of_decl : Decl → ℕ
place_of_decl d = place_in (form_of_decl d)

-- the place of a node
abbrev pub place_of_node : Node → ℕ
place_of_node (atom at text) = at
place_of_node (list at items) = at

-- the one place, if it is kept
abbrev pub kept_place : Option ℕ → List ℕ
kept_place None = []
kept_place (Some at) = at ∷ []

-- the places that a form keeps, in preorder: each part before its items, from the left
abbrev mutual
  pub form_places : Form → List ℕ
  form_places (word at bytes) = kept_place at
  form_places (form at items) = kept_place at ++ forms_places items

  pub forms_places : Forms → List ℕ
  forms_places none = []
  forms_places (more f fs) = form_places f ++ forms_places fs
