-- The translation of a node's form by those of its parts.
use Rattle.std.proofs.Common.{◌≡◌, ℕ, List, [], ◌∷◌, map, Some, refl, sym, ap, ◌∙◌}
use Rattle.std.specs.Prelude.{slice_get}
use Rattle.std.specs.Option.{option_map}
use Rattle.std.proofs.lemmas.Option.{slice_get-map}
use Rattle.stream_types.specs.declared.scalar.Ty.{Ty}
use Rattle.stream_core.specs.declared.node.Node.{Node}
use Rattle.stream_core.specs.declared.node.Node.TheVariants as node
use Rattle.stream_core.specs.declared.spec.ExternItem.{ExternItem}
use Rattle.stream_core.specs.declared.spec.StreamItem.{StreamItem}
use Rattle.stream_core.specs.Value.{SpecValue}
use Rattle.stream_core.specs.Term.{TreeStream, closed, terms_of}
use Rattle.stream_core.specs.Meaning.{closed_spec}
use Rattle.c99_tree.specs.declared.expr.CExpr.{CExpr}
use Rattle.c99_tree.specs.declared.types.CTy.{CTy}
use Rattle.c99_tree.specs.declared.expr.CExpr.TheVariants as e
use Rattle.ring_codegen.specs.CTypes.{c_type}
use Rattle.ring_codegen.specs.Translation.{all_translated, array_value, extern_value, stream_value, struct_value}
use Rattle.ring_codegen.specs.Items.{closed_stream, expression_of, form_of}
use Rattle.ring_codegen.proofs.ItemTrees.{streams_are}

module _ (s : SpecValue) where
  pub extern_form : (x : ℕ) (item : ExternItem) → slice_get s.externs x ≡ Some item → e.Copy item.name ≡ form_of s (node.Extern x)
  extern_form x item is = sym (ap extern_value is)

  stream_at : (x : ℕ) (item : StreamItem) → slice_get s.streams x ≡ Some item → slice_get (closed_spec s).streams x ≡ Some (closed_stream s item)
  stream_at x item is =
      ap (λ (xs : List TreeStream). slice_get xs x) (streams_are s) ∙ slice_get-map (closed_stream s) s.streams x ∙ ap (option_map (closed_stream s)) is

  pub stream_form : (x n : ℕ) (item : StreamItem) → slice_get s.streams x ≡ Some item → stream_value s.types n (Some (closed_stream s item)) ≡ stream_value s.types n (slice_get (closed_spec s).streams x)
  stream_form x n item is = sym (ap (stream_value s.types n) (stream_at x item is))

  pub all_forms : (is : List ℕ) → map (expression_of s) is ≡ all_translated (closed_spec s) (terms_of (closed s) is)
  all_forms [] = refl
  all_forms (i ∷ is) = ap (λ (es : List CExpr). expression_of s i ∷ es) (all_forms is)

  pub array_form : (of : Ty) (is : List ℕ) → array_value (c_type s.types of) (map (expression_of s) is) ≡ form_of s (node.Array of is)
  array_form of is = ap (array_value (c_type s.types of)) (all_forms is)

  pub struct_form : (of : Ty) (is : List ℕ) → struct_value (c_type s.types of) (map (expression_of s) is) ≡ form_of s (node.Record of is)
  struct_form of is = ap (struct_value (c_type s.types of)) (all_forms is)

  pub array_is : (of : Ty) (es : List ℕ) (n : Node) (t : CTy) (all : List CExpr) (a : CExpr) → n ≡ node.Array of es → t ≡ c_type s.types of → all ≡ map (expression_of s) es → a ≡ array_value t all → a ≡ form_of s n
  array_is of es n t all a is typed made value =
      value ∙ ap (λ (u : CTy). array_value u all) typed ∙ ap (array_value (c_type s.types of)) made ∙ array_form of es ∙ ap (form_of s) (sym is)

  pub struct_is : (of : Ty) (es : List ℕ) (n : Node) (t : CTy) (all : List CExpr) (a : CExpr) → n ≡ node.Record of es → t ≡ c_type s.types of → all ≡ map (expression_of s) es → a ≡ struct_value t all → a ≡ form_of s n
  struct_is of es n t all a is typed made value =
      value ∙ ap (λ (u : CTy). struct_value u all) typed ∙ ap (struct_value (c_type s.types of)) made ∙ struct_form of es ∙ ap (form_of s) (sym is)
