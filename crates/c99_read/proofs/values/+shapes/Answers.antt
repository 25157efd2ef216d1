use Rattle.std.proofs.Common.{arith, ◌≡◌, suc, Some, sym, ap, ◌∙◌}
use Rattle.std.specs.Prelude.{is_some}
use Rattle.std.specs.List.{find}
use Rattle.c99_tree.specs.Words.{is_same, word_of, scalars, elem_type}
use Rattle.c99_tree.specs.Values.{members, elements, shape_within, shapes_of_fields}
use Rattle.c99_tree.specs.declared.types.CTy.TheVariants as ty
use Rattle.c99_tree.proofs.Shapes.{elem_type-Scalar}
use Rattle.c99_read.proofs.WordsGo.{no_depth, depth_some, struct_shape, no_struct, array_shape, map_some}
use Rattle.c99_read.proofs.values.+shapes.Goals as goal

pub has_element_shape-returns-in-Some : goal.has_element_shape-returns-in-Some
has_element_shape-returns-in-Some t c =
    let found : find (λ s. is_same (word_of s) c.args.x.now) scalars ≡ Some c.in-Some.field-0 = sym c.element_scalar.ensures ∙ c.in-Some.is in
    rw (elem_type-Scalar c.args.x.now c.in-Some.field-0 found) (depth_some c.args.depth c.args.types.now c.in-Some.field-0)

pub has_shape-returns-in-Scalar : goal.has_shape-returns-in-Scalar
has_shape-returns-in-Scalar t c = rw c.in-Scalar.is (depth_some c.args.depth c.args.types.now c.in-Scalar.field-0)

pub has_shape-returns-in-Array : goal.has_shape-returns-in-Array
has_shape-returns-in-Array t c =
    let d = c.args.depth in
    let ds = c.args.types.now in
    let x = c.in-Array.x in
    rw c.in-Array.is (c.has_element_shape.ensures ∙ sym (ap is_some (array_shape d ds x c.in-Array.field-1) ∙ map_some (elements c.in-Array.field-1) (shape_within d ds (elem_type x))))

pub has_struct_shape-returns-in_default : goal.has_struct_shape-returns-in_default
has_struct_shape-returns-in_default t c =
    let none : c.args.depth ≡ 0 = omega arith in
    sym (ap is_some (no_depth c.args.depth c.args.types.now (ty.Struct c.args.x.now) none))

pub has_struct_shape-returns-in-Some-fields_of : goal.has_struct_shape-returns-in-Some-fields_of
has_struct_shape-returns-in-Some-fields_of t c =
    let less : c.args.depth ≡ suc c.in-Some.inner = omega arith in
    let ds = c.args.types.now in
    let fields = c.in-Some-fields_of.fields.now in
    c.have_shapes.ensures ∙ sym (ap is_some (struct_shape c.args.depth c.in-Some.inner ds c.args.x.now fields less c.in-Some-fields_of.ensures) ∙ map_some members (shapes_of_fields (shape_within c.in-Some.inner ds) fields))

pub has_struct_shape-returns-in-None : goal.has_struct_shape-returns-in-None
has_struct_shape-returns-in-None t c = sym (ap is_some (no_struct c.args.depth c.args.types.now c.args.x.now c.in-None.ensures))
