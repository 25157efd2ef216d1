use Rattle.std.proofs.Common.{rules, ◌≡◌, ◌+◌, ◌∙◌, ap, sym, arith, Some}
use Rattle.c99_ast.specs.Bound.{up_to_bound}
use Rattle.c99_tree.specs.declared.types.CTy.TheVariants as ty
use Rattle.c99_tree.proofs.Shapes.{shaped-element, shaped-fields, elem_type-Scalar}
use Rattle.c99_ast.proofs.Sizes.{size-Scalar, size-Array, bound-times, size-Struct, size-no_struct, size-no_depth}
use Rattle.std.specs.List.{find}
use Rattle.c99_tree.specs.Words.{is_same, word_of, scalars, elem_type}
use Rattle.c99_ast.proofs.statics.+sizing.Goals as goal

pub size_of-size_of_element-requires : goal.size_of-size_of_element-requires
size_of-size_of_element-requires t c =
    (search rules, shaped-element c.args.depth c.args.types.now c.in-Array.x c.in-Array.n (rw c.in-Array.is at c.requires))

pub size_of-returns-in-Scalar : goal.size_of-returns-in-Scalar
size_of-returns-in-Scalar t c =
    rw (c.scalar_size.ensures, c.in-Scalar.is) (size-Scalar c.args.depth c.args.types.now c.in-Scalar.t (rw c.in-Scalar.is at c.requires))

pub size_of-returns-in-Array : goal.size_of-returns-in-Array
size_of-returns-in-Array t c =
    rw (c.times.ensures, c.size_of_element.ensures, c.in-Array.is, bound-times, size-Array)

pub size_of_element-returns-in-Some : goal.size_of_element-returns-in-Some
size_of_element-returns-in-Some t c =
    let found : find (λ s. is_same (word_of s) c.args.x.now) scalars ≡ Some c.in-Some.t = sym c.element_scalar.ensures ∙ c.in-Some.is in
    let scalar : elem_type c.args.x.now ≡ ty.Scalar c.in-Some.t = elem_type-Scalar c.args.x.now c.in-Some.t found in
    rw (c.scalar_size.ensures, scalar) (size-Scalar c.args.depth c.args.types.now c.in-Some.t (rw scalar at c.requires))

pub size_of_struct-returns-in_default : goal.size_of_struct-returns-in_default
size_of_struct-returns-in_default t c =
    let none : c.args.depth ≡ 0 = omega arith in
    rw (size-no_depth c.args.depth c.args.types.now (ty.Struct c.args.x.now) none)

pub size_of_struct-size_of_fields-requires : goal.size_of_struct-size_of_fields-requires
size_of_struct-size_of_fields-requires t c =
    let less : c.args.depth ≡ c.in-Some.inner + 1 = omega arith in
    (search rules, shaped-fields c.args.depth c.in-Some.inner c.args.types.now c.args.x.now c.in-Some-fields_of.fields.now less c.in-Some-fields_of.ensures c.requires)

pub size_of_struct-returns-in-Some-fields_of : goal.size_of_struct-returns-in-Some-fields_of
size_of_struct-returns-in-Some-fields_of t c =
    let less : c.args.depth ≡ c.in-Some.inner + 1 = omega arith in
    c.size_of_fields.ensures ∙ ap up_to_bound (sym (size-Struct c.args.depth c.in-Some.inner c.args.types.now c.args.x.now c.in-Some-fields_of.fields.now less c.in-Some-fields_of.ensures))

pub size_of_struct-returns-in-None : goal.size_of_struct-returns-in-None
size_of_struct-returns-in-None t c = rw (size-no_struct c.args.depth c.args.types.now c.args.x.now c.in-None.ensures)
