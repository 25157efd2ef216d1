use Rattle.std.proofs.Common.{rules, ◌≡◌, ◌+◌, ◌-◌, ◌<◌, suc, Some, sym, ◌∙◌, arith}
use Rattle.std.specs.List.{find}
use Rattle.c99_tree.specs.Words.{is_same, word_of, scalars, elem_type}
use Rattle.c99_tree.specs.Values.{shape_within}
use Rattle.c99_tree.specs.declared.types.CTy.TheVariants as ty
use Rattle.c99_tree.proofs.Shapes.{shaped-element, shaped-fields, elem_type-Scalar}
use Rattle.c99_ast.proofs.Filled.{left-no_depth, left-no_struct, left-fields_of, left-zero_struct, left-small_array, left-elements, scalar-shape, left-one_more, left-none_more}
use Rattle.c99_ast.proofs.constants.+filling.Goals as goal

pub left_of-returns-in-Scalar : goal.left_of-returns-in-Scalar
left_of-returns-in-Scalar t c =
    let shape = scalar-shape c.args.depth c.args.types.now c.in-Scalar.t (rw c.in-Scalar.is at c.requires) in
    rw (c.in-Scalar.is, shape) c.left_of_scalar.ensures

pub left_of_array-returns-in_default : goal.left_of_array-returns-in_default
left_of_array-returns-in_default t c =
    let small : c.args.most < 2 = omega arith in
    left-small_array c.args.most c.args.depth c.args.n c.args.types.now c.args.x.now c.args.given.now small

pub left_of_array-left_of_elements-requires : goal.left_of_array-left_of_elements-requires
left_of_array-left_of_elements-requires t c = (search rules, shaped-element c.args.depth c.args.types.now c.args.x.now c.args.n c.requires)

pub left_of_array-returns : goal.left_of_array-returns
left_of_array-returns t c =
    let e : c.args.most ≡ c.in-Some.less + 2 = omega arith in
    rw (left-elements c.args.most c.in-Some.less c.args.depth c.args.n c.args.types.now c.args.x.now c.args.given.now e) c.left_of_elements.ensures

pub left_of_element-returns-in-Some : goal.left_of_element-returns-in-Some
left_of_element-returns-in-Some t c =
    let found : find (λ s. is_same (word_of s) c.args.x.now) scalars ≡ Some c.in-Some.t = sym c.element_scalar.ensures ∙ c.in-Some.is in
    let is : elem_type c.args.x.now ≡ ty.Scalar c.in-Some.t = elem_type-Scalar c.args.x.now c.in-Some.t found in
    let shape = scalar-shape c.args.depth c.args.types.now c.in-Some.t (rw is at c.requires) in
    rw (is, shape) c.left_of_scalar.ensures

pub left_of_struct-returns-in_default : goal.left_of_struct-returns-in_default
left_of_struct-returns-in_default t c =
    let none : c.args.depth ≡ 0 = omega arith in
    left-no_depth c.args.most c.args.depth c.args.types.now (ty.Struct c.args.x.now) c.args.given.now none

pub left_of_struct-left_of_fields-requires : goal.left_of_struct-left_of_fields-requires
left_of_struct-left_of_fields-requires t c =
    let less : c.args.depth ≡ c.in-Some.inner + 1 = omega arith in
    (search rules, shaped-fields c.args.depth c.in-Some.inner c.args.types.now c.args.x.now c.in-Some-fields_of.fields.now less c.in-Some-fields_of.ensures c.requires)

pub left_of_struct-returns-in_default-checked_sub : goal.left_of_struct-returns-in_default-checked_sub
left_of_struct-returns-in_default-checked_sub t c =
    let none : c.args.most ≡ 0 = omega arith in
    left-zero_struct c.args.most c.args.depth c.args.types.now c.args.x.now c.args.given.now none

pub left_of_struct-returns-in-Some-fields_of : goal.left_of_struct-returns-in-Some-fields_of
left_of_struct-returns-in-Some-fields_of t c =
    let deep : c.args.depth ≡ c.in-Some.inner + 1 = omega arith in
    let high : c.args.most ≡ c.in-Some-checked_sub.less + 1 = omega arith in
    rw (left-fields_of c.args.most c.args.depth c.in-Some-checked_sub.less c.in-Some.inner c.args.types.now c.args.x.now c.in-Some-fields_of.fields.now c.args.given.now deep high c.in-Some-fields_of.ensures) c.left_of_fields.ensures

pub left_of_struct-returns-in-None : goal.left_of_struct-returns-in-None
left_of_struct-returns-in-None t c = left-no_struct c.args.most c.args.depth c.args.types.now c.args.x.now c.args.given.now c.in-None.ensures

pub left_of_elements-returns-in-None : goal.left_of_elements-returns-in-None
left_of_elements-returns-in-None t c =
    let one : c.args.n - c.loop-i.i ≡ suc (c.args.n - (c.loop-i.i + 1)) = omega arith in
    sym c.loop-i.invariant ∙ left-none_more c.args.most (c.args.n - c.loop-i.i) (c.args.n - (c.loop-i.i + 1)) (shape_within c.args.depth c.args.types.now (elem_type c.args.x.now)) c.loop-i.left.now one c.in-None.ensures

pub left_of_elements-loop-i-preserved : goal.left_of_elements-loop-i-preserved
left_of_elements-loop-i-preserved t c =
    let one : c.args.n - c.loop-i.i ≡ suc (c.args.n - (c.loop-i.i + 1)) = omega arith in
    sym (left-one_more c.args.most (c.args.n - c.loop-i.i) (c.args.n - (c.loop-i.i + 1)) (shape_within c.args.depth c.args.types.now (elem_type c.args.x.now)) c.loop-i.left.now c.in-Some.rest.now one c.in-Some.ensures) ∙ c.loop-i.invariant
