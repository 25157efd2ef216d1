use Rattle.std.proofs.Common.{arith, drop, length, ◌∷◌, ◌≡◌, ◌+◌, ◌-◌, ◌<◌, suc, [], sym, ◌∙◌, codes, refl}
use Rattle.std.proofs.lemmas.Result.{err_from_is_err_and}
use Rattle.c99_tree.specs.Words.{elem_type}
use Rattle.c99_tree.specs.Values.{shape_within}
use Rattle.c99_tree.specs.declared.types.CTy.TheVariants as ty
use Rattle.std.proofs.lemmas.List.{drop_all}
use Rattle.c99_read.specs.WordsAt.{times_shaped}
use Rattle.c99_read.proofs.WordsGo.{no_depth, no_struct, struct_is, zero_struct, small_array, array_is, open_fail, inner_fail, close_fail, between_goes, some_shape, times_more, times_before_fail, times_value_fail, times_end, fields_more, fields_before_fail, fields_value_fail, fields_end, drop_item}
use Rattle.c99_read.proofs.values.+reading_values.Goals as goal

-- ---- arrays

pub array_words-returns-in_default : goal.array_words-returns-in_default
array_words-returns-in_default t c =
    let small : c.args.most < 2 = omega arith in
    small_array c.args.most c.args.depth c.args.n c.args.types.now c.args.x.now c.args.given c.args.bytes.now small

pub array_words-returns-in_err-rest : goal.array_words-returns-in_err-rest
array_words-returns-in_err-rest t c =
    let more : c.args.most ≡ suc (suc c.in-Some.less) = omega arith in
    let o = shape_within c.args.depth c.args.types.now (elem_type c.args.x.now) in
    let failed = open_fail c.in_err-rest.field-0.0 (codes "{ { ") (codes " } }") (times_shaped c.in-Some.less c.args.n o []) c.args.bytes.now c.args.given c.in_err-rest.ensures in
    let p = err_from_is_err_and c.from_residual.result c.from_residual.ensures.1 in
    rw p.1 (rw p.2 (rw (array_is c.args.most c.in-Some.less c.args.depth c.args.n c.args.types.now c.args.x.now c.args.given c.args.bytes.now more) failed))

pub array_words-returns-in_err-all : goal.array_words-returns-in_err-all
array_words-returns-in_err-all t c =
    let more : c.args.most ≡ suc (suc c.in-Some.less) = omega arith in
    let o = shape_within c.args.depth c.args.types.now (elem_type c.args.x.now) in
    let failed = inner_fail c.in_err-all.field-0.0 (codes "{ { ") (codes " } }") (times_shaped c.in-Some.less c.args.n o []) c.args.bytes.now c.in_ok-rest.rest.now c.args.given c.in_ok-rest.ensures c.in_err-all.ensures in
    let p = err_from_is_err_and c.from_residual-in_err-all.result c.from_residual-in_err-all.ensures.1 in
    rw p.1 (rw p.2 (rw (array_is c.args.most c.in-Some.less c.args.depth c.args.n c.args.types.now c.args.x.now c.args.given c.args.bytes.now more) failed))

pub array_words-returns-in_err-rest-2 : goal.array_words-returns-in_err-rest-2
array_words-returns-in_err-rest-2 t c =
    let more : c.args.most ≡ suc (suc c.in-Some.less) = omega arith in
    let o = shape_within c.args.depth c.args.types.now (elem_type c.args.x.now) in
    let failed = close_fail c.in_err-rest-2.field-0.0 (codes "{ { ") (codes " } }") (times_shaped c.in-Some.less c.args.n o []) c.args.bytes.now c.in_ok-rest.rest.now c.args.given c.in_ok-all.all c.in_ok-all.rest.now c.in_ok-rest.ensures c.in_ok-all.ensures c.in_err-rest-2.ensures in
    let p = err_from_is_err_and c.from_residual-in_err-rest-2.result c.from_residual-in_err-rest-2.ensures.1 in
    rw p.1 (rw p.2 (rw (array_is c.args.most c.in-Some.less c.args.depth c.args.n c.args.types.now c.args.x.now c.args.given c.args.bytes.now more) failed))

pub array_words-returns : goal.array_words-returns
array_words-returns t c =
    let more : c.args.most ≡ suc (suc c.in-Some.less) = omega arith in
    let o = shape_within c.args.depth c.args.types.now (elem_type c.args.x.now) in
    array_is c.args.most c.in-Some.less c.args.depth c.args.n c.args.types.now c.args.x.now c.args.given c.args.bytes.now more
    ∙ between_goes (codes "{ { ") (codes " } }") (times_shaped c.in-Some.less c.args.n o []) c.args.bytes.now c.in_ok-rest.rest.now c.args.given c.in_ok-all.all c.in_ok-all.rest.now c.in_ok-rest-2.rest.now c.in_ok-rest.ensures c.in_ok-all.ensures c.in_ok-rest-2.ensures

-- ---- their elements

pub elements_words-returns-then-n-eq0 : goal.elements_words-returns-then-n-eq0
elements_words-returns-then-n-eq0 t c =
    let o = shape_within c.args.depth c.args.types.now (elem_type c.args.x.now) in
    let none : c.args.n ≡ 0 = omega arith in
    times_end c.args.most c.args.n o [] c.args.bytes.now c.args.given none (sym c.has_element_shape.ensures ∙ c.if-not-has_element_shape.false)

pub elements_words-returns-in_err-start : goal.elements_words-returns-in_err-start
elements_words-returns-in_err-start t c =
    let o = shape_within c.args.depth c.args.types.now (elem_type c.args.x.now) in
    let left : c.args.n - c.loop-i.i ≡ suc (c.args.n - (c.loop-i.i + 1)) = omega arith in
    let failed = times_before_fail c.in_err-start.field-0.0 c.args.most (c.args.n - c.loop-i.i) (c.args.n - (c.loop-i.i + 1)) o c.loop-i.before.now c.loop-i.rest.now c.loop-i.all left c.in_err-start.ensures in
    let p = err_from_is_err_and c.from_residual.result c.from_residual.ensures.1 in
    rw p.1 (rw p.2 (rw c.loop-i.invariant.same failed))

pub elements_words-returns-in_err-more : goal.elements_words-returns-in_err-more
elements_words-returns-in_err-more t c =
    let o = shape_within c.args.depth c.args.types.now (elem_type c.args.x.now) in
    let left : c.args.n - c.loop-i.i ≡ suc (c.args.n - (c.loop-i.i + 1)) = omega arith in
    let failed = times_value_fail c.in_err-more.field-0.0 c.args.most (c.args.n - c.loop-i.i) (c.args.n - (c.loop-i.i + 1)) o c.loop-i.before.now c.loop-i.rest.now c.in_ok-start.start.now c.loop-i.all left c.in_ok-start.ensures c.in_err-more.ensures in
    let p = err_from_is_err_and c.from_residual-in_err-more.result c.from_residual-in_err-more.ensures.1 in
    rw p.1 (rw p.2 (rw c.loop-i.invariant.same failed))

pub elements_words-loop-i-preserved : goal.elements_words-loop-i-preserved
elements_words-loop-i-preserved t c =
    let o = shape_within c.args.depth c.args.types.now (elem_type c.args.x.now) in
    let left : c.args.n - c.loop-i.i ≡ suc (c.args.n - (c.loop-i.i + 1)) = omega arith in
    record {
      same = c.loop-i.invariant.same ∙ times_more c.args.most (c.args.n - c.loop-i.i) (c.args.n - (c.loop-i.i + 1)) o c.loop-i.before.now c.loop-i.rest.now c.in_ok-start.start.now c.loop-i.all c.in_ok-more.more c.in_ok-more.after.now left c.in_ok-start.ensures c.in_ok-more.ensures;
      shaped = λ k. some_shape c.args.most o c.loop-i.all c.in_ok-start.start.now c.in_ok-more.more c.in_ok-more.after.now c.in_ok-more.ensures;
    }

pub elements_words-returns : goal.elements_words-returns
elements_words-returns t c =
    let o = shape_within c.args.depth c.args.types.now (elem_type c.args.x.now) in
    let done : c.args.n - c.loop-i.i ≡ 0 = omega arith in
    let some : 0 < c.loop-i.i = omega arith in
    c.loop-i.invariant.same ∙ times_end c.args.most (c.args.n - c.loop-i.i) o c.loop-i.before.now c.loop-i.rest.now c.loop-i.all done (c.loop-i.invariant.shaped some)

-- ---- structs

pub struct_words-returns-in_default : goal.struct_words-returns-in_default
struct_words-returns-in_default t c =
    let none : c.args.depth ≡ 0 = omega arith in
    rw (no_depth c.args.depth c.args.types.now (ty.Struct c.args.x.now) none) refl

pub struct_words-returns-in_default-checked_sub : goal.struct_words-returns-in_default-checked_sub
struct_words-returns-in_default-checked_sub t c =
    let none : c.args.most ≡ 0 = omega arith in
    zero_struct c.args.most c.args.depth c.args.types.now c.args.x.now c.args.given c.args.bytes.now none

pub struct_words-returns-in-Some-fields_of : goal.struct_words-returns-in-Some-fields_of
struct_words-returns-in-Some-fields_of t c =
    let deep : c.args.depth ≡ suc c.in-Some.inner = omega arith in
    let high : c.args.most ≡ suc c.in-Some-checked_sub.less = omega arith in
    rw (struct_is c.args.most c.in-Some-checked_sub.less c.args.depth c.in-Some.inner c.args.types.now c.args.x.now c.in-Some-fields_of.fields.now c.args.given c.args.bytes.now high deep c.in-Some-fields_of.ensures) c.braced_words.ensures

pub struct_words-returns-in-None : goal.struct_words-returns-in-None
struct_words-returns-in-None t c = rw (no_struct c.args.depth c.args.types.now c.args.x.now c.in-None.ensures) refl

-- ---- their members

pub fields_words-returns-in_err-start : goal.fields_words-returns-in_err-start
fields_words-returns-in_err-start t c =
    let i = c.loop-field.field-index in
    let all = c.args.fields.now in
    let is : drop i all ≡ c.field-item.result ∷ drop (i + 1) all = drop_item all i c.field-item.result c.loop-field-test.true c.field-item.is in
    let failed = fields_before_fail c.args.most (shape_within c.args.depth c.args.types.now) c.field-item.result (drop i all) (drop (i + 1) all) c.loop-field.before.now c.loop-field.rest.now c.loop-field.all is c.in_err-start.field-0.0 c.in_err-start.ensures in
    let p = err_from_is_err_and c.from_residual.result c.from_residual.ensures.1 in
    rw p.1 (rw p.2 (rw c.loop-field.invariant failed))

pub fields_words-returns-in_err-more : goal.fields_words-returns-in_err-more
fields_words-returns-in_err-more t c =
    let i = c.loop-field.field-index in
    let all = c.args.fields.now in
    let is : drop i all ≡ c.field-item.result ∷ drop (i + 1) all = drop_item all i c.field-item.result c.loop-field-test.true c.field-item.is in
    let failed = fields_value_fail c.args.most (shape_within c.args.depth c.args.types.now) c.field-item.result (drop i all) (drop (i + 1) all) c.loop-field.before.now c.loop-field.rest.now c.loop-field.all is c.in_err-more.field-0.0 c.in_ok-start.start.now c.in_ok-start.ensures c.in_err-more.ensures in
    let p = err_from_is_err_and c.from_residual-in_err-more.result c.from_residual-in_err-more.ensures.1 in
    rw p.1 (rw p.2 (rw c.loop-field.invariant failed))

pub fields_words-loop-field-preserved : goal.fields_words-loop-field-preserved
fields_words-loop-field-preserved t c =
    let i = c.loop-field.field-index in
    let all = c.args.fields.now in
    let is : drop i all ≡ c.field-item.result ∷ drop (i + 1) all = drop_item all i c.field-item.result c.loop-field-test.true c.field-item.is in
    c.loop-field.invariant ∙ fields_more c.args.most (shape_within c.args.depth c.args.types.now) c.field-item.result (drop i all) (drop (i + 1) all) c.loop-field.before.now c.loop-field.rest.now c.loop-field.all is c.in_ok-start.start.now c.in_ok-more.more c.in_ok-more.after.now c.in_ok-start.ensures c.in_ok-more.ensures

pub fields_words-returns : goal.fields_words-returns
fields_words-returns t c =
    let done : length c.args.fields.now ≡ c.loop-field.field-index = omega arith in
    c.loop-field.invariant ∙ fields_end c.args.most (shape_within c.args.depth c.args.types.now) (drop c.loop-field.field-index c.args.fields.now) c.loop-field.before.now c.loop-field.rest.now c.loop-field.all (drop_all c.loop-field.field-index c.args.fields.now (omega arith))
