use Rattle.std.proofs.Common.{◌≡◌, ◌+◌, ◌-◌, ◌++◌, [], List, ℕ, suc, Some, None, sym, ap, ◌∙◌, arith}
use Rattle.std.specs.List.{find}
use Rattle.c99_tree.specs.declared.types.CTy.TheVariants as ty
use Rattle.c99_tree.specs.Words.{elem_type, is_same, word_of, scalars}
use Rattle.c99_tree.specs.Values.{Value}
use Rattle.c99_tree.specs.Spelling.{constant}
use Rattle.sm_print.proofs.Printing.{◌⨾◌, Prints-none, Prints-is}
use Rattle.c99_print.proofs.Giving.{scalar-given, struct-given, struct-lacks_depth, struct-lacks_fields, members_start, members_step, members_end, array-given, values_start, values_step, values_end, element-scalar, elem_type-Struct}
use Rattle.c99_print.proofs.constants.+filling.Goals as goal

pub constant-returns-in-Scalar : goal.constant-returns-in-Scalar
constant-returns-in-Scalar g t c = λ a e. c.scalar.ensures a (scalar-given c.args.depth c.args.types.now c.in-Scalar.t c.args.given.now a (rw c.in-Scalar.is at e))

pub constant-returns-in-Struct : goal.constant-returns-in-Struct
constant-returns-in-Struct g t c = λ a e. c.structure.ensures a (rw c.in-Struct.is at e)

pub constant-returns-in-Array : goal.constant-returns-in-Array
constant-returns-in-Array g t c = λ a e. c.array.ensures a (rw c.in-Array.is at e)

pub element-returns-in-Some : goal.element-returns-in-Some
element-returns-in-Some g t c =
    let found : find (λ s. is_same (word_of s) c.args.x.now) scalars ≡ Some c.in-Some.t = sym c.element_scalar.ensures ∙ c.in-Some.is in
    λ a e. c.scalar.ensures a (element-scalar c.args.depth c.args.types.now c.args.x.now c.in-Some.t c.args.given.now a found e)

pub element-returns-in-None : goal.element-returns-in-None
element-returns-in-None g t c =
    let found : find (λ s. is_same (word_of s) c.args.x.now) scalars ≡ None = sym c.element_scalar.ensures ∙ c.in-None.is in
    let is : elem_type c.args.x.now ≡ ty.Struct c.args.x.now = elem_type-Struct c.args.x.now found in
    λ a e. c.structure.ensures a (rw is at e)

pub structure-returns-in_default : goal.structure-returns-in_default
structure-returns-in_default g t c =
    let none : c.args.depth ≡ 0 = omega arith in
    λ a e. absurd (struct-lacks_depth c.args.depth c.args.types.now (ty.Struct c.args.x.now) c.args.given.now a none e)

pub structure-returns-in-None : goal.structure-returns-in-None
structure-returns-in-None g t c = λ a e. absurd (struct-lacks_fields c.args.depth c.args.types.now c.args.x.now c.args.given.now a c.in-None.ensures e)

pub structure-returns-in-Some-fields_of : goal.structure-returns-in-Some-fields_of
structure-returns-in-Some-fields_of g t c =
    let deep : c.args.depth ≡ c.in-Some.inner + 1 = omega arith in
    λ a e.
    let m = struct-given c.args.depth c.in-Some.inner c.args.types.now c.args.x.now c.in-Some-fields_of.fields.now c.args.given.now a deep c.in-Some-fields_of.ensures e in
    (Prints-is (sym (ap (λ (v : Value × List ℕ). constant v.0) m.2)) (c.put.ensures ⨾ (c.members-rest.ensures m.0 m.1).0 ⨾ c.put-in-Some-fields_of.ensures), (c.members-rest.ensures m.0 m.1).1 ∙ ap (λ (v : Value × List ℕ). v.1) (sym m.2))

pub array-returns : goal.array-returns
array-returns g t c = λ a e.
    let m = array-given c.args.depth c.args.types.now c.args.x.now c.args.n c.args.given.now a e in
    (Prints-is (sym (ap (λ (v : Value × List ℕ). constant v.0) m.2)) (c.put.ensures ⨾ (c.elements-rest.ensures m.0 m.1).0 ⨾ c.put-2.ensures), (c.elements-rest.ensures m.0 m.1).1 ∙ ap (λ (v : Value × List ℕ). v.1) (sym m.2))

pub members-loop-field-init : goal.members-loop-field-init
members-loop-field-init g t c = λ a e. ([], Prints-none _, members_start c.args.depth c.args.types.now c.args.fields.now c.args.given.now a e)

pub members-loop-field-preserved : goal.members-loop-field-preserved
members-loop-field-preserved g t c = λ a e.
    let k = c.loop-field.invariant a e in
    let s = members_step c.args.depth c.args.types.now c.args.fields.now c.loop-field.field-index c.field-item.result c.loop-field.left.now c.loop-field.before.now k.0 a c.loop-field-test.true c.field-item.is k.2 in (
      k.0 ++ c.loop-field.before.now ++ constant s.0.0,
      k.1 ⨾ c.put.ensures ⨾ (c.constant-rest.ensures s.0 s.1).0,
      rw ((c.constant-rest.ensures s.0 s.1).1) s.2,
    )

pub members-returns : goal.members-returns
members-returns g t c = λ a e.
    let k = c.loop-field.invariant a e in
    let end = members_end c.args.depth c.args.types.now c.args.fields.now c.loop-field.field-index c.loop-field.left.now c.loop-field.before.now k.0 a c.loop-field-test.false k.2 in
    (Prints-is end.0 k.1, end.1)

pub elements-loop-i-init : goal.elements-loop-i-init
elements-loop-i-init g t c = λ a e. ([], Prints-none _, values_start (c.args.n - 0) c.args.n c.args.depth c.args.types.now (elem_type c.args.x.now) c.args.given.now a (omega arith) e)

pub elements-loop-i-preserved : goal.elements-loop-i-preserved
elements-loop-i-preserved g t c =
    let one : c.args.n - c.loop-i.i ≡ suc (c.args.n - (c.loop-i.i + 1)) = omega arith in
    λ a e.
    let k = c.loop-i.invariant a e in
    let s = values_step (c.args.n - c.loop-i.i) (c.args.n - (c.loop-i.i + 1)) c.args.depth c.args.types.now (elem_type c.args.x.now) c.loop-i.left.now c.loop-i.before.now k.0 a one k.2 in (
      k.0 ++ c.loop-i.before.now ++ constant s.0.0,
      k.1 ⨾ c.put.ensures ⨾ (c.element-rest.ensures s.0 s.1).0,
      rw ((c.element-rest.ensures s.0 s.1).1) s.2,
    )

pub elements-returns : goal.elements-returns
elements-returns g t c =
    let none : c.args.n - c.loop-i.i ≡ 0 = omega arith in
    λ a e.
    let k = c.loop-i.invariant a e in
    let end = values_end (c.args.n - c.loop-i.i) c.args.depth c.args.types.now (elem_type c.args.x.now) c.loop-i.left.now c.loop-i.before.now k.0 a none k.2 in
    (Prints-is end.0 k.1, end.1)
