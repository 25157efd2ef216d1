use Rattle.std.proofs.Common.{rules, not, ap, ◌∙◌}
use Rattle.std.specs.Prelude.{Bool, ◌+ℤ◌, ◌-ℤ◌, ◌*ℤ◌, int_lt, int_le, int_div, int_rem, bit_and, bit_or, bit_xor, FitsSigned}
use Rattle.std.specs.Int.{w128}
use Rattle.std.specs.Ordering.{int_eq}
use Rattle.std.proofs.lemmas.Int.{to_z-of_z}
use Rattle.c99_tree.specs.declared.expr.CBin.TheVariants as o
use Rattle.c99_tree.specs.declared.undefined.Undefined.TheVariants as why
use Rattle.c99_tree.specs.CTypes.{in_type, truth}
use Rattle.c99_tree.specs.Evaluation.{divided, shifted_left, shifted_right}
use Rattle.c_exec.specs.WordNumbers.{word}
use Rattle.c_exec.proofs.Operators.{at_op, common_words, exact_words, compared_words, bitwise_words, shifted_words}
use Rattle.c_exec.proofs.SameNumbers.{seen, same_bits}
use Rattle.c_exec.proofs.numbers.binary.Goals as goal

pub returns-in-Add : goal.returns-in-Add
returns-in-Add c =
    let fa : FitsSigned w128 c.widened-a.result = search rules in
    let fb : FitsSigned w128 c.widened-b.result = search rules in
    let fz : FitsSigned w128 c.more.result = search rules in
    let pa = to_z-of_z w128 c.widened-a.result fa ∙ c.widened-a.ensures.value in
    let pb = to_z-of_z w128 c.widened-b.result fb ∙ c.widened-b.ensures.value in
    at_op c.args.op o.Add c.args.s c.args.t c.args.v c.args.w _ c.in-Add.is
    (exact_words ◌+ℤ◌ c.args.s c.args.t c.usual-c.result c.args.v c.args.w (seen c.widened-a.result) (seen c.widened-b.result) (seen c.more.result) c.in_type.result
    c.in_type.ensures (to_z-of_z w128 c.more.result fz ∙ c.more.ensures) c.usual-c.ensures pa pb)

pub returns-in-Sub : goal.returns-in-Sub
returns-in-Sub c =
    let fa : FitsSigned w128 c.widened-a.result = search rules in
    let fb : FitsSigned w128 c.widened-b.result = search rules in
    let fz : FitsSigned w128 c.less.result = search rules in
    let pa = to_z-of_z w128 c.widened-a.result fa ∙ c.widened-a.ensures.value in
    let pb = to_z-of_z w128 c.widened-b.result fb ∙ c.widened-b.ensures.value in
    at_op c.args.op o.Sub c.args.s c.args.t c.args.v c.args.w _ c.in-Sub.is
    (exact_words ◌-ℤ◌ c.args.s c.args.t c.usual-c.result c.args.v c.args.w (seen c.widened-a.result) (seen c.widened-b.result) (seen c.less.result) c.in_type-in-Sub.result
    c.in_type-in-Sub.ensures (to_z-of_z w128 c.less.result fz ∙ c.less.ensures) c.usual-c.ensures pa pb)

pub returns-in-Mul : goal.returns-in-Mul
returns-in-Mul c =
    let fa : FitsSigned w128 c.widened-a.result = search rules in
    let fb : FitsSigned w128 c.widened-b.result = search rules in
    let pa = to_z-of_z w128 c.widened-a.result fa ∙ c.widened-a.ensures.value in
    let pb = to_z-of_z w128 c.widened-b.result fb ∙ c.widened-b.ensures.value in
    at_op c.args.op o.Mul c.args.s c.args.t c.args.v c.args.w _ c.in-Mul.is
    (c.product.ensures ∙ common_words (λ k x y. in_type why.Overflow k (x *ℤ y)) c.args.s c.args.t c.usual-c.result c.args.v c.args.w
    (seen c.widened-a.result) (seen c.widened-b.result) c.usual-c.ensures pa pb)

pub returns-in-Div : goal.returns-in-Div
returns-in-Div c =
    let fa : FitsSigned w128 c.widened-a.result = search rules in
    let fb : FitsSigned w128 c.widened-b.result = search rules in
    let pa = to_z-of_z w128 c.widened-a.result fa ∙ c.widened-a.ensures.value in
    let pb = to_z-of_z w128 c.widened-b.result fb ∙ c.widened-b.ensures.value in
    at_op c.args.op o.Div c.args.s c.args.t c.args.v c.args.w _ c.in-Div.is
    (c.quotient.ensures ∙ common_words (divided int_div) c.args.s c.args.t c.usual-c.result c.args.v c.args.w
    (seen c.widened-a.result) (seen c.widened-b.result) c.usual-c.ensures pa pb)

pub returns-in-Rem : goal.returns-in-Rem
returns-in-Rem c =
    let fa : FitsSigned w128 c.widened-a.result = search rules in
    let fb : FitsSigned w128 c.widened-b.result = search rules in
    let pa = to_z-of_z w128 c.widened-a.result fa ∙ c.widened-a.ensures.value in
    let pb = to_z-of_z w128 c.widened-b.result fb ∙ c.widened-b.ensures.value in
    at_op c.args.op o.Rem c.args.s c.args.t c.args.v c.args.w _ c.in-Rem.is
    (c.remainder.ensures ∙ common_words (divided int_rem) c.args.s c.args.t c.usual-c.result c.args.v c.args.w
    (seen c.widened-a.result) (seen c.widened-b.result) c.usual-c.ensures pa pb)

pub returns-in-BitAnd : goal.returns-in-BitAnd
returns-in-BitAnd c =
    let fa : FitsSigned w128 c.widened-a.result = search rules in
    let fb : FitsSigned w128 c.widened-b.result = search rules in
    let pa = to_z-of_z w128 c.widened-a.result fa ∙ c.widened-a.ensures.value in
    let pb = to_z-of_z w128 c.widened-b.result fb ∙ c.widened-b.ensures.value in
    at_op c.args.op o.BitAnd c.args.s c.args.t c.args.v c.args.w _ c.in-BitAnd.is
    (bitwise_words bit_and c.args.s c.args.t c.usual-c.result c.args.v c.args.w (seen c.widened-a.result) (seen c.widened-b.result) c.bits_in_both.result
    c.bits_in_both.ensures c.usual-c.ensures pa pb)

pub returns-in-BitOr : goal.returns-in-BitOr
returns-in-BitOr c =
    let fa : FitsSigned w128 c.widened-a.result = search rules in
    let fb : FitsSigned w128 c.widened-b.result = search rules in
    let pa = to_z-of_z w128 c.widened-a.result fa ∙ c.widened-a.ensures.value in
    let pb = to_z-of_z w128 c.widened-b.result fb ∙ c.widened-b.ensures.value in
    at_op c.args.op o.BitOr c.args.s c.args.t c.args.v c.args.w _ c.in-BitOr.is
    (bitwise_words bit_or c.args.s c.args.t c.usual-c.result c.args.v c.args.w (seen c.widened-a.result) (seen c.widened-b.result) c.bits_in_either.result
    c.bits_in_either.ensures c.usual-c.ensures pa pb)

pub returns-in-BitXor : goal.returns-in-BitXor
returns-in-BitXor c =
    let fa : FitsSigned w128 c.widened-a.result = search rules in
    let fb : FitsSigned w128 c.widened-b.result = search rules in
    let pa = to_z-of_z w128 c.widened-a.result fa ∙ c.widened-a.ensures.value in
    let pb = to_z-of_z w128 c.widened-b.result fb ∙ c.widened-b.ensures.value in
    at_op c.args.op o.BitXor c.args.s c.args.t c.args.v c.args.w _ c.in-BitXor.is
    (bitwise_words bit_xor c.args.s c.args.t c.usual-c.result c.args.v c.args.w (seen c.widened-a.result) (seen c.widened-b.result) c.bits_in_one.result
    c.bits_in_one.ensures c.usual-c.ensures pa pb)

pub returns-in-Shl : goal.returns-in-Shl
returns-in-Shl c =
    let fx : FitsSigned w128 c.read.result = search rules in
    let fy : FitsSigned w128 c.read-in-Shl.result = search rules in
    at_op c.args.op o.Shl c.args.s c.args.t c.args.v c.args.w _ c.in-Shl.is
    (c.shifted_left.ensures ∙ shifted_words shifted_left c.args.s c.args.t c.promoted.result c.args.v c.args.w (seen c.read.result) (seen c.read-in-Shl.result)
    c.promoted.ensures (to_z-of_z w128 c.read.result fx ∙ c.read.ensures.value) (to_z-of_z w128 c.read-in-Shl.result fy ∙ c.read-in-Shl.ensures.value))

pub returns-in-Shr : goal.returns-in-Shr
returns-in-Shr c =
    let fx : FitsSigned w128 c.read-in-Shr.result = search rules in
    let fy : FitsSigned w128 c.read-in-Shr-2.result = search rules in
    at_op c.args.op o.Shr c.args.s c.args.t c.args.v c.args.w _ c.in-Shr.is
    (c.shifted_right.ensures ∙ shifted_words shifted_right c.args.s c.args.t c.promoted-in-Shr.result c.args.v c.args.w (seen c.read-in-Shr.result) (seen c.read-in-Shr-2.result)
    c.promoted-in-Shr.ensures (to_z-of_z w128 c.read-in-Shr.result fx ∙ c.read-in-Shr.ensures.value) (to_z-of_z w128 c.read-in-Shr-2.result fy ∙ c.read-in-Shr-2.ensures.value))

pub returns-in-Eq : goal.returns-in-Eq
returns-in-Eq c =
    let fa : FitsSigned w128 c.widened-a.result = search rules in
    let fb : FitsSigned w128 c.widened-b.result = search rules in
    at_op c.args.op o.Eq c.args.s c.args.t c.args.v c.args.w _ c.in-Eq.is
    (compared_words int_eq c.args.s c.args.t c.usual-c.result c.args.v c.args.w c.widened-a.result c.widened-b.result c.truth_word.result
    (c.truth_word.ensures.truth ∙ ap (λ (y : Bool). word (truth y).n) (same_bits c.widened-a.result c.widened-b.result fa fb))
    c.usual-c.ensures c.widened-a.ensures.value c.widened-b.ensures.value)

pub returns-in-Ne : goal.returns-in-Ne
returns-in-Ne c =
    let fa : FitsSigned w128 c.widened-a.result = search rules in
    let fb : FitsSigned w128 c.widened-b.result = search rules in
    at_op c.args.op o.Ne c.args.s c.args.t c.args.v c.args.w _ c.in-Ne.is
    (compared_words (λ a b. not (int_eq a b)) c.args.s c.args.t c.usual-c.result c.args.v c.args.w c.widened-a.result c.widened-b.result c.truth_word-in-Ne.result
    (c.truth_word-in-Ne.ensures.truth ∙ ap (λ (y : Bool). word (truth (not y)).n) (same_bits c.widened-a.result c.widened-b.result fa fb))
    c.usual-c.ensures c.widened-a.ensures.value c.widened-b.ensures.value)

pub returns-in-Lt : goal.returns-in-Lt
returns-in-Lt c =
    let fa : FitsSigned w128 c.widened-a.result = search rules in
    let fb : FitsSigned w128 c.widened-b.result = search rules in
    let pa = to_z-of_z w128 c.widened-a.result fa ∙ c.widened-a.ensures.value in
    let pb = to_z-of_z w128 c.widened-b.result fb ∙ c.widened-b.ensures.value in
    at_op c.args.op o.Lt c.args.s c.args.t c.args.v c.args.w _ c.in-Lt.is
    (compared_words int_lt c.args.s c.args.t c.usual-c.result c.args.v c.args.w (seen c.widened-a.result) (seen c.widened-b.result) c.truth_word-in-Lt.result
    c.truth_word-in-Lt.ensures.truth c.usual-c.ensures pa pb)

pub returns-in-Le : goal.returns-in-Le
returns-in-Le c =
    let fa : FitsSigned w128 c.widened-a.result = search rules in
    let fb : FitsSigned w128 c.widened-b.result = search rules in
    let pa = to_z-of_z w128 c.widened-a.result fa ∙ c.widened-a.ensures.value in
    let pb = to_z-of_z w128 c.widened-b.result fb ∙ c.widened-b.ensures.value in
    at_op c.args.op o.Le c.args.s c.args.t c.args.v c.args.w _ c.in-Le.is
    (compared_words int_le c.args.s c.args.t c.usual-c.result c.args.v c.args.w (seen c.widened-a.result) (seen c.widened-b.result) c.truth_word-in-Le.result
    c.truth_word-in-Le.ensures.truth c.usual-c.ensures pa pb)

pub returns-in-Gt : goal.returns-in-Gt
returns-in-Gt c =
    let fa : FitsSigned w128 c.widened-a.result = search rules in
    let fb : FitsSigned w128 c.widened-b.result = search rules in
    let pa = to_z-of_z w128 c.widened-a.result fa ∙ c.widened-a.ensures.value in
    let pb = to_z-of_z w128 c.widened-b.result fb ∙ c.widened-b.ensures.value in
    at_op c.args.op o.Gt c.args.s c.args.t c.args.v c.args.w _ c.in-Gt.is
    (compared_words (λ a b. int_lt b a) c.args.s c.args.t c.usual-c.result c.args.v c.args.w (seen c.widened-a.result) (seen c.widened-b.result) c.truth_word-in-Gt.result
    c.truth_word-in-Gt.ensures.truth c.usual-c.ensures pa pb)

pub returns-in-Ge : goal.returns-in-Ge
returns-in-Ge c =
    let fa : FitsSigned w128 c.widened-a.result = search rules in
    let fb : FitsSigned w128 c.widened-b.result = search rules in
    let pa = to_z-of_z w128 c.widened-a.result fa ∙ c.widened-a.ensures.value in
    let pb = to_z-of_z w128 c.widened-b.result fb ∙ c.widened-b.ensures.value in
    at_op c.args.op o.Ge c.args.s c.args.t c.args.v c.args.w _ c.in-Ge.is
    (compared_words (λ a b. int_le b a) c.args.s c.args.t c.usual-c.result c.args.v c.args.w (seen c.widened-a.result) (seen c.widened-b.result) c.truth_word-in-Ge.result
    c.truth_word-in-Ge.ensures.truth c.usual-c.ensures pa pb)
