-- The least and the greatest number of a scalar, and the choice of the greatest and the least of some words.
use Rattle.std.proofs.Common.{◌≡◌, ℕ, ◌≤◌, [], ◌∷◌, refl, sym, ap, ◌∙◌, arith, Bool, true, false, Ok}
use Rattle.std.specs.Prelude.{ℤ, IsTrue, int_lt, int_le, ◌&&◌}
use Rattle.std.proofs.lemmas.Bool.Decides.{nat_tests}
use Rattle.std.proofs.lemmas.Int.{ints}
use Rattle.stream_types.specs.declared.scalar.Scalar.{Scalar}
use Rattle.stream_types.specs.declared.scalar.Scalar.TheVariants as scalar
use Rattle.stream_types.specs.declared.scalar.Op2.{Op2}
use Rattle.stream_types.specs.declared.scalar.Op2.TheVariants as op2
use Rattle.stream_types.specs.Scalars.{bits, signed, is_integer}
use Rattle.stream_types.specs.Numbers.{number, word, least, greatest, in_range, is_word, of_test, op2_word}
use Rattle.stream_types.specs.IntTyLaws.{word_back, range_is}
use Rattle.stream_types.proofs.Ranges.{as_word_is, bits_some, number_in_range}
use Rattle.stream_core.specs.Term.{Term, bin}
use Rattle.stream_core.specs.Library.{greatest_word, least_word}
use Rattle.stream_core.specs.Eval.{Moment, value, one, on_two, truth}
use Rattle.stream_core.proofs.Windows.{greatest_is_sample, least_is_sample, none_greater, none_less}
use Rattle.form_laws.proofs.WindowSums.{word_again}
use Rattle.form_laws.proofs.WindowBests.{IsTest}
use Rattle.form_laws.proofs.WindowChoices.{IsChoice, filler_ignored}

-- ---- the ends of a range

bits_few : (s : Scalar) → bits s ≤ 64
bits_few scalar.Bool = omega arith
bits_few scalar.Int8 = omega arith
bits_few scalar.Int16 = omega arith
bits_few scalar.Int32 = omega arith
bits_few scalar.Int64 = omega arith
bits_few scalar.Word8 = omega arith
bits_few scalar.Word16 = omega arith
bits_few scalar.Word32 = omega arith
bits_few scalar.Word64 = omega arith

least_fits : (s : Scalar) → IsTrue (in_range (bits s) (signed s) (least (bits s) (signed s)))
least_fits scalar.Bool = refl
least_fits scalar.Int8 = refl
least_fits scalar.Int16 = refl
least_fits scalar.Int32 = refl
least_fits scalar.Int64 = refl
least_fits scalar.Word8 = refl
least_fits scalar.Word16 = refl
least_fits scalar.Word32 = refl
least_fits scalar.Word64 = refl

greatest_fits : (s : Scalar) → IsTrue (in_range (bits s) (signed s) (greatest (bits s) (signed s)))
greatest_fits scalar.Bool = refl
greatest_fits scalar.Int8 = refl
greatest_fits scalar.Int16 = refl
greatest_fits scalar.Int32 = refl
greatest_fits scalar.Int64 = refl
greatest_fits scalar.Word8 = refl
greatest_fits scalar.Word16 = refl
greatest_fits scalar.Word32 = refl
greatest_fits scalar.Word64 = refl

-- a number in range has a word, whose number it is
number_again : (s : Scalar) (z : ℤ) → IsTrue (in_range (bits s) (signed s) z) → number s (word z) ≡ z
number_again s z h = word_back (bits s) (signed s) z (bits_some s) (bits_few s) h

both_hold : (c d : Bool) → IsTrue (c && d) → IsTrue c × IsTrue d
both_hold true d h = (refl, h)
both_hold false d h = absurd (cc)

within_ends : (s : Scalar) (a : ℕ) → IsTrue (is_integer s) → IsTrue (is_word s a)
    → IsTrue (int_le (least (bits s) (signed s)) (number s a)) × IsTrue (int_le (number s a) (greatest (bits s) (signed s)))
within_ends s a i h =
    let low = least (bits s) (signed s) in
    let high = greatest (bits s) (signed s) in
    both_hold (int_le low (number s a)) (int_le (number s a) high) (sym (range_is (bits s) (signed s) low high refl refl (number s a)) ∙ number_in_range s a i h)

not_below : (y z : ℤ) → int_le y z ≡ true → int_lt z y ≡ false
not_below y z h = grind (arith, nat_tests, h)

never_least : (s : Scalar) (a : ℕ) → IsTrue (is_integer s) → IsTrue (is_word s a) → int_lt (number s a) (number s (word (least (bits s) (signed s)))) ≡ false
never_least s a i h =
    let low = least (bits s) (signed s) in
    ap (int_lt (number s a)) (number_again s low (least_fits s)) ∙ not_below low (number s a) (within_ends s a i h).0

never_greatest : (s : Scalar) (a : ℕ) → IsTrue (is_integer s) → IsTrue (is_word s a) → int_lt (number s (word (greatest (bits s) (signed s)))) (number s a) ≡ false
never_greatest s a i h =
    let high = greatest (bits s) (signed s) in
    ap (λ z. int_lt z (number s a)) (number_again s high (greatest_fits s)) ∙ not_below (number s a) high (within_ends s a i h).1

-- ---- words of one number

le_both : (y z : ℤ) → int_le y z ≡ true → int_le z y ≡ true → y ≡ z
le_both y z a b = grind (arith, ints, nat_tests, a, b)

one_word : (s : Scalar) (y z : ℕ) → IsTrue (is_integer s) → IsTrue (is_word s y) → IsTrue (is_word s z)
    → int_le (number s y) (number s z) ≡ true → int_le (number s z) (number s y) ≡ true → y ≡ z
one_word s y z i h g a b = sym (word_again s y i h) ∙ ap word (le_both (number s y) (number s z) a b) ∙ word_again s z i g

-- ---- the tests

fact : (c : Bool) → one (Ok (word (of_test c))) ≡ truth c
fact true = refl
fact false = refl

both_words : (m : Moment) (o : Op2) (s : Scalar) (a b : Term) (x y : ℕ) → value m a ≡ Ok (x ∷ []) → value m b ≡ Ok (y ∷ []) → value m (bin o s a b) ≡ one (op2_word o s x y)
both_words m o s a b x y h g =
    ap (λ v. on_two v (value m b) (λ k l. one (op2_word o s k l))) h ∙ ap (λ v. on_two (Ok (x ∷ [])) v (λ k l. one (op2_word o s k l))) g

at_least : (s : Scalar) (m : Moment) → IsTest m (bin op2.Ge s) (λ x y. int_le (number s y) (number s x))
at_least s m a b x y h g = both_words m op2.Ge s a b x y h g ∙ fact (int_le (number s y) (number s x))

at_most : (s : Scalar) (m : Moment) → IsTest m (bin op2.Le s) (λ x y. int_le (number s x) (number s y))
at_most s m a b x y h g = both_words m op2.Le s a b x y h g ∙ fact (int_le (number s x) (number s y))

-- ---- the choices

pub greatest_is_choice : (s : Scalar) → IsTrue (is_integer s) → IsChoice s (word (least (bits s) (signed s))) (bin op2.Ge s) (λ x y. int_le (number s y) (number s x)) (greatest_word s)
greatest_is_choice s i = record {
  tested = at_least s;
  alike = λ y z h g a b. one_word s y z i h g b a;
  filler = as_word_is s (Ok (least (bits s) (signed s))) i (least_fits s);
  one_of = greatest_is_sample s;
  beats = none_greater s;
  unmoved = filler_ignored (greatest_word s) (λ a x. int_lt (number s a) (number s x)) (λ a. IsTrue (is_word s a)) (word (least (bits s) (signed s))) (λ a. refl) (λ a x xs. refl) (λ a h. never_least s a i h);
}

pub least_is_choice : (s : Scalar) → IsTrue (is_integer s) → IsChoice s (word (greatest (bits s) (signed s))) (bin op2.Le s) (λ x y. int_le (number s x) (number s y)) (least_word s)
least_is_choice s i = record {
  tested = at_most s;
  alike = λ y z h g a b. one_word s y z i h g a b;
  filler = as_word_is s (Ok (greatest (bits s) (signed s))) i (greatest_fits s);
  one_of = least_is_sample s;
  beats = none_less s;
  unmoved = filler_ignored (least_word s) (λ a x. int_lt (number s x) (number s a)) (λ a. IsTrue (is_word s a)) (word (greatest (bits s) (signed s))) (λ a. refl) (λ a x xs. refl) (λ a h. never_greatest s a i h);
}
