-- The words that fill a shape are those of the value that they give.
use Rattle.std.proofs.Common.{◌≡◌, ℕ, zero, suc, ◌-◌, ◌^◌, ◌<◌, ◌≤◌, ◌%◌, Bool, true, false, ◌&&◌, ◌||◌, ◌++◌, List, [], ◌∷◌, append_assoc, Option, Some, None, refl, sym, ap, ◌∙◌, subst, arith}
use Rattle.std.specs.Prelude.{ℤ, pos, negsuc, ◌-ℤ◌, unsigned_abs, nat_le, nat_lt, if◌then◌else◌}
use Rattle.std.specs.Int.{int_rem_euclid}
use Rattle.std.specs.Option.{option_map}
use Rattle.std.proofs.lemmas.Bool.Decides.{nat_tests}
use Rattle.std.proofs.lemmas.Int.{ints}
use Rattle.std.proofs.Math.Pow.{pow_mono}
use Rattle.c99_tree.specs.declared.types.CScalar.{CScalar}
use Rattle.c99_tree.specs.declared.types.CScalar.TheVariants as t
use Rattle.c99_tree.specs.CTypes.{num}
use Rattle.c99_tree.specs.Values.{Value, Values, number, struct_of, array_of, and_value, values, is_word, number_of_word, word_of_number, words_of, words_of_all, Shape, Shapes, scalar, members, elements, no_shape, and_shape, repeated, filled, filled_all}
use Rattle.c99_tree.proofs.TypedShapes.{IfSome, map_has, then_has}

-- ---- numbers

abbrev word : ℤ → ℕ
word z = unsigned_abs (int_rem_euclid z (pos (2 ^ 64)))

signed_again : (s : CScalar) (k w : ℕ) (c : Bool) → 0 < k → k ≤ 2 ^ 63 → nat_le (2 ^ 63) w ≡ c → (nat_lt w k || (nat_le (2 ^ 64 - k) w && nat_lt w (2 ^ 64))) ≡ true
    → word_of_number (if c then num s (pos w -ℤ pos (2 ^ 64)) else num s (pos w)) ≡ w
signed_again s k w false p l e h =
    let q : w < 2 ^ 63 = grind (arith, nat_tests, e) in
    omega (arith, q)
signed_again s k w true p l e h =
    let q : 2 ^ 63 ≤ w = grind (arith, nat_tests, e) in
    let r : w < 2 ^ 64 = grind (arith, nat_tests, h, e) in
    let z : pos w -ℤ pos (2 ^ 64) ≡ negsuc (2 ^ 64 - w - 1) = omega (arith, ints) in
    ap word z ∙ omega (arith, q, r)

natural_again : (k w : ℕ) → k ≤ 64 → nat_lt w (2 ^ k) ≡ true → w % 2 ^ 64 ≡ w
natural_again k w l h =
    let q : w < 2 ^ k = grind (arith, nat_tests, h) in
    let m : 2 ^ k ≤ 2 ^ 64 = pow_mono l in
    omega (arith, q, m)

pub word_again : (s : CScalar) (w : ℕ) → is_word s w ≡ true → word_of_number (number_of_word s w) ≡ w
word_again t.Bool w h = natural_again 1 w (omega arith) h
word_again t.I8 w h = signed_again t.I8 (2 ^ 7) w (nat_le (2 ^ 63) w) (omega arith) (omega arith) refl h
word_again t.I16 w h = signed_again t.I16 (2 ^ 15) w (nat_le (2 ^ 63) w) (omega arith) (omega arith) refl h
word_again t.I32 w h = signed_again t.I32 (2 ^ 31) w (nat_le (2 ^ 63) w) (omega arith) (omega arith) refl h
word_again t.I64 w h = signed_again t.I64 (2 ^ 63) w (nat_le (2 ^ 63) w) (omega arith) (omega arith) refl h
word_again t.U8 w h = natural_again 8 w (omega arith) h
word_again t.U16 w h = natural_again 16 w (omega arith) h
word_again t.U32 w h = natural_again 32 w (omega arith) h
word_again t.U64 w h = natural_again 64 w (omega arith) h

-- ---- values

-- the first part's words and the others', and what is left
two_parts : (a b rest left ws : List ℕ) → b ++ left ≡ rest → a ++ rest ≡ ws → (a ++ b) ++ left ≡ ws
two_parts a b rest left ws e h = append_assoc a b left ∙ ap (λ (z : List ℕ). a ++ z) e ∙ h

repeated_again : (n : ℕ) (f : List ℕ → Option (Value × List ℕ)) → ((ws : List ℕ) → IfSome (f ws) (λ a. words_of a.0 ++ a.1 ≡ ws)) → (ws : List ℕ) → IfSome (repeated n f ws) (λ a. words_of_all (values a.0) ++ a.1 ≡ ws)
repeated_again zero f m ws = refl
repeated_again (suc n) f m ws =
    then_has (λ (a : Value × List ℕ). option_map (λ (b : List Value × List ℕ). (a.0 ∷ b.0, b.1)) (repeated n f a.1)) (f ws) (λ a. words_of a.0 ++ a.1 ≡ ws) (λ b. words_of_all (values b.0) ++ b.1 ≡ ws) (m ws)
    (λ a p. map_has (λ (b : List Value × List ℕ). (a.0 ∷ b.0, b.1)) (repeated n f a.1) (λ b. words_of_all (values b.0) ++ b.1 ≡ a.1) (λ b. words_of_all (values b.0) ++ b.1 ≡ ws) (repeated_again n f m a.1)
    (λ b q. two_parts (words_of a.0) (words_of_all (values b.0)) a.1 b.1 ws q p))

scalar_again : (s : CScalar) (w : ℕ) (ws : List ℕ) (c : Bool) → is_word s w ≡ c → IfSome (if c then Some (number (number_of_word s w), ws) else None) (λ (a : Value × List ℕ). words_of a.0 ++ a.1 ≡ w ∷ ws)
scalar_again s w ws true e = ap (λ (z : ℕ). z ∷ ws) (word_again s w e)
scalar_again s w ws false e = tt

mutual
  filled_again : (s : Shape) (ws : List ℕ) → IfSome (filled s ws) (λ a. words_of a.0 ++ a.1 ≡ ws)
  filled_again (scalar s) [] = tt
  filled_again (scalar s) (w ∷ ws) = scalar_again s w ws (is_word s w) refl
  filled_again (members ss) ws =
      map_has (λ (a : Values × List ℕ). (struct_of a.0, a.1)) (filled_all ss ws) (λ a. words_of_all a.0 ++ a.1 ≡ ws) (λ a. words_of a.0 ++ a.1 ≡ ws) (filled_all_again ss ws) (λ a p. p)
  filled_again (elements n s) ws =
      map_has (λ (a : List Value × List ℕ). (array_of (values a.0), a.1)) (repeated n (filled s) ws) (λ a. words_of_all (values a.0) ++ a.1 ≡ ws) (λ a. words_of a.0 ++ a.1 ≡ ws)
      (repeated_again n (filled s) (filled_again s) ws) (λ a p. p)

  filled_all_again : (ss : Shapes) (ws : List ℕ) → IfSome (filled_all ss ws) (λ a. words_of_all a.0 ++ a.1 ≡ ws)
  filled_all_again no_shape ws = refl
  filled_all_again (and_shape s ss) ws =
      then_has (λ (a : Value × List ℕ). option_map (λ (b : Values × List ℕ). (and_value a.0 b.0, b.1)) (filled_all ss a.1)) (filled s ws) (λ a. words_of a.0 ++ a.1 ≡ ws) (λ b. words_of_all b.0 ++ b.1 ≡ ws) (filled_again s ws)
      (λ a p. map_has (λ (b : Values × List ℕ). (and_value a.0 b.0, b.1)) (filled_all ss a.1) (λ b. words_of_all b.0 ++ b.1 ≡ a.1) (λ b. words_of_all b.0 ++ b.1 ≡ ws) (filled_all_again ss a.1)
      (λ b q. two_parts (words_of a.0) (words_of_all b.0) a.1 b.1 ws q p))

words_are : (ws rest : List ℕ) (v : Value) (o : Option (Value × List ℕ)) → IfSome o (λ a. words_of a.0 ++ a.1 ≡ ws) → o ≡ Some (v, rest) → words_of v ++ rest ≡ ws
words_are ws rest v None h e = absurd (cc e)
words_are ws rest v (Some a) h e =
    let same : a ≡ (v, rest) = cc e in
    subst (λ (z : Value × List ℕ). words_of z.0 ++ z.1 ≡ ws) same h

pub filled_words : (s : Shape) (ws rest : List ℕ) (v : Value) → filled s ws ≡ Some (v, rest) → ws ≡ words_of v ++ rest
filled_words s ws rest v e = sym (words_are ws rest v (filled s ws) (filled_again s ws) e)
