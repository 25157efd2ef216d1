-- One evaluation and then another, on a pile of words; numbers on the pile.
use Rattle.std.proofs.Common.{◌≡◌, ℕ, ◌+◌, ◌-◌, ◌≤◌, List, [], ◌∷◌, ◌++◌, length, Result, Ok, Err, refl, ap, arith}
use Rattle.std.specs.Prelude.{IfOk}
use Rattle.std.proofs.Math.Seq.{get_or-append_seam, take-append_seam}
use Rattle.std.proofs.lemmas.List.{length-append}
use Rattle.c99_tree.specs.declared.types.CScalar.{CScalar}
use Rattle.c99_tree.specs.declared.types.CTy.TheVariants as ty
use Rattle.c99_tree.specs.declared.types.CDef.{CDef}
use Rattle.c99_tree.specs.declared.undefined.Undefined.{Undefined}
use Rattle.c99_tree.specs.CTypes.{Num}
use Rattle.c99_tree.specs.Values.{Value, number, struct_of, array_of, number_in, number_of_word, word_of_number, words_of}
use Rattle.c99_tree.specs.Evaluation.{Met, after, meets, ◌>>=◌, number_result}
use Rattle.c99_tree.specs.Typed.{IsValueOf}
use Rattle.c99_tree.proofs.WordsBack.{number_back}
use Rattle.c_exec.specs.Piles.{top, below, put_on}
use Rattle.c_exec.specs.WordNumbers.{as_word}
use Rattle.c_exec.specs.Going.{put_result}
use Rattle.c_exec.proofs.Fronts.{take_fits}

-- ---- an evaluation on a pile

-- the words of a result on a pile
abbrev pub pushed : List ℕ → Result Value Undefined → Result (List ℕ) Undefined
pushed st (Ok v) = Ok (st ++ words_of v)
pushed st (Err e) = Err e

abbrev pub onto : List ℕ → Met Value → Met (List ℕ)
onto st m = record { value = pushed st m.value; count = m.count }

after_to : (r : Result Value Undefined) (n : ℕ) (f : Value → Met Value) (g : List ℕ → Met (List ℕ)) (st to : List ℕ) (P : Value → Type 0) → IfOk r P
    → ((v : Value) → P v → g (st ++ words_of v) ≡ onto to (f v)) → after (pushed st r) n g ≡ onto to (after r n f)
after_to (Ok v) n f g st to P p h = ap (meets n) (h v p)
after_to (Err e) n f g st to P p h = refl

-- first the one, and then what agrees on each of its values, and leaves its own on another pile
pub then_to : (m : Met Value) (f : Value → Met Value) (g : List ℕ → Met (List ℕ)) (st to : List ℕ) (P : Value → Type 0) → IfOk m.value P
    → ((v : Value) → P v → g (st ++ words_of v) ≡ onto to (f v)) → (onto st m >>= g) ≡ onto to (m >>= f)
then_to m f g st to P p h = after_to m.value m.count f g st to P p h

-- the same on one pile
pub then_onto : (m : Met Value) (f : Value → Met Value) (g : List ℕ → Met (List ℕ)) (st : List ℕ) (P : Value → Type 0) → IfOk m.value P
    → ((v : Value) → P v → g (st ++ words_of v) ≡ onto st (f v)) → (onto st m >>= g) ≡ onto st (m >>= f)
then_onto m f g st P p h = then_to m f g st st P p h

-- ---- the top of a pile

pub length-one : (st : List ℕ) (w : ℕ) → length (st ++ w ∷ []) ≡ length st + 1
length-one st w = length-append st (w ∷ [])

less-one : (st : List ℕ) (w : ℕ) → length (st ++ w ∷ []) - 1 ≡ length st
less-one st w = let h = length-one st w in omega (arith, h)

pub top-one : (st : List ℕ) (w : ℕ) → top (st ++ w ∷ []) ≡ w
top-one st w = rw (less-one st w) (get_or-append_seam st w [] 0)

pub below-one : (st : List ℕ) (w : ℕ) → below (st ++ w ∷ []) ≡ st
below-one st w = rw (less-one st w) (take-append_seam st (w ∷ []))

pub put-fits : (room : ℕ) (st ws : List ℕ) → length st + length ws ≤ room → put_on room st ws ≡ st ++ ws
put-fits room st ws h = take_fits room (st ++ ws) (let l = length-append st ws in omega (arith, l, h))

pub put-one : (room : ℕ) (st : List ℕ) (w : ℕ) → length st + 1 ≤ room → put_on room st (w ∷ []) ≡ st ++ w ∷ []
put-one room st w h = put-fits room st (w ∷ []) h

-- ---- numbers on the pile

pub put_number : (room : ℕ) (st : List ℕ) (r : Result Num Undefined) → length st + 1 ≤ room → put_result room st (as_word r) ≡ pushed st (number_result r)
put_number room st (Ok x) h = ap (λ (z : List ℕ). Ok z) (put-one room st (word_of_number x) h)
put_number room st (Err e) h = refl

-- an operator on the number on top, in place of it
pub one_onto : (ds : List CDef) (t : CScalar) (room : ℕ) (st : List ℕ) (f : Num → Result Num Undefined) (v : Value) → IsValueOf ds (ty.Scalar t) v → length st + 1 ≤ room
    → put_result room (below (st ++ words_of v)) (as_word (f (number_of_word t (top (st ++ words_of v))))) ≡ pushed st (number_result (f (number_in v)))
one_onto ds t room st f (number x) p h =
    rw (top-one st (word_of_number x), below-one st (word_of_number x), (number_back t x p).1) (put_number room st (f x) h)
one_onto ds t room st f (struct_of vs) p h = absurd p
one_onto ds t room st f (array_of vs) p h = absurd p

-- the same on the two numbers on top
pub two_onto : (ds : List CDef) (s t : CScalar) (room : ℕ) (st : List ℕ) (f : Num → Num → Result Num Undefined) (v w : Value) → IsValueOf ds (ty.Scalar s) v → IsValueOf ds (ty.Scalar t) w → length st + 1 ≤ room
    → put_result room (below (below ((st ++ words_of v) ++ words_of w)))
    (as_word (f (number_of_word s (top (below ((st ++ words_of v) ++ words_of w)))) (number_of_word t (top ((st ++ words_of v) ++ words_of w)))))
    ≡ pushed st (number_result (f (number_in v) (number_in w)))
two_onto ds s t room st f (number x) (number y) p q h =
    rw (top-one (st ++ word_of_number x ∷ []) (word_of_number y), below-one (st ++ word_of_number x ∷ []) (word_of_number y), top-one st (word_of_number x), below-one st (word_of_number x), (number_back s x p).1, (number_back t y q).1)
    (put_number room st (f x y) h)
two_onto ds s t room st f (number x) (struct_of vs) p q h = absurd q
two_onto ds s t room st f (number x) (array_of vs) p q h = absurd q
two_onto ds s t room st f (struct_of vs) w p q h = absurd p
two_onto ds s t room st f (array_of vs) w p q h = absurd p
