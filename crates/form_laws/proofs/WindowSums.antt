-- The sum of a window, from its buffer and from its samples.
use Rattle.std.proofs.Common.{◌≡◌, ℕ, zero, suc, ◌+◌, ◌-◌, ◌^◌, ◌<◌, ◌≤◌, List, [], ◌∷◌, length, refl, sym, ap, ◌∙◌, arith, Bool, true, false, Result, Ok, Err}
use Rattle.std.specs.Prelude.{ℤ, pos, negsuc, ◌+ℤ◌, IsTrue, IfOk, if◌then◌else◌, max, map, slice_get, Some}
use Rattle.std.proofs.lemmas.Bool.Decides.{nat_tests}
use Rattle.std.proofs.lemmas.Int.{ints}
use Rattle.std.proofs.Math.Nat.{mod-eq_of_lt}
use Rattle.stream_types.specs.declared.scalar.Scalar.{Scalar}
use Rattle.stream_types.specs.declared.scalar.Scalar.TheVariants as scalar
use Rattle.stream_types.specs.declared.scalar.Hazard.{Hazard}
use Rattle.stream_types.specs.declared.scalar.Hazard.TheVariants.{Overflow}
use Rattle.stream_types.specs.declared.scalar.Op2.TheVariants as op2
use Rattle.stream_types.specs.Scalars.{bits, signed, is_integer}
use Rattle.stream_types.specs.Numbers.{number, number_at, word, is_word, in_range, fit, as_word, op2_word}
use Rattle.stream_types.specs.IntTyLaws.{number_back}
use Rattle.stream_types.proofs.Ranges.{op2_answer, number_in_range}
use Rattle.stream_core.specs.declared.node.LibForm.TheVariants as form
use Rattle.stream_core.specs.Term.{Term, TreeStream, bin}
use Rattle.stream_core.specs.Library.{bind, back, window_sum, form_value}
use Rattle.stream_core.specs.Eval.{Moment, value, values, one, on_two}
use Rattle.stream_core.specs.Lower.{ago, agos, sum_all, depth, form_term, buffers_of}
use Rattle.stream_core.specs.WellTyped.{IsGoodForm}
use Rattle.form_laws.specs.Buffers.{Samples, with_now, FormIsKept, IsFormStep, StopsForm, buffer_entry}
use Rattle.form_laws.proofs.WindowParts.{seen, padded, IsWindow, ago_value, padded_from, first_value, one_hazard, first_buffer, back_same, earlier, at_this, window_moves, window_starts}

-- ---- a zero adds nothing

pub word_again : (s : Scalar) (a : ℕ) → IsTrue (is_integer s) → IsTrue (is_word s a) → word (number s a) ≡ a
word_again scalar.Bool a i h = absurd (cc)
word_again scalar.Int8 a i h = number_back 8 true a (omega arith) (omega arith) h
word_again scalar.Int16 a i h = number_back 16 true a (omega arith) (omega arith) h
word_again scalar.Int32 a i h = number_back 32 true a (omega arith) (omega arith) h
word_again scalar.Int64 a i h = number_back 64 true a (omega arith) (omega arith) h
word_again scalar.Word8 a i h = number_back 8 false a (omega arith) (omega arith) h
word_again scalar.Word16 a i h = number_back 16 false a (omega arith) (omega arith) h
word_again scalar.Word32 a i h = number_back 32 false a (omega arith) (omega arith) h
word_again scalar.Word64 a i h = number_back 64 false a (omega arith) (omega arith) h

plus_zero : (z : ℤ) → z +ℤ pos 0 ≡ z
plus_zero z = omega (arith, ints)

fits : (n : ℕ) (sign : Bool) (z : ℤ) → IsTrue (in_range n sign z) → fit n sign z ≡ Ok z
fits n true z h = ap (λ c. if c then Ok z else Err Overflow) h
fits n false (pos m) h =
    let b : m < 2 ^ n = grind (arith, nat_tests, h) in
    ap (λ k. Ok (pos k)) (mod-eq_of_lt b)
fits n false (negsuc m) h = absurd (cc)

zero_number : (sign : Bool) → number_at sign 0 ≡ pos 0
zero_number true = refl
zero_number false = refl

pub add_zero : (s : Scalar) (a : ℕ) → IsTrue (is_integer s) → IsTrue (is_word s a) → op2_word op2.Add s a 0 ≡ Ok a
add_zero s a i h =
    ap (λ z. as_word (fit (bits s) (signed s) (number s a +ℤ z))) (zero_number (signed s))
    ∙ ap (λ z. as_word (fit (bits s) (signed s) z)) (plus_zero (number s a))
    ∙ ap as_word (fits (bits s) (signed s) (number s a) (number_in_range s a i h))
    ∙ ap Ok (word_again s a i h)

-- ---- zeros before the first sample

only_zeros : (s : Scalar) (a : ℕ) (p : ℕ → ℕ) (n : ℕ) → IsTrue (is_integer s) → IsTrue (is_word s a) → window_sum s a (padded 0 p zero n) ≡ Ok a
only_zeros s a p zero i h = refl
only_zeros s a p (suc n) i h = ap (λ r. bind r (λ x. window_sum s x (padded 0 p zero n))) (add_zero s a i h) ∙ only_zeros s a p n i h

same_bind : (r : Result ℕ Hazard) (P : ℕ → Type 0) (f g : ℕ → Result ℕ Hazard) → IfOk r P → ((x : ℕ) → P x → f x ≡ g x) → bind r f ≡ bind r g
same_bind (Ok x) P f g h e = e x h
same_bind (Err d) P f g h e = refl

pub padded_sum : (s : Scalar) (a : ℕ) (p : ℕ → ℕ) (t n : ℕ) → IsTrue (is_integer s) → IsTrue (is_word s a) → ((i : ℕ) → i < t → IsTrue (is_word s (p i)))
    → window_sum s a (padded 0 p t n) ≡ window_sum s a (back p t n)
padded_sum s a p t zero i h all = refl
padded_sum s a p zero (suc n) i h all = only_zeros s a p (suc n) i h
padded_sum s a p (suc t) (suc n) i h all =
    same_bind (op2_word op2.Add s a (p t)) (λ x. IsTrue (is_word s x)) (λ x. window_sum s x (padded 0 p t n)) (λ x. window_sum s x (back p t n))
    (op2_answer op2.Add s a (p t) i h (all t (omega arith)))
    (λ x w. padded_sum s x p t n i w (λ j below. all j (omega arith)))

-- ---- the expression

add_value : (r : Result ℕ Hazard) (w : ℕ) (f : ℕ → ℕ → Result ℕ Hazard) → on_two (one r) (Ok (w ∷ [])) (λ x y. one (f x y)) ≡ one (bind r (λ x. f x w))
add_value (Ok x) w f = refl
add_value (Err h) w f = refl

bind_bind : (r : Result ℕ Hazard) (f g : ℕ → Result ℕ Hazard) → bind (bind r f) g ≡ bind r (λ x. bind (f x) g)
bind_bind (Ok x) f g = refl
bind_bind (Err h) f g = refl

bind_ok : (r : Result ℕ Hazard) → r ≡ bind r (λ x. Ok x)
bind_ok (Ok x) = refl
bind_ok (Err h) = refl

pub sum_value : (m : Moment) (s : Scalar) (b d : ℕ) (p : ℕ → ℕ) → IsWindow b d 0 m.table m.time p
    → (a : Term) (r : Result ℕ Hazard) (i n : ℕ) → 1 ≤ i → i + n ≤ d + 1 → value m a ≡ one r
    → value m (sum_all s a (agos b d i n)) ≡ one (bind r (λ x. window_sum s x (padded 0 p (suc m.time - i) n)))
sum_value m s b d p hold a r i zero one_ le is = is ∙ ap one (bind_ok r)
sum_value m s b d p hold a r i (suc n) one_ le is =
    let w = seen 0 p m.time i in
    let added : value m (bin op2.Add s a (ago b d i)) ≡ one (bind r (λ x. op2_word op2.Add s x w)) =
    ap (λ v. on_two v (value m (ago b d i)) (λ x y. one (op2_word op2.Add s x y))) is
    ∙ ap (λ v. on_two (one r) v (λ x y. one (op2_word op2.Add s x y))) (ago_value m b d 0 p hold i one_ (omega arith))
    ∙ add_value r w (op2_word op2.Add s) in
    sum_value m s b d p hold (bin op2.Add s a (ago b d i)) (bind r (λ x. op2_word op2.Add s x w)) (i + 1) n (omega arith) (omega arith) added
    ∙ ap one (bind_bind r (λ x. op2_word op2.Add s x w) (λ x. window_sum s x (padded 0 p (suc m.time - (i + 1)) n)))
    ∙ ap (λ ws. one (bind r (λ x. window_sum s x ws))) (sym (padded_from 0 p m.time i n))

pub sum_stops : (m : Moment) (s : Scalar) (a : Term) (bs : List Term) (h : Hazard) → value m a ≡ Err h → value m (sum_all s a bs) ≡ Err h
sum_stops m s a [] h e = e
sum_stops m s a (b ∷ bs) h e = sum_stops m s (bin op2.Add s a b) bs h (ap (λ v. on_two v (value m b) (λ x y. one (op2_word op2.Add s x y))) e)

-- ---- the form

sum_given : (n : ℕ) (s : Scalar) → IsGoodForm (form.WindowSum n s) → (m : Moment) (b : ℕ) (ps : List Term) (p : Samples) (now : List ℕ)
    → IsFormStep (form.WindowSum n s) m b ps p now → value m (form_term (form.WindowSum n s) b ps) ≡ one (form_value (form.WindowSum n s) m.time (with_now m.time p now))
sum_given n s good m b ps p [] step = absurd (let e = step.words.count in omega (arith, e))
sum_given n s good m b ps p (x ∷ y ∷ now) step = absurd (let e = step.words.count in omega (arith, e))
sum_given n s good m b [] p (x ∷ []) step = absurd (let e = step.given in cc)
sum_given n s good m b (e ∷ es) p (x ∷ []) step =
    let t = m.time in
    let d = max (n - 1) 1 in
    let now = x ∷ [] in
    let integer = good.2 in
    let hold : IsWindow b d 0 m.table t (p 0) = first_buffer d 0 b m.table t (p 0) (λ i h. step.hold 0 i (omega arith) h) in
    let room : 1 + (n - 1) ≤ d + 1 = omega arith in
    let before : suc t - 1 ≡ t = omega arith in
    sum_value m s b d (p 0) hold e (Ok x) 1 (n - 1) (omega arith) room (first_value m e es now [] step.given)
    ∙ ap (λ k. one (window_sum s x (padded 0 (p 0) k (n - 1)))) before
    ∙ ap one (padded_sum s x (p 0) t (n - 1) integer (step.words.words 0 s refl) (λ i h. step.samples 0 i s h refl))
    ∙ ap (λ ws. one (window_sum s x ws)) (back_same (p 0) (with_now t p now 0) t (n - 1) (λ i h. sym (earlier t p now 0 i h)))
    ∙ ap (λ k. one (window_sum s k (back (with_now t p now 0) t (n - 1)))) (sym (at_this t p now 0 t refl))

sum_moves : (n : ℕ) (s : Scalar) (m : Moment) (number b at : ℕ) (ps : List Term) (p : Samples) (now : List ℕ) → IsFormStep (form.WindowSum n s) m b ps p now
    → (k : ℕ) (x : TreeStream) → slice_get (buffers_of (form.WindowSum n s) number b at ps) k ≡ Some x
    → value m x.expr ≡ Ok (buffer_entry (form.WindowSum n s) (with_now m.time p now) k (depth (form.WindowSum n s) + m.time) ∷ [])
sum_moves n s m number b at ps p [] step k x q = absurd (let e = step.words.count in omega (arith, e))
sum_moves n s m number b at ps p (y ∷ z ∷ now) step k x q = absurd (let e = step.words.count in omega (arith, e))
sum_moves n s m number b at [] p (y ∷ []) step k x q = absurd (let e = step.given in cc)
sum_moves n s m number b at (e ∷ es) p (y ∷ []) step k x q = window_moves m number (max (n - 1) 1) 0 at s e p y (first_value m e es (y ∷ []) [] step.given) k x q

sum_halts : (n : ℕ) (s : Scalar) (m : Moment) (ps : List Term) (h : Hazard) → StopsForm (form.WindowSum n s) m ps h → (b : ℕ) → value m (form_term (form.WindowSum n s) b ps) ≡ Err h
sum_halts n s m [] h stop b = absurd (let e = stop.count in omega (arith, e))
sum_halts n s m (e ∷ f ∷ es) h stop b = absurd (let e = stop.count in omega (arith, e))
sum_halts n s m (e ∷ []) h stop b = sum_stops m s e (agos b (max (n - 1) 1) 1 (n - 1)) h (one_hazard m e h stop.met)

sum_buffers_halt : (n : ℕ) (s : Scalar) (m : Moment) (number b at : ℕ) (ps : List Term) (h : Hazard) → StopsForm (form.WindowSum n s) m ps h
    → values m (map (λ (x : TreeStream). x.expr) (buffers_of (form.WindowSum n s) number b at ps)) ≡ Err h
sum_buffers_halt n s m number b at [] h stop = absurd (let e = stop.count in omega (arith, e))
sum_buffers_halt n s m number b at (e ∷ f ∷ es) h stop = absurd (let e = stop.count in omega (arith, e))
sum_buffers_halt n s m number b at (e ∷ []) h stop = stop.met

sum_begins : (n : ℕ) (s : Scalar) (number b at : ℕ) (ps : List Term) (p : Samples) → length ps ≡ 1
    → (k : ℕ) (x : TreeStream) → slice_get (buffers_of (form.WindowSum n s) number b at ps) k ≡ Some x
    → (length x.init ≡ depth (form.WindowSum n s)) × ((i : ℕ) → i < depth (form.WindowSum n s) → slice_get x.init i ≡ Some (buffer_entry (form.WindowSum n s) p k i))
sum_begins n s number b at [] p count k x q = absurd (omega (arith, count))
sum_begins n s number b at (e ∷ es) p count k x q = window_starts number (max (n - 1) 1) 0 at s e p k x q

pub sum_is_kept : (n : ℕ) (s : Scalar) → IsGoodForm (form.WindowSum n s) → FormIsKept (form.WindowSum n s)
sum_is_kept n s good = record {
  given = sum_given n s good;
  stops = λ m b ps h stop. sum_halts n s m ps h stop b;
  moves = sum_moves n s;
  halts = sum_buffers_halt n s;
  begins = sum_begins n s;
}
