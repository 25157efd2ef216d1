-- What the forms of the library say, over the samples of their operands up to now.
use Rattle.std.specs.Prelude.{ℕ, zero, suc, ◌+◌, ◌-◌, ◌*◌, ◌%◌, List, [], ◌∷◌, length, slice_index, count_by, find, unwrap_or, Bool, true, false, not, ◌&&◌, ◌||◌, if◌then◌else◌, nat_lt, nat_le, nat_eq, int_lt, Result, Ok, Err}
use Rattle.stream_types.specs.declared.scalar.Scalar.{Scalar}
use Rattle.stream_types.specs.declared.scalar.Hazard.{Hazard}
use Rattle.stream_types.specs.declared.scalar.Op2.TheVariants as op2
use Rattle.stream_types.specs.Numbers.{number, op2_word}
use Rattle.stream_core.specs.declared.node.LibForm.{LibForm}
use Rattle.stream_core.specs.declared.node.LibForm.TheVariants as form

-- some number below n, and each number below n
abbrev pub some_below : ℕ → (ℕ → Bool) → Bool
some_below zero p = false
some_below (suc n) p = some_below n p || p n

abbrev pub each_below : ℕ → (ℕ → Bool) → Bool
each_below zero p = true
each_below (suc n) p = each_below n p && p n

-- the sentences over tests p and q of the steps up to t
abbrev pub once : (ℕ → Bool) → ℕ → Bool
once p t = some_below (t + 1) p

abbrev pub historically : (ℕ → Bool) → ℕ → Bool
historically p t = each_below (t + 1) p

abbrev pub yesterday : (ℕ → Bool) → ℕ → Bool
yesterday p t = nat_lt 0 t && p (t - 1)

abbrev pub weakly_yesterday : (ℕ → Bool) → ℕ → Bool
weakly_yesterday p t = nat_eq t 0 || p (t - 1)

-- q at some step, and p at each step after it
abbrev pub since : (ℕ → Bool) → (ℕ → Bool) → ℕ → Bool
since p q t = some_below (t + 1) (λ j. q j && each_below (t + 1) (λ i. nat_le i j || p i))

-- a distance within the bounds, at which there was a step
abbrev pub within : ℕ → ℕ → ℕ → Bool
within low t i = nat_le low i && nat_le i t

abbrev pub once_in : ℕ → ℕ → (ℕ → Bool) → ℕ → Bool
once_in low high p t = some_below (high + 1) (λ i. within low t i && p (t - i))

abbrev pub historically_in : ℕ → ℕ → (ℕ → Bool) → ℕ → Bool
historically_in low high p t = each_below (high + 1) (λ i. not (within low t i) || p (t - i))

abbrev pub since_in : ℕ → ℕ → (ℕ → Bool) → (ℕ → Bool) → ℕ → Bool
since_in low high p q t = some_below (high + 1) (λ i. within low t i && q (t - i) && each_below i (λ j. p (t - j)))

abbrev pub clock : ℕ → ℕ → ℕ → Bool
clock period phase t = nat_eq (t % period) phase

-- the value that more than half have
abbrev pub has_majority : List ℕ → ℕ → Bool
has_majority votes v = nat_lt (length votes) (2 * count_by (nat_eq v) votes)

abbrev pub majority_of : List ℕ → ℕ
majority_of votes = unwrap_or (find (has_majority votes) votes) (slice_index votes 0)

abbrev pub agreed_of : List ℕ → Bool
agreed_of votes = not (nat_eq 0 (count_by (has_majority votes) votes))

-- the greatest and the least word by their numbers
abbrev pub greatest_word : Scalar → ℕ → List ℕ → ℕ
greatest_word s best [] = best
greatest_word s best (w ∷ ws) = greatest_word s (if int_lt (number s best) (number s w) then w else best) ws

abbrev pub least_word : Scalar → ℕ → List ℕ → ℕ
least_word s best [] = best
least_word s best (w ∷ ws) = least_word s (if int_lt (number s w) (number s best) then w else best) ws

abbrev pub bind : {A B : Type 0} → Result A Hazard → (A → Result B Hazard) → Result B Hazard
bind (Ok x) f = f x
bind (Err h) f = Err h

-- from the newest sample back
abbrev pub window_sum : Scalar → ℕ → List ℕ → Result ℕ Hazard
window_sum s sum [] = Ok sum
window_sum s sum (w ∷ ws) = bind (op2_word op2.Add s sum w) (λ x. window_sum s x ws)

-- ---- one form, over the words of its operands: the earlier ones, and the one just found

abbrev pub bool_word : Bool → ℕ
bool_word b = if b then 1 else 0

abbrev pub is_true_word : ℕ → Bool
is_true_word w = not (nat_eq w 0)

-- the samples of an operand before step t, the newest first, n of them at most
abbrev pub back : (ℕ → ℕ) → ℕ → ℕ → List ℕ
back p t zero = []
back p zero (suc n) = []
back p (suc t) (suc n) = p t ∷ back p t n

-- One form at step t. The word of operand j at step i is p j i.
abbrev pub form_value : LibForm → ℕ → (ℕ → ℕ → ℕ) → Result ℕ Hazard
form_value form.Once t p = Ok (bool_word (once (λ i. is_true_word (p 0 i)) t))
form_value form.Historically t p = Ok (bool_word (historically (λ i. is_true_word (p 0 i)) t))
form_value form.Yesterday t p = Ok (bool_word (yesterday (λ i. is_true_word (p 0 i)) t))
form_value form.WeaklyYesterday t p = Ok (bool_word (weakly_yesterday (λ i. is_true_word (p 0 i)) t))
form_value form.Since t p = Ok (bool_word (since (λ i. is_true_word (p 0 i)) (λ i. is_true_word (p 1 i)) t))
form_value (form.OnceIn low high) t p = Ok (bool_word (once_in low high (λ i. is_true_word (p 0 i)) t))
form_value (form.HistoricallyIn low high) t p = Ok (bool_word (historically_in low high (λ i. is_true_word (p 0 i)) t))
form_value (form.SinceIn low high) t p = Ok (bool_word (since_in low high (λ i. is_true_word (p 0 i)) (λ i. is_true_word (p 1 i)) t))
form_value (form.Clock period phase) t p = Ok (bool_word (clock period phase t))
form_value (form.WindowMax n s) t p = Ok (greatest_word s (p 0 t) (back (p 0) t (n - 1)))
form_value (form.WindowMin n s) t p = Ok (least_word s (p 0 t) (back (p 0) t (n - 1)))
form_value (form.WindowSum n s) t p = window_sum s (p 0 t) (back (p 0) t (n - 1))
