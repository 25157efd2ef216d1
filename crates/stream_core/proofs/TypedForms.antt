-- Values of library forms and votes are words.
use Rattle.std.proofs.Common.{◌≡◌, ℕ, zero, suc, ◌-◌, ◌<◌, ◌≤◌, Bool, true, false, List, [], ◌∷◌, Option, Some, Result, Ok, Err, refl, arith}
use Rattle.std.specs.Prelude.{slice_get, find, unwrap_or, if◌then◌else◌, int_lt, IfOk, IsTrue}
use Rattle.std.specs.List.{AllByRecursion}
use Rattle.stream_types.specs.declared.scalar.Scalar.{Scalar}
use Rattle.stream_types.specs.declared.scalar.Scalar.TheVariants as scalar
use Rattle.stream_types.specs.declared.scalar.Hazard.{Hazard}
use Rattle.stream_types.specs.declared.scalar.Op2.TheVariants as op2
use Rattle.stream_types.specs.declared.scalar.Ty.TheVariants as ty
use Rattle.stream_types.specs.declared.types.TypeEntry.{TypeEntry}
use Rattle.stream_types.specs.Scalars.{is_integer}
use Rattle.stream_types.specs.Numbers.{number, is_word, op2_word}
use Rattle.stream_types.specs.Types.{leaves, AreWords}
use Rattle.stream_types.proofs.Ranges.{op2_answer}
use Rattle.stream_core.specs.declared.node.LibForm.{LibForm}
use Rattle.stream_core.specs.declared.node.LibForm.TheVariants as form
use Rattle.stream_core.specs.Library.{bind, bool_word, has_majority, majority_of, greatest_word, least_word, window_sum, back, form_value}
use Rattle.stream_core.specs.WellTyped.{IsGoodForm, operand_types, form_gives}

-- what holds of an answer, where it holds of what comes before
pub ok_bind : {A B : Type 0} (P : A → Type 0) (Q : B → Type 0) (v : Result A Hazard) (f : A → Result B Hazard) → IfOk v P → ((x : A) → P x → IfOk (f x) Q) → IfOk (bind v f) Q
ok_bind P Q (Ok x) f h k = k x h
ok_bind P Q (Err e) f h k = tt

pub bool_is_word : (b : Bool) → IsTrue (is_word scalar.Bool (bool_word b))
bool_is_word true = refl
bool_is_word false = refl

pub either : (P : ℕ → Type 0) (b : Bool) (x y : ℕ) → P x → P y → P (if b then x else y)
either P true x y p q = p
either P false x y p q = q

-- ---- votes

module _ (P : ℕ → Type 0) (test : ℕ → Bool) where
  picked : (b : Bool) (w d : ℕ) (rest : Option ℕ) → P w → P (unwrap_or rest d) → P (unwrap_or (if b then Some w else rest) d)
  picked true w d rest p q = p
  picked false w d rest p q = q

  found : (ws : List ℕ) (d : ℕ) → AllByRecursion P ws → P d → P (unwrap_or (find test ws) d)
  found [] d h p = p
  found (w ∷ ws) d h p = picked (test w) w d (find test ws) h.0 (found ws d h.1 p)

-- the value of a majority is one of the votes
pub majority_is_vote : (P : ℕ → Type 0) (w : ℕ) (ws : List ℕ) → AllByRecursion P (w ∷ ws) → P (majority_of (w ∷ ws))
majority_is_vote P w ws h = found P (has_majority (w ∷ ws)) (w ∷ ws) w h h.0

-- ---- windows

back_are : (P : ℕ → Type 0) (p : ℕ → ℕ) (t n : ℕ) → ((i : ℕ) → i < t → P (p i)) → AllByRecursion P (back p t n)
back_are P p t zero h = tt
back_are P p zero (suc n) h = tt
back_are P p (suc t) (suc n) h = (h t (omega arith), back_are P p t n (λ i b. h i (omega (arith, b))))

greatest_is : (P : ℕ → Type 0) (s : Scalar) (best : ℕ) (ws : List ℕ) → P best → AllByRecursion P ws → P (greatest_word s best ws)
greatest_is P s best [] p h = p
greatest_is P s best (w ∷ ws) p h = greatest_is P s (if int_lt (number s best) (number s w) then w else best) ws (either P (int_lt (number s best) (number s w)) w best h.0 p) h.1

least_is : (P : ℕ → Type 0) (s : Scalar) (best : ℕ) (ws : List ℕ) → P best → AllByRecursion P ws → P (least_word s best ws)
least_is P s best [] p h = p
least_is P s best (w ∷ ws) p h = least_is P s (if int_lt (number s w) (number s best) then w else best) ws (either P (int_lt (number s w) (number s best)) w best h.0 p) h.1

sum_is : (s : Scalar) (sum : ℕ) (ws : List ℕ) → IsTrue (is_integer s) → IsTrue (is_word s sum) → AllByRecursion (λ w. IsTrue (is_word s w)) ws → IfOk (window_sum s sum ws) (λ w. IsTrue (is_word s w))
sum_is s sum [] i p h = p
sum_is s sum (w ∷ ws) i p h = ok_bind (λ x. IsTrue (is_word s x)) (λ x. IsTrue (is_word s x)) (op2_word op2.Add s sum w) (λ x. window_sum s x ws) (op2_answer op2.Add s sum w i p h.0) (λ x q. sum_is s x ws i q h.1)

-- ---- forms

-- the words of a form's operands up to step t are words of their types
abbrev pub OperandsAreWords : List TypeEntry → LibForm → ℕ → (ℕ → ℕ → ℕ) → Type 0
OperandsAreWords types f t p = (j : ℕ) (c : Scalar) → slice_get (operand_types f) j ≡ Some (ty.Scalar c) → (i : ℕ) → i ≤ t → IsTrue (is_word c (p j i))

pub form_is_word : (types : List TypeEntry) (f : LibForm) (t : ℕ) (p : ℕ → ℕ → ℕ) → IsGoodForm f → OperandsAreWords types f t p → IfOk (form_value f t p) (λ w. AreWords (leaves types (form_gives f)) (w ∷ []))
form_is_word types form.Once t p g h = (bool_is_word _, tt)
form_is_word types form.Historically t p g h = (bool_is_word _, tt)
form_is_word types form.Yesterday t p g h = (bool_is_word _, tt)
form_is_word types form.WeaklyYesterday t p g h = (bool_is_word _, tt)
form_is_word types form.Since t p g h = (bool_is_word _, tt)
form_is_word types (form.OnceIn low high) t p g h = (bool_is_word _, tt)
form_is_word types (form.HistoricallyIn low high) t p g h = (bool_is_word _, tt)
form_is_word types (form.SinceIn low high) t p g h = (bool_is_word _, tt)
form_is_word types (form.Clock period phase) t p g h = (bool_is_word _, tt)
form_is_word types (form.WindowMax n s) t p g h = (greatest_is (λ w. IsTrue (is_word s w)) s (p 0 t) (back (p 0) t (n - 1)) (h 0 s refl t (omega arith)) (back_are (λ w. IsTrue (is_word s w)) (p 0) t (n - 1) (λ i b. h 0 s refl i (omega (arith, b)))), tt)
form_is_word types (form.WindowMin n s) t p g h = (least_is (λ w. IsTrue (is_word s w)) s (p 0 t) (back (p 0) t (n - 1)) (h 0 s refl t (omega arith)) (back_are (λ w. IsTrue (is_word s w)) (p 0) t (n - 1) (λ i b. h 0 s refl i (omega (arith, b)))), tt)
form_is_word types (form.WindowSum n s) t p g h =
    alone (window_sum s (p 0 t) (back (p 0) t (n - 1))) (sum_is s (p 0 t) (back (p 0) t (n - 1)) g.2 (h 0 s refl t (omega arith)) (back_are (λ w. IsTrue (is_word s w)) (p 0) t (n - 1) (λ i b. h 0 s refl i (omega (arith, b)))))
  where
    alone : (r : Result ℕ Hazard) → IfOk r (λ w. IsTrue (is_word s w)) → IfOk r (λ w. AreWords (s ∷ []) (w ∷ []))
    alone (Ok w) q = (q, tt)
    alone (Err e) q = tt
