-- Steps without hazard, and the tables that they leave.
use Rattle.std.proofs.Common.{◌≡◌, ℕ, zero, suc, ◌<◌, ◌≤◌, List, Ok, Err, refl, ⊎_elim, subst, arith}
use Rattle.std.specs.Prelude.{Result, IsOk}
use Rattle.std.proofs.lemmas.Bool.{cases_lt}
use Rattle.stream_types.specs.declared.scalar.Hazard.{Hazard}
use Rattle.stream_core.specs.Library.{bind}
use Rattle.stream_core.specs.Term.{TreeSpec}
use Rattle.stream_core.specs.Eval.{Table, StepValues, moment, step_at, extend, events_of, next_table, table_after, step_events}

pub bind_first : {A B : Type 0} (r : Result A Hazard) (f : A → Result B Hazard) → IsOk (bind r f) → IsOk r
bind_first (Ok x) f h = refl
bind_first (Err e) f h = absurd (cc)

-- whether there is a hazard doesn't depend on what is made of the value
other_ok : {A B C : Type 0} (r : Result A Hazard) (f : A → B) (g : A → C) → IsOk (bind r (λ x. Ok (f x))) → IsOk (bind r (λ x. Ok (g x)))
other_ok (Ok x) f g h = refl
other_ok (Err e) f g h = absurd (cc)

table_next : (s : TreeSpec) (h : List (List ℕ)) (t : ℕ) (r : Result Table Hazard) → IsOk (bind (bind r (λ table. step_at s (moment s table h t))) (λ v. Ok (events_of v))) → IsOk (bind r (next_table s h t))
table_next s h t (Ok table) ok = other_ok (step_at s (moment s table h t)) events_of (λ (v : StepValues). extend table v.nexts) ok
table_next s h t (Err e) ok = absurd (cc)

step_before : (s : TreeSpec) (h : List (List ℕ)) (t : ℕ) (r : Result Table Hazard) → IsOk (bind r (next_table s h t)) → IsOk (bind (bind r (λ table. step_at s (moment s table h t))) (λ v. Ok (events_of v)))
step_before s h t (Ok table) ok = other_ok (step_at s (moment s table h t)) (λ (v : StepValues). extend table v.nexts) events_of ok
step_before s h t (Err e) ok = absurd (cc)

-- steps without hazard leave a table
pub table_ok : (s : TreeSpec) (h : List (List ℕ)) (n : ℕ) → ((t : ℕ) → t < n → IsOk (step_events s h t)) → IsOk (table_after s h n)
table_ok s h zero ok = refl
table_ok s h (suc n) ok = table_next s h n (table_after s h n) (ok n (omega arith))

-- and where there is a table, no step had a hazard
pub steps_ok : (s : TreeSpec) (h : List (List ℕ)) (n : ℕ) → IsOk (table_after s h n) → (t : ℕ) → t < n → IsOk (step_events s h t)
steps_ok s h zero ok t b = absurd (omega (arith, b))
steps_ok s h (suc n) ok t b =
    let before = steps_ok s h n (bind_first (table_after s h n) (next_table s h n) ok) in
    let last : IsOk (step_events s h n) = step_before s h n (table_after s h n) ok in
    ⊎_elim (λ (lt : t < n). before t lt) (λ (le : n ≤ t). let e : n ≡ t = omega (arith, b, le) in subst (λ k. IsOk (step_events s h k)) e last) (cases_lt t n)
