-- A session's steps by the rows so far.
use Rattle.std.proofs.Common.{◌≡◌, ℕ, zero, suc, ◌+◌, ◌-◌, ◌<◌, ◌≤◌, Bool, List, [], ◌∷◌, length, take, slice_get, Option, Result, refl, ap, ◌∙◌, arith}
use Rattle.std.specs.Option.{option_map_or}
use Rattle.std.proofs.lemmas.List.{length-map, length-take-le}
use Rattle.c99_tree.specs.declared.undefined.Undefined.{Undefined}
use Rattle.c99_tree.specs.declared.unit.Unit.{Unit as CUnit}
use Rattle.c99_tree.specs.Run.{Ran, Stopped, row_at, stepped, run_to, calls_of}
use Rattle.extern_rows.specs.SampleRows.{RowAt, FaultAt, rows_in}
use Rattle.row_sessions.specs.Session.{StepAnswers, after_step, session_from, machine_sessions, words_of}
use Rattle.c_runner.specs.Executed.{calls_at, executed, last_step, shown, step_lines, unit_columns}

-- a row below the number that is taken is the same
same_get : (m k : ℕ) (h : List (List ℕ)) → k < m → slice_get (take m h) k ≡ slice_get h k
same_get zero k h low = absurd (omega (arith, low))
same_get (suc m) k [] low = refl
same_get (suc m) zero (x ∷ xs) low = refl
same_get (suc m) (suc k) (x ∷ xs) low = same_get m k xs (omega (arith, low))

-- a run over the first n rows is the same where at least so many are taken
pub same_run : (u : CUnit) (h : List (List ℕ)) (m n : ℕ) → n ≤ m → run_to u (take m h) n ≡ run_to u h n
unfolding run_to
same_run u h m zero low = refl
same_run u h m (suc n) low =
    ap (λ (o : Option (List ℕ)). stepped u (option_map_or (λ row. row) o []) n (run_to u (take m h) n)) (same_get m n h (omega (arith, low)))
    ∙ ap (stepped u (row_at h n) n) (same_run u h m n (omega (arith, low)))

pub last_is : (u : CUnit) (h : List (List ℕ)) (n : ℕ) → n < length h → last_step u (take (n + 1) h) ≡ step_lines u h n
last_is u h n low =
    let long : length (take (n + 1) h) ≡ n + 1 = length-take-le (n + 1) h (omega (arith, low)) in
    let last : length (take (n + 1) h) - 1 ≡ n = omega (arith, long) in
    ap (step_lines u (take (n + 1) h)) last
    ∙ ap (λ (r : Result Ran Stopped). shown u n (calls_at n (calls_of r))) (same_run u h (n + 1) (n + 1) (omega arith))

-- sessions whose steps over these rows are the same
same_steps : (a b : StepAnswers Undefined) (n : ℕ) (rows : List RowAt) (fault : Option FaultAt)
    → ((k : ℕ) → n ≤ k → k < n + length rows → a k ≡ b k) → session_from a n rows fault ≡ session_from b n rows fault
same_steps a b n [] fault same = refl
same_steps a b n (row ∷ rows) fault same =
    ap (λ (r : Result (List ℕ) Undefined). after_step n row.end r (session_from a (n + 1) rows fault)) (same n (omega arith) (omega arith))
    ∙ ap (after_step n row.end (b n)) (same_steps a b (n + 1) rows fault (λ k low high. same k (omega (arith, low)) (omega (arith, high))))

pub sessions_are : (u : CUnit) (text : List ℕ) (ended : Bool) → machine_sessions (last_step u) (unit_columns u) text ended ≡ executed u text ended
sessions_are u text ended =
    let rows = rows_in (unit_columns u) ended text in
    let words : RowAt → List ℕ = λ row. row.words in
    same_steps (λ n. last_step u (take (n + 1) (words_of rows.rows))) (step_lines u (words_of rows.rows)) 0 rows.rows rows.fault
    (λ k low high. last_is u (words_of rows.rows) k (let l = length-map rows.rows words in omega (arith, l, high)))
