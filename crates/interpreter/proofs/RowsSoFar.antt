-- A session's steps by the rows so far.
use Rattle.std.proofs.Common.{◌≡◌, ℕ, ◌+◌, ◌-◌, ◌<◌, ◌≤◌, Bool, List, [], ◌∷◌, length, take, Option, Result, refl, ap, ◌∙◌, arith}
use Rattle.std.proofs.lemmas.List.{length-map, length-take-le, take_all}
use Rattle.stream_types.specs.declared.scalar.Hazard.{Hazard}
use Rattle.stream_core.specs.Value.{SpecValue}
use Rattle.stream_core.specs.Meaning.{closed_spec, step}
use Rattle.stream_core.specs.Term.{trees}
use Rattle.stream_core.proofs.Tables.{same_so_far}
use Rattle.extern_rows.specs.SampleRows.{RowAt, FaultAt, rows_in}
use Rattle.row_sessions.specs.Session.{StepAnswers, after_step, session_from, machine_sessions, words_of}
use Rattle.interpreter.specs.Interpreted.{extern_columns, interpreted, last_step, shown}

pub last_is : (s : SpecValue) (h : List (List ℕ)) (n : ℕ) → n < length h → last_step s (take (n + 1) h) ≡ shown (trees s) n (step s h n)
last_is s h n low =
    let long : length (take (n + 1) h) ≡ n + 1 = length-take-le (n + 1) h (omega (arith, low)) in
    let last : length (take (n + 1) h) - 1 ≡ n = omega (arith, long) in
    let all : take (n + 1) (take (n + 1) h) ≡ take (n + 1) h = take_all (n + 1) (take (n + 1) h) (omega (arith, long)) in
    ap (λ (k : ℕ). shown (trees s) k (step s (take (n + 1) h) k)) last ∙ ap (shown (trees s) n) (same_so_far (closed_spec s) (take (n + 1) h) h n all)

-- sessions whose steps over these rows are the same
same_steps : (a b : StepAnswers Hazard) (n : ℕ) (rows : List RowAt) (fault : Option FaultAt)
    → ((k : ℕ) → n ≤ k → k < n + length rows → a k ≡ b k) → session_from a n rows fault ≡ session_from b n rows fault
same_steps a b n [] fault same = refl
same_steps a b n (row ∷ rows) fault same =
    ap (λ (r : Result (List ℕ) Hazard). after_step n row.end r (session_from a (n + 1) rows fault)) (same n (omega arith) (omega arith))
    ∙ ap (after_step n row.end (b n)) (same_steps a b (n + 1) rows fault (λ k low high. same k (omega (arith, low)) (omega (arith, high))))

pub sessions_are : (s : SpecValue) (text : List ℕ) (ended : Bool) → machine_sessions (last_step s) (extern_columns s) text ended ≡ interpreted s text ended
sessions_are s text ended =
    let rows = rows_in (extern_columns s) ended text in
    let words : RowAt → List ℕ = λ row. row.words in
    same_steps (λ n. last_step s (take (n + 1) (words_of rows.rows))) (λ n. shown (trees s) n (step s (words_of rows.rows) n)) 0 rows.rows rows.fault
    (λ k low high. last_is s (words_of rows.rows) k (let l = length-map rows.rows words in omega (arith, l, high)))
