-- How a run goes on.
use Rattle.std.proofs.Common.{◌≡◌, ℕ, zero, suc, ◌+◌, ◌<◌, List, [], ◌∷◌, take, add-one, Result, Ok, Err, refl, ap, ◌∙◌, arith}
use Rattle.std.specs.Prelude.{slice_get}
use Rattle.c99_tree.specs.declared.undefined.Undefined.{Undefined}
use Rattle.c99_tree.specs.declared.unit.Unit.{Unit as CUnit}
use Rattle.c99_tree.specs.Step.{Progress, step}
use Rattle.c99_tree.specs.Run.{Ran, Stopped, run, run_to, row_at, with_step, stepped, calls_of, GoesOn}

run_to-more : (u : CUnit) (rows : List (List ℕ)) (n : ℕ) → run_to u rows (n + 1) ≡ stepped u (row_at rows n) n (run_to u rows n)
unfolding run_to
run_to-more u rows n = ap (run_to u rows) (add-one n)

step_goes_on : (n : ℕ) (ran : Ran) (p : Result Progress Undefined) → GoesOn n (Ok ran.called) (calls_of (with_step n ran.called p))
step_goes_on n ran (Ok p) = (p.called, refl)
step_goes_on n ran (Err e) = refl

stepped_goes_on : (u : CUnit) (row : List ℕ) (n : ℕ) (r : Result Ran Stopped) → GoesOn n (calls_of r) (calls_of (stepped u row n r))
stepped_goes_on u row n (Ok ran) = step_goes_on n ran (step u ran.statics row).value
stepped_goes_on u row n (Err stop) = refl

pub goes_on : (u : CUnit) (rows : List (List ℕ)) (n : ℕ) → GoesOn n (run u rows n) (run u rows (n + 1))
goes_on u rows n = rw (run_to-more u rows n) (stepped_goes_on u (row_at rows n) n (run_to u rows n))

pub next_step : (u : CUnit) (rows : List (List ℕ)) (n : ℕ) (ran : Ran) → run_to u rows n ≡ Ok ran → run_to u rows (n + 1) ≡ with_step n ran.called (step u ran.statics (row_at rows n)).value
next_step u rows n ran h = run_to-more u rows n ∙ ap (stepped u (row_at rows n) n) h

-- lists that begin alike have the same element at each place of that beginning
front_get : (n k : ℕ) (xs ys : List (List ℕ)) → k < n → take n xs ≡ take n ys → slice_get xs k ≡ slice_get ys k
front_get zero k xs ys h e = absurd (omega arith)
front_get (suc n) k [] [] h e = refl
front_get (suc n) k [] (y ∷ ys) h e = absurd (cc e)
front_get (suc n) k (x ∷ xs) [] h e = absurd (cc e)
front_get (suc n) zero (x ∷ xs) (y ∷ ys) h e = cc e
front_get (suc n) (suc k) (x ∷ xs) (y ∷ ys) h e = front_get n k xs ys (omega arith) (cc e)

front_less : (n : ℕ) (xs ys : List (List ℕ)) → take (suc n) xs ≡ take (suc n) ys → take n xs ≡ take n ys
front_less zero xs ys e = refl
front_less (suc n) [] [] e = refl
front_less (suc n) [] (y ∷ ys) e = absurd (cc e)
front_less (suc n) (x ∷ xs) [] e = absurd (cc e)
front_less (suc n) (x ∷ xs) (y ∷ ys) e =
    let heads : x ≡ y = cc e in
    let rest : take (suc n) xs ≡ take (suc n) ys = cc e in
    let tails = front_less n xs ys rest in
    cc (heads, tails)

run_to-front : (u : CUnit) (rows others : List (List ℕ)) (n : ℕ) → take n rows ≡ take n others → run_to u rows n ≡ run_to u others n
unfolding run_to
run_to-front u rows others zero e = refl
run_to-front u rows others (suc n) e =
    let row : slice_get rows n ≡ slice_get others n = front_get (suc n) n rows others (omega arith) e in
    let before = run_to-front u rows others n (front_less n rows others e) in
    cc (row, before)

pub first_rows : (u : CUnit) (rows others : List (List ℕ)) (n : ℕ) → take n rows ≡ take n others → run u rows n ≡ run u others n
first_rows u rows others n e = ap calls_of (run_to-front u rows others n e)
