-- The equations have one solution.
use Rattle.std.proofs.Common.{◌≡◌, ℕ, zero, suc, ◌+◌, ◌<◌, ◌≤◌, List, [], ◌∷◌, length, take, Ok, Err, refl, sym, ap, ◌∙◌, subst, arith}
use Rattle.std.specs.Prelude.{slice_index_or, Result, IsOk, map}
use Rattle.std.specs.List.{AllByRecursion}
use Rattle.std.proofs.lemmas.List.{take_more, get_or-take}
use Rattle.std.proofs.Math.Seq.{take-length}
use Rattle.stream_types.specs.declared.scalar.Hazard.{Hazard}
use Rattle.stream_core.specs.Term.{TreeSpec}
use Rattle.stream_core.specs.Eval.{Moment, Table, Line, lines, entry_at, values, moment, step_at, fired, observed, extend, grown, next_table, table_after, Clean, Event}
use Rattle.stream_core.specs.Library.{bind}
use Rattle.stream_core.specs.Equations.{ReadsWithin, bound_of, AllMeet, Meets, Bounded}
use Rattle.stream_core.proofs.Values.{value_same}
use Rattle.stream_core.proofs.CleanSteps.{table_ok}

-- the table's lists up to step t
abbrev cut : ℕ → List Line → Table → Table
cut t [] xss = []
cut t (l ∷ ls) [] = []
cut t (l ∷ ls) (xs ∷ xss) = take (length l.init + t) xs ∷ cut t ls xss

-- the entries of step t
abbrev entries : ℕ → List Line → Table → List (List ℕ)
entries t [] xss = []
entries t (l ∷ ls) [] = []
entries t (l ∷ ls) (xs ∷ xss) = slice_index_or xs (length l.init + t) [] ∷ entries t ls xss

module _ (s : TreeSpec) (h : List (List ℕ)) (n : ℕ) (X : Table) where
  -- the cut table has the entries below the bounds
  cut_agrees : (t : ℕ) (ls : List Line) (xss : Table) → AllMeet s h n X ls xss → (k i : ℕ) → i < bound_of ls k + t → entry_at (cut t ls xss) k i ≡ entry_at xss k i
  cut_agrees t [] [] all k i p = refl
  cut_agrees t [] (xs ∷ xss) all k i p = absurd all
  cut_agrees t (l ∷ ls) [] all k i p = absurd all
  cut_agrees t (l ∷ ls) (xs ∷ xss) all zero i p = get_or-take (length l.init + t) xs i [] p
  cut_agrees t (l ∷ ls) (xs ∷ xss) all (suc k) i p = cut_agrees t ls xss all.1 k i p

  cut_start : (ls : List Line) (xss : Table) → AllMeet s h n X ls xss → cut 0 ls xss ≡ map (λ (x : Line). x.init) ls
  cut_start [] [] all = refl
  cut_start [] (xs ∷ xss) all = absurd all
  cut_start (l ∷ ls) [] all = absurd all
  cut_start (l ∷ ls) (xs ∷ xss) all =
      let a : length l.init + 0 ≡ length l.init = omega arith in
      let p = ap (λ m. take m xs) a ∙ all.0.start in
      let q = cut_start ls xss all.1 in
      cc

  cut_end : (ls : List Line) (xss : Table) → AllMeet s h n X ls xss → cut n ls xss ≡ xss
  cut_end [] [] all = refl
  cut_end [] (xs ∷ xss) all = absurd all
  cut_end (l ∷ ls) [] all = absurd all
  cut_end (l ∷ ls) (xs ∷ xss) all =
      let p = ap (λ m. take m xs) (sym all.0.count) ∙ take-length xs in
      let q = cut_end ls xss all.1 in
      cc

  cut_more : (t : ℕ) → t < n → (ls : List Line) (xss : Table) → AllMeet s h n X ls xss → extend (cut t ls xss) (entries t ls xss) ≡ cut (suc t) ls xss
  cut_more t b [] [] all = refl
  cut_more t b [] (xs ∷ xss) all = absurd all
  cut_more t b (l ∷ ls) [] all = absurd all
  cut_more t b (l ∷ ls) (xs ∷ xss) all =
      let e : length l.init + t < length xs = omega (arith, all.0.count) in
      let m : length l.init + t + 1 ≡ length l.init + suc t = omega arith in
      let p = sym (take_more xs (length l.init + t) [] e) ∙ ap (λ k. take k xs) m in
      let q = cut_more t b ls xss all.1 in
      cc

  module _ (t : ℕ) (before : t < n) (T : Table) (bound : ℕ → ℕ) (agree : (k i : ℕ) → i < bound k + t → entry_at T k i ≡ entry_at X k i) where
    values_are : (ls : List Line) (xss : Table) → AllMeet s h n X ls xss → AllByRecursion (λ (l : Line). ReadsWithin bound l.expr) ls → values (moment s T h t) (map (λ (x : Line). x.expr) ls) ≡ Ok (entries t ls xss)
    values_are [] [] all reads = refl
    values_are [] (xs ∷ xss) all reads = absurd all
    values_are (l ∷ ls) [] all reads = absurd all
    values_are (l ∷ ls) (xs ∷ xss) all reads =
        let p = value_same (moment s T h t) T X bound agree l.expr reads.0 ∙ all.0.later t before in
        let q = values_are ls xss all.1 reads.1 in
        ap (λ v. bind v (λ x. bind (values (moment s T h t) (map (λ (x : Line). x.expr) ls)) (λ xs. Ok (x ∷ xs)))) p
        ∙ ap (λ v. bind v (λ vs. Ok (slice_index_or xs (length l.init + t) [] ∷ vs))) q

-- a step's next values are its lines' values
nexts_are : (s : TreeSpec) (m : Moment) (ns : List (List ℕ)) → values m (map (λ (x : Line). x.expr) (lines s)) ≡ Ok ns → (T : Table) → IsOk (bind (step_at s m) (grown T)) → bind (step_at s m) (grown T) ≡ Ok (extend T ns)
nexts_are s m ns v T ok = after_fired (fired m 0 s.triggers) ok
  where
    last : (ts os : List Event) (vs : Result (List (List ℕ)) Hazard) → vs ≡ Ok ns → IsOk (bind (bind vs (λ ns. Ok (record { triggered = ts; observed = os; nexts = ns }))) (grown T)) → bind (bind vs (λ ns. Ok (record { triggered = ts; observed = os; nexts = ns }))) (grown T) ≡ Ok (extend T ns)
    last ts os vs e ok = ap (λ vs. bind (bind vs (λ ns. Ok (record { triggered = ts; observed = os; nexts = ns }))) (grown T)) e

    after_observed : (ts : List Event) (r : Result (List Event) Hazard) → IsOk (bind (bind r (λ os. bind (values m (map (λ (x : Line). x.expr) (lines s))) (λ ns. Ok (record { triggered = ts; observed = os; nexts = ns })))) (grown T)) → bind (bind r (λ os. bind (values m (map (λ (x : Line). x.expr) (lines s))) (λ ns. Ok (record { triggered = ts; observed = os; nexts = ns })))) (grown T) ≡ Ok (extend T ns)
    after_observed ts (Ok os) ok = last ts os _ v ok
    after_observed ts (Err h) ok = absurd (cc)

    after_fired : (r : Result (List Event) Hazard) → IsOk (bind (bind r (λ ts. bind (observed m 0 s.observers) (λ os. bind (values m (map (λ (x : Line). x.expr) (lines s))) (λ ns. Ok (record { triggered = ts; observed = os; nexts = ns }))))) (grown T)) → bind (bind r (λ ts. bind (observed m 0 s.observers) (λ os. bind (values m (map (λ (x : Line). x.expr) (lines s))) (λ ns. Ok (record { triggered = ts; observed = os; nexts = ns }))))) (grown T) ≡ Ok (extend T ns)
    after_fired (Ok ts) ok = after_observed ts (observed m 0 s.observers) ok
    after_fired (Err h) ok = absurd (cc)

ok_before : (r : Result Table Hazard) (f : Table → Result Table Hazard) → IsOk (bind r f) → IsOk r
ok_before (Ok x) f h = refl
ok_before (Err e) f h = absurd (cc)

module _ (s : TreeSpec) (h : List (List ℕ)) (n : ℕ) (X : Table) (bounded : Bounded s) (meets : Meets s h n X) where
  solved : (t : ℕ) → t ≤ n → IsOk (table_after s h t) → table_after s h t ≡ Ok (cut t (lines s) X)
  solved zero b ok = ap Ok (sym (cut_start s h n X (lines s) X meets.each))
  solved (suc t) b ok =
      let T = cut t (lines s) X in
      let earlier = solved t (omega arith) (ok_before (table_after s h t) (next_table s h t) ok) in
      let is = ap (λ (r : Result Table Hazard). bind r (next_table s h t)) earlier in
      let vs = values_are s h n X t (omega arith) T (bound_of (lines s)) (cut_agrees s h n X t (lines s) X meets.each) (lines s) X meets.each bounded.each in
      let P : Result Table Hazard → Type 0 = λ r. IsOk r in
      is ∙ nexts_are s (moment s T h t) (entries t (lines s) X) vs T (subst P is ok) ∙ ap Ok (cut_more s h n X t (omega arith) (lines s) X meets.each)

  -- the table after n steps is the one table that meets the equations
  pub unique : Clean s h n → table_after s h n ≡ Ok X
  unique clean = solved n (omega arith) (table_ok s h n clean.ok) ∙ ap Ok (cut_end s h n X (lines s) X meets.each)
