-- The steps of a demonstration's monitor, and how many calls they make.
use Rattle.std.proofs.Common.{◌≡◌, ℕ, suc, ◌+◌, ◌<◌, ◌≤◌, List, [], ◌∷◌, ◌++◌, length, take, map, Ok, Err, sym, ap, ◌∙◌, subst, arith}
use Rattle.std.proofs.Math.Numerals.{add-one}
use Rattle.std.specs.Prelude.{sum}
use Rattle.std.proofs.lemmas.List.{length-replicate, map-append, replicate_more, take-replicate}
use Rattle.std.proofs.lemmas.List.Sums.{sum_by_push}
use Rattle.stream_types.specs.declared.scalar.Hazard.{Hazard}
use Rattle.stream_types.specs.Types.{AreWords}
use Rattle.stream_core.specs.Value.{SpecValue}
use Rattle.stream_core.specs.Term.{TreeSpec, trees, without_defs}
use Rattle.stream_core.specs.Lower.{lowered_spec}
use Rattle.stream_core.specs.Handlers.{Call, calls, calls_of}
use Rattle.stream_core.specs.Eval.{Event, log, or_none, row_leaves, step_events}
use Rattle.stream_core.specs.Meaning.{closed_spec, step}
use Rattle.stream_core.proofs.Tables.{same_so_far}
use Rattle.demo.specs.Demonstration.{demo_spec}
use Rattle.demo.specs.Figures.{calls_below, empty_rows}
use Rattle.demo.proofs.Clean.{as_many_calls, no_hazard}
use Rattle.demo.proofs.Fine.{closed_is, lowered_is}

-- ---- the monitor's steps

-- the rows up to step n
pub rows_more : (n : ℕ) → empty_rows n ++ [] ∷ [] ≡ empty_rows (n + 1)
rows_more n = replicate_more n []

same_rows : (t n : ℕ) → n < t → take (n + 1) (empty_rows n ++ [] ∷ []) ≡ take (n + 1) (empty_rows t)
same_rows t n b =
    ap (take (n + 1)) (rows_more n)
    ∙ take-replicate (n + 1) (n + 1) [] (omega arith)
    ∙ sym (take-replicate (n + 1) t [] (omega (arith, b)))

module _ (k : ℕ) (s : SpecValue) (is : trees s ≡ lowered_spec (demo_spec k)) where
  closed_demo : closed_spec s ≡ demo_spec k
  closed_demo = ap without_defs (is ∙ lowered_is k) ∙ closed_is k

  -- a row has no words
  pub no_words : AreWords (row_leaves (closed_spec s)) []
  no_words = subst (λ (t : TreeSpec). AreWords (row_leaves t) []) (sym closed_demo) tt

  demo_step : (h : List (List ℕ)) (n : ℕ) → step s h n ≡ step_events (demo_spec k) h n
  demo_step h n = ap (λ (t : TreeSpec). step_events t h n) closed_demo

  step_at_rows : (t n : ℕ) → n < t → step s (empty_rows n ++ [] ∷ []) (length (empty_rows n)) ≡ step_events (demo_spec k) (empty_rows t) n
  step_at_rows t n b =
      demo_step (empty_rows n ++ [] ∷ []) (length (empty_rows n))
      ∙ ap (step_events (demo_spec k) (empty_rows n ++ [] ∷ [])) (length-replicate n [])
      ∙ same_so_far (demo_spec k) (empty_rows n ++ [] ∷ []) (empty_rows t) n (same_rows t n b)

  pub never_fails : (n : ℕ) (z : Hazard) → k ≤ 1000 → step s (empty_rows n ++ [] ∷ []) (length (empty_rows n)) ≡ Err z → ⊥
  never_fails n z b e = no_hazard k (empty_rows n ++ [] ∷ []) (length (empty_rows n)) z b (sym (demo_step (empty_rows n ++ [] ∷ []) (length (empty_rows n))) ∙ e)

-- ---- the sum

counted_push : (s : TreeSpec) (xs : List (List Event)) (es : List Event) →
    sum (map (λ (cs : List Call). length cs) (map (calls_of s) (xs ++ es ∷ []))) ≡ sum (map (λ (cs : List Call). length cs) (map (calls_of s) xs)) + length (calls_of s es)
counted_push s xs es =
    let own = map (λ (cs : List Call). length cs) (map (calls_of s) xs) in
    ap (λ (cs : List (List Call)). sum (map (λ (c : List Call). length c) cs)) (map-append (calls_of s) xs (es ∷ []))
    ∙ ap sum (map-append (λ (cs : List Call). length cs) (map (calls_of s) xs) (calls_of s es ∷ []))
    ∙ sum_by_push (λ (n : ℕ). n) own (length (calls_of s es))

-- the calls of the demonstration itself
abbrev counted : ℕ → ℕ → ℕ → ℕ
counted k t n = sum (map (λ (cs : List Call). length cs) (calls (demo_spec k) (empty_rows t) n))

counted_is : (k t n : ℕ) → calls_below k t n ≡ counted k t n
counted_is k t n = ap (λ (s : TreeSpec). sum (map (λ (cs : List Call). length cs) (calls s (empty_rows t) n))) (closed_is k)

counted_suc : (k t n : ℕ) (es : List Event) → k ≤ 1000 → step_events (demo_spec k) (empty_rows t) n ≡ Ok es → counted k t (suc n) ≡ counted k t n + length es
counted_suc k t n es b e =
    let all = as_many_calls k (empty_rows t) n es b e in
    ap (λ (fs : List Event). sum (map (λ (cs : List Call). length cs) (map (calls_of (demo_spec k)) (log (demo_spec k) (empty_rows t) n ++ fs ∷ [])))) (ap or_none e)
    ∙ counted_push (demo_spec k) (log (demo_spec k) (empty_rows t) n) es
    ∙ ap (λ (c : ℕ). counted k t n + c) all.0

-- a step adds its events, of which there are at most a thousand
module _ (k : ℕ) (s : SpecValue) (is : trees s ≡ lowered_spec (demo_spec k)) (t n : ℕ) (b : k ≤ 1000) (before : n < t) (es : List Event)
    (e : step s (empty_rows n ++ [] ∷ []) (length (empty_rows n)) ≡ Ok es) where
  its_events : step_events (demo_spec k) (empty_rows t) n ≡ Ok es
  its_events = sym (step_at_rows k s is t n before) ∙ e

  pub few_events : length es ≤ 1000
  few_events = let all = as_many_calls k (empty_rows t) n es b its_events in omega (arith, all.1, b)

  pub next_count : calls_below k t (n + 1) ≡ calls_below k t n + length es
  next_count =
      ap (calls_below k t) (add-one n)
      ∙ counted_is k t (suc n)
      ∙ counted_suc k t n es b its_events
      ∙ ap (λ (c : ℕ). c + length es) (sym (counted_is k t n))
