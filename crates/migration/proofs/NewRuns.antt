-- The new program runs as the old one does.
use Rattle.std.proofs.Common.{◌≡◌, ℕ, zero, suc, Bool, true, false, List, [], ◌∷◌, length, map, Some, None, Result, Ok, Err, refl, sym, ap, ap₂, ◌∙◌, subst, arith}
use Rattle.std.specs.Prelude.{slice_get, nat_eq, IfOk, if◌then◌else◌}
use Rattle.std.specs.List.{filter_map, AllZip}
use Rattle.sm_io.proofs.Truths.{right_passes}
use Rattle.c99_tree.specs.declared.types.CDef.{CDef}
use Rattle.c99_tree.specs.declared.undefined.Undefined.{Undefined}
use Rattle.c99_tree.specs.declared.unit.CRing.{CRing}
use Rattle.c99_tree.specs.declared.unit.CStmt.{CStmt}
use Rattle.c99_tree.specs.declared.unit.Unit.{Unit as CUnit}
use Rattle.c99_tree.specs.Tree.{Stmt, statement, statements}
use Rattle.c99_tree.specs.Words.{is_same}
use Rattle.c99_tree.specs.Lookup.{place_of_ring}
use Rattle.c99_tree.specs.Values.{Value, no_such_value}
use Rattle.c99_tree.specs.Evaluation.{RingState, Statics}
use Rattle.c99_tree.specs.Step.{Called, Progress, carry_out_all, extern_values, at_entry, step}
use Rattle.c99_tree.specs.Run.{first_ring, first_statics, Ran, Stopped, row_at, with_step, stepped, run_to, calls_of}
use Rattle.c99_tree.specs.WellFormed.{IsWellFormed}
use Rattle.c99_tree.specs.Typed.{IsRingOf}
use Rattle.c99_tree.proofs.LookedUp.{found_along, same_number}
use Rattle.c99_tree.proofs.TypedRuns.{first_statics_are}
use Rattle.migration.specs.Migration.{is_old, renewed_ring, renewed_statement, IsRenewed, RunAlike, misused}
use Rattle.migration.proofs.AsOfOld.{AllUseOfOld, all_use_of_old}
use Rattle.migration.proofs.NewTypes.{made, is_made}
use Rattle.migration.proofs.NewValues.{Idle}
use Rattle.migration.proofs.NewSteps.{found_old, all_alike, all_idle, StaysIdle}

-- ---- the first statics

first_index : (ds : List CDef) (rs : List CRing) (k : ℕ) (st : RingState) → slice_get (map (first_ring ds) rs) k ≡ Some st → st.index ≡ 0
first_index ds [] k st e = absurd (cc e)
first_index ds (r ∷ rs) zero st e = let same : first_ring ds r ≡ st = cc e in ap (λ (z : RingState). z.index) (sym same)
first_index ds (r ∷ rs) (suc k) st e = first_index ds rs k st e

one_long : (vs : List Value) → length vs ≡ 1 → (w : Value) × (vs ≡ w ∷ [])
one_long [] h = absurd (cc h)
one_long (v ∷ []) h = (v, refl)
one_long (v ∷ w ∷ vs) h = absurd (omega (arith, h))

state_of : (st : RingState) (w : Value) → st.values ≡ w ∷ [] → st.index ≡ 0 → st ≡ record { values = w ∷ []; index = 0 }
state_of st w h g = ap₂ (λ (vs : List Value) (k : ℕ). record { values = vs; index = k }) h g

pub first_idle : (u : CUnit) → IsWellFormed u → Idle u (first_statics u)
first_idle u w x h =
    let f = found_old u x h in
    let all : AllZip (IsRingOf u.types) u.rings (first_statics u).rings = (first_statics_are u w).rings in
    let along = found_along (IsRingOf u.types) (λ (z : CRing). is_same x z.name) u.rings (first_statics u).rings f.ring all f.found in
    let one : f.ring.len ≡ 1 = same_number f.ring.len 1 (right_passes f.ring.indexed (nat_eq f.ring.len 1) f.old) in
    let whole = one_long along.value.values (along.related.long ∙ one) in
    record {
      value = whole.0;
      there = along.there ∙ ap (λ (st : RingState). Some st) (state_of along.value whole.0 whole.1 (first_index u.types u.rings
          (place_of_ring u x) along.value along.there));
    }

first_kept : (ds : List CDef) (b : Bool) (r : CRing) → first_ring ds (if b then record r { indexed = false } else r) ≡ first_ring ds r
first_kept ds true r = refl
first_kept ds false r = refl

first_same : (ds : List CDef) (rs : List CRing) → map (first_ring ds) (map renewed_ring rs) ≡ map (first_ring ds) rs
first_same ds [] = refl
first_same ds (r ∷ rs) = ap₂ (λ (x : RingState) (xs : List RingState). x ∷ xs) (first_kept ds (is_old r) r) (first_same ds rs)

locals_same : (rs : List CRing) → map (λ (r : CRing). no_such_value) (map renewed_ring rs) ≡ map (λ (r : CRing). no_such_value) rs
locals_same [] = refl
locals_same (r ∷ rs) = ap (λ (vs : List Value). no_such_value ∷ vs) (locals_same rs)

-- ---- runs

-- the statics of such a run
abbrev RunIdle : CUnit → Result Ran Stopped → Type 0
RunIdle u r = IfOk r (λ (ran : Ran). Idle u ran.statics)

step_idle : (u : CUnit) (n : ℕ) (before : List (List Called)) (r : Result Progress Undefined) → StaysIdle u r → RunIdle u (with_step n before r)
step_idle u n before (Ok p) h = h
step_idle u n before (Err e) h = tt

stepped_idle : (u : CUnit) (row : List ℕ) (n : ℕ) (r : Result Ran Stopped) → AllUseOfOld u (statements u) → RunIdle u r → RunIdle u (stepped u row n r)
stepped_idle u row n (Ok ran) c i = step_idle u n ran.called (step u ran.statics row).value (all_idle u (extern_values u row) (statements u)
    (at_entry u ran.statics) c i)
stepped_idle u row n (Err stop) c i = tt

run_idle : (u : CUnit) (rows : List (List ℕ)) (n : ℕ) → IsWellFormed u → AllUseOfOld u (statements u) → RunIdle u (run_to u rows n)
unfolding run_to
run_idle u rows zero w c = first_idle u w
run_idle u rows (suc n) w c = stepped_idle u (row_at rows n) n (run_to u rows n) c (run_idle u rows n w c)

module _ (u : CUnit) (name : List ℕ) (bytes need : ℕ) (code : List CStmt) (same : map statement code ≡ filter_map (renewed_statement u) (statements u)) where
  step_alike : (s : Statics) (row : List ℕ) → AllUseOfOld u (statements u) → Idle u s → (step (made u name bytes need code) s row).value ≡ (step u s row).value
  step_alike s row c i =
      ap₂ (λ (ss : List Stmt) (vs : List Value). (carry_out_all (made u name bytes need code) (extern_values u row) ss
      (record { statics = s; locals = vs; called = [] })).value) same (locals_same u.rings)
      ∙ all_alike u name bytes need code (extern_values u row) (statements u) (at_entry u s) c i

  stepped_alike : (row : List ℕ) (n : ℕ) (r : Result Ran Stopped) → AllUseOfOld u (statements u) → RunIdle u r → stepped (made u name bytes need code) row n r
      ≡ stepped u row n r
  stepped_alike row n (Ok ran) c i = ap (with_step n ran.called) (step_alike ran.statics row c i)
  stepped_alike row n (Err stop) c i = refl

  run_alike : (rows : List (List ℕ)) (n : ℕ) → IsWellFormed u → AllUseOfOld u (statements u) → run_to (made u name bytes need code) rows n ≡ run_to u rows n
  unfolding run_to
  run_alike rows zero w c = ap (λ (rs : List RingState). Ok (record { statics = record { copies = (first_statics u).copies; rings = rs }; called = [] }))
      (first_same u.types u.rings)
  run_alike rows (suc n) w c =
      ap (stepped (made u name bytes need code) (row_at rows n) n) (run_alike rows n w c)
      ∙ stepped_alike (row_at rows n) n (run_to u rows n) c (run_idle u rows n w c)

  made_runs : IsWellFormed u → AllUseOfOld u (statements u) → RunAlike u (made u name bytes need code)
  made_runs w c rows n = ap calls_of (run_alike rows n w c)

pub runs_alike : (u v : CUnit) (name : List ℕ) → IsRenewed u name v → IsWellFormed u → misused u ≡ None → RunAlike u v
runs_alike u v name is w h =
    subst (RunAlike u) (sym (is_made u v name is)) (made_runs u name v.storage v.need v.step is.step w (all_use_of_old u h))
