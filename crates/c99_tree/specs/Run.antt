-- A run: `step` called once for each row, from the statics of the initialisers.
use Rattle.std.specs.Prelude.{◌≡◌, ℕ, zero, suc, List, [], ◌∷◌, ◌++◌, map, slice_get, Result, Ok, Err}
use Rattle.std.specs.Option.{option_map_or}
use Rattle.c99_tree.specs.declared.types.CVar.{CVar}
use Rattle.c99_tree.specs.declared.types.CDef.{CDef}
use Rattle.c99_tree.specs.declared.undefined.Undefined.{Undefined}
use Rattle.c99_tree.specs.declared.unit.CRing.{CRing}
use Rattle.c99_tree.specs.declared.unit.Unit.{Unit as CUnit}
use Rattle.c99_tree.specs.Values.{Value, zero_value, shape_of, first_values, no_such_value}
use Rattle.c99_tree.specs.Evaluation.{Statics, RingState}
use Rattle.c99_tree.specs.Step.{Called, Progress, step}

-- a copy begins as zero (6.7.8 paragraph 10)
abbrev pub first_copy : List CDef → CVar → Value
first_copy ds x = option_map_or zero_value (shape_of ds x.ty) no_such_value

abbrev pub first_ring : List CDef → CRing → RingState
first_ring ds r = record { values = option_map_or (λ vs. vs) (first_values ds r) []; index = 0 }

-- the statics before the first call of `step`
abbrev pub first_statics : CUnit → Statics
first_statics u = record { copies = map (first_copy u.types) u.externs; rings = map (first_ring u.types) u.rings }

-- a run so far: the statics, and the calls step by step
pub record Ran : Type 0 where
  pub statics : Statics
  pub called : List (List Called)

-- where a run met something undefined: the number of the step, from 0, and of which kind
pub record Stopped : Type 0 where
  pub step : ℕ
  pub kind : Undefined

abbrev pub row_at : List (List ℕ) → ℕ → List ℕ
row_at rows k = option_map_or (λ row. row) (slice_get rows k) []

abbrev pub with_step : ℕ → List (List Called) → Result Progress Undefined → Result Ran Stopped
with_step n before (Ok p) = Ok (record { statics = p.statics; called = before ++ p.called ∷ [] })
with_step n before (Err e) = Err (record { step = n; kind = e })

-- step number n, after a run
abbrev pub stepped : CUnit → List ℕ → ℕ → Result Ran Stopped → Result Ran Stopped
stepped u row n (Ok ran) = with_step n ran.called (step u ran.statics row).value
stepped u row n (Err stop) = Err stop

-- the run over the first n of these rows
unfoldable pub run_to : CUnit → List (List ℕ) → ℕ → Result Ran Stopped
run_to u rows zero = Ok (record { statics = first_statics u; called = [] })
run_to u rows (suc n) = stepped u (row_at rows n) n (run_to u rows n)

abbrev pub calls_of : Result Ran Stopped → Result (List (List Called)) Stopped
calls_of (Ok ran) = Ok ran.called
calls_of (Err stop) = Err stop

-- what a run over the first n rows shows: the calls step by step, or where it stopped
abbrev pub run : CUnit → List (List ℕ) → ℕ → Result (List (List Called)) Stopped
run u rows n = calls_of (run_to u rows n)

-- how the run over one more row goes on: with the calls of that step behind those before, or it stops at that step;
-- and where a run has stopped, the longer one has stopped there
abbrev pub GoesOn : ℕ → Result (List (List Called)) Stopped → Result (List (List Called)) Stopped → Type 0
GoesOn n (Ok calls) (Ok longer) = (last : List Called) × (longer ≡ calls ++ last ∷ [])
GoesOn n (Ok calls) (Err stop) = stop.step ≡ n
GoesOn n (Err stop) (Ok longer) = ⊥
GoesOn n (Err stop) (Err later) = later ≡ stop
