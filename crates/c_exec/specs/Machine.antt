-- What a machine keeps between the calls of `step`, and what a call answers.
use Rattle.std.specs.Prelude.{◌≡◌, ℕ, List, [], ◌∷◌, ◌++◌, replicate, Option, Some, None, Result, Ok, Err}
use Rattle.std.specs.Option.{option_map_or, option_and_then}
use Rattle.std.specs.List.{flat_map, sum_by}
use Rattle.c99_tree.specs.declared.types.CDef.{CDef}
use Rattle.c99_tree.specs.declared.undefined.Undefined.{Undefined}
use Rattle.c99_tree.specs.declared.unit.CRing.{CRing}
use Rattle.c99_tree.specs.declared.unit.Unit.{Unit as CUnit}
use Rattle.c99_tree.specs.Values.{Value, filled, repeated, shape_of, row_values, words_of}
use Rattle.c99_tree.specs.Evaluation.{Met, done, RingState, Statics}
use Rattle.c99_tree.specs.Step.{Called, Progress, step}
use Rattle.c_exec.specs.Called.{calls_in}
use Rattle.c_exec.specs.Layout.{var_width}

-- a program, the words of its statics, the last step's calls, and what the program has met that is undefined, if anything.
-- Of the calls: the handler of each, where the words of its arguments end, and the words of all.
pub record Kept : Type 0 where
  pub unit : CUnit
  pub statics : List ℕ
  pub handlers : List ℕ
  pub ends : List ℕ
  pub words : List ℕ
  pub met : Option Undefined

-- ---- the statics that words stand for: the externs' copies in their order, and then each ring's index and its values

-- n values of a type, and the words that are left
abbrev pub values_in : List CDef → CRing → List ℕ → List Value × List ℕ
values_in ds r ws = option_map_or (λ a. a) (option_and_then (λ s. repeated r.len (filled s) ws) (shape_of ds r.ty)) ([], ws)

abbrev pub rings_in : List CDef → List CRing → List ℕ → List RingState
rings_in ds [] ws = []
rings_in ds (r ∷ rs) [] = []
rings_in ds (r ∷ rs) (k ∷ ws) = record { values = (values_in ds r ws).0; index = k } ∷ rings_in ds rs (values_in ds r ws).1

abbrev pub copies_in : CUnit → List ℕ → List Value × List ℕ
copies_in u ws = option_map_or (λ a. a) (row_values u.types u.externs ws) ([], ws)

abbrev pub statics_in : CUnit → List ℕ → Statics
statics_in u ws = record { copies = (copies_in u ws).0; rings = rings_in u.types u.rings (copies_in u ws).1 }

-- the statics that a machine holds
abbrev pub statics_of : Kept → Statics
statics_of m = statics_in m.unit m.statics

-- the calls of the last step
abbrev pub called_of : Kept → List Called
called_of m = calls_in 0 m.handlers m.ends m.words

-- the words of statics
abbrev pub words_of_ring : RingState → List ℕ
words_of_ring s = s.index ∷ flat_map words_of s.values

abbrev pub words_of_statics : Statics → List ℕ
words_of_statics s = flat_map words_of s.copies ++ flat_map words_of_ring s.rings

-- the words before the first call: copies and indices are zero, and rings have their constants
abbrev pub first_words : CUnit → List ℕ
first_words u = replicate (sum_by (var_width u.types) u.externs) 0 ++ flat_map (λ r. 0 ∷ r.init) u.rings

-- ---- what a call of `step` answers

-- a machine that has met something undefined meets it again at once; another does a step
abbrev pub outcome : Kept → List ℕ → Met Progress
outcome m row = option_map_or (λ e. done (Err e)) m.met (step m.unit (statics_of m) row)

-- the machine has the statics and the calls that the step ends with; or it has met what is undefined, and has no calls
abbrev pub Answers : Result Progress Undefined → Kept → Kept → Result (Unit {0}) Undefined → Type 0
Answers (Ok p) old new result =
    (result ≡ Ok tt) × (new.unit ≡ old.unit) × (statics_of new ≡ p.statics) × (called_of new ≡ p.called) × (new.met ≡ None)
Answers (Err e) old new result = (result ≡ Err e) × (new.unit ≡ old.unit) × (called_of new ≡ []) × (new.met ≡ Some e)

-- a machine before the first call
pub record Begins (u : CUnit) (s : Statics) (m : Kept) : Type 0 where
  pub unit : m.unit ≡ u
  pub statics : statics_of m ≡ s
  pub called : called_of m ≡ []
  pub met : m.met ≡ None
