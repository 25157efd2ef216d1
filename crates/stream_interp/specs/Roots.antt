-- What a step evaluates: the specification's expressions, each with its defs written out, and how many words their
-- values have.
use Rattle.std.specs.Prelude.{ℕ, ◌+◌, ◌≤◌, ◌≡◌, List, [], ◌∷◌, ◌++◌, length, map, take, drop, All, Result, Ok, Err}
use Rattle.stream_types.specs.declared.scalar.Hazard.{Hazard}
use Rattle.stream_types.specs.declared.types.TypeEntry.{TypeEntry}
use Rattle.stream_types.specs.Types.{words}
use Rattle.stream_types.specs.TypeList.{Stands}
use Rattle.stream_core.specs.declared.spec.Root.{Root}
use Rattle.stream_core.specs.declared.spec.StreamItem.{StreamItem}
use Rattle.stream_core.specs.declared.spec.TriggerItem.{TriggerItem}
use Rattle.stream_core.specs.declared.spec.ObserverItem.{ObserverItem}
use Rattle.stream_core.specs.Value.{SpecValue}
use Rattle.stream_core.specs.Term.{Term, TreeRoot, TreeTrigger, TreeObserver, closed}
use Rattle.stream_core.specs.Library.{bind}
use Rattle.stream_core.specs.Eval.{Event}
use Rattle.stream_core.specs.WellTyped.{bool}
use Rattle.stream_interp.specs.Reading.{IsReady}

-- ---- expressions

abbrev pub closed_root : SpecValue → Root → TreeRoot
closed_root s r = record { expr = closed s r.expr; ty = r.ty; at = r.at }

abbrev pub closed_roots : SpecValue → List Root → List TreeRoot
closed_roots s rs = map (closed_root s) rs

abbrev pub closed_trigger : SpecValue → TriggerItem → TreeTrigger
closed_trigger s x = record { name = x.name; guard = closed_root s x.guard; args = closed_roots s x.args }

abbrev pub closed_triggers : SpecValue → List TriggerItem → List TreeTrigger
closed_triggers s xs = map (closed_trigger s) xs

abbrev pub closed_observer : SpecValue → ObserverItem → TreeObserver
closed_observer s x = record { name = x.name; root = closed_root s x.root }

abbrev pub closed_observers : SpecValue → List ObserverItem → List TreeObserver
closed_observers s xs = map (closed_observer s) xs

-- the expressions of the streams' next values
abbrev pub closed_exprs : SpecValue → List StreamItem → List Term
closed_exprs s xs = map (λ (x : StreamItem). closed s x.expr) xs

-- ---- words of their values

abbrev pub roots_words : List TypeEntry → List Root → ℕ
roots_words types [] = 0
roots_words types (r ∷ rs) = words types r.ty + roots_words types rs

abbrev pub triggers_words : List TypeEntry → List TriggerItem → ℕ
triggers_words types [] = 0
triggers_words types (x ∷ xs) = roots_words types x.args + triggers_words types xs

abbrev pub observers_words : List TypeEntry → List ObserverItem → ℕ
observers_words types [] = 0
observers_words types (x ∷ xs) = words types x.root.ty + observers_words types xs

abbrev pub streams_words : List TypeEntry → List StreamItem → ℕ
streams_words types [] = 0
streams_words types (x ∷ xs) = words types x.ty + streams_words types xs

-- a list of words as a value of each stream's type
abbrev pub rows_in : List TypeEntry → List StreamItem → List ℕ → List (List ℕ)
rows_in types [] ws = []
rows_in types (x ∷ xs) ws = take (words types x.ty) ws ∷ rows_in types xs (drop (words types x.ty) ws)

-- ---- what their evaluation needs

-- so many words are enough to evaluate it, and its type is the specification's
abbrev pub IsReadyRoot : SpecValue → ℕ → Root → Type 0
IsReadyRoot s n r = IsReady s n r.expr r.ty × Stands s.types r.ty

pub record IsReadyTrigger (s : SpecValue) (n : ℕ) (x : TriggerItem) : Type 0 where
  pub guard : IsReadyRoot s n x.guard
  pub truth : x.guard.ty ≡ bool
  pub args : All (IsReadyRoot s n) x.args

pub record IsReadySpec (s : SpecValue) (n : ℕ) : Type 0 where
  pub triggers : All (IsReadyTrigger s n) s.triggers
  pub observers : All (λ (x : ObserverItem). IsReadyRoot s n x.root) s.observers
  pub streams : All (λ (x : StreamItem). IsReady s n x.expr x.ty × Stands s.types x.ty) s.streams
  -- as few that their numbers are words of 32 bits
  pub few : length s.triggers + length s.observers ≤ 262144

-- ---- answers

-- these events, and then those of an answer
abbrev pub then_events : List Event → Result (List Event) Hazard → Result (List Event) Hazard
then_events old r = bind r (λ es. Ok (old ++ es))

-- what is there where a call succeeds, and else its hazard
abbrev pub or_hazard : {T A : Type 0} → Result T Hazard → A → Result A Hazard
or_hazard (Ok t) x = Ok x
or_hazard (Err z) x = Err z
