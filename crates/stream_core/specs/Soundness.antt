-- The first reason for which a well typed specification is refused.
use Rattle.std.specs.Prelude.{ℕ, ◌+◌, ◌≤◌, ◌≡◌, List, [], ◌∷◌, ◌++◌, length, map, take, drop, min, sum, slice_get, Bool, true, false, count_by, nat_lt, if◌then◌else◌, Option, Some, None}
use Rattle.stream_types.specs.declared.types.TypeEntry.{TypeEntry}
use Rattle.stream_types.specs.declared.types.TypeEntry.TheVariants as entry
use Rattle.stream_types.specs.Types.{words}
use Rattle.stream_core.specs.declared.spec.ExternItem.{ExternItem}
use Rattle.stream_core.specs.Term.{TreeSpec, TreeStream, TreeDef, TreeTrigger, TreeObserver, TreeRoot, without_defs}
use Rattle.stream_core.specs.Lower.{lowered_spec}
use Rattle.stream_core.specs.Limits.{OnCycle, plain_weight, weight}

pub data SoundnessFault : Type 0 where
  cycle : ℕ → SoundnessFault
  too_many_decls : SoundnessFault
  too_many_words : SoundnessFault
  root_too_heavy : ℕ → SoundnessFault
  spec_too_heavy : SoundnessFault

-- ---- cycles

-- the place of the first def declaration that lies on a cycle
pub record CycleAt (defs : List TreeDef) (at : ℕ) : Type 0 where
  pub d : ℕ
  pub def : TreeDef
  pub is : slice_get defs d ≡ Some def
  pub on_cycle : OnCycle defs d
  pub first : (c : ℕ) → OnCycle defs c → d ≤ c
  pub place : at ≡ def.at

abbrev pub HasNoCycle : List TreeDef → Type 0
HasNoCycle defs = (d : ℕ) → ¬ OnCycle defs d

-- ---- sizes

abbrev pub is_struct : TypeEntry → Bool
is_struct (entry.Array elem n) = false
is_struct (entry.Struct name fields) = true

-- structs, externs, streams, defs, triggers and observers together
abbrev pub declarations : TreeSpec → ℕ
declarations s = count_by is_struct s.types + length s.externs + length s.streams + length s.defs + length s.triggers + length s.observers

-- the words of all initial values, the buffers' among them, and of all externs
abbrev pub total_words : TreeSpec → ℕ
total_words s = sum (map (λ (x : TreeStream). length x.init) (lowered_spec s).streams) + sum (map (λ (x : ExternItem). words s.types x.ty) s.externs)

-- ---- heavy roots

-- a root: its place and its weight
pub record Load : Type 0 where
  pub at : ℕ
  pub heavy : ℕ

abbrev pub root_load : TreeRoot → Load
root_load r = record { at = r.at; heavy = plain_weight r.expr }

abbrev pub stream_load : TreeStream → Load
stream_load x = record { at = x.at; heavy = plain_weight x.expr }

abbrev pub trigger_loads : List TreeTrigger → List Load
trigger_loads [] = []
trigger_loads (x ∷ xs) = root_load x.guard ∷ (map root_load x.args ++ trigger_loads xs)

-- the declarations' guards, arguments, observers and streams, over n streams and then buffers
abbrev pub declared_loads : ℕ → TreeSpec → List Load
declared_loads n p = trigger_loads p.triggers ++ map (λ (x : TreeObserver). root_load x.root) p.observers ++ map stream_load (take n p.streams)

abbrev pub buffer_loads : ℕ → TreeSpec → List Load
buffer_loads n p = map stream_load (drop n p.streams)

-- the places of the roots above 2,048
abbrev pub heavy_places : List Load → List ℕ
heavy_places [] = []
heavy_places (x ∷ xs) = if nat_lt 2048 x.heavy then x.at ∷ heavy_places xs else heavy_places xs

abbrev pub least_of : ℕ → List ℕ → ℕ
least_of a [] = a
least_of a (b ∷ bs) = least_of (min a b) bs

-- the least place among the declarations' heavy roots, and else the first heavy buffer
abbrev pub first_of_heavy : List ℕ → List ℕ → Option ℕ
first_of_heavy (a ∷ as_) bs = Some (least_of a as_)
first_of_heavy [] (b ∷ bs) = Some b
first_of_heavy [] [] = None

abbrev pub heavy_root : TreeSpec → Option ℕ
heavy_root s = let p = without_defs (lowered_spec s) in first_of_heavy (heavy_places (declared_loads (length s.streams) p)) (heavy_places (buffer_loads (length s.streams) p))

-- ---- the first fault

abbrev pub weight_fault : TreeSpec → Option ℕ → Option SoundnessFault
weight_fault s (Some at) = Some (root_too_heavy at)
weight_fault s None = if nat_lt 262144 (weight s) then Some spec_too_heavy else None

-- the first limit that a specification without cycles exceeds
abbrev pub limit_fault : TreeSpec → Option SoundnessFault
limit_fault s =
    if nat_lt 4096 (declarations s) then Some too_many_decls
    else if nat_lt 262144 (total_words s) then Some too_many_words
    else weight_fault s (heavy_root s)

-- the first fault, or none
abbrev pub IsFirstFault : TreeSpec → Option SoundnessFault → Type 0
IsFirstFault s (Some (cycle at)) = CycleAt s.defs at
IsFirstFault s fault = HasNoCycle s.defs × (limit_fault s ≡ fault)
