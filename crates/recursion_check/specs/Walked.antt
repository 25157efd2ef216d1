-- What a walk over the graph keeps. Some places are new, some are done, and the others are open: they stand on a path in
-- the order in which they were entered. The path is cut into groups. Within a group each place reaches each other one,
-- and places of earlier groups reach those of later ones.
use Rattle.std.specs.Prelude.{ℕ, ◌<◌, ◌≤◌, ◌≡◌, ◌⊎◌, List, [], ◌∷◌, length, slice_get, slice_set, min, Option, Some, None, nat_lt, nat_le, if◌then◌else◌}
use Rattle.stream_core.specs.Value.{SpecValue}
use Rattle.recursion_check.specs.declared.walk.Mark.{Mark}
use Rattle.recursion_check.specs.declared.walk.Mark.TheVariants as mark
use Rattle.recursion_check.specs.declared.edges.Edge.{Edge}
use Rattle.recursion_check.specs.declared.walk.Walk.{Walk}
use Rattle.recursion_check.specs.Graph.{Has, Joins, Reaches, LiesOnCycle, places}

-- from the open place of this number on the path to this place
abbrev pub HasEdge : List Edge → ℕ → ℕ → Type 0
HasEdge [] i w = ⊥
HasEdge (e ∷ es) i w = ((e.from ≡ i) × (e.to ≡ w)) ⊎ HasEdge es i w

abbrev pub edge : ℕ → ℕ → Edge
edge i w = record { from = i; to = w }

abbrev pub Rising : List ℕ → Type 0
Rising [] = Unit {0}
Rising (a ∷ as_) = ((b : ℕ) → Has as_ b → a < b) × Rising as_

abbrev pub NotFalling : List Edge → Type 0
NotFalling [] = Unit {0}
NotFalling (e ∷ es) = ((i w : ℕ) → HasEdge es i w → e.from ≤ i) × NotFalling es

-- number j on the path is in the group of number i or in a later one
abbrev pub Near : List ℕ → ℕ → ℕ → Type 0
Near starts i j = (b : ℕ) → Has starts b → b ≤ i → b ≤ j

-- place w is open, in the group of number i or in a later one
abbrev pub IsOpenNear : List Mark → List ℕ → ℕ → ℕ → Type 0
IsOpenNear marks starts i w = (j : ℕ) × (slice_get marks w ≡ Some (mark.Open j)) × Near starts i j

-- the first def among the places that are done which lies on a cycle, or none
pub record IsLeast (s : SpecValue) (marks : List Mark) (first : Option ℕ) : Type 0 where
  pub on_cycle : (f : ℕ) → first ≡ Some f → (f < length s.defs) × LiesOnCycle s f
  pub below : (d : ℕ) → d < length s.defs → slice_get marks d ≡ Some mark.Done → LiesOnCycle s d → (f : ℕ) × (first ≡ Some f) × (f ≤ d)

pub record IsWalk (s : SpecValue) (marks : List Mark) (path starts : List ℕ) (todo : List Edge) (first : Option ℕ) : Type 0 where
  pub size : length marks ≡ places s
  pub placed : (i v : ℕ) → slice_get path i ≡ Some v → slice_get marks v ≡ Some (mark.Open i)
  pub found : (v i : ℕ) → slice_get marks v ≡ Some (mark.Open i) → slice_get path i ≡ Some v
  -- what is done leads to what is done
  pub closed : (v w : ℕ) → slice_get marks v ≡ Some mark.Done → Joins s v w → slice_get marks w ≡ Some mark.Done
  -- what is open leads to what is done, to its own group or later ones, or there is a step still to be taken
  pub seen : (i v w : ℕ) → slice_get path i ≡ Some v → Joins s v w → HasEdge todo i w ⊎ ((slice_get marks w ≡ Some mark.Done) ⊎ IsOpenNear marks starts i w)
  pub near : (i j v w : ℕ) → slice_get path i ≡ Some v → slice_get path j ≡ Some w → Near starts i j → Reaches s v w
  pub within : (b : ℕ) → Has starts b → b < length path
  pub begins : (i v : ℕ) → slice_get path i ≡ Some v → Has starts 0
  pub rising : Rising starts
  pub waiting : (i w : ℕ) → HasEdge todo i w → (v : ℕ) × (slice_get path i ≡ Some v) × Joins s v w
  pub ordered : NotFalling todo
  pub least : IsLeast s marks first

abbrev pub IsWalking : SpecValue → Walk → Type 0
IsWalking s w = IsWalk s w.marks.items w.path.items w.starts.items w.todo.items w.first

-- a place that all open ones reach
abbrev pub IsReached : SpecValue → List ℕ → ℕ → Type 0
IsReached s path v = (i u : ℕ) → slice_get path i ≡ Some u → Reaches s u v

-- no place is new that was not
abbrev pub StaysOld : List Mark → List Mark → Type 0
StaysOld old new = (v : ℕ) → slice_get new v ≡ Some mark.New → slice_get old v ≡ Some mark.New

-- 1 for a new place
abbrev pub fresh : Mark → ℕ
fresh mark.New = 1
fresh _ = 0

-- the places of a group are done
abbrev pub mark_all : List Mark → List ℕ → List Mark
mark_all marks [] = marks
mark_all marks (v ∷ vs) = mark_all (slice_set marks v mark.Done) vs

-- the lesser of two, where there is one
abbrev pub lesser : Option ℕ → ℕ → Option ℕ
lesser None v = Some v
lesser (Some f) v = Some (min f v)

-- the least def among a number and these places
abbrev pub least_def : ℕ → Option ℕ → List ℕ → Option ℕ
least_def defs first [] = first
least_def defs first (v ∷ vs) = least_def defs (if nat_lt v defs then lesser first v else first) vs

-- the numbers up to p
pub record IsCut (old new : List ℕ) (p : ℕ) : Type 0 where
  pub from : (b : ℕ) → Has new b → Has old b × (b ≤ p)
  pub all : (b : ℕ) → Has old b → b ≤ p → Has new b
  pub rising : Rising new
  pub short : length new ≤ length old

-- a step that begins in the group from this number on
abbrev pub edge_from : ℕ → Option Edge → Option Edge
edge_from start None = None
edge_from start (Some e) = if nat_le start e.from then Some e else None
