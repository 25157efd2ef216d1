-- The words that an evaluation keeps at once, beside the one that it answers.
use Rattle.std.specs.Prelude.{ℕ, ◌+◌, List, [], ◌∷◌, max}
use Rattle.stream_types.specs.declared.types.TypeEntry.{TypeEntry}
use Rattle.stream_types.specs.Types.{words}
use Rattle.stream_core.specs.declared.spec.Root.{Root}
use Rattle.stream_core.specs.declared.spec.StreamItem.{StreamItem}
use Rattle.stream_core.specs.declared.spec.TriggerItem.{TriggerItem}
use Rattle.stream_core.specs.declared.spec.ObserverItem.{ObserverItem}
use Rattle.stream_core.specs.Value.{SpecValue}
use Rattle.stream_core.specs.Term.{Term, Terms, lit, extern, stream, def, named, missing, dropped, un, bin, shift, cast, and, or, implies, choose, index, field, array, struct, abs, sign, majority, agreed, lib, end, more, closed}

abbrev mutual
  -- The value of an array or a struct whose part is taken stands beside what its own evaluation takes. A plain expression
  -- has none of the last five forms.
  pub room : List TypeEntry → Term → ℕ
  room types (lit s w) = 0
  room types (extern x) = 0
  room types (stream s) = 0
  room types (def d) = 0
  room types (named d a) = room types a
  room types missing = 0
  room types (dropped s k) = 0
  room types (un o s a) = room types a
  room types (bin o s a b) = max (room types a) (room types b)
  room types (shift d s a cs c) = max (room types a) (room types c)
  room types (cast f t a) = room types a
  room types (and a b) = max (room types a) (room types b)
  room types (or a b) = max (room types a) (room types b)
  room types (implies a b) = max (room types a) (room types b)
  room types (choose c a b) = max (room types c) (max (room types a) (room types b))
  room types (index t a i) = words types t + max (room types a) (room types i)
  room types (field t m a) = words types t + room types a
  room types (array t es) = all_rooms types es
  room types (struct t es) = all_rooms types es
  room types (abs s a) = 0
  room types (sign s a) = 0
  room types (majority s es) = 0
  room types (agreed s es) = 0
  room types (lib k form es) = 0

  pub all_rooms : List TypeEntry → Terms → ℕ
  all_rooms types end = 0
  all_rooms types (more a es) = max (room types a) (all_rooms types es)

-- the room of a node, its defs written out
abbrev pub node_room : SpecValue → ℕ → ℕ
node_room s i = room s.types (closed s i)

abbrev pub nodes_room : SpecValue → List ℕ → ℕ
nodes_room s [] = 0
nodes_room s (i ∷ is) = max (node_room s i) (nodes_room s is)

-- ---- roots

abbrev pub roots_room : SpecValue → List Root → ℕ
roots_room s [] = 0
roots_room s (r ∷ rs) = max (node_room s r.expr) (roots_room s rs)

abbrev pub triggers_room : SpecValue → List TriggerItem → ℕ
triggers_room s [] = 0
triggers_room s (x ∷ xs) = max (max (node_room s x.guard.expr) (roots_room s x.args)) (triggers_room s xs)

abbrev pub observers_room : SpecValue → List ObserverItem → ℕ
observers_room s [] = 0
observers_room s (x ∷ xs) = max (node_room s x.root.expr) (observers_room s xs)

abbrev pub streams_room : SpecValue → List StreamItem → ℕ
streams_room s [] = 0
streams_room s (x ∷ xs) = max (node_room s x.expr) (streams_room s xs)

-- the greatest room of a root
unfoldable pub spec_room : SpecValue → ℕ
spec_room s = max (max (triggers_room s s.triggers) (observers_room s s.observers)) (streams_room s s.streams)
