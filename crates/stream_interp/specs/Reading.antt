-- What an evaluation is given of a node, and where the parts of a row and of a value lie.
use Rattle.std.specs.Prelude.{ℕ, ◌+◌, ◌<◌, ◌≤◌, ◌≡◌, List, [], ◌∷◌, length, replicate, Option, Some, None}
use Rattle.std.specs.List.{AllByRecursion}
use Rattle.stream_types.specs.declared.scalar.Ty.{Ty}
use Rattle.stream_types.specs.declared.types.TypeEntry.{TypeEntry}
use Rattle.stream_types.specs.declared.types.TypeEntry.TheVariants as entry
use Rattle.stream_types.specs.Types.{entry_of, words}
use Rattle.stream_core.specs.declared.node.Node.{Node}
use Rattle.stream_core.specs.declared.node.Node.TheVariants as node
use Rattle.stream_core.specs.declared.spec.ExternItem.{ExternItem}
use Rattle.stream_core.specs.Value.{SpecValue}
use Rattle.stream_core.specs.Term.{Term, named, def, build, closed, closed_def, terms_of, tree, trees}
use Rattle.stream_core.specs.Equations.{bound_of}
use Rattle.stream_core.specs.Eval.{lines}
use Rattle.stream_core.specs.Meaning.{closed_spec}
use Rattle.stream_core.specs.Limits.{tree_size}
use Rattle.stream_core.specs.Parts.{parts}
use Rattle.stream_core.specs.Plain.{ArePlain, IsPlain}
use Rattle.stream_core.specs.Signature.{signature_of}
use Rattle.stream_core.specs.WellTyped.{HasMember, HasType, HaveTypes, IsArrayOf, StreamHasType, field_types, word32}
use Rattle.stream_interp.specs.declared.layout.Layout.{Layout}
use Rattle.stream_interp.specs.Room.{all_rooms, room}

-- ---- rows

-- where the externs' parts of a row begin, the first at an index
abbrev pub extern_firsts : List TypeEntry → ℕ → List ExternItem → List ℕ
extern_firsts types at [] = []
extern_firsts types at (e ∷ es) = at ∷ extern_firsts types (at + words types e.ty) es

abbrev pub IsLayout : SpecValue → Layout → Type 0
IsLayout s layout = layout.firsts.items ≡ extern_firsts s.types 0 s.externs

-- stream x has this type, and an entry of number k from each step on
pub record IsEntryOf (s : SpecValue) (x k : ℕ) (t : Ty) : Type 0 where
  pub typed : StreamHasType (signature_of (trees s)) x t
  pub within : k < bound_of (lines (closed_spec s)) x

-- ---- the parts of a type

abbrev pub entry_parts : Option TypeEntry → List Ty
entry_parts None = []
entry_parts (Some (entry.Array elem n)) = replicate n elem
entry_parts (Some (entry.Struct name fields)) = field_types fields

-- the types of an array's elements, or of a struct's members
abbrev pub part_types : List TypeEntry → Ty → List Ty
part_types types t = entry_parts (entry_of types t)

abbrev pub types_words : List TypeEntry → List Ty → ℕ
types_words types [] = 0
types_words types (t ∷ ts) = words types t + types_words types ts

-- ---- names of expressions

-- an expression behind its names
abbrev pub bare : Term → Term
bare (named d a) = bare a
bare e = e

abbrev pub IsNoDef : Node → Type 0
IsNoDef (node.Def d) = ⊥
IsNoDef _ = Unit {0}

-- ---- nodes that can be evaluated

-- node i has this type
abbrev pub NodeHasType : SpecValue → ℕ → Ty → Type 0
NodeHasType s i t = HasType (signature_of (trees s)) (tree s.nodes s.libs i) t

-- node i is there, has this type, is plain, and its evaluation takes at most n words
pub record IsReady (s : SpecValue) (n : ℕ) (i : ℕ) (t : Ty) : Type 0 where
  pub there : i < length s.nodes
  pub typed : NodeHasType s i t
  pub plain : IsPlain (closed s i)
  pub enough : room s.types (closed s i) ≤ n

-- the same of a node over its parts
pub record IsReadyForm (s : SpecValue) (n : ℕ) (form : Node) (t : Ty) : Type 0 where
  pub there : AllByRecursion (λ j. j < length s.nodes) (parts form)
  pub typed : HasType (signature_of (trees s)) (build s.libs def (tree s.nodes s.libs) form) t
  pub plain : IsPlain (build s.libs (closed_def s) (closed s) form)
  pub enough : room s.types (build s.libs (closed_def s) (closed s) form) ≤ n

-- the same of several nodes
pub record AreReady (s : SpecValue) (n : ℕ) (is : List ℕ) (ts : List Ty) : Type 0 where
  pub there : AllByRecursion (λ j. j < length s.nodes) is
  pub typed : HaveTypes (signature_of (trees s)) (terms_of (tree s.nodes s.libs) is) ts
  pub plain : ArePlain (terms_of (closed s) is)
  pub enough : all_rooms s.types (terms_of (closed s) is) ≤ n

-- an element of an array can be evaluated to so many words, of which the array takes the front of n words of scratch
pub record IsReadyElement (s : SpecValue) (n wide : ℕ) (of : Ty) (a i : ℕ) : Type 0 where
  pub elem : Ty
  pub count : ℕ
  pub array_is : IsArrayOf s.types of elem count
  pub wide_is : words s.types elem ≡ wide
  pub rest : ℕ
  pub array : IsReady s rest a of
  pub at : IsReady s rest i word32
  pub enough : words s.types of + rest ≤ n

-- the same of a member of a struct
pub record IsReadyMember (s : SpecValue) (n wide : ℕ) (of : Ty) (k a : ℕ) : Type 0 where
  pub type_is : Ty
  pub member_is : HasMember s.types of k type_is
  pub wide_is : words s.types type_is ≡ wide
  pub rest : ℕ
  pub whole : IsReady s rest a of
  pub enough : words s.types of + rest ≤ n

-- node j is the one that the names of node i stand for
pub record IsBehind (s : SpecValue) (i j : ℕ) : Type 0 where
  pub there : j < length s.nodes
  pub same : bare (closed s i) ≡ bare (closed s j)
  pub typed : (t : Ty) → NodeHasType s i t → NodeHasType s j t
  pub smaller : tree_size (closed s j) ≤ tree_size (closed s i)
