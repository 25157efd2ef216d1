-- When the statics of a program stand for a moment of its specification.
use Rattle.std.specs.Prelude.{◌≡◌, ℕ, suc, ◌+◌, ◌%◌, ◌<◌, ◌≤◌, IsTrue, List, [], ◌∷◌, ◌++◌, length, map, replicate, slice_get, slice_index_or, Some, Ok, All}
use Rattle.std.specs.List.{AllByRecursion}
use Rattle.sm_io.specs.Words.{is_name}
use Rattle.stream_types.specs.declared.scalar.Scalar.{Scalar}
use Rattle.stream_types.specs.declared.scalar.Ty.{Ty}
use Rattle.stream_types.specs.declared.scalar.Ty.TheVariants as ty
use Rattle.stream_types.specs.declared.types.Field.{Field}
use Rattle.stream_types.specs.declared.types.TypeEntry.{TypeEntry}
use Rattle.stream_types.specs.declared.types.TypeEntry.TheVariants as entry
use Rattle.stream_types.specs.Numbers as of
use Rattle.stream_types.specs.Types.{leaves, repeated, AreWords}
use Rattle.stream_types.specs.TypeList.{Stands, IsTypeList}
use Rattle.stream_core.specs.declared.spec.ExternItem.{ExternItem}
use Rattle.stream_core.specs.Term.{Term, TreeSpec, TreeStream, TreeTrigger, TreeRoot, initial_count}
use Rattle.stream_core.specs.Eval.{Moment, Event, part_of, entry_at}
use Rattle.stream_core.specs.Handlers.{calls_of}
use Rattle.stream_core.specs.Signature.{signature_of}
use Rattle.stream_core.specs.Plain.{IsPlain}
use Rattle.stream_core.specs.WrittenOut.{IsWrittenOut}
use Rattle.stream_core.specs.WellTyped.{HasType, field_types, bool}
use Rattle.c99_tree.specs.declared.expr.CExpr.{CExpr}
use Rattle.c99_tree.specs.declared.unit.Unit.{Unit as CUnit}
use Rattle.c99_tree.specs.Tree.{tree}
use Rattle.c99_tree.specs.CTypes.{Num, num}
use Rattle.c99_tree.specs.Values.{Value, Values, number, struct_of, array_of, no_value, and_value}
use Rattle.c99_tree.specs.Typing.{type_of}
use Rattle.c99_tree.specs.Evaluation.{RingState, Statics, evaluate}
use Rattle.c99_tree.specs.Step.{Progress, step}
use Rattle.ring_codegen.specs.CTypes.{c_scalar, c_type, c_def, c_extern, c_handlers}
use Rattle.ring_codegen.specs.Simulation.{called}
use Rattle.ring_codegen.specs.Carried.{GivesWord}
use Rattle.ring_codegen.specs.Translation.{ring_of, translated_step}

-- ---- values and their words

-- the number of one word of a scalar, in the scalar's C type
pub record IsNumberOf (t : Scalar) (x : Num) (ws : List ℕ) : Type 0 where
  pub word : ℕ
  pub words : ws ≡ word ∷ []
  pub good : IsTrue (of.is_word t word)
  pub is : x ≡ num (c_scalar t) (of.number t word)

abbrev mutual
  -- the value has this type and these words: a number one word, and an array or a struct those of its elements or members,
  -- one after another
  pub HasWords : List TypeEntry → Ty → Value → List ℕ → Type 0
  HasWords types (ty.Scalar t) (number x) ws = IsNumberOf t x ws
  HasWords types (ty.Array i) (array_of vs) ws =
      (elem : Ty) × (n : ℕ) × (slice_get types i ≡ Some (entry.Array elem n)) × HaveWords types (replicate n elem) vs ws
  HasWords types (ty.Struct i) (struct_of vs) ws =
      (name : List ℕ) × (fields : List Field) × (slice_get types i ≡ Some (entry.Struct name fields)) × HaveWords types (field_types fields) vs ws
  HasWords types _ _ ws = ⊥

  -- as many values as types, each of the type at its place
  pub HaveWords : List TypeEntry → List Ty → Values → List ℕ → Type 0
  HaveWords types [] no_value ws = ws ≡ []
  HaveWords types (t ∷ ts) (and_value v vs) ws =
      (front : List ℕ) × (rest : List ℕ) × (ws ≡ front ++ rest) × HasWords types t v front × HaveWords types ts vs rest
  HaveWords types _ _ ws = ⊥

-- ---- statics

-- the value at this place has this type and these words
pub record HoldsAt (types : List TypeEntry) (t : Ty) (values : List Value) (k : ℕ) (ws : List ℕ) : Type 0 where
  pub value : Value
  pub is : slice_get values k ≡ Some value
  pub words : HasWords types t value ws

-- the copies hold the row
abbrev pub CopiesStand : TreeSpec → Moment → List Value → Type 0
CopiesStand spec m copies =
    (k : ℕ) (x : ExternItem) → slice_get spec.externs k ≡ Some x → HoldsAt spec.types x.ty copies k (part_of m.types m.externs m.row k)

-- A ring holds a stream's values from the present one on: the one that is j steps ahead stands j places behind the index,
-- counted around. The index is a place of the ring, and so 0 where there is one value.
pub record RingStands (spec : TreeSpec) (m : Moment) (k : ℕ) (x : TreeStream) (state : RingState) : Type 0 where
  pub long : length state.values ≡ initial_count spec.types x
  pub index : state.index < initial_count spec.types x
  pub entries : (j : ℕ) → j < initial_count spec.types x
      → HoldsAt spec.types x.ty state.values ((state.index + j) % initial_count spec.types x) (entry_at m.table k (m.time + j))

-- a ring for each stream, in order
pub record HoldsRing (spec : TreeSpec) (m : Moment) (rings : List RingState) (k : ℕ) (x : TreeStream) : Type 0 where
  pub state : RingState
  pub is : slice_get rings k ≡ Some state
  pub stands : RingStands spec m k x state

abbrev pub RingsStand : TreeSpec → Moment → List RingState → Type 0
RingsStand spec m rings = (k : ℕ) (x : TreeStream) → slice_get spec.streams k ≡ Some x → HoldsRing spec m rings k x

-- the copies hold the row, and the rings the table from the moment's time on
pub record StandsFor (spec : TreeSpec) (m : Moment) (s : Statics) : Type 0 where
  pub copies : CopiesStand spec m s.copies
  pub rings : RingsStand spec m s.rings

-- ---- expressions

-- the expression is defined, and gives the word of a scalar
pub record GivesScalar (u : CUnit) (s : Statics) (e : CExpr) (t : Scalar) (ws : List ℕ) : Type 0 where
  pub word : ℕ
  pub words : ws ≡ word ∷ []
  pub good : IsTrue (of.is_word t word)
  pub gives : GivesWord u s e t word

-- the expression is defined, has the type's C type, and gives the value of these words
pub record GivesValue (types : List TypeEntry) (u : CUnit) (s : Statics) (e : CExpr) (t : Ty) (ws : List ℕ) : Type 0 where
  pub value : Value
  pub is : (evaluate u s (tree e)).value ≡ Ok value
  pub words : HasWords types t value ws
  pub typed : type_of u (tree e) ≡ Some (c_type types t)

-- the expression gives these words of a type
abbrev pub Gives : List TypeEntry → CUnit → Statics → CExpr → Ty → List ℕ → Type 0
Gives types u s e (ty.Scalar t) ws = GivesScalar u s e t ws
Gives types u s e (ty.Array i) ws = GivesValue types u s e (ty.Array i) ws
Gives types u s e (ty.Struct i) ws = GivesValue types u s e (ty.Struct i) ws

-- ---- specifications and their programs

-- a list in which no two elements have one name
abbrev pub IsNamedOnce : {A : Type 0} → (A → List ℕ) → List A → Type 0
IsNamedOnce {A = A} name xs = (i j : ℕ) (x y : A) → slice_get xs i ≡ Some x → slice_get xs j ≡ Some y → name x ≡ name y → i ≡ j

abbrev pub HasStructName : TypeEntry → Type 0
HasStructName (entry.Array elem n) = Unit {0}
HasStructName (entry.Struct name fields) = IsTrue (is_name name)

-- a stream's type stands in the list, and it has 1 to 65,536 initial values of words of the type
pub record IsRingLong (types : List TypeEntry) (x : TreeStream) : Type 0 where
  pub stands : Stands types x.ty
  pub some : 1 ≤ initial_count types x
  pub most : initial_count types x ≤ 65536
  pub initial : AreWords (repeated (initial_count types x) (leaves types x.ty)) x.init

-- what the translation asks of a specification beside types: the types are a list, and what is declared is told apart by name
pub record IsTranslatable (spec : TreeSpec) : Type 0 where
  pub types : IsTypeList spec.types
  pub structs : All HasStructName spec.types
  pub externs : IsNamedOnce (λ (x : ExternItem). x.name) spec.externs
  pub streams : IsNamedOnce (λ (x : TreeStream). x.name) spec.streams
  pub standing : All (λ (x : ExternItem). Stands spec.types x.ty) spec.externs
  pub long : All (IsRingLong spec.types) spec.streams

-- the program has the specification's types, externs and rings
pub record Declares (spec : TreeSpec) (u : CUnit) : Type 0 where
  pub types : u.types ≡ map (c_def spec.types) spec.types
  pub externs : u.externs ≡ map (c_extern spec.types) spec.externs
  pub rings : u.rings ≡ map (ring_of spec.types) spec.streams

-- the moment reads the specification's types and externs
pub record IsMomentOf (spec : TreeSpec) (m : Moment) : Type 0 where
  pub types : m.types ≡ spec.types
  pub externs : m.externs ≡ spec.externs

-- ---- steps

-- the program has the specification's types, externs, handlers and rings, and its statements are those of the translation
pub record IsProgramOf (spec : TreeSpec) (u : CUnit) : Type 0 where
  pub declares : Declares spec u
  pub handlers : u.handlers ≡ c_handlers spec
  pub step : u.step ≡ translated_step spec

-- a plain expression of this type, with its defs written out
pub record IsTranslated (spec : TreeSpec) (a : Term) (t : Ty) : Type 0 where
  pub typed : HasType (signature_of spec) a t
  pub plain : IsPlain a
  pub written : IsWrittenOut [] a

-- a guard of truth values, and arguments of their types
pub record IsTriggerTranslated (spec : TreeSpec) (x : TreeTrigger) : Type 0 where
  pub guard : IsTranslated spec x.guard.expr bool
  pub args : AllByRecursion (λ (r : TreeRoot). IsTranslated spec r.expr r.ty) x.args

-- what makes steps of a specification: there is no form of the library, each expression is translated, and triggers of one name have the same types of arguments
pub record HasSteps (spec : TreeSpec) : Type 0 where
  pub libs : spec.libs ≡ []
  pub translatable : IsTranslatable spec
  pub streams : AllByRecursion (λ (x : TreeStream). IsTranslated spec x.expr x.ty) spec.streams
  pub triggers : AllByRecursion (IsTriggerTranslated spec) spec.triggers
  pub alike : (i j : ℕ) (x y : TreeTrigger) → slice_get spec.triggers i ≡ Some x → slice_get spec.triggers j ≡ Some y
      → x.name ≡ y.name → map (λ (r : TreeRoot). r.ty) x.args ≡ map (λ (r : TreeRoot). r.ty) y.args

-- The next moment's entries of a list are this moment's but the oldest, and then the next value.
pub record IsNextList (m next : Moment) (k len : ℕ) (words : List ℕ) : Type 0 where
  pub before : (j : ℕ) → suc j < len → entry_at next.table k (next.time + j) ≡ entry_at m.table k (m.time + suc j)
  pub last : (j : ℕ) → suc j ≡ len → entry_at next.table k (next.time + j) ≡ words

-- each stream's list goes on with its next value
abbrev pub IsNextMoment : TreeSpec → Moment → Moment → List (List ℕ) → Type 0
IsNextMoment spec m next nexts =
    (k : ℕ) (x : TreeStream) → slice_get spec.streams k ≡ Some x → IsNextList m next k (initial_count spec.types x) (slice_index_or nexts k [])

-- statics before a step: a copy for each extern, whatever it holds, and rings that stand for the moment
pub record AreBefore (spec : TreeSpec) (m : Moment) (s : Statics) : Type 0 where
  pub copies : length s.copies ≡ length spec.externs
  pub many : length s.rings ≡ length spec.streams
  pub rings : RingsStand spec m s.rings

-- the step is defined, makes the calls of these events, and leaves statics that stand for the next moment
pub record Steps (spec : TreeSpec) (u : CUnit) (next : Moment) (s : Statics) (row : List ℕ) (events : List Event) : Type 0 where
  pub end : Progress
  pub is : (step u s row).value ≡ Ok end
  pub statics : AreBefore spec next end.statics
  pub calls : end.called ≡ map called (calls_of spec events)
