-- The text of a value by its type, the parts that show it, and the text of a log.
use Rattle.std.specs.Prelude.{◌≡◌, ℕ, ◌+◌, Bool, true, false, List, [], ◌∷◌, ◌++◌, map, take, drop, replicate, sum_by, slice_get, slice_index, unwrap_or, codes, decimal, Some}
use Rattle.std.specs.List.{flat_map}
use Rattle.stream_types.specs.declared.scalar.Scalar.{Scalar}
use Rattle.stream_types.specs.declared.scalar.Ty.{Ty}
use Rattle.stream_types.specs.declared.scalar.Ty.TheVariants as ty
use Rattle.stream_types.specs.declared.types.Field.{Field}
use Rattle.stream_types.specs.declared.types.TypeEntry.{TypeEntry}
use Rattle.stream_types.specs.declared.types.TypeEntry.TheVariants as entry
use Rattle.stream_types.specs.declared.scalar.Scalar.TheVariants as scalar
use Rattle.stream_types.specs.Types.{words, leaves, AreWords}
use Rattle.stream_types.specs.TypeList.{IsTypeList}
use Rattle.extern_rows.specs.declared.event.Piece.{Piece}
use Rattle.extern_rows.specs.declared.event.Piece.TheVariants.{Gap, Word, Open, Comma, Close}
use Rattle.extern_rows.specs.Events.{Fits, word_text, before_name, event_text}

-- ---- by type

-- what each entry of a type list has, given what those before it have, behind what is already found
abbrev pub each_entry : {X : Type 0} → (List X → TypeEntry → X) → List X → List TypeEntry → List X
each_entry step before [] = before
each_entry step before (e ∷ es) = each_entry step (before ++ step before e ∷ []) es

-- what a type has: a scalar its own, and else what its entry has
abbrev pub at_type : {X : Type 0} → (Scalar → X) → X → List X → Ty → X
at_type one none before (ty.Scalar s) = one s
at_type one none before (ty.Array i) = unwrap_or (slice_get before i) none
at_type one none before (ty.Struct i) = unwrap_or (slice_get before i) none

-- lists with something between two of them
abbrev pub parted : {X : Type 0} → X → List (List X) → List X
parted comma [] = []
parted comma (xs ∷ more) = xs ++ flat_map (λ ys. comma ∷ ys) more

-- ---- values

-- how a type's values are written: of how many words one is made, and its text by its words
pub record Written : Type 0 where
  pub width : ℕ
  pub text : List ℕ → List ℕ

abbrev pub written_scalar : Scalar → Written
written_scalar s = record { width = 1; text = λ ws. word_text s (slice_index ws 0) }

abbrev pub written_nothing : Written
written_nothing = record { width = 0; text = λ ws. [] }

-- the texts of values whose words stand one after another
abbrev pub texts_of : List Written → List ℕ → List (List ℕ)
texts_of [] ws = []
texts_of (v ∷ vs) ws = v.text (take v.width ws) ∷ texts_of vs (drop v.width ws)

-- values between two brackets, with commas between them
abbrev pub within_brackets : List ℕ → List ℕ → List Written → Written
within_brackets front back vs = record { width = sum_by (λ (v : Written). v.width) vs; text = λ ws. front ++ parted 44 (texts_of vs ws) ++ back }

abbrev pub written_at : List Written → Ty → Written
written_at before t = at_type written_scalar written_nothing before t

-- an array's elements stand between square brackets, a struct's members between braces
abbrev pub written_entry : List Written → TypeEntry → Written
written_entry before (entry.Array elem n) = within_brackets (codes "[") (codes "]") (replicate n (written_at before elem))
written_entry before (entry.Struct name fields) = within_brackets (codes "{") (codes "}") (map (λ (f : Field). written_at before f.ty) fields)

abbrev pub written_as : List TypeEntry → Ty → Written
written_as types t = written_at (each_entry written_entry [] types) t

-- the text of a value of this type, by its words
abbrev pub value_text : List TypeEntry → Ty → List ℕ → List ℕ
value_text types t ws = (written_as types t).text ws

-- ---- parts

abbrev pub pieces_at : List (List Piece) → Ty → List Piece
pieces_at before t = at_type (λ s. Word s ∷ []) [] before t

abbrev pub pieces_entry : List (List Piece) → TypeEntry → List Piece
pieces_entry before (entry.Array elem n) = Open 91 ∷ parted Comma (replicate n (pieces_at before elem)) ++ Close 93 ∷ []
pieces_entry before (entry.Struct name fields) = Open 123 ∷ parted Comma (map (λ (f : Field). pieces_at before f.ty) fields) ++ Close 125 ∷ []

-- the parts that show a value of this type
abbrev pub pieces_of : List TypeEntry → Ty → List Piece
pieces_of types t = pieces_at (each_entry pieces_entry [] types) t

-- the scalars of the words that some parts show
abbrev pub piece_scalars : List Piece → List Scalar
piece_scalars [] = []
piece_scalars (Word s ∷ ps) = s ∷ piece_scalars ps
piece_scalars (_ ∷ ps) = piece_scalars ps

-- the comma before a part, but for the first
abbrev pub comma_before : Bool → List Piece
comma_before true = []
comma_before false = Comma ∷ []

-- ---- events

-- an event: whether an observer's mark stands before its name, and its arguments' types and words, one after another
pub record EventOf : Type 0 where
  pub mark : Bool
  pub name : List ℕ
  pub args : List Ty
  pub words : List ℕ

abbrev pub shape_of : List TypeEntry → List Ty → List Piece
shape_of types args = flat_map (λ t. Gap ∷ pieces_of types t) args

abbrev pub args_text : List TypeEntry → List Ty → List ℕ → List ℕ
args_text types args ws = flat_map (λ text. 32 ∷ text) (texts_of (map (written_as types) args) ws)

abbrev pub typed_event_text : List TypeEntry → ℕ → EventOf → List ℕ
typed_event_text types step e = decimal step ++ before_name e.mark ++ e.name ++ args_text types e.args e.words ++ codes "\n"

-- the events of steps, the first of which has this number
abbrev pub log_from : List TypeEntry → ℕ → List (List EventOf) → List ℕ
log_from types step [] = []
log_from types step (events ∷ more) = flat_map (typed_event_text types step) events ++ log_from types (step + 1) more

-- the text of a log: one line for each event, in order, the steps counted from 0
abbrev pub log_text : List TypeEntry → List (List EventOf) → List ℕ
log_text types log = log_from types 0 log

-- one word for each leaf of the arguments, each a word of its leaf's scalar
abbrev pub HasWords : List TypeEntry → EventOf → Type 0
HasWords types e = AreWords (flat_map (leaves types) e.args) e.words

-- An event's words fit the parts of its arguments' types, and its line is that of its values.
pub record ShowsValues (types : List TypeEntry) (step : ℕ) (e : EventOf) : Type 0 where
  pub fits : Fits (shape_of types e.args) e.words
  pub text : event_text step e.mark e.name (shape_of types e.args) e.words ≡ typed_event_text types step e

abbrev pub EventsShowValues : Type 0
EventsShowValues = (types : List TypeEntry) (step : ℕ) (e : EventOf) → HasWords types e → ShowsValues types step e

-- ---- the text of a value, by the entry of its type

-- A scalar's word; an array's elements, each by its own words; a struct's members likewise. A value has as many words
-- as its type.
pub record ByType (types : List TypeEntry) : Type 0 where
  pub scalar : (s : Scalar) (w : ℕ) → value_text types (ty.Scalar s) (w ∷ []) ≡ word_text s w
  pub array : (i : ℕ) (elem : Ty) (n : ℕ) (ws : List ℕ) → slice_get types i ≡ Some (entry.Array elem n)
      → value_text types (ty.Array i) ws ≡ codes "[" ++ parted 44 (texts_of (replicate n (written_as types elem)) ws) ++ codes "]"
  pub struct : (i : ℕ) (name : List ℕ) (fields : List Field) (ws : List ℕ) → slice_get types i ≡ Some (entry.Struct name fields)
      → value_text types (ty.Struct i) ws ≡ codes "{" ++ parted 44 (texts_of (map (λ (f : Field). written_as types f.ty) fields) ws) ++ codes "}"
  pub width : (t : Ty) → (written_as types t).width ≡ words types t

abbrev pub ValuesByType : Type 0
ValuesByType = (types : List TypeEntry) → IsTypeList types → ByType types

-- ---- worked values

-- a struct of two truth values, and three of it
abbrev pub pairs : List TypeEntry
pairs =
    entry.Struct (codes "P") (record { name = codes "x"; ty = ty.Scalar scalar.Bool } ∷ record { name = codes "y"; ty = ty.Scalar scalar.Bool } ∷ [])
    ∷ entry.Array (ty.Struct 0) 3 ∷ []

abbrev pub PairsAreWritten : Type 0
PairsAreWritten = value_text pairs (ty.Array 1) (1 ∷ 0 ∷ 0 ∷ 1 ∷ 1 ∷ 1 ∷ []) ≡ codes "[{true,false},{false,true},{true,true}]"

-- three steps: a trigger without arguments and an observer's pair, nothing, and a trigger of two arguments
abbrev pub LogIsWritten : Type 0
LogIsWritten =
    log_text pairs
    ((record { mark = false; name = codes "a"; args = []; words = [] } ∷ record { mark = true; name = codes "y"; args = ty.Struct 0 ∷ []; words = 1 ∷ 0 ∷ [] } ∷ [])
    ∷ []
    ∷ (record { mark = false; name = codes "t"; args = ty.Scalar scalar.Int8 ∷ ty.Scalar scalar.Word8 ∷ []; words = 18446744073709551615 ∷ 7 ∷ [] } ∷ [])
    ∷ [])
    ≡ codes "0 a\n0 =y {true,false}\n2 t -1 7\n"
