-- Which types stand in a type list, what such a list keeps, and what its calls do.
use Rattle.std.specs.Prelude.{◌≡◌, ◌≢◌, ◌⊎◌, ℕ, ◌<◌, ◌≤◌, List, [], ◌∷◌, ◌++◌, length, take, slice_get, slice_index, All, Option, Some}
use Rattle.stream_types.specs.declared.scalar.Ty.{Ty}
use Rattle.stream_types.specs.declared.scalar.Ty.TheVariants as ty
use Rattle.stream_types.specs.declared.types.Field.{Field}
use Rattle.stream_types.specs.declared.types.FieldAt.{FieldAt}
use Rattle.stream_types.specs.declared.types.TypeEntry.{TypeEntry}
use Rattle.stream_types.specs.declared.types.TypeEntry.TheVariants as entry
use Rattle.stream_types.specs.Types.{entry_words, field_first}

-- ---- types of a list

abbrev pub IsArrayEntry : Option TypeEntry → Type 0
IsArrayEntry (Some (entry.Array elem n)) = Unit {0}
IsArrayEntry _ = ⊥

abbrev pub IsStructEntry : Option TypeEntry → Type 0
IsStructEntry (Some (entry.Struct name fields)) = Unit {0}
IsStructEntry _ = ⊥

-- a scalar, or an array or a struct of the list
abbrev pub Stands : List TypeEntry → Ty → Type 0
Stands types (ty.Scalar s) = Unit {0}
Stands types (ty.Array i) = IsArrayEntry (slice_get types i)
Stands types (ty.Struct i) = IsStructEntry (slice_get types i)

-- what an array may be made of: a scalar, or a struct of the list
abbrev pub IsElement : List TypeEntry → Ty → Type 0
IsElement types (ty.Scalar s) = Unit {0}
IsElement types (ty.Array i) = ⊥
IsElement types (ty.Struct i) = IsStructEntry (slice_get types i)

-- ---- names of members

-- two members have one name
pub record HasTwins (fields : List Field) : Type 0 where
  pub i : ℕ
  pub j : ℕ
  pub one : Field
  pub other : Field
  pub before : i < j
  pub one_is : slice_get fields i ≡ Some one
  pub other_is : slice_get fields j ≡ Some other
  pub alike : one.name ≡ other.name

-- the field at this place has this name
pub record IsNamedAt (fields : List Field) (name : List ℕ) (i : ℕ) : Type 0 where
  pub field : Field
  pub is : slice_get fields i ≡ Some field
  pub named : field.name ≡ name

-- the member of this name: its type, and the words before it
pub record IsMember (types : List TypeEntry) (fields : List Field) (name : List ℕ) (at : FieldAt) : Type 0 where
  pub place : ℕ
  pub member : Field
  pub is : slice_get fields place ≡ Some member
  pub named : member.name ≡ name
  pub type_is : at.ty ≡ member.ty
  pub first_is : at.first ≡ field_first types fields place

-- no member has this name
abbrev pub HasNoMember : List Field → List ℕ → Type 0
HasNoMember fields name = All (λ (f : Field). f.name ≢ name) fields

-- no struct of the list has this name
abbrev pub IsNewName : List TypeEntry → List ℕ → Type 0
IsNewName types name = (i : ℕ) (fields : List Field) → slice_get types i ≢ Some (entry.Struct name fields)

-- no array type of the same element and length, or no struct of the same name, is in the list
abbrev pub IsNewEntry : List TypeEntry → TypeEntry → Type 0
IsNewEntry types (entry.Array elem n) = (i : ℕ) → slice_get types i ≢ Some (entry.Array elem n)
IsNewEntry types (entry.Struct name fields) = IsNewName types name

-- ---- what a type list keeps

-- an entry is made of types before it: 1 to 1,024 elements that are no arrays, or 1 to 64 members of different names
abbrev pub IsGoodEntry : List TypeEntry → TypeEntry → Type 0
IsGoodEntry before (entry.Array elem n) = IsElement before elem × (1 ≤ n) × (n ≤ 1024)
IsGoodEntry before (entry.Struct name fields) = All (λ (f : Field). Stands before f.ty) fields × (1 ≤ length fields) × (length fields ≤ 64) × ¬ HasTwins fields

pub record IsTypeList (types : List TypeEntry) : Type 0 where
  pub each : (i : ℕ) (e : TypeEntry) → slice_get types i ≡ Some e → IsGoodEntry (take i types) e
  -- no type is wider than 1,024 words
  pub narrow : (i : ℕ) → slice_index (entry_words types) i ≤ 1024
  -- no two structs have one name, and no array type stands twice
  pub structs : (i j : ℕ) (name : List ℕ) (fs gs : List Field) → slice_get types i ≡ Some (entry.Struct name fs) → slice_get types j ≡ Some (entry.Struct name gs) → i ≡ j
  pub arrays : (i j : ℕ) (elem : Ty) (n : ℕ) → slice_get types i ≡ Some (entry.Array elem n) → slice_get types j ≡ Some (entry.Array elem n) → i ≡ j
  pub short : length types ≤ 4294967295

-- ---- what its calls do

-- the entry at this place was there already, or was put at the end
abbrev pub IsFoundOrAdded : List TypeEntry → List TypeEntry → TypeEntry → ℕ → Type 0
IsFoundOrAdded old new e i = ((slice_get old i ≡ Some e) × (new ≡ old)) ⊎ ((i ≡ length old) × (new ≡ old ++ e ∷ []))

-- the answer is an array type of this element and length, found or added
abbrev pub IsArrayPlaced : List TypeEntry → List TypeEntry → Ty → ℕ → Ty → Type 0
IsArrayPlaced old new elem n (ty.Array i) = IsFoundOrAdded old new (entry.Array elem n) i
IsArrayPlaced old new elem n _ = ⊥
