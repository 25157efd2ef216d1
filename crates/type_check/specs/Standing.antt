-- What the types of the code stand for, and what its steps over a text tell.
use Rattle.std.specs.Prelude.{◌≡◌, ◌≤◌, ℕ, suc, Bool, true, false, ◌&&◌, nat_lt, nat_le, nat_eq, min, if◌then◌else◌, List, [], ◌∷◌, ◌++◌, map, slice_get, bytes_eq, Option, Some, None, Result, Ok, Err}
use Rattle.std.specs.Global.{Vec}
use Rattle.std.specs.Map.{lookup}
use Rattle.std.specs.List.{list_any}
use Rattle.std.specs.Option.{option_map, option_map_or}
use Rattle.indexmap.specs.IndexSet.{contains}
use Rattle.stream_types.specs.declared.scalar.Scalar.{Scalar}
use Rattle.spec_text.specs.declared.surface.FieldForm.{FieldForm}
use Rattle.spec_text.specs.declared.surface.TypeForm.{TypeForm}
use Rattle.type_check.specs.declared.fault.TypeFault.{TypeFault}
use Rattle.type_check.specs.declared.fault.TypeFault.TheVariants.{Memory}
use Rattle.type_check.specs.declared.known.Known.{Known}
use Rattle.type_check.specs.declared.known.Known.TheVariants as known
use Rattle.type_check.specs.declared.known.Element.{Element}
use Rattle.type_check.specs.declared.known.Element.TheVariants as element
use Rattle.type_check.specs.contracts.known.KnownPartialEq.TheImpl.{ghosts as known_eq}
use Rattle.type_check.specs.declared.structs.Struct.{Struct as CodeStruct}
use Rattle.type_check.specs.declared.structs.Structs.{Structs}
use Rattle.type_check.specs.declared.structs.Member.{Member}
use Rattle.type_check.specs.declared.order.Order.{Order}
use Rattle.type_check.specs.declared.scope.Scope.{Scope as CodeScope}
use Rattle.type_check.specs.declared.scope.Item.{Item}
use Rattle.type_check.specs.declared.scope.Kind.{Kind}
use Rattle.type_check.specs.declared.scope.Kind.TheVariants as kind
use Rattle.type_check.specs.NamedType.{NamedType, scalar, struct, array, is_array, Declarations, Struct, struct_in, struct_words, words}
use Rattle.type_check.specs.Judged.{Verdict, has, lacks, Judged, first_of, have_types, all_types, judge_form, Named, extern_of, stream_of, def_of, named_in, declared, Scope}
use Rattle.type_check.specs.TypeOrder.{Event, met, ends, is_closed, is_met, listed, waiting}

-- ---- types by numbers

-- the type of an element, by the names of the text's structs in text order
abbrev pub named_element : List (List ℕ) → Element → Option NamedType
named_element names (element.Scalar s) = Some (scalar s)
named_element names (element.Struct i) = option_map struct (slice_get names i)

abbrev pub named : List (List ℕ) → Known → Option NamedType
named names (known.Element e) = named_element names e
named names (known.Array e n) = option_map (λ t. array t n) (named_element names e)

pub record Means (names : List (List ℕ)) (k : Known) (t : NamedType) : Type 0 where
  pub is : named names k ≡ Some t

-- no two of them are the same
pub record IsDistinct (names : List (List ℕ)) : Type 0 where
  pub once : (i j : ℕ) (x : List ℕ) → slice_get names i ≡ Some x → slice_get names j ≡ Some x → i ≡ j

-- types in order
pub data AllMean (names : List (List ℕ)) : List Known → List NamedType → Type 0 where
  all_none : AllMean names [] []
  all_more : {k : Known} {t : NamedType} {ks : List Known} {ts : List NamedType} → Means names k t → AllMean names ks ts → AllMean names (k ∷ ks) (t ∷ ts)

-- a type, or none on both sides
pub data MeansOption (names : List (List ℕ)) : Option Known → Option NamedType → Type 0 where
  both_none : MeansOption names None None
  both_some : {k : Known} {t : NamedType} → Means names k t → MeansOption names (Some k) (Some t)

-- a verdict
pub data IsVerdict (names : List (List ℕ)) : Verdict → Result Known TypeFault → Type 0 where
  is_type : {k : Known} {t : NamedType} → Means names k t → IsVerdict names (has t) (Ok k)
  is_fault : {e : TypeFault} → IsVerdict names (lacks e) (Err e)

-- the scalar that a type is
abbrev pub scalar_in : Known → Option Scalar
scalar_in (known.Element (element.Scalar s)) = Some s
scalar_in _ = None

abbrev pub is_array_known : Known → Bool
is_array_known (known.Array e n) = true
is_array_known _ = false

-- all of some types, if each is there
abbrev pub all_known : List (Option Known) → Option (List Known)
all_known [] = Some []
all_known (None ∷ ks) = None
all_known (Some k ∷ ks) = option_map (λ js. k ∷ js) (all_known ks)

-- as many types, none of which differs from its other one; a type that is missing differs from none
abbrev pub agree_known : List (Option Known) → List Known → Bool
agree_known [] [] = true
agree_known (k ∷ ks) (j ∷ js) = option_map_or (λ i. known_eq.eq i j) k true && agree_known ks js
agree_known _ _ = false

-- ---- words, of which no more than 1,025 are counted

abbrev pub capped : ℕ → ℕ
capped n = min n 1025

-- the words of a struct by its number
abbrev pub struct_words_at : List CodeStruct → ℕ → ℕ
struct_words_at all i = option_map_or (λ (s : CodeStruct). s.words) (slice_get all i) 0

abbrev pub element_words : List CodeStruct → Element → ℕ
element_words all (element.Scalar s) = 1
element_words all (element.Struct i) = struct_words_at all i

-- the words of an element are those of its type
abbrev pub HasWords : List CodeStruct → Known → Declarations → NamedType → Type 0
HasWords all (known.Element e) ds t = element_words all e ≡ capped (words ds t)
HasWords all (known.Array e n) ds t = Unit {0}

-- the first of some items has the words of its type
abbrev pub ItemsHaveWords : List CodeStruct → Declarations → List Known → List NamedType → Type 0
ItemsHaveWords all ds (k ∷ ks) (t ∷ ts) = HasWords all k ds t
ItemsHaveWords all ds _ _ = Unit {0}

-- ---- the order of the types that were met

-- the arrays of a struct, of these lengths
abbrev pub arrays_of : ℕ → List ℕ → List Known
arrays_of i lengths = map (λ n. known.Array (element.Struct i) n) lengths

-- the struct for which an array of such elements waits, where so many structs have ended
abbrev pub waiting_for : ℕ → Element → Option ℕ
waiting_for closed (element.Scalar s) = None
waiting_for closed (element.Struct i) = if nat_le closed i then Some i else None

-- the lengths of the arrays that wait for a struct
abbrev pub waiting_at : Order → ℕ → List ℕ
waiting_at o i = option_map_or (λ ns. ns) (lookup (nat_eq i) o.waiting.entries) []

-- what is kept of the events so far, where so many structs have ended
pub record IsOrder (names : List (List ℕ)) (ended : ℕ) (es : List Event) (o : Order) : Type 0 where
  pub ended_are : (i : ℕ) (x : List ℕ) → slice_get names i ≡ Some x → list_any (is_closed x) es ≡ nat_lt i ended
  pub placed : AllMean names o.placed (listed [] es)
  pub met_are : (k : Known) (t : NamedType) → Means names k t → is_array t ≡ true → contains known_eq.eq o.met k ≡ list_any (is_met t) es
  pub waiting_are : (i : ℕ) (x : List ℕ) → slice_get names i ≡ Some x → ended ≤ i → AllMean names (arrays_of i (waiting_at o i)) (waiting x [] es)

-- a struct ends
pub record Ends (names : List (List ℕ)) (number : ℕ) (old new : Order) (x : List ℕ) : Type 0 where
  pub goes : (es : List Event) → IsOrder names number es old → IsOrder names (suc number) (es ++ ends x ∷ []) new

-- nodes of these types more
pub record Grows (names : List (List ℕ)) (closed : ℕ) (old new : Order) (ts : List NamedType) : Type 0 where
  pub goes : (es : List Event) → IsOrder names closed es old → IsOrder names closed (es ++ map met ts) new

-- ---- nodes

-- a node without a fault in it
pub record IsTyped (names : List (List ℕ)) (closed : ℕ) (old new : Order) (j : Judged) (k : Option Known) : Type 0 where
  pub faultless : j.fault ≡ None
  pub type_is : MeansOption names k j.ty
  pub grows : Grows names closed old new j.types

abbrev pub Gives : List (List ℕ) → ℕ → Order → Order → Judged → Result (Option Known) TypeFault → Type 0
Gives names closed old new j (Ok k) = IsTyped names closed old new j k
Gives names closed old new j (Err Memory) = Unit {0}
Gives names closed old new j (Err e) = j.fault ≡ Some e

pub data AllMeanOption (names : List (List ℕ)) : List (Option Known) → List (Option NamedType) → Type 0 where
  options_none : AllMeanOption names [] []
  options_more : {k : Option Known} {t : Option NamedType} {ks : List (Option Known)} {ts : List (Option NamedType)} → MeansOption names k t → AllMeanOption names ks ts → AllMeanOption names (k ∷ ks) (t ∷ ts)

abbrev pub ty_of_part : Judged → Option NamedType
ty_of_part j = j.ty

-- the parts of a node, without a fault in them
pub record AreParts (names : List (List ℕ)) (closed : ℕ) (old new : Order) (ps : List Judged) (ks : List (Option Known)) : Type 0 where
  pub faultless : first_of ps ≡ None
  pub types_are : AllMeanOption names ks (map ty_of_part ps)
  pub grows : Grows names closed old new (all_types ps)

abbrev pub GivesParts : List (List ℕ) → ℕ → Order → Order → List Judged → Result (List (Option Known)) TypeFault → Type 0
GivesParts names closed old new ps (Ok ks) = AreParts names closed old new ps ks
GivesParts names closed old new ps (Err Memory) = Unit {0}
GivesParts names closed old new ps (Err e) = first_of ps ≡ Some e

abbrev pub items_of : Result (Vec (Option Known)) TypeFault → Result (List (Option Known)) TypeFault
items_of (Ok v) = Ok v.items
items_of (Err e) = Err e

-- parts that have types
pub record AreTypedParts (names : List (List ℕ)) (closed : ℕ) (old new : Order) (ps : List Judged) : Type 0 where
  pub faultless : first_of ps ≡ None
  pub typed : have_types ps ≡ true
  pub grows : Grows names closed old new (all_types ps)

-- a declaration without a fault in it
pub record IsDone (names : List (List ℕ)) (closed : ℕ) (old new : Order) (j : Judged) : Type 0 where
  pub faultless : j.fault ≡ None
  pub grows : Grows names closed old new j.types

abbrev pub GivesDone : {X : Type 0} → List (List ℕ) → ℕ → Order → Order → Judged → Result X TypeFault → Type 0
GivesDone names closed old new j (Ok x) = IsDone names closed old new j
GivesDone names closed old new j (Err Memory) = Unit {0}
GivesDone names closed old new j (Err e) = j.fault ≡ Some e

-- a written type as a node
abbrev pub GivesType : List (List ℕ) → ℕ → Order → Order → Judged → Result Known TypeFault → Type 0
GivesType names closed old new j (Ok k) = IsTyped names closed old new j (Some k)
GivesType names closed old new j (Err Memory) = Unit {0}
GivesType names closed old new j (Err e) = j.fault ≡ Some e

-- a written type: the last of its types is its own, and the others are no arrays
pub record IsWritten (names : List (List ℕ)) (j : Judged) (k : Known) : Type 0 where
  pub faultless : j.fault ≡ None
  pub ty : NamedType
  pub ty_is : j.ty ≡ Some ty
  pub means : Means names k ty
  pub inner : List NamedType
  pub types_are : j.types ≡ inner ++ ty ∷ []
  pub plain : list_any is_array inner ≡ false

abbrev pub GivesForm : List (List ℕ) → List CodeStruct → Declarations → Judged → Result Known TypeFault → Type 0
GivesForm names all before j (Ok k) = IsWritten names j k × ((t : NamedType) → j.ty ≡ Some t → HasWords all k before t)
GivesForm names all before j (Err e) = (j.fault ≡ Some e) × (j.ty ≡ None)

-- ---- what the names of a text stand for

pub data AreMembers (names : List (List ℕ)) (before : Declarations) : List FieldForm → List Member → Type 0 where
  no_members : AreMembers names before [] []
  more_members : {f : FieldForm} {m : Member} {fs : List FieldForm} {ms : List Member} → m.name ≡ f.name.name → MeansOption names m.ty (judge_form before f.ty).ty → AreMembers names before fs ms → AreMembers names before (f ∷ fs) (m ∷ ms)

-- the struct of this name in a text, by its number
pub record IsStructAt (names : List (List ℕ)) (ds : Declarations) (all : List CodeStruct) (x : List ℕ) (i : ℕ) : Type 0 where
  pub name_is : slice_get names i ≡ Some x
  pub declared : Struct
  pub is : struct_in ds x ≡ Some declared
  pub kept : CodeStruct
  pub kept_is : slice_get all i ≡ Some kept
  pub kept_name : kept.name ≡ x
  pub members : AreMembers names declared.before declared.fields kept.members
  pub words : kept.words ≡ capped (struct_words ds x)

abbrev pub IsNumbered : List (List ℕ) → Declarations → List CodeStruct → List ℕ → Option ℕ → Type 0
IsNumbered names ds all x None = struct_in ds x ≡ None
IsNumbered names ds all x (Some i) = IsStructAt names ds all x i

-- a number, if it is one of the first
abbrev pub among_first : ℕ → Option ℕ → Option ℕ
among_first closed None = None
among_first closed (Some i) = if nat_lt i closed then Some i else None

-- the structs of these declarations are the first ones
pub record AreFirst (names : List (List ℕ)) (ds : Declarations) (structs : Structs) (closed : ℕ) : Type 0 where
  pub numbers_are : (x : List ℕ) → IsNumbered names ds structs.all.items x (among_first closed (lookup (bytes_eq x) structs.numbers.entries))

abbrev pub kind_of : Named → Kind
kind_of (extern_of ds ty) = kind.Unkept
kind_of (stream_of ds ty n) = kind.Kept n
kind_of (def_of ds ty) = kind.Unkept

pub data IsItem (names : List (List ℕ)) : Option Named → Option Item → Type 0 where
  no_item : IsItem names None None
  an_item : {n : Named} {i : Item} → i.kind ≡ kind_of n → MeansOption names i.ty (declared n).ty → IsItem names (Some n) (Some i)

pub record IsScope (names : List (List ℕ)) (s : Scope) (scope : CodeScope) : Type 0 where
  pub distinct : IsDistinct names
  pub behind : AreFirst names s.before scope.structs scope.closed
  pub structs_are : (i : ℕ) (x : List ℕ) → slice_get names i ≡ Some x → IsStructAt names s.all scope.structs.all.items x i
  pub items_are : (x : List ℕ) → IsItem names (named_in s.all x) (lookup (bytes_eq x) scope.items.entries)

-- the written type of a member, and its type by numbers
abbrev pub IsMemberIn : List (List ℕ) → Declarations → Option TypeForm → Option (Option Known) → Type 0
IsMemberIn names before None None = Unit {0}
IsMemberIn names before (Some ty) (Some k) = MeansOption names k (judge_form before ty).ty
IsMemberIn names before _ _ = ⊥
