-- When a specification is well typed.
use Rattle.std.specs.Prelude.{ℕ, suc, ◌+◌, ◌^◌, ◌<◌, ◌≤◌, ◌≡◌, ◌≢◌, ◌⊎◌, List, [], ◌∷◌, ◌++◌, length, map, max, replicate, slice_get, slice_index, decimal, Some, IsTrue, All}
use Rattle.sm_io.specs.Words.{is_name}
use Rattle.stream_types.specs.declared.scalar.Scalar.TheVariants as scalar
use Rattle.stream_types.specs.declared.scalar.Ty.{Ty}
use Rattle.stream_types.specs.declared.scalar.Ty.TheVariants as ty
use Rattle.stream_types.specs.declared.types.Field.{Field}
use Rattle.stream_types.specs.declared.types.TypeEntry.{TypeEntry}
use Rattle.stream_types.specs.declared.types.TypeEntry.TheVariants as entry
use Rattle.stream_types.specs.Scalars.{is_integer, op1_fits, op2_fits, op2_gives, shift_fits, cast_fits}
use Rattle.stream_types.specs.Numbers.{is_word}
use Rattle.stream_types.specs.Types.{leaves, repeated, AreWords}
use Rattle.stream_types.specs.TypeList.{Stands, IsTypeList}
use Rattle.stream_core.specs.declared.node.LibForm.{LibForm}
use Rattle.stream_core.specs.declared.node.LibForm.TheVariants as form
use Rattle.stream_core.specs.declared.spec.Root.{Root}
use Rattle.stream_core.specs.declared.spec.ExternItem.{ExternItem}
use Rattle.stream_core.specs.declared.spec.StreamItem.{StreamItem}
use Rattle.stream_core.specs.declared.spec.DefItem.{DefItem}
use Rattle.stream_core.specs.declared.spec.TriggerItem.{TriggerItem}
use Rattle.stream_core.specs.declared.spec.ObserverItem.{ObserverItem}
use Rattle.stream_core.specs.declared.spec.LibItem.{LibItem}
use Rattle.stream_core.specs.Value.{SpecValue}
use Rattle.stream_core.specs.Ordered.{Ordered}
use Rattle.stream_core.specs.Term.{Term, Terms, lit, extern, stream, def, named, missing, dropped, un, bin, shift, cast, and, or, implies, choose, index, field, array, struct, abs, sign, majority, agreed, lib, end, more, TreeStream, TreeDef, TreeRoot, TreeTrigger, TreeObserver, TreeLib, tree, trees, value_count}
use Rattle.stream_core.specs.Signature.{Signature, StreamSignature, signature_of}

-- ---- types of expressions

abbrev pub bool : Ty
bool = ty.Scalar scalar.Bool

abbrev pub word32 : Ty
word32 = ty.Scalar scalar.Word32

-- the stream of this number is there and has this type
pub record StreamHasType (sig : Signature) (x : ℕ) (t : Ty) : Type 0 where
  pub stream : StreamSignature
  pub is : slice_get sig.streams x ≡ Some stream
  pub type_is : stream.ty ≡ t

-- a drop keeps one initial value at least
pub record DropHasType (sig : Signature) (x k : ℕ) (t : Ty) : Type 0 where
  pub stream : StreamSignature
  pub is : slice_get sig.streams x ≡ Some stream
  pub type_is : stream.ty ≡ t
  pub within : k < stream.count

-- a type is this array, or has this member
abbrev pub IsArrayOf : List TypeEntry → Ty → Ty → ℕ → Type 0
IsArrayOf types (ty.Array i) elem n = slice_get types i ≡ Some (entry.Array elem n)
IsArrayOf types _ elem n = ⊥

abbrev pub IsStructOf : List TypeEntry → Ty → List Field → Type 0
IsStructOf types (ty.Struct i) fields = (name : List ℕ) × (slice_get types i ≡ Some (entry.Struct name fields))
IsStructOf types _ fields = ⊥

pub record HasMember (types : List TypeEntry) (of : Ty) (k : ℕ) (t : Ty) : Type 0 where
  pub fields : List Field
  pub struct_is : IsStructOf types of fields
  pub member : Field
  pub is : slice_get fields k ≡ Some member
  pub type_is : member.ty ≡ t

-- the bounds of a form
abbrev pub IsGoodForm : LibForm → Type 0
IsGoodForm (form.OnceIn low high) = (low ≤ high) × (high ≤ 128)
IsGoodForm (form.HistoricallyIn low high) = (low ≤ high) × (high ≤ 128)
IsGoodForm (form.SinceIn low high) = (low ≤ high) × (high ≤ 128)
IsGoodForm (form.Clock period phase) = (1 ≤ period) × (period ≤ 4294967295) × (phase < period)
IsGoodForm (form.WindowMax n s) = (1 ≤ n) × (n ≤ 12) × IsTrue (is_integer s)
IsGoodForm (form.WindowMin n s) = (1 ≤ n) × (n ≤ 12) × IsTrue (is_integer s)
IsGoodForm (form.WindowSum n s) = (1 ≤ n) × (n ≤ 12) × IsTrue (is_integer s)
IsGoodForm _ = Unit {0}

-- the types of a form's operands, and of its value
abbrev pub operand_types : LibForm → List Ty
operand_types form.Since = bool ∷ bool ∷ []
operand_types (form.SinceIn low high) = bool ∷ bool ∷ []
operand_types (form.Clock period phase) = []
operand_types (form.WindowMax n s) = ty.Scalar s ∷ []
operand_types (form.WindowMin n s) = ty.Scalar s ∷ []
operand_types (form.WindowSum n s) = ty.Scalar s ∷ []
operand_types _ = bool ∷ []

abbrev pub form_gives : LibForm → Ty
form_gives (form.WindowMax n s) = ty.Scalar s
form_gives (form.WindowMin n s) = ty.Scalar s
form_gives (form.WindowSum n s) = ty.Scalar s
form_gives _ = bool

abbrev pub terms_length : Terms → ℕ
terms_length end = 0
terms_length (more a es) = suc (terms_length es)

-- 1 to 9 votes
abbrev pub AreVotes : Terms → Type 0
AreVotes es = (1 ≤ terms_length es) × (terms_length es ≤ 9)

-- the fields' types in order
abbrev pub field_types : List Field → List Ty
field_types fields = map (λ (f : Field). f.ty) fields

abbrev mutual
  -- an expression over these types and declarations has this type
  pub HasType : Signature → Term → Ty → Type 0
  HasType sig (lit c w) t = IsTrue (is_word c w) × (t ≡ ty.Scalar c)
  HasType sig (extern x) t = slice_get sig.externs x ≡ Some t
  HasType sig (stream x) t = StreamHasType sig x t
  HasType sig (def d) t = slice_get sig.defs d ≡ Some t
  HasType sig (named d a) t = (slice_get sig.defs d ≡ Some t) × HasType sig a t
  HasType sig missing t = ⊥
  HasType sig (dropped x k) t = DropHasType sig x k t
  HasType sig (un o c a) t = IsTrue (op1_fits o c) × HasType sig a (ty.Scalar c) × (t ≡ ty.Scalar c)
  HasType sig (bin o c a b) t = IsTrue (op2_fits o c) × HasType sig a (ty.Scalar c) × HasType sig b (ty.Scalar c) × (t ≡ ty.Scalar (op2_gives o c))
  HasType sig (shift d c a cs n) t = IsTrue (shift_fits c cs) × HasType sig a (ty.Scalar c) × HasType sig n (ty.Scalar cs) × (t ≡ ty.Scalar c)
  HasType sig (cast from to a) t = IsTrue (cast_fits from to) × HasType sig a (ty.Scalar from) × (t ≡ ty.Scalar to)
  HasType sig (and a b) t = HasType sig a bool × HasType sig b bool × (t ≡ bool)
  HasType sig (or a b) t = HasType sig a bool × HasType sig b bool × (t ≡ bool)
  HasType sig (implies a b) t = HasType sig a bool × HasType sig b bool × (t ≡ bool)
  HasType sig (choose c a b) t = HasType sig c bool × HasType sig a t × HasType sig b t
  HasType sig (index of a i) t = (n : ℕ) × IsArrayOf sig.types of t n × HasType sig a of × HasType sig i word32
  HasType sig (field of k a) t = HasMember sig.types of k t × HasType sig a of
  HasType sig (array of es) t = (elem : Ty) × (n : ℕ) × IsArrayOf sig.types of elem n × HaveTypes sig es (replicate n elem) × (t ≡ of)
  HasType sig (struct of es) t = (fields : List Field) × IsStructOf sig.types of fields × HaveTypes sig es (field_types fields) × (t ≡ of)
  HasType sig (abs c a) t = IsTrue (is_integer c) × HasType sig a (ty.Scalar c) × (t ≡ ty.Scalar c)
  HasType sig (sign c a) t = IsTrue (is_integer c) × HasType sig a (ty.Scalar c) × (t ≡ ty.Scalar c)
  HasType sig (majority c es) t = AreVotes es × HaveTypes sig es (replicate (terms_length es) (ty.Scalar c)) × (t ≡ ty.Scalar c)
  HasType sig (agreed c es) t = AreVotes es × HaveTypes sig es (replicate (terms_length es) (ty.Scalar c)) × (t ≡ bool)
  HasType sig (lib k form es) t = IsGoodForm form × HaveTypes sig es (operand_types form) × (t ≡ form_gives form)

  -- as many expressions as types, each of its type
  pub HaveTypes : Signature → Terms → List Ty → Type 0
  HaveTypes sig end [] = Unit {0}
  HaveTypes sig end (t ∷ ts) = ⊥
  HaveTypes sig (more a es) [] = ⊥
  HaveTypes sig (more a es) (t ∷ ts) = HasType sig a t × HaveTypes sig es ts

-- ---- initial values

-- how many lists a type's constants nest
abbrev pub nesting_at : List ℕ → Ty → ℕ
nesting_at before (ty.Scalar s) = 0
nesting_at before (ty.Array i) = slice_index before i
nesting_at before (ty.Struct i) = slice_index before i

abbrev pub deepest : List ℕ → List Field → ℕ
deepest before [] = 0
deepest before (f ∷ fs) = max (nesting_at before f.ty) (deepest before fs)

abbrev pub entry_nesting : List ℕ → TypeEntry → ℕ
entry_nesting before (entry.Array elem n) = 1 + nesting_at before elem
entry_nesting before (entry.Struct name fields) = 1 + deepest before fields

abbrev pub nestings : List ℕ → List TypeEntry → List ℕ
nestings before [] = before
nestings before (e ∷ es) = nestings (before ++ entry_nesting before e ∷ []) es

abbrev pub nesting : List TypeEntry → Ty → ℕ
nesting types t = nesting_at (nestings [] types) t

-- 1 to 65,536 values of a type, each of at most 64 lists within each other
pub record AreInitial (types : List TypeEntry) (t : Ty) (init : List ℕ) : Type 0 where
  pub some : 1 ≤ value_count types t init
  pub most : value_count types t init ≤ 65536
  pub values : AreWords (repeated (value_count types t init) (leaves types t)) init
  pub flat : nesting types t ≤ 64

-- ---- names

-- the names of the declarations that are no triggers, which share one space with the triggers' names
abbrev pub declared_names : SpecValue → List (List ℕ)
declared_names s =
    map (λ (x : ExternItem). x.name) s.externs ++ map (λ (x : StreamItem). x.name) s.streams ++ map (λ (x : DefItem). x.name) s.defs ++ map (λ (x : ObserverItem). x.name) s.observers

abbrev pub IsName : List ℕ → Type 0
IsName name = IsTrue (is_name name)

-- a decimal from 1 on below 2 ^ 64, as buffers have
abbrev pub IsNumber : List ℕ → Type 0
IsNumber name = (n : ℕ) × (1 ≤ n) × (n < 2 ^ 64) × (name ≡ decimal n)

-- the name of a stream; a decimal only where there are no library forms
abbrev pub IsStreamName : List LibItem → List ℕ → Type 0
IsStreamName [] name = IsName name ⊎ IsNumber name
IsStreamName (x ∷ xs) name = IsName name

abbrev pub HasNames : TypeEntry → Type 0
HasNames (entry.Array elem n) = Unit {0}
HasNames (entry.Struct name fields) = IsName name × All (λ (f : Field). IsName f.name) fields

abbrev pub argument_types : TriggerItem → List Ty
argument_types x = map (λ (r : Root). r.ty) x.args

pub record HasGoodNames (s : SpecValue) : Type 0 where
  pub spec : IsName s.name
  pub types : All HasNames s.types
  pub externs : All (λ (x : ExternItem). IsName x.name) s.externs
  pub streams : All (λ (x : StreamItem). IsStreamName s.libs x.name) s.streams
  pub defs : All (λ (x : DefItem). IsName x.name) s.defs
  pub triggers : All (λ (x : TriggerItem). IsName x.name) s.triggers
  pub observers : All (λ (x : ObserverItem). IsName x.name) s.observers
  -- no two declarations have one name, but triggers with the same argument types
  pub once : (i j : ℕ) (name : List ℕ) → slice_get (declared_names s) i ≡ Some name → slice_get (declared_names s) j ≡ Some name → i ≡ j
  pub apart : (i j : ℕ) (x : TriggerItem) → slice_get s.triggers i ≡ Some x → slice_get (declared_names s) j ≢ Some x.name
  pub alike : (i j : ℕ) (x y : TriggerItem) → slice_get s.triggers i ≡ Some x → slice_get s.triggers j ≡ Some y → x.name ≡ y.name → argument_types x ≡ argument_types y

-- ---- the whole

abbrev pub RootHasType : Signature → TreeRoot → Type 0
RootHasType sig r = HasType sig r.expr r.ty

-- a guard is a truth value, and there are at most 16 arguments
pub record IsGoodTrigger (sig : Signature) (x : TreeTrigger) : Type 0 where
  pub guard : RootHasType sig x.guard
  pub truth : x.guard.ty ≡ bool
  pub args : All (RootHasType sig) x.args
  pub few : length x.args ≤ 16

pub record IsGoodStream (sig : Signature) (x : TreeStream) : Type 0 where
  pub stands : Stands sig.types x.ty
  pub initial : AreInitial sig.types x.ty x.init
  pub expr : HasType sig x.expr x.ty

pub record IsGoodDef (sig : Signature) (x : TreeDef) : Type 0 where
  pub stands : Stands sig.types x.ty
  pub expr : HasType sig x.expr x.ty

-- as many expressions as types, each of its type
abbrev pub ListHasTypes : Signature → List Term → List Ty → Type 0
ListHasTypes sig [] [] = Unit {0}
ListHasTypes sig [] (t ∷ ts) = ⊥
ListHasTypes sig (e ∷ es) [] = ⊥
ListHasTypes sig (e ∷ es) (t ∷ ts) = HasType sig e t × ListHasTypes sig es ts

-- the form's bounds and operands, also where no expression names the form
pub record IsGoodLib (sig : Signature) (x : TreeLib) : Type 0 where
  pub form : IsGoodForm x.form
  pub args : ListHasTypes sig x.args (operand_types x.form)

-- each expression has the type that is written with it, each number names something, and names, initial values, drops,
-- bounds and counts are as the language wants them
pub record WellTyped (s : SpecValue) : Type 0 where
  pub types : IsTypeList s.types
  pub ordered : Ordered s.nodes s.libs
  pub nodes : (i : ℕ) → i < length s.nodes → (t : Ty) × HasType (signature_of (trees s)) (tree s.nodes s.libs i) t
  pub externs : All (λ (x : ExternItem). Stands s.types x.ty) s.externs
  pub streams : All (IsGoodStream (signature_of (trees s))) (trees s).streams
  pub defs : All (IsGoodDef (signature_of (trees s))) (trees s).defs
  pub triggers : All (IsGoodTrigger (signature_of (trees s))) (trees s).triggers
  pub observers : All (λ (x : TreeObserver). RootHasType (signature_of (trees s)) x.root) (trees s).observers
  pub libs : All (IsGoodLib (signature_of (trees s))) (trees s).libs
  pub names : HasGoodNames s
