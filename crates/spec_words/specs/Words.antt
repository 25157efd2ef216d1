-- The words of versions, truth values, scalars, operators and forms: which word each has, and what a word stands for.
use Rattle.std.specs.Prelude.{ℕ, ◌==◌, if◌then◌else◌, List, [], ◌∷◌, codes, bytes_eq, find, Option, Some, None}
use Rattle.stream_types.specs.declared.scalar.Scalar.{Scalar}
use Rattle.stream_types.specs.declared.scalar.Scalar.TheVariants as scalar
use Rattle.stream_types.specs.declared.scalar.Op1.{Op1}
use Rattle.stream_types.specs.declared.scalar.Op1.TheVariants as op1
use Rattle.stream_types.specs.declared.scalar.Op2.{Op2}
use Rattle.stream_types.specs.declared.scalar.Op2.TheVariants as op2
use Rattle.stream_types.specs.declared.scalar.Dir.{Dir}
use Rattle.stream_types.specs.declared.scalar.Dir.TheVariants as dir
use Rattle.spec_words.specs.declared.head.DeclHead.{DeclHead}
use Rattle.spec_words.specs.declared.head.DeclHead.TheVariants as decl
use Rattle.spec_words.specs.declared.head.ConstHead.{ConstHead}
use Rattle.spec_words.specs.declared.head.ConstHead.TheVariants as constant
use Rattle.spec_words.specs.declared.head.Single.{Single as SingleHead}
use Rattle.spec_words.specs.declared.head.Single.TheVariants as single
use Rattle.spec_words.specs.declared.head.Pair.{Pair as PairHead}
use Rattle.spec_words.specs.declared.head.Pair.TheVariants as pair
use Rattle.spec_words.specs.declared.head.Bounded.{Bounded as BoundedHead}
use Rattle.spec_words.specs.declared.head.Bounded.TheVariants as bounded
use Rattle.spec_words.specs.declared.head.Vote.{Vote as VoteHead}
use Rattle.spec_words.specs.declared.head.Vote.TheVariants as vote
use Rattle.spec_words.specs.declared.head.Window.{Window as WindowHead}
use Rattle.spec_words.specs.declared.head.Window.TheVariants as window
use Rattle.spec_words.specs.declared.head.Head.{Head}
use Rattle.spec_words.specs.declared.head.Head.TheVariants as head

-- ---- versions and truth values

-- the word that begins a text of a version
abbrev pub spec_word : ℕ → List ℕ
spec_word version = if version == 1 then codes "spec" else codes "spec2"

abbrev pub version_of : List ℕ → Option ℕ
version_of text = if bytes_eq text (codes "spec") then Some 1 else if bytes_eq text (codes "spec2") then Some 2 else None

abbrev pub truth_text : ℕ → List ℕ
truth_text w = if w == 0 then codes "false" else codes "true"

abbrev pub truth_of : List ℕ → Option ℕ
truth_of text = if bytes_eq text (codes "true") then Some 1 else if bytes_eq text (codes "false") then Some 0 else None

-- ---- scalars

abbrev pub scalar_word : Scalar → List ℕ
scalar_word scalar.Bool = codes "Bool"
scalar_word scalar.Int8 = codes "Int8"
scalar_word scalar.Int16 = codes "Int16"
scalar_word scalar.Int32 = codes "Int32"
scalar_word scalar.Int64 = codes "Int64"
scalar_word scalar.Word8 = codes "Word8"
scalar_word scalar.Word16 = codes "Word16"
scalar_word scalar.Word32 = codes "Word32"
scalar_word scalar.Word64 = codes "Word64"

abbrev pub scalars : List Scalar
scalars =
    scalar.Bool ∷ scalar.Int8 ∷ scalar.Int16 ∷ scalar.Int32 ∷ scalar.Int64 ∷ scalar.Word8 ∷ scalar.Word16 ∷ scalar.Word32 ∷ scalar.Word64 ∷ []

-- the scalar of a word
unfoldable pub scalar_of : List ℕ → Option Scalar
scalar_of text = find (λ s. bytes_eq (scalar_word s) text) scalars

-- ---- declarations and constants

abbrev pub decl_word : DeclHead → List ℕ
decl_word decl.Struct = codes "struct"
decl_word decl.Extern = codes "extern"
decl_word decl.Stream = codes "stream"
decl_word decl.Def = codes "def"
decl_word decl.Trigger = codes "trigger"
decl_word decl.Observer = codes "observer"

abbrev pub decl_heads : List DeclHead
decl_heads = decl.Struct ∷ decl.Extern ∷ decl.Stream ∷ decl.Def ∷ decl.Trigger ∷ decl.Observer ∷ []

-- the form of declaration that a word begins
unfoldable pub decl_head : List ℕ → Option DeclHead
decl_head text = find (λ h. bytes_eq (decl_word h) text) decl_heads

abbrev pub const_word : ConstHead → List ℕ
const_word constant.Array = codes "array"
const_word constant.Record = codes "record"

abbrev pub const_heads : List ConstHead
const_heads = constant.Array ∷ constant.Record ∷ []

-- the form of constant that a word begins
unfoldable pub const_head : List ℕ → Option ConstHead
const_head text = find (λ h. bytes_eq (const_word h) text) const_heads

-- ---- expressions

abbrev pub op1_word : Op1 → List ℕ
op1_word op1.Not = codes "not"
op1_word op1.BitNot = codes "~"

abbrev pub op2_word : Op2 → List ℕ
op2_word op2.Add = codes "+"
op2_word op2.Sub = codes "-"
op2_word op2.Mul = codes "*"
op2_word op2.Quot = codes "quot"
op2_word op2.Rem = codes "rem"
op2_word op2.BitAnd = codes "&"
op2_word op2.BitOr = codes "|"
op2_word op2.BitXor = codes "^"
op2_word op2.Eq = codes "=="
op2_word op2.Ne = codes "/="
op2_word op2.Lt = codes "<"
op2_word op2.Le = codes "<="
op2_word op2.Gt = codes ">"
op2_word op2.Ge = codes ">="

abbrev pub dir_word : Dir → List ℕ
dir_word dir.Left = codes "<<"
dir_word dir.Right = codes ">>"

abbrev pub single_word : SingleHead → List ℕ
single_word (single.Un op) = op1_word op
single_word single.Abs = codes "abs"
single_word single.Sign = codes "sign"
single_word single.Once = codes "once"
single_word single.Historically = codes "historically"
single_word single.Yesterday = codes "yesterday"
single_word single.WeaklyYesterday = codes "weakly-yesterday"

abbrev pub pair_word : PairHead → List ℕ
pair_word (pair.Bin op) = op2_word op
pair_word (pair.Shift d) = dir_word d
pair_word pair.And = codes "and"
pair_word pair.Or = codes "or"
pair_word pair.Implies = codes "implies"
pair_word pair.Index = codes "index"
pair_word pair.Since = codes "since"

abbrev pub bounded_word : BoundedHead → List ℕ
bounded_word bounded.Once = codes "once-in"
bounded_word bounded.Historically = codes "historically-in"

abbrev pub vote_word : VoteHead → List ℕ
vote_word vote.Majority = codes "majority"
vote_word vote.Agreed = codes "agreed"

abbrev pub window_word : WindowHead → List ℕ
window_word window.Max = codes "window-max"
window_word window.Min = codes "window-min"
window_word window.Sum = codes "window-sum"

abbrev pub head_word : Head → List ℕ
head_word head.Drop = codes "drop"
head_word (head.Single h) = single_word h
head_word (head.Pair h) = pair_word h
head_word head.If = codes "if"
head_word head.Cast = codes "cast"
head_word head.Field = codes "field"
head_word head.Array = codes "array"
head_word head.Record = codes "record"
head_word (head.Bounded h) = bounded_word h
head_word head.SinceIn = codes "since-in"
head_word head.Clock = codes "clock"
head_word (head.Vote h) = vote_word h
head_word (head.Window h) = window_word h

abbrev pub heads : List Head
heads =
    head.Drop
    ∷ head.Single (single.Un op1.Not) ∷ head.Single (single.Un op1.BitNot)
    ∷ head.Pair (pair.Bin op2.Add) ∷ head.Pair (pair.Bin op2.Sub) ∷ head.Pair (pair.Bin op2.Mul)
    ∷ head.Pair (pair.Bin op2.Quot) ∷ head.Pair (pair.Bin op2.Rem)
    ∷ head.Pair (pair.Bin op2.BitAnd) ∷ head.Pair (pair.Bin op2.BitOr) ∷ head.Pair (pair.Bin op2.BitXor)
    ∷ head.Pair (pair.Shift dir.Left) ∷ head.Pair (pair.Shift dir.Right)
    ∷ head.Pair (pair.Bin op2.Eq) ∷ head.Pair (pair.Bin op2.Ne) ∷ head.Pair (pair.Bin op2.Lt)
    ∷ head.Pair (pair.Bin op2.Le) ∷ head.Pair (pair.Bin op2.Gt) ∷ head.Pair (pair.Bin op2.Ge)
    ∷ head.Pair pair.And ∷ head.Pair pair.Or ∷ head.Pair pair.Implies
    ∷ head.If ∷ head.Cast ∷ head.Single single.Abs ∷ head.Single single.Sign
    ∷ head.Pair pair.Index ∷ head.Field ∷ head.Array ∷ head.Record
    ∷ head.Single single.Once ∷ head.Single single.Historically ∷ head.Single single.Yesterday
    ∷ head.Single single.WeaklyYesterday ∷ head.Pair pair.Since
    ∷ head.Bounded bounded.Once ∷ head.Bounded bounded.Historically ∷ head.SinceIn
    ∷ head.Clock ∷ head.Vote vote.Majority ∷ head.Vote vote.Agreed
    ∷ head.Window window.Max ∷ head.Window window.Min ∷ head.Window window.Sum ∷ []

-- the form of expression that a word begins
unfoldable pub head_of : List ℕ → Option Head
head_of text = find (λ h. bytes_eq (head_word h) text) heads

-- the word that begins the type of an array
abbrev pub array_word : List ℕ
array_word = codes "array"
