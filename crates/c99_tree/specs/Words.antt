-- Which words name things in the text, and the words of the scalar types.
use Rattle.std.specs.Prelude.{ℕ, Bool, false, ◌&&◌, ◌||◌, nat_le, nat_eq, List, [], ◌∷◌, length, codes}
use Rattle.std.specs.List.{list_all, list_any, find}
use Rattle.std.specs.Option.{option_map_or}
use Rattle.std.specs.Cmp.Lexicographic.{pointwise}
use Rattle.sm_io.specs.Words.{is_name}
use Rattle.c99_tree.specs.declared.types.CScalar.{CScalar}
use Rattle.c99_tree.specs.declared.types.CScalar.TheVariants as t
use Rattle.c99_tree.specs.declared.types.CTy.{CTy}
use Rattle.c99_tree.specs.declared.types.CTy.TheVariants as ty

-- two names are the same
abbrev pub is_same : List ℕ → List ℕ → Bool
is_same = pointwise nat_eq

-- the bytes of the digits 0, 1 and 9
abbrev pub digit_zero : ℕ
digit_zero = 48

abbrev pub digit_one : ℕ
digit_one = 49

abbrev pub digit_nine : ℕ
digit_nine = 57

abbrev pub is_digit : ℕ → Bool
is_digit b = nat_le digit_zero b && nat_le b digit_nine

-- a decimal from 1 on, without leading zeros, of at most 31 digits, as many as a name has bytes
abbrev pub is_index : List ℕ → Bool
is_index [] = false
is_index (b ∷ bs) = nat_le digit_one b && list_all is_digit (b ∷ bs) && nat_le (length bs) 30

-- the name of a ring: a name, or a decimal from 1 on
abbrev pub is_ring_name : List ℕ → Bool
is_ring_name r = is_name r || is_index r

abbrev pub scalars : List CScalar
scalars = t.Bool ∷ t.I8 ∷ t.I16 ∷ t.I32 ∷ t.I64 ∷ t.U8 ∷ t.U16 ∷ t.U32 ∷ t.U64 ∷ []

-- the word that stands for a scalar type in the name of an array type
abbrev pub word_of : CScalar → List ℕ
word_of t.Bool = codes "Bool"
word_of t.I8 = codes "Int8"
word_of t.I16 = codes "Int16"
word_of t.I32 = codes "Int32"
word_of t.I64 = codes "Int64"
word_of t.U8 = codes "Word8"
word_of t.U16 = codes "Word16"
word_of t.U32 = codes "Word32"
word_of t.U64 = codes "Word64"

-- the type of an array's elements by their word: a scalar by its word, and any other word names a struct
abbrev pub elem_type : List ℕ → CTy
elem_type x = option_map_or ty.Scalar (find (λ s. is_same (word_of s) x) scalars) (ty.Struct x)

-- the word of an array's elements: a scalar's word, or a name
abbrev pub is_element : List ℕ → Bool
is_element x = is_name x || list_any (λ s. is_same (word_of s) x) scalars
