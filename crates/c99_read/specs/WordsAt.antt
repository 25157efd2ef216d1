-- Reading a constant at the front of a text, as the words of its value.
use Rattle.std.specs.Prelude.{ℕ, zero, suc, ◌-◌, ◌^◌, nat_le, if◌then◌else◌, List, [], ◌∷◌, ◌++◌, codes, Option, Some, None}
use Rattle.c99_tree.specs.declared.types.CScalar.{CScalar}
use Rattle.c99_tree.specs.declared.types.CScalar.TheVariants as t
use Rattle.c99_tree.specs.Words.{is_same}
use Rattle.c99_tree.specs.Values.{Shape, Shapes, scalar, members, elements, no_shape, and_shape}
use Rattle.c99_read.specs.Front.{◌>>=◌, behind, word, after_word, number, after_number, number_of}

abbrev pub FoundWords : Type 0
FoundWords = Option (List ℕ × List ℕ)

-- a number of at most this, with the suffix of its type
unfoldable pub tailed_at : List ℕ → ℕ → List ℕ → Option (ℕ × List ℕ)
tailed_at tail most s =
    if is_same (after_number (word s)) tail then number_of most (number (word s)) >>= (λ n. Some (n, after_word s)) else None

abbrev pub unsigned_at : List ℕ → ℕ → List ℕ → FoundWords
unsigned_at tail most s = tailed_at tail most s >>= λ n. Some (n.0 ∷ [], n.1)

-- behind `((-`: the number is less by 1 than what is written
abbrev pub negative_at : List ℕ → ℕ → List ℕ → FoundWords
negative_at tail most s =
    tailed_at tail most s >>= λ n. behind (codes ") - 1" ++ tail ++ codes ")") n.1 >>= λ r. Some ((2 ^ 64 - 1 - n.0) ∷ [], r)

abbrev pub signed_by : ℕ → List ℕ → ℕ → List ℕ → Option (List ℕ) → FoundWords
signed_by depth tail most s None = unsigned_at tail most s
signed_by depth tail most s (Some r) = if nat_le 2 depth then negative_at tail most r else None

abbrev pub signed_at : ℕ → List ℕ → ℕ → List ℕ → FoundWords
signed_at depth tail most s = signed_by depth tail most s (behind (codes "((-") s)

abbrev pub bool_of : List ℕ → List ℕ → FoundWords
bool_of w rest =
    if is_same w (codes "false") then Some (0 ∷ [], rest) else (if is_same w (codes "true") then Some (1 ∷ [], rest) else None)

-- the word of a scalar's constant of at most this height
unfoldable pub word_at : ℕ → CScalar → List ℕ → FoundWords
word_at depth t.Bool s = bool_of (word s) (after_word s)
word_at depth t.I8 s = signed_at depth [] (2 ^ 7 - 1) s
word_at depth t.I16 s = signed_at depth [] (2 ^ 15 - 1) s
word_at depth t.I32 s = signed_at depth [] (2 ^ 31 - 1) s
word_at depth t.I64 s = signed_at depth (codes "LL") (2 ^ 63 - 1) s
word_at depth t.U8 s = unsigned_at (codes "U") (2 ^ 8 - 1) s
word_at depth t.U16 s = unsigned_at (codes "U") (2 ^ 16 - 1) s
word_at depth t.U32 s = unsigned_at (codes "U") (2 ^ 32 - 1) s
word_at depth t.U64 s = unsigned_at (codes "ULL") (2 ^ 64 - 1) s

-- one thing behind a separator, and then others
abbrev pub words_then : (List ℕ → FoundWords) → (List ℕ → FoundWords) → List ℕ → List ℕ → FoundWords
words_then first others before s =
    behind before s >>= λ r. first r >>= λ a. others a.1 >>= λ b. Some (a.0 ++ b.0, b.1)

unfoldable pub times_at : ℕ → (List ℕ → FoundWords) → List ℕ → List ℕ → FoundWords
times_at zero f before s = Some ([], s)
times_at (suc n) f before s = words_then f (times_at n f (codes ", ")) before s

abbrev pub between : List ℕ → List ℕ → (List ℕ → FoundWords) → List ℕ → FoundWords
between open' close f s = behind open' s >>= λ r. f r >>= λ a. behind close a.1 >>= λ x. Some (a.0, x)

-- the words of a constant of this shape and at most this height
unfoldable mutual
  pub words_at : ℕ → Shape → List ℕ → FoundWords
  words_at depth (scalar t) s = word_at depth t s
  words_at zero (members shapes) s = None
  words_at (suc depth) (members shapes) s = between (codes "{ ") (codes " }") (all_words_at depth shapes []) s
  words_at zero (elements n shape) s = None
  words_at (suc zero) (elements n shape) s = None
  words_at (suc (suc depth)) (elements n shape) s =
      between (codes "{ { ") (codes " } }") (times_at n (words_at depth shape) []) s

  pub all_words_at : ℕ → Shapes → List ℕ → List ℕ → FoundWords
  all_words_at depth no_shape before s = Some ([], s)
  all_words_at depth (and_shape shape shapes) before s =
      words_then (words_at depth shape) (all_words_at depth shapes (codes ", ")) before s

-- the same where there may be no shape
abbrev pub shaped_at : ℕ → Option Shape → List ℕ → FoundWords
shaped_at depth o s = o >>= λ a. words_at depth a s

abbrev pub all_shaped : ℕ → Option Shapes → List ℕ → List ℕ → FoundWords
all_shaped depth o before s = o >>= λ a. all_words_at depth a before s

abbrev pub times_shaped : ℕ → ℕ → Option Shape → List ℕ → List ℕ → FoundWords
times_shaped depth n o before s = o >>= λ a. times_at n (words_at depth a) before s

-- the members of a struct in braces
abbrev pub braced_at : ℕ → Option Shapes → List ℕ → FoundWords
braced_at depth o s = o >>= λ a. between (codes "{ ") (codes " }") (all_words_at depth a []) s
