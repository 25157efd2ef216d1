-- What stands at the front of a text: fixed bytes, words, numbers, names and lines.
use Rattle.std.specs.Prelude.{ℕ, zero, suc, Bool, true, false, not, ◌&&◌, ◌==◌, nat_le, if◌then◌else◌, List, [], ◌∷◌, ◌++◌, length, Option, Some, None}
use Rattle.std.specs.Str.Parse.{digits_value}
use Rattle.std.specs.List.{list_all}
use Rattle.sm_io.specs.Names.{is_name_byte}
use Rattle.sm_io.specs.Words.{is_name}
use Rattle.c99_tree.specs.Words.{is_digit, is_ring_name, is_element}

infixl 10 ◌>>=◌
abbrev pub ◌>>=◌ : {A B : Type 0} → Option A → (A → Option B) → Option B
(Some x) >>= f = f x
None >>= f = None

-- what stands behind these bytes
unfoldable pub behind : List ℕ → List ℕ → Option (List ℕ)
behind [] s = Some s
behind (a ∷ p) [] = None
behind (a ∷ p) (b ∷ s) = if a == b then behind p s else None

-- the letters, digits and _ at the front, and the rest
unfoldable pub word : List ℕ → List ℕ
word [] = []
word (b ∷ bs) = if is_name_byte b then b ∷ word bs else []

unfoldable pub after_word : List ℕ → List ℕ
after_word [] = []
after_word (b ∷ bs) = if is_name_byte b then after_word bs else b ∷ bs

-- the bytes up to a space, and the rest
unfoldable pub token : List ℕ → List ℕ
token [] = []
token (b ∷ bs) = if b == 32 then [] else b ∷ token bs

unfoldable pub after_token : List ℕ → List ℕ
after_token [] = []
after_token (b ∷ bs) = if b == 32 then b ∷ bs else after_token bs

-- the digits at the front, and the rest
unfoldable pub number : List ℕ → List ℕ
number [] = []
number (b ∷ bs) = if is_digit b then b ∷ number bs else []

unfoldable pub after_number : List ℕ → List ℕ
after_number [] = []
after_number (b ∷ bs) = if is_digit b then after_number bs else b ∷ bs

-- ---- numbers

-- a decimal without leading zeros
abbrev pub is_number : List ℕ → Bool
is_number [] = false
is_number (d ∷ []) = true
is_number (d ∷ e ∷ ds) = not (d == 48)

-- the number that these bytes write, where it is at most this
unfoldable pub number_of : ℕ → List ℕ → Option ℕ
number_of most ds =
    if list_all is_digit ds && is_number ds && nat_le (digits_value 10 ds) most then Some (digits_value 10 ds) else None

-- a number of 32 bits
unfoldable pub number_at : List ℕ → Option (ℕ × List ℕ)
number_at s = number_of 4294967295 (word s) >>= λ n. Some (n, after_word s)

-- ---- names

unfoldable pub name_at : List ℕ → Option (List ℕ × List ℕ)
name_at s = if is_name (word s) then Some (word s, after_word s) else None

unfoldable pub ring_name_at : List ℕ → Option (List ℕ × List ℕ)
ring_name_at s = if is_ring_name (word s) then Some (word s, after_word s) else None

-- what stands before the last _, and behind it
abbrev pub longer : ℕ → List ℕ → Option (List ℕ × List ℕ) → Option (List ℕ × List ℕ)
longer b bs (Some p) = Some (b ∷ p.0, p.1)
longer b bs None = if b == 95 then Some ([], bs) else None

unfoldable pub last_split : List ℕ → Option (List ℕ × List ℕ)
last_split [] = None
last_split (b ∷ bs) = longer b bs (last_split bs)

-- the word of an array's elements and its length, in the name of its type
unfoldable pub array_of : List ℕ → Option (List ℕ × ℕ)
array_of w =
    last_split w >>= λ p. if is_element p.0 then number_of 4294967295 p.1 >>= (λ n. Some (p.0, n)) else None

-- ---- lines

-- these before those that were found
abbrev pub after_all : {A : Type 0} → List A → Option (List A × List ℕ) → Option (List A × List ℕ)
after_all done None = None
after_all done (Some b) = Some (done ++ b.0, b.1)

-- as many as there are that begin so, and what stands behind them
unfoldable pub many : {A : Type 0} → (List ℕ → Bool) → (List ℕ → Option (A × List ℕ)) → ℕ → List ℕ → Option (List A × List ℕ)
many test r zero s = None
many test r (suc n) s = if test s then r s >>= (λ a. after_all (a.0 ∷ []) (many test r n a.1)) else Some ([], s)

abbrev pub all_at : {A : Type 0} → (List ℕ → Bool) → (List ℕ → Option (A × List ℕ)) → List ℕ → Option (List A × List ℕ)
all_at test r s = many test r (length s) s

abbrev pub is_found : Option (List ℕ) → Bool
is_found None = false
is_found (Some r) = true

abbrev pub begins : List ℕ → List ℕ → Bool
begins p s = is_found (behind p s)
