-- Which bytes are a name.
use Rattle.std.specs.Prelude.{ℕ, Bool, ◌&&◌, ◌||◌, not, false, nat_le, nat_eq, List, [], ◌∷◌, length, codes, slice_get}
use Rattle.std.specs.Option.{option_map_or}
use Rattle.std.specs.List.{list_any, list_all, starts_with, ends_with}
use Rattle.sm_io.specs.Names.{is_name_byte}
use Rattle.std.specs.Cmp.Lexicographic.{pointwise}

abbrev pub is_letter : ℕ → Bool
is_letter b = (nat_le 65 b && nat_le b 90) || (nat_le 97 b && nat_le b 122)

-- a letter, and then bytes of names, at most 31 in all
abbrev pub is_word : List ℕ → Bool
is_word bytes = option_map_or is_letter (slice_get bytes 0) false && nat_le (length bytes) 31 && list_all is_name_byte bytes

abbrev pub is_among : List (List ℕ) → List ℕ → Bool
is_among words bytes = list_any (λ word. pointwise nat_eq word bytes) words

abbrev pub has_front : List (List ℕ) → List ℕ → Bool
has_front fronts bytes = list_any (starts_with nat_eq bytes) fronts

abbrev pub has_end : List (List ℕ) → List ℕ → Bool
has_end ends bytes = list_any (ends_with nat_eq bytes) ends

-- the words of C, and those that the tool keeps
unfoldable pub reserved : List (List ℕ)
reserved =
    codes "auto" ∷ codes "break" ∷ codes "case" ∷ codes "char" ∷ codes "const" ∷ codes "continue"
    ∷ codes "default" ∷ codes "do" ∷ codes "double" ∷ codes "else" ∷ codes "enum" ∷ codes "extern"
    ∷ codes "float" ∷ codes "for" ∷ codes "goto" ∷ codes "if" ∷ codes "inline" ∷ codes "int" ∷ codes "long"
    ∷ codes "register" ∷ codes "restrict" ∷ codes "return" ∷ codes "short" ∷ codes "signed" ∷ codes "sizeof"
    ∷ codes "static" ∷ codes "struct" ∷ codes "switch" ∷ codes "typedef" ∷ codes "union" ∷ codes "unsigned"
    ∷ codes "void" ∷ codes "volatile" ∷ codes "while" ∷ codes "bool" ∷ codes "true" ∷ codes "false"
    ∷ codes "step" ∷ codes "main" ∷ codes "Bool" ∷ codes "Int8" ∷ codes "Int16" ∷ codes "Int32"
    ∷ codes "Int64" ∷ codes "Word8" ∷ codes "Word16" ∷ codes "Word32" ∷ codes "Word64" ∷ codes "Float"
    ∷ codes "Double" ∷ codes "array" ∷ []

-- how the words of C's limits begin and end
unfoldable pub limit_fronts : List (List ℕ)
limit_fronts = codes "INT" ∷ codes "UINT" ∷ codes "PTRDIFF" ∷ codes "SIG_ATOMIC" ∷ codes "SIZE" ∷ codes "WCHAR" ∷ codes "WINT" ∷ []

unfoldable pub limit_ends : List (List ℕ)
limit_ends = codes "_MAX" ∷ codes "_MIN" ∷ codes "_C" ∷ []

-- the words that are no names
abbrev pub is_kept : List ℕ → Bool
is_kept bytes =
    is_among reserved bytes || has_front (codes "cp_" ∷ codes "CP_" ∷ []) bytes || has_end (codes "_t" ∷ []) bytes
    || (has_front limit_fronts bytes && has_end limit_ends bytes)

abbrev pub is_name : List ℕ → Bool
is_name bytes = is_word bytes && not (is_kept bytes)
