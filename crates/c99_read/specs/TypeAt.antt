-- Reading a type at the front of a text.
use Rattle.std.specs.Prelude.{ℕ, if◌then◌else◌, List, codes, Option, Some, None}
use Rattle.std.specs.List.{find}
use Rattle.sm_io.specs.Words.{is_name}
use Rattle.c99_tree.specs.declared.types.CScalar.{CScalar}
use Rattle.c99_tree.specs.declared.types.CTy.{CTy}
use Rattle.c99_tree.specs.declared.types.CTy.TheVariants as ty
use Rattle.c99_tree.specs.Words.{is_same, scalars}
use Rattle.c99_tree.specs.Spelling.{scalar_text}
use Rattle.c99_read.specs.Front.{◌>>=◌, behind, word, after_word, array_of}

unfoldable pub scalar_of : List ℕ → Option CScalar
scalar_of w = find (λ t. is_same (scalar_text t) w) scalars

abbrev pub struct_of_word : Option (List ℕ) → List ℕ → List ℕ → Option (CTy × List ℕ)
struct_of_word (Some a) w rest = array_of a >>= λ p. Some (ty.Array p.0 p.1, rest)
struct_of_word None w rest = if is_name w then Some (ty.Struct w, rest) else None

abbrev pub struct_at : List ℕ → Option (CTy × List ℕ)
struct_at s = struct_of_word (behind (codes "cp_arr_") (word s)) (word s) (after_word s)

-- a word that is struct, or the name of a scalar type
abbrev pub type_of_word : List ℕ → List ℕ → Option (CTy × List ℕ)
type_of_word w rest =
    if is_same w (codes "struct") then behind (codes " ") rest >>= struct_at
    else scalar_of w >>= λ t. Some (ty.Scalar t, rest)

unfoldable pub type_at : List ℕ → Option (CTy × List ℕ)
type_at s = type_of_word (word s) (after_word s)
