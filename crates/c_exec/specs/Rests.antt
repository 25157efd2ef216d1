-- What is left of an expression of two operands once the left one's words are on the pile.
use Rattle.std.specs.Prelude.{ℕ, List, [], ◌∷◌, if◌then◌else◌, Ok}
use Rattle.c99_tree.specs.declared.expr.CBin.{CBin}
use Rattle.c99_tree.specs.declared.types.CScalar.{CScalar}
use Rattle.c99_tree.specs.declared.types.CScalar.TheVariants as t
use Rattle.c99_tree.specs.Evaluation.{Met, done, ◌>>=◌}
use Rattle.c_exec.specs.Codes.{Op}
use Rattle.c_exec.specs.Going.{go, put_result, keep_element}
use Rattle.c_exec.specs.Piles.{top, below, put_on}
use Rattle.c_exec.specs.WordNumbers.{binary_word, is_decided, decision, subscript}

-- the right operand of a binary operator, unless the left one's word decides
abbrev pub right_of : ℕ → List ℕ → CBin → CScalar → CScalar → Op → List ℕ → Met (List ℕ)
right_of room ws op s t b x =
    if is_decided op (top x) then done (Ok (put_on room (below x) (decision op ∷ [])))
    else (go room ws b x >>= λ y. done (put_result room (below (below y)) (binary_word op s t (top (below y)) (top y))))

-- the subscript of an array whose words begin at a base
abbrev pub place_of : ℕ → List ℕ → ℕ → ℕ → ℕ → Op → List ℕ → Met (List ℕ)
place_of room ws base n len i x = go room ws i x >>= λ y. done (keep_element base n (below y) (subscript t.U32 (top y) len))
