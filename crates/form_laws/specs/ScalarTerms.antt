-- Expressions of a scalar's type, by their values.
use Rattle.std.specs.Prelude.{ℕ, List, [], ◌∷◌, ◌≡◌, IsTrue, Ok}
use Rattle.stream_types.specs.declared.scalar.Scalar.{Scalar}
use Rattle.stream_types.specs.Numbers.{is_word}
use Rattle.stream_core.specs.Term.{Term}
use Rattle.stream_core.specs.Eval.{Moment, value}

-- The value of an expression, if there is one, is one word of the scalar.
abbrev pub HasWord : Moment → Scalar → Term → Type 0
HasWord m s e = (v : List ℕ) → value m e ≡ Ok v → (w : ℕ) × (v ≡ w ∷ []) × IsTrue (is_word s w)
