-- The words of the command line.
use Rattle.std.proofs.Common.{◌≡◌, ℕ, List, [], ◌∷◌, length, refl}
use Rattle.tool_top.specs.Command.{copilot_command, ogma_command, no_command}

-- each row of `copilot` has two or three words
pub not_two_or_three : (words : List (List ℕ)) → (length words ≡ 2 → ⊥) → (length words ≡ 3 → ⊥) → no_command ≡ copilot_command words
not_two_or_three [] h k = refl
not_two_or_three (a ∷ []) h k = refl
not_two_or_three (a ∷ b ∷ []) h k = absurd (h refl)
not_two_or_three (a ∷ b ∷ c ∷ []) h k = absurd (k refl)
not_two_or_three (a ∷ b ∷ c ∷ d ∷ rest) h k = refl

-- each row of `ogma` has three words
pub not_three : (words : List (List ℕ)) → (length words ≡ 3 → ⊥) → no_command ≡ ogma_command words
not_three [] h = refl
not_three (a ∷ []) h = refl
not_three (a ∷ b ∷ []) h = refl
not_three (a ∷ b ∷ c ∷ []) h = absurd (h refl)
not_three (a ∷ b ∷ c ∷ d ∷ rest) h = refl
