-- An expression of a height is read over its parts.
use Rattle.std.proofs.Common.{◌≡◌, ℕ, zero, suc, ◌&&◌, eqb, List, None, refl, codes, arith}
use Rattle.std.specs.Prelude.{if◌then◌else◌}
use Rattle.std.proofs.lemmas.Bool.{ne_eqb}
use Rattle.c99_read.specs.Front.{word, after_word, begins}
use Rattle.c99_read.specs.ExprAt.{level, expr_at, part_at, at_word}

pub expr_at-is : (n : ℕ) (bytes : List ℕ) → expr_at n bytes ≡ (if eqb n 0 && begins (codes "(") bytes then None else at_word (part_at n) (word bytes) (after_word bytes))
unfolding part_at expr_at level
expr_at-is zero bytes = refl
expr_at-is (suc n) bytes = rw (ne_eqb (suc n) 0 (λ e. absurd (omega arith))) refl

pub ruleset level_laws = (expr_at-is)
