-- What reading an expression answers.
use Rattle.std.specs.Prelude.{◌≡◌, ℕ, List, IsTrue, Result, Ok, Err}
use Rattle.c99_tree.specs.declared.expr.CExpr.{CExpr}
use Rattle.c99_tree.specs.Tree.{tree}
use Rattle.c99_tree.specs.Spelling.{text, is_spelled_here}
use Rattle.c99_read.specs.declared.fault.ReadExpressionFault.{ReadExpressionFault}
use Rattle.c99_read.specs.declared.fault.ReadExpressionFault.TheVariants as fault

-- the expression has a spelling, which is this text
abbrev pub IsText : List ℕ → CExpr → Type 0
IsText s e = (s ≡ text (tree e)) × IsTrue (is_spelled_here (tree e))

-- why no expression was read; of want of memory nothing is said
abbrev pub RefusesExpression : List ℕ → ReadExpressionFault → Type 0
RefusesExpression s fault.NotExpression = (e : CExpr) → IsText s e → ⊥
RefusesExpression s fault.Memory = Unit {0}

-- the one expression that has this text, where there is one
abbrev pub ReadsExpression : List ℕ → Result CExpr ReadExpressionFault → Type 0
ReadsExpression s (Ok e) = IsText s e × ((a : CExpr) → IsText s a → a ≡ e)
ReadsExpression s (Err e) = RefusesExpression s e
