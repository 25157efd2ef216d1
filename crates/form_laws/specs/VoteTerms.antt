-- Votes of a scalar's type, by their values.
use Rattle.std.specs.Prelude.{◌≤◌}
use Rattle.std.specs.List.{AllByRecursion}
use Rattle.stream_types.specs.declared.scalar.Scalar.{Scalar}
use Rattle.stream_core.specs.Term.{Terms}
use Rattle.stream_core.specs.Children.{term_list}
use Rattle.stream_core.specs.WellTyped.{terms_length}
use Rattle.stream_core.specs.Eval.{Moment}
use Rattle.form_laws.specs.ScalarTerms.{HasWord}

-- As many votes as a Word8 counts at most (the types allow 1 to 9), each of which is one word of the scalar, if it has a value.
abbrev pub HaveVotes : Moment → Scalar → Terms → Type 0
HaveVotes m s es = (terms_length es ≤ 255) × AllByRecursion (HasWord m s) (term_list es)
