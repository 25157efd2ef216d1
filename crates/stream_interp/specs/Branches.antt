-- What a test chooses.
use Rattle.std.specs.Prelude.{ℕ, [], ◌∷◌, Ok}
use Rattle.stream_types.specs.declared.scalar.Ty.{Ty}
use Rattle.stream_core.specs.Value.{SpecValue}
use Rattle.stream_core.specs.Term.{closed}
use Rattle.stream_core.specs.Eval.{Moment, Value, value}
use Rattle.stream_core.specs.Weights.{heavy}
use Rattle.stream_interp.specs.declared.values.Branch.{Branch}
use Rattle.stream_interp.specs.declared.values.Branch.TheVariants as branch
use Rattle.stream_interp.specs.Reading.{IsReady}

abbrev pub branch_value : Moment → SpecValue → Branch → Value
branch_value m s (branch.Node i) = value m (closed s i)
branch_value m s (branch.Word w) = Ok (w ∷ [])

abbrev pub branch_weight : SpecValue → Branch → ℕ
branch_weight s (branch.Node i) = heavy s i
branch_weight s (branch.Word w) = 0

-- a node is evaluated with at most n words
abbrev pub IsReadyBranch : SpecValue → ℕ → Branch → Ty → Type 0
IsReadyBranch s n (branch.Node i) t = IsReady s n i t
IsReadyBranch s n (branch.Word w) t = Unit {0}
