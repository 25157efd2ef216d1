-- The size of what a test chooses.
use Rattle.std.proofs.Common.{ℕ}
use Rattle.stream_core.specs.Value.{SpecValue}
use Rattle.stream_core.proofs.NodeSizes.{size}
use Rattle.stream_interp.specs.declared.values.Branch.{Branch}
use Rattle.stream_interp.specs.declared.values.Branch.TheVariants as branch

abbrev pub branch_size : SpecValue → Branch → ℕ
branch_size s (branch.Node i) = size s i
branch_size s (branch.Word w) = 0
