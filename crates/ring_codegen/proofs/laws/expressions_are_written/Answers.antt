use Rattle.std.specs.Fmt.{digits}
use Rattle.c99_tree.specs.TreeLaws.{tree_laws}
use Rattle.ring_codegen.proofs.laws.expressions_are_written.Goals as goal

pub returns : goal.returns
unfolding digits
returns c = simp tree_laws
