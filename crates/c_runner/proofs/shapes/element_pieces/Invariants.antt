use Rattle.std.proofs.Common.{◌≡◌, ◌∷◌, replicate}
use Rattle.c99_tree.specs.Words.{elem_type}
use Rattle.extern_rows.specs.declared.event.Piece.TheVariants.{Open, Comma}
use Rattle.extern_rows.specs.ValueTexts.{parted, pieces_at}
use Rattle.c_runner.specs.Read.{read_type}
use Rattle.c_runner.proofs.shapes.element_pieces.Given as goal

abbrev pub invariant-loop-k : goal.invariant-loop-k
invariant-loop-k l = l.out.items ≡ Open 91 ∷ parted Comma (replicate l.k (pieces_at l.table (read_type l.types (elem_type l.elem))))
