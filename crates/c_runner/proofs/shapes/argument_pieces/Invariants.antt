use Rattle.std.proofs.Common.{◌≡◌, ◌∷◌, take}
use Rattle.std.specs.List.{flat_map}
use Rattle.c99_tree.specs.declared.types.CTy.{CTy}
use Rattle.extern_rows.specs.declared.event.Piece.TheVariants.{Gap}
use Rattle.extern_rows.specs.ValueTexts.{pieces_at}
use Rattle.c_runner.specs.Read.{read_type}
use Rattle.c_runner.proofs.shapes.argument_pieces.Given as goal

abbrev pub invariant-loop-ty : goal.invariant-loop-ty
invariant-loop-ty l = l.out.items ≡ flat_map (λ (x : CTy). Gap ∷ pieces_at l.table (read_type l.types x)) (take l.ty-index l.params)
