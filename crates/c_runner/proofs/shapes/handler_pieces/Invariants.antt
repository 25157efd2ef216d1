use Rattle.std.proofs.Common.{◌≡◌, ◌∷◌, map, take}
use Rattle.std.specs.List.{flat_map}
use Rattle.c99_tree.specs.declared.types.CProto.{CProto}
use Rattle.c99_tree.specs.declared.types.CTy.{CTy}
use Rattle.extern_rows.specs.declared.event.Piece.TheVariants.{Gap}
use Rattle.extern_rows.specs.ValueTexts.{pieces_at}
use Rattle.c_runner.specs.Read.{read_type}
use Rattle.c_runner.proofs.shapes.handler_pieces.Given as goal

abbrev pub invariant-loop-h : goal.invariant-loop-h
invariant-loop-h l = l.all ≡ map (λ (h : CProto). flat_map (λ (x : CTy). Gap ∷ pieces_at l.table (read_type l.types x)) h.params) (take l.h-index l.handlers)
