use Rattle.std.proofs.Common.{◌≡◌, ◌∷◌, map, take}
use Rattle.stream_types.specs.declared.types.Field.{Field}
use Rattle.extern_rows.specs.declared.event.Piece.TheVariants.{Open, Comma}
use Rattle.extern_rows.specs.ValueTexts.{parted, pieces_at}
use Rattle.c_runner.specs.Read.{read_field}
use Rattle.c_runner.proofs.shapes.member_pieces.Given as goal

abbrev pub invariant-loop-number : goal.invariant-loop-number
invariant-loop-number l = l.out.items
    ≡ Open 123 ∷ parted Comma (map (λ (f : Field). pieces_at l.table f.ty) (map (read_field l.types) (take l.number l.fields)))
