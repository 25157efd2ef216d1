use Rattle.std.proofs.Common.{◌++◌, List, ap, ◌∙◌}
use Rattle.stream_types.specs.declared.types.Field.{Field}
use Rattle.extern_rows.specs.declared.event.Piece.{Piece}
use Rattle.extern_rows.specs.ValueTexts.{pieces_at}
use Rattle.c_runner.specs.Read.{read_field}
use Rattle.c_runner.proofs.PartsSoFar.{parted_more}
use Rattle.c_runner.proofs.shapes.member_pieces.Goals as goal

pub loop-number-preserved : goal.loop-number-preserved
loop-number-preserved c =
    let of : Field → List Piece = λ f. pieces_at c.args.table.now f.ty in
    let x = c.index-fields-number.result in
    parted_more of (read_field c.args.types.now) c.args.fields.now c.loop-number.number x 123 c.loop-number.out.items c.push_type.new.out.items
    c.loop-number-test.true c.index-fields-number.is c.loop-number.invariant
    (c.in_ok-push_type.ensures ∙ ap (λ (r : List Piece). r ++ of (read_field c.args.types.now x)) c.in_ok-push_comma.ensures)
