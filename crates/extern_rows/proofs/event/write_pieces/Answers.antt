use Rattle.std.proofs.Common.{◌≡◌, ◌++◌, drop, get_or, ap, ◌∙◌, true, false}
use Rattle.std.proofs.lemmas.Result.{err_from_is_err_and}
use Rattle.sm_io.proofs.Written.{then_text}
use Rattle.extern_rows.specs.declared.event.Piece.{Piece}
use Rattle.extern_rows.specs.declared.event.Piece.TheVariants.{Gap}
use Rattle.extern_rows.specs.Events.{piece_text, piece_words, pieces_text}
use Rattle.extern_rows.proofs.Pieces.{fits_now, one_more, cut_short}
use Rattle.extern_rows.proofs.event.write_pieces.Goals as goal

pub returns-in_err-count : goal.returns-in_err-count
returns-in_err-count g c =
    let p = err_from_is_err_and c.from_residual.result c.from_residual.ensures.1 in
    let i = c.loop-piece.invariant in
    rw p.1 (cut_short c.args.shape.now c.loop-piece.piece-index Gap i.0 c.loop-piece.rest.now (pieces_text c.args.shape.now c.args.words.now) c.loop-piece-test.true i.2
    (then_text {whole = false} i.1 c.in_err-count.ensures.text))

pub loop-piece-preserved : goal.loop-piece-preserved
loop-piece-preserved g c =
    let i = c.loop-piece.invariant in
    let piece : Piece = get_or c.args.shape.now c.loop-piece.piece-index Gap in
    let left : c.split_at.result.1.now ≡ drop (piece_words piece) c.loop-piece.rest.now =
    c.split_at.ensures.back ∙ ap (λ n. drop n c.loop-piece.rest.now) c.in_ok-count.ensures.count in
    rw left (
      i.0 ++ piece_text piece c.loop-piece.rest.now,
      then_text {whole = true} i.1 c.in_ok-count.ensures.text,
      one_more c.args.shape.now c.loop-piece.piece-index Gap i.0 c.loop-piece.rest.now (pieces_text c.args.shape.now c.args.words.now) c.loop-piece-test.true i.2,
      (fits_now c.args.shape.now c.loop-piece.piece-index Gap c.loop-piece.rest.now c.loop-piece-test.true i.3).1,
    )
