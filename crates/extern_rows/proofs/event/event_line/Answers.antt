use Rattle.std.proofs.Common.{codes}
use Rattle.std.proofs.lemmas.Result.{err_from_is_err_and}
use Rattle.sm_io.proofs.Written.{then_text, longer}
use Rattle.extern_rows.specs.Events.{before_name, pieces_text}
use Rattle.extern_rows.proofs.event.event_line.Goals as goal

pub returns-in_err-write_unsigned : goal.returns-in_err-write_unsigned
returns-in_err-write_unsigned g c =
    let p = err_from_is_err_and c.from_residual.result c.from_residual.ensures.1 in
    rw p.1 (longer (codes "\n") (longer (pieces_text c.args.shape.now c.args.words.now) (longer c.args.name.now (longer (before_name c.args.mark) c.in_err-write_unsigned.ensures))))

pub returns-in_err-write_all : goal.returns-in_err-write_all
returns-in_err-write_all g c =
    let p = err_from_is_err_and c.from_residual-in_err-write_all.result c.from_residual-in_err-write_all.ensures.1 in
    rw (p.1, ← c.before_name.ensures) (longer (codes "\n") (longer (pieces_text c.args.shape.now c.args.words.now) (longer c.args.name.now
    (then_text c.in_ok-write_unsigned.ensures c.in_err-write_all.ensures))))

pub returns-in_err-write_all-2 : goal.returns-in_err-write_all-2
returns-in_err-write_all-2 g c =
    let p = err_from_is_err_and c.from_residual-in_err-write_all-2.result c.from_residual-in_err-write_all-2.ensures.1 in
    rw (p.1, ← c.before_name.ensures) (longer (codes "\n") (longer (pieces_text c.args.shape.now c.args.words.now)
    (then_text (then_text c.in_ok-write_unsigned.ensures c.in_ok-write_all.ensures) c.in_err-write_all-2.ensures)))

pub returns-in_err-write_pieces : goal.returns-in_err-write_pieces
returns-in_err-write_pieces g c =
    let p = err_from_is_err_and c.from_residual-in_err-write_pieces.result c.from_residual-in_err-write_pieces.ensures.1 in
    rw (p.1, ← c.before_name.ensures) (longer (codes "\n")
    (then_text (then_text (then_text c.in_ok-write_unsigned.ensures c.in_ok-write_all.ensures) c.in_ok-write_all-2.ensures) c.in_err-write_pieces.ensures))

pub returns : goal.returns
returns g c =
    rw (← c.before_name.ensures)
    (then_text (then_text (then_text (then_text c.in_ok-write_unsigned.ensures c.in_ok-write_all.ensures) c.in_ok-write_all-2.ensures) c.in_ok-write_pieces.ensures) c.write_all-3.ensures)
