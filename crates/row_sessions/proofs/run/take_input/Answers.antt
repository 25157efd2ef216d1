use Rattle.std.proofs.Common.{◌∙◌, ◌++◌, take, sym, ap, arith}
use Rattle.std.proofs.lemmas.Bool.Decides.{nat_tests}
use Rattle.std.proofs.lemmas.Result.{err_from_is_err_and}
use Rattle.sm_io.specs.Known.{before_known}
use Rattle.row_sessions.proofs.Parts.{input_fails}
use Rattle.row_sessions.proofs.ReadPieces.{still_goes, two_reads, no_read, piece_goes, piece_ends}
use Rattle.row_sessions.proofs.run.take_input.Goals as goal

pub returns-in-Ok-eq0-clause-taken : goal.returns-in-Ok-eq0-clause-taken
returns-in-Ok-eq0-clause-taken g c = λ first text s.
    let p = c.loop-count.invariant.stands first text s in (
      p.0,
      no_read (g.S.Source.left c.args.input.now) (g.S.Source.left c.loop-count.input) (g.S.Source.left c.read_some.new.source) p.0 c.in-Ok-eq0.field-0 c.read_some.new.buf p.1 (grind (arith, nat_tests, c.in-Ok-eq0.field-0-test)) c.in-Ok-eq0.ensures.bytes,
      (c.in-Ok-eq0.ensures.end (grind (arith, nat_tests, c.in-Ok-eq0.field-0-test)) (omega (arith, c.read_some.auto.buf)), p.2),
      tt,
    )

pub returns-in-Err-clause-taken : goal.returns-in-Err-clause-taken
returns-in-Err-clause-taken g c = λ first text s.
    let p = c.loop-count.invariant.stands first text s in (
      p.0,
      p.1 ∙ ap (before_known p.0) (sym c.in-Err.ensures.bytes),
      tt,
      input_fails (g.M.Stepper.answers c.args.machine.now) c.args.leaves.now first c.loop-count.lines (g.M.Stepper.stands c.loop-count.machine) (g.K.Sink.taken c.loop-count.out) (text ++ p.0) p.2,
    )

pub loop-count-preserved : goal.loop-count-preserved
loop-count-preserved g c = record {
  answers = c.in_ok-take_piece.ensures.answers ∙ c.loop-count.invariant.answers;
  scalars = c.in_ok-take_piece.ensures.scalars ∙ c.loop-count.invariant.scalars;
  goes = still_goes (g.M.Stepper.answers c.args.machine.now) (g.M.Stepper.answers c.loop-count.machine) c.args.leaves.now c.loop-count.lines c.take_piece.new.lines
      (g.M.Stepper.stands c.loop-count.machine) (g.M.Stepper.stands c.take_piece.new.machine) (g.K.Sink.taken c.loop-count.out) (g.K.Sink.taken c.take_piece.new.out)
      (take c.in-Ok.count c.read_some.new.buf) c.loop-count.invariant.answers c.in_ok-take_piece.ensures.stands c.in_ok-take_piece.ensures.fits c.loop-count.invariant.goes;
  empty = c.in_ok-take_piece.ensures.empty;
  read = c.in-Ok.ensures.cause.steady ∙ c.loop-count.invariant.read;
  faults = c.in_ok-take_piece.ensures.faults ∙ c.loop-count.invariant.faults;
  stands = λ first text s.
      let p = c.loop-count.invariant.stands first text s in (
        p.0 ++ take c.in-Ok.count c.read_some.new.buf,
        two_reads (g.S.Source.left c.args.input.now) (g.S.Source.left c.loop-count.input) (g.S.Source.left c.read_some.new.source) p.0 (take c.in-Ok.count c.read_some.new.buf) p.1 c.in-Ok.ensures.bytes,
        piece_goes (g.M.Stepper.answers c.args.machine.now) (g.M.Stepper.answers c.loop-count.machine) c.args.leaves.now c.loop-count.lines c.take_piece.new.lines
            (g.M.Stepper.stands c.loop-count.machine) (g.M.Stepper.stands c.take_piece.new.machine) (g.K.Sink.taken c.loop-count.out) (g.K.Sink.taken c.take_piece.new.out)
            first text p.0 (take c.in-Ok.count c.read_some.new.buf) c.loop-count.invariant.answers c.in_ok-take_piece.ensures.stands p.2,
      );
}

pub returns-in_err-take_piece-clause-taken : goal.returns-in_err-take_piece-clause-taken
returns-in_err-take_piece-clause-taken g c = λ first text s.
    let p = c.loop-count.invariant.stands first text s in
    let q = err_from_is_err_and c.from_residual.result c.from_residual.ensures.1 in
    rw (q.1, q.2) (
      p.0 ++ take c.in-Ok.count c.read_some.new.buf,
      two_reads (g.S.Source.left c.args.input.now) (g.S.Source.left c.loop-count.input) (g.S.Source.left c.read_some.new.source) p.0 (take c.in-Ok.count c.read_some.new.buf) p.1 c.in-Ok.ensures.bytes,
      tt,
      piece_ends (g.M.Stepper.answers c.args.machine.now) (g.M.Stepper.answers c.loop-count.machine) c.args.leaves.now c.loop-count.lines (g.M.Stepper.stands c.loop-count.machine) (g.K.Sink.taken c.loop-count.out)
          first (g.K.Sink.taken c.take_piece.new.out) text p.0 (take c.in-Ok.count c.read_some.new.buf) c.in_err-take_piece.field-0.0
          c.loop-count.invariant.answers c.in_err-take_piece.ensures.ends p.2,
    )
