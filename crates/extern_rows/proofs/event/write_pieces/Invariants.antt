use Rattle.std.proofs.Common.{◌≡◌, List, ℕ, ◌++◌, drop, true}
use Rattle.sm_io.specs.Written.{WritesText}
use Rattle.extern_rows.specs.Events.{Fits, pieces_text}
use Rattle.extern_rows.proofs.event.write_pieces.Given as goal

abbrev pub invariant-loop-piece : goal.invariant-loop-piece
invariant-loop-piece g l = (front : List ℕ) × WritesText (g.K.Sink.taken l.fn.sink) (g.K.Sink.taken l.sink) (g.K.Sink.faults l.fn.sink) (g.K.Sink.faults l.sink) true front
    × (front ++ pieces_text (drop l.piece-index l.shape) l.rest ≡ pieces_text l.shape l.words) × Fits (drop l.piece-index l.shape) l.rest
