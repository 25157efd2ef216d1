use Rattle.std.proofs.Common.{◌≡◌, ◌+◌, ◌<◌, ◌≤◌, ◌∷◌, length, drop, get_or, sym, ap, ◌∙◌, arith}
use Rattle.std.proofs.lemmas.List.{drop_all, drop_more}
use Rattle.stream_interp.specs.Roots.{streams_words}
use Rattle.stream_interp.proofs.ReadyRoots.{stream_stands}
use Rattle.stream_interp.proofs.buffers.row_words.Goals as goal

pub with_words-requires : goal.with_words-requires
with_words-requires c =
    let s = c.args.spec.now in
    let e = c.streams-stream-items.ensures in
    let i = c.loop-stream.stream-index in
    let x = c.stream-item.result in
    stream_stands s c.requires c.streams-stream-items.result.now e i x c.stream-item.is c.loop-stream-test.true

pub loop-stream-preserved : goal.loop-stream-preserved
loop-stream-preserved c =
    let s = c.args.spec.now in
    let e = c.streams-stream-items.ensures in
    let i = c.loop-stream.stream-index in
    let x = c.stream-item.result in
    let is : x ≡ get_or s.streams i x = c.stream-item.is ∙ ap (λ ys. get_or ys i x) e in
    let less : i < length s.streams = omega (arith, ap length e, c.loop-stream-test.true) in
    let more = ap (streams_words s.types) (drop_more s.streams i x less ∙ ap (λ y. y ∷ drop (i + 1) s.streams) (sym is)) in
    omega (arith, more, c.in_ok-total.ensures, c.loop-stream.invariant)

pub returns : goal.returns
returns c =
    let s = c.args.spec.now in
    let over : length s.streams ≤ c.loop-stream.stream-index = omega (arith, ap length c.streams-stream-items.ensures, c.loop-stream-test.false) in
    let z = ap (streams_words s.types) (drop_all c.loop-stream.stream-index s.streams over) in
    omega (arith, z, c.loop-stream.invariant)
