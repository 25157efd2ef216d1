use Rattle.std.proofs.Common.{◌∙◌, arith}
use Rattle.stream_interp.proofs.RingEntries.{entry_there, only_word}
use Rattle.stream_interp.proofs.reads.entry_word.Goals as goal

pub read-requires-clause-ring : goal.read-requires-clause-ring
read-requires-clause-ring c = (entry_there c.args.sight.now.spec.now c.args.sight.now.rings.now c.args.sight.now.row.now c.requires.seen c.args.stream c.args.k c.requires.typed.0 c.requires.typed.1).ring

pub read-requires-clause-row : goal.read-requires-clause-row
read-requires-clause-row c = (entry_there c.args.sight.now.spec.now c.args.sight.now.rings.now c.args.sight.now.row.now c.requires.seen c.args.stream c.args.k c.requires.typed.0 c.requires.typed.1).row

pub read-requires-clause-word : goal.read-requires-clause-word
read-requires-clause-word c =
    let wide = (entry_there c.args.sight.now.spec.now c.args.sight.now.rings.now c.args.sight.now.row.now c.requires.seen c.args.stream c.args.k c.requires.typed.0 c.requires.typed.1).wide in
    omega (arith, wide, c.requires.typed.2)

pub returns : goal.returns
returns c =
    let wide = (entry_there c.args.sight.now.spec.now c.args.sight.now.rings.now c.args.sight.now.row.now c.requires.seen c.args.stream c.args.k c.requires.typed.0 c.requires.typed.1).wide in
    only_word _ c.read.result (wide ∙ c.requires.typed.2) c.read.ensures
