use Rattle.std.proofs.Common.{◌∙◌}
use Rattle.stream_interp.proofs.RingEntries.{entry_there}
use Rattle.stream_interp.proofs.reads.copy_entry.Goals as goal

pub copy_row-requires : goal.copy_row-requires
copy_row-requires c =
    let h = entry_there c.args.sight.now.spec.now c.args.sight.now.rings.now c.args.sight.now.row.now c.requires.seen c.args.stream c.args.k c.requires.typed.0 c.requires.typed.1 in
    record { ring = h.ring; row = h.row; wide = h.wide ∙ c.requires.typed.2 }
