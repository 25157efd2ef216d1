use Rattle.std.proofs.Common.{map, ◌∙◌, sym, ap, subst}
use Rattle.stream_lib.specs.Built.{AreThere}
use Rattle.stream_lib.specs.Renamed.{new_of}
use Rattle.stream_lib.proofs.LoweredNodes.{new_there}
use Rattle.stream_lib.proofs.buffers.item_buffers.Goals as goal

pub buffers_of-requires-clause-there : goal.buffers_of-requires-clause-there
buffers_of-requires-clause-there c = subst (AreThere c.args.spec.now) (sym (c.as_slice-2.ensures ∙ c.in_ok-ps.ensures ∙ ap (map (new_of c.args.news.now)) c.as_slice.ensures))
    (new_there c.args.source.now c.args.spec.now c.args.news.now c.args.item.now.args c.requires.lowered c.requires.below)
