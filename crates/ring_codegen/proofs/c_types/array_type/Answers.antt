use Rattle.std.proofs.Common.{Some, ap, ◌∙◌}
use Rattle.stream_types.specs.declared.types.TypeEntry.TheVariants as entry
use Rattle.ring_codegen.proofs.UnitTypes.{element_whole}
use Rattle.ring_codegen.proofs.c_types.array_type.Goals as goal

pub element_word-requires : goal.element_word-requires
element_word-requires c =
    let there = c.entry.ensures.value ∙ ap Some c.in-Array.is in
    element_whole c.args.types.now c.args.i c.in-Array.elem (c.entry.ensures.list.each c.args.i (entry.Array c.in-Array.elem c.in-Array.n) there).0
