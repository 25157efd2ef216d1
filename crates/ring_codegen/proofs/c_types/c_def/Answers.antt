use Rattle.std.proofs.Common.{List, Some, sym, ap, ◌∙◌, subst}
use Rattle.std.specs.Prelude.{All}
use Rattle.stream_types.specs.declared.types.Field.{Field}
use Rattle.stream_types.specs.declared.types.TypeEntry.TheVariants as entry
use Rattle.stream_types.specs.TypeList.{Stands}
use Rattle.stream_types.proofs.TypeLists.{Stands-take}
use Rattle.ring_codegen.proofs.UnitTypes.{element_whole}
use Rattle.ring_codegen.proofs.c_types.c_def.Goals as goal

pub element_word-requires : goal.element_word-requires
element_word-requires c =
    let there = c.entry.ensures.value ∙ ap Some c.in-Array.is in
    element_whole c.args.types.now c.args.i c.in-Array.elem (c.entry.ensures.list.each c.args.i (entry.Array c.in-Array.elem c.in-Array.n) there).0

pub c_fields-requires : goal.c_fields-requires
c_fields-requires c =
    let types = c.args.types.now in
    let there = c.entry.ensures.value ∙ ap Some c.in-Struct.is in
    let good = (c.entry.ensures.list.each c.args.i (entry.Struct c.in-Struct.name c.in-Struct.fields) there).0 in
    subst (All (λ (f : Field). Stands types f.ty)) (sym c.as_slice.ensures) (λ k d b. Stands-take types c.args.i _ (good k d b))
