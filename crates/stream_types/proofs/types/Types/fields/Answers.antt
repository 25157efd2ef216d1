use Rattle.std.proofs.Common.{Some, ap, ◌∙◌}
use Rattle.stream_types.proofs.TypeLists.{struct_few, struct_stands}
use Rattle.stream_types.proofs.types.Types.fields.Goals as goal

pub returns-in-Struct-entry-clause-few : goal.returns-in-Struct-entry-clause-few
returns-in-Struct-entry-clause-few c = rw c.as_slice.ensures (struct_few _ _ _ _ c.entry.ensures.list (c.entry.ensures.value ∙ ap Some c.in-Struct-entry.is))

pub returns-in-Struct-entry-clause-stand : goal.returns-in-Struct-entry-clause-stand
returns-in-Struct-entry-clause-stand c = rw c.as_slice.ensures (struct_stands _ _ _ _ c.entry.ensures.list (c.entry.ensures.value ∙ ap Some c.in-Struct-entry.is))
