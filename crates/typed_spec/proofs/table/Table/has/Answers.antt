use Rattle.std.proofs.Common.{ap, ◌∙◌}
use Rattle.std.specs.Prelude.{is_some, bytes_eq}
use Rattle.typed_spec.proofs.KindNames.{any_position}
use Rattle.typed_spec.proofs.table.Table.has.Goals as goal

pub returns : goal.returns
returns c = λ all h. let x = c.args.name.now in c.contains_key.ensures ∙ ap is_some (h.numbers_are x) ∙ any_position (bytes_eq x) all
