use Rattle.std.proofs.Common.{ap, ◌∙◌, Bor, List, ℕ}
use Rattle.csv.specs.Records.{fields_of}
use Rattle.extern_rows.proofs.Cells.{field_there}
use Rattle.extern_rows.proofs.header.field_at.Goals as goal

pub returns : goal.returns
returns c = ap (λ (f : Bor (List ℕ)). f.now) c.unwrap_or.ensures ∙ field_there c.get.result _ (fields_of c.args.row.now) c.args.place c.get.ensures.value c.requires
