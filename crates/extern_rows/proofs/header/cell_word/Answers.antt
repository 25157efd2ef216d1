use Rattle.std.proofs.Common.{ap, sym, ◌∙◌}
use Rattle.csv.specs.Records.{fields_of}
use Rattle.extern_rows.specs.Fields.{field_word}
use Rattle.extern_rows.proofs.Cells.{cell_none, cell_some}
use Rattle.extern_rows.proofs.header.cell_word.Goals as goal

pub returns-in_err-get : goal.returns-in_err-get
returns-in_err-get c = c.from_residual.ensures ∙ sym (cell_none c.args.wanted (fields_of c.args.row.now) c.in_err-get.ensures.value)

pub returns : goal.returns
returns c =
    c.field_word.ensures ∙ ap (field_word c.args.wanted.scalar) c.trimmed.ensures
    ∙ sym (cell_some c.args.wanted (fields_of c.args.row.now) c.in_ok-get.field-0.now c.in_ok-get.ensures.value)
