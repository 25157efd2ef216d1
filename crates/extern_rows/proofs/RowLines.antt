-- The rows of a text, a line at a time.
use Rattle.std.proofs.Common.{refl}
use Rattle.std.proofs.lemmas.List.Splits.{slice_split_none, slice_split_at}
use Rattle.extern_rows.specs.Lines.{is_break}
use Rattle.extern_rows.specs.SampleRows.{RowsByLines, RowsOfRest}
use Rattle.extern_rows.proofs.FeedStanding.{some_parts}

pub rows_by_lines : RowsByLines
rows_by_lines leaves ended number offset line text header clean =
    let p = some_parts text in
    rw (slice_split_at is_break line 10 text clean refl, p.2) refl

pub rows_of_rest : RowsOfRest
rows_of_rest leaves number offset line header clean = rw (slice_split_none is_break line clean) refl
