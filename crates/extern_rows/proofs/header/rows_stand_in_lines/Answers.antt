use Rattle.extern_rows.proofs.RowLines.{rows_by_lines, rows_of_rest}
use Rattle.extern_rows.proofs.header.rows_stand_in_lines.Goals as goal

pub returns : goal.returns
returns c = record { lines = rows_by_lines; rest = rows_of_rest }
