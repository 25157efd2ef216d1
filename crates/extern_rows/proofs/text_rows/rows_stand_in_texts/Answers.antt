use Rattle.extern_rows.proofs.RowWords.{rows_are_words}
use Rattle.extern_rows.proofs.LinesOfRows.{rows_of_lines}
use Rattle.extern_rows.proofs.BehindRows.{rows_behind, rows_grow}
use Rattle.extern_rows.proofs.FaultShows.{faults_show}
use Rattle.extern_rows.proofs.FaultLeaves.{faults_have_leaves}
use Rattle.extern_rows.proofs.text_rows.rows_stand_in_texts.Goals as goal

pub returns : goal.returns
returns c = record { lines = rows_of_lines; words = rows_are_words; behind = rows_behind; grow = rows_grow; offset = faults_show; leaf = faults_have_leaves }
