use Rattle.extern_rows.proofs.RowWords.{read_row}
use Rattle.extern_rows.proofs.header.Header.row.Goals as goal

pub returns-clause-words : goal.returns-clause-words
returns-clause-words c = rw (← c.self.view_is, ← c.as_slice.ensures.value) (read_row c.as_slice.result.now _ _ c.read_words.result c.read_words.ensures)
