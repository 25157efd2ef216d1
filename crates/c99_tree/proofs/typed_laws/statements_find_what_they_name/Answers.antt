use Rattle.c99_tree.proofs.StatementsFind.{statements_find}
use Rattle.c99_tree.proofs.typed_laws.statements_find_what_they_name.Goals as goal

pub returns : goal.returns
returns c = statements_find
