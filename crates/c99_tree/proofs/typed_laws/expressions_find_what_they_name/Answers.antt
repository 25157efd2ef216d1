use Rattle.c99_tree.proofs.StatementsFind.{expressions_find}
use Rattle.c99_tree.proofs.typed_laws.expressions_find_what_they_name.Goals as goal

pub returns : goal.returns
returns c = expressions_find
