use Rattle.c99_ast.proofs.Parting.{list_of_count}
use Rattle.c99_ast.proofs.statements.are_as_many.Goals as goal

pub returns : goal.returns
returns c = rw list_of_count
