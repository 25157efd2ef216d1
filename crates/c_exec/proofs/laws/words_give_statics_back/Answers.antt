use Rattle.c_exec.proofs.StaticsBack.{statics_back}
use Rattle.c_exec.proofs.laws.words_give_statics_back.Goals as goal

pub returns : goal.returns
returns c = statics_back
