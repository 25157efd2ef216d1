use Rattle.spec_text.proofs.Ascending.{parts-ascend, decls-ascend}
use Rattle.spec_text.proofs.laws.parts_ascend.Goals as goal

pub returns : goal.returns
returns c = record { parts = λ text forest s is m. parts-ascend text forest s is m; decls = λ text forest s is m. decls-ascend text forest s is m }
