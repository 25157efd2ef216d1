use Rattle.stream_core.specs.Meaning.{closed_spec}
use Rattle.form_laws.proofs.LoweredParts.{closed_parts, expr_has}
use Rattle.form_laws.proofs.lowering_laws.lowered_expressions_keep_their_types.Goals as goal

pub returns : goal.returns
returns c = λ s e t w o h. expr_has (closed_spec s) (closed_parts s w) (λ d. ⊥) e t h o
