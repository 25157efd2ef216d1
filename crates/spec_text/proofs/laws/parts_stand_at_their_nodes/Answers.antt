use Rattle.spec_text.proofs.Placed.{type-place, const-place, expr-place, decl-place}
use Rattle.spec_text.proofs.laws.parts_stand_at_their_nodes.Goals as goal

pub returns : goal.returns
returns c = record {
  types = λ t x m. type-place t x m;
  consts = λ t x m. const-place t x m;
  exprs = λ t x m. expr-place t x m;
  decls = λ t x m. decl-place t x m;
}
