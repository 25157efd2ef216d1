use Rattle.spec_forest.proofs.Shapes.{read-nodes}
use Rattle.spec_forest.proofs.laws.layouts_are_read.Goals as goal

pub returns : goal.returns
returns c = record {
  sound = λ ps f a e low short. (read-nodes ps f a e low short).sound;
  some = λ ps f a e low short. (read-nodes ps f a e low short).some;
  each = λ ps f g a e low short is. (read-nodes ps f a e low short).each g is;
}
