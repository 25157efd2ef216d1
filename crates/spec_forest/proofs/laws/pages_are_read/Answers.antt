use Rattle.spec_forest.proofs.Pages.{page-read}
use Rattle.spec_forest.proofs.laws.pages_are_read.Goals as goal

pub returns : goal.returns
returns c = record {
  sound = λ head name items h n w low short. (page-read head name items h n w low short).sound;
  some = λ head name items h n w low short. (page-read head name items h n w low short).some;
  each = λ head name items g h n w low short is. (page-read head name items h n w low short).each g is;
}
