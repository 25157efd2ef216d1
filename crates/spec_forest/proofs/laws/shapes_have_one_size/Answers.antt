use Rattle.spec_forest.proofs.SameSizes.{same-nesting, same-lists, same-items}
use Rattle.spec_forest.proofs.laws.shapes_have_one_size.Goals as goal

pub returns : goal.returns
returns c = record { nesting = λ f g e. same-nesting f g e; lists = λ f g e. same-lists f g e; items = λ f g e. same-items f g e }
