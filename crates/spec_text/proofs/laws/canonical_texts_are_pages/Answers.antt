use Rattle.spec_text.proofs.Bares.{canonical_page}
use Rattle.spec_text.proofs.laws.canonical_texts_are_pages.Goals as goal

pub returns : goal.returns
returns c = λ s. canonical_page s
