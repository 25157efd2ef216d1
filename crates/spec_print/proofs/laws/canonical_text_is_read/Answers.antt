use Rattle.spec_forest.specs.Node.{forest_nodes}
use Rattle.spec_forest.proofs.Made.{forest-made}
use Rattle.spec_text.specs.Canonical.{canonical}
use Rattle.spec_print.proofs.Scanned.{scanned, forested, shaped, same-form, same-text}
use Rattle.spec_text.proofs.KeptFits.{fits}
use Rattle.spec_text.proofs.HeldDecls.{surface-held}
use Rattle.spec_text.proofs.Placeless.{same-but-places}
use Rattle.spec_print.proofs.laws.canonical_text_is_read.Goals as goal

pub returns-clause-sound : goal.returns-clause-sound
returns-clause-sound c = scanned

pub returns-clause-some : goal.returns-clause-some
returns-clause-some c = forested

pub returns-clause-fits : goal.returns-clause-fits
returns-clause-fits c = λ s k low short forest is. fits s k forest (shaped s k low short (forest_nodes forest) is)

pub returns-clause-form : goal.returns-clause-form
returns-clause-form c = same-form

pub returns-clause-text : goal.returns-clause-text
returns-clause-text c = same-text

pub returns-clause-same : goal.returns-clause-same
returns-clause-same c = λ s k low short forest is t m l. same-but-places t s l k (same-form s k low short forest is t m)

pub returns-clause-read : goal.returns-clause-read
returns-clause-read c = λ s k low short.
    let f = forest-made (canonical s) (scanned s k low short) in
    let t = surface-held f.0 (fits s k f.0 (shaped s k low short (forest_nodes f.0) f.1)) in
    (f.0, t.0, f.1, t.1, t.2, same-but-places t.0 s t.2 k (same-form s k low short f.0 f.1 t.0 t.1))
