use Rattle.std.proofs.Common.{◌++◌, ap, codes, List, ℕ}
use Rattle.spec_text.specs.Form.{form_of_type}
use Rattle.sm_print.proofs.Printing.{◌⨾◌, Prints-is}
use Rattle.spec_print.proofs.Items.{one-text}
use Rattle.spec_print.proofs.declarations.field.Goals as goal

pub returns : goal.returns
returns g c = Prints-is (rw (c.bytes.ensures.bytes) (ap (λ (t : List ℕ). codes " " ++ t) (one-text c.args.x.now.name.name (form_of_type c.args.x.now.ty)))) (c.put.ensures ⨾ c.put-2.ensures ⨾ c.spaced_type.ensures ⨾ c.put-3.ensures)
