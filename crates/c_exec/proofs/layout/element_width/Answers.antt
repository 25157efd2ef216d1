use Rattle.std.proofs.Common.{◌≡◌, ℕ, IfOk, subst}
use Rattle.c_exec.proofs.Widths.{width_of_elem}
use Rattle.c_exec.proofs.layout.element_width.Goals as goal

pub returns : goal.returns
returns c = subst (λ (k : ℕ). IfOk c.width_of_element.result (λ n. n ≡ k)) (width_of_elem c.args.types.now c.args.x.now) c.width_of_element.ensures
