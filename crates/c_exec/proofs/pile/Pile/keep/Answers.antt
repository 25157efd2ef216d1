use Rattle.std.proofs.Common.{◌∙◌, ap, rules, arith}
use Rattle.c_exec.specs.Piles.{kept}
use Rattle.c_exec.proofs.Fronts.{moved_down}
use Rattle.c_exec.proofs.pile.Pile.keep.Goals as goal

pub returns-clause-items : goal.returns-clause-items
returns-clause-items c =
    let after = rw c.as_mut_slice.ensures.value at c.copy_within.ensures.after in
    moved_down c.self.inside.words.items c.copy_within.new.self c.self.inside.words.len c.self.inside.len c.args.base c.args.off c.args.n c.min-count.result _
    c.self.invariant (omega arith) c.min-count.ensures (rw c.as_mut_slice.ensures.value at c.copy_within.ensures.len) (search rules) (omega arith) after
    ∙ ap (kept c.args.base c.args.off c.args.n) (search rules)
