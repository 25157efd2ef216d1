use Rattle.std.proofs.Common.{ap, ◌∙◌, Some}
use Rattle.std.specs.FinMap.{remove}
use Rattle.sm_io.proofs.Shelves.{remove-insert}
use Rattle.sm_io.proofs.mem_shelf.MemShelfShelf.put.Goals as goal

pub returns-in-Ok-clause-others : goal.returns-in-Ok-clause-others
returns-in-Ok-clause-others c =
    ap (λ s. Some (remove s.files c.args.name.now)) c.in-Ok.ensures.ok
    ∙ ap Some (remove-insert _ _ _)
    ∙ ap (λ m. Some (remove m c.args.name.now)) c.count_call.ensures.same.0
