use Rattle.std.proofs.Common.{ap}
use Rattle.sm_io.proofs.Keys.{get_by_find}
use Rattle.sm_io.proofs.mem_shelf.MemShelf.get.Goals as goal

pub returns : goal.returns
returns c = get_by_find _ _ _ _ _ c.file_of.ensures c.as_bytes.ensures.value (ap (λ s. s.files) c.self.view_is)
