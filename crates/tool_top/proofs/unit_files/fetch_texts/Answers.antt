use Rattle.std.specs.Prelude.{IfSome}
use Rattle.std.proofs.Common.{subst}
use Rattle.sm_io.specs.Fetch.{fetched}
use Rattle.tool_top.specs.Answer.{FetchStops}
use Rattle.tool_top.specs.Command.{source_file}
use Rattle.tool_top.specs.Wanted.{unit_limit}
use Rattle.tool_top.proofs.ReadPrograms.{header_missing, source_missing}
use Rattle.tool_top.proofs.unit_files.fetch_texts.Goals as goal

pub returns-in-Err-clause-file : goal.returns-in-Err-clause-file
returns-in-Err-clause-file g c = header_missing (g.F.Shelf.files c.args.shelf.now) c.args.name.now _ c.in-Err.stop.outcome c.in-Err.ensures.err c.in-Err.ensures.file

pub returns-in-Err-fetch_part-clause-file : goal.returns-in-Err-fetch_part-clause-file
returns-in-Err-fetch_part-clause-file g c =
    source_missing (g.F.Shelf.files c.args.shelf.now) c.args.name.now c.in-Ok.header.items _ c.in-Err-fetch_part.stop.outcome c.in-Ok.ensures.ok
    (subst (λ o. IfSome o (λ m. FetchStops (fetched m (source_file c.args.name.now) unit_limit) c.in-Err-fetch_part.stop.outcome)) c.in-Ok.ensures.same c.in-Err-fetch_part.ensures.err)
    c.in-Err-fetch_part.ensures.file
