use Rattle.tool_top.proofs.Stopping.{unread_result}
use Rattle.tool_top.proofs.fetch.fetch_text.Goals as goal

pub returns-clause-err : goal.returns-clause-err
returns-clause-err g c = unread_result c.fetch_file.result (g.F.Shelf.files c.args.shelf.now) c.args.spec.now c.fetch_file.ensures.err
